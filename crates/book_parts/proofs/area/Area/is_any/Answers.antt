use Rattle.std.proofs.Common.{◌∙◌, ap}
use Rattle.book_model.specs.Cells.{is_any}
use Rattle.jrn_format.specs.Halves.{live}
use Rattle.book_parts.specs.Room.{Room}
use Rattle.book_parts.proofs.SizeLaws.{any-older, any-newer}
use Rattle.book_parts.proofs.area.Area.is_any.Goals as goal

pub returns-then-self-gt0 : goal.returns-then-self-gt0
returns-then-self-gt0 c =
    let i = c.self.inside in
    any-older i.form i.older i.newer i.older_bytes c.self.invariant.older_is c.if-self-gt0.true ∙ ap (λ (r : Room). is_any (live r.halves)) c.self.view_is

pub returns-else-self-gt0 : goal.returns-else-self-gt0
returns-else-self-gt0 c =
    let i = c.self.inside in
    any-newer i.form i.older i.newer i.older_bytes i.newer_bytes c.self.invariant.older_is c.self.invariant.newer_is c.if-self-gt0.false ∙ ap (λ (r : Room). is_any (live r.halves)) c.self.view_is
