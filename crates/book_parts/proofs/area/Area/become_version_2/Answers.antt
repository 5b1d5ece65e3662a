use Rattle.std.proofs.Common.{◌≡◌, ◌∙◌, List, [], refl, ap}
use Rattle.jrn_format.specs.declared.journal.Batch.{Batch}
use Rattle.jrn_format.specs.Halves.{live}
use Rattle.book_parts.specs.Room.{Room, bytes_in}
use Rattle.book_parts.proofs.SizeLaws.{no-older, no-newer}
use Rattle.book_parts.proofs.area.Area.become_version_2.Goals as goal

pub invariant_of-self : goal.invariant_of-self
invariant_of-self c =
    let older = c.self.inside.older in
    let newer = c.self.inside.newer in
    let none = ap (λ (r : Room). live r.halves) c.self.view_is ∙ c.requires in
    let first : older ≡ [] = no-older older newer none in
    let second : newer ≡ [] = no-newer older newer none in
    record {
      half = c.self.invariant.half;
      older_is = c.self.invariant.older_is ∙ ap (λ (b : List Batch). bytes_in c.self.inside.form b) first ∙ rw first refl;
      newer_is = c.self.invariant.newer_is ∙ ap (λ (b : List Batch). bytes_in c.self.inside.form b) second ∙ rw second refl;
    }
