use Rattle.std.proofs.Common.{◌∙◌, ap, length}
use Rattle.std.specs.Vec.{vec_capacity}
use Rattle.book_model.specs.Pending.{Pending, can_retire}
use Rattle.book_model.specs.Queue.{room_in}
use Rattle.book_model.proofs.DownLaws.{inside-live}
use Rattle.book_model.proofs.SettledLaws.{retire-exact}
use Rattle.book_model.proofs.queue.SlaveQueue.can_retire.Goals as goal

pub returns : goal.returns
returns c =
    let namings = c.self.inside.namings.items in
    let words = c.self.inside.words.items in
    let room = room_in (vec_capacity c.self.inside.namings) (length namings) in
    let few = inside-live namings words room c.args.count c.args.self.now c.self.view_is c.requires in
    retire-exact namings words c.self.inside.settled c.args.count room c.self.invariant.0 c.self.invariant.2 few
    ∙ ap (λ (p : Pending). can_retire p c.args.count) c.self.view_is
