use Rattle.std.proofs.Common.{◌≡◌, ◌∙◌, false, sym, ap}
use Rattle.book_model.specs.Book.{Book}
use Rattle.book_model.specs.DiskSteps.{disk_next}
use Rattle.world_run.specs.Progress.{as_action, all_asked}
use Rattle.world_run.proofs.ProgressLaws.{begins}
use Rattle.world_run.proofs.station.Station.begin_action.Goals as goal

pub invariant_of-self-2 : goal.invariant_of-self-2
invariant_of-self-2 c =
    let core = c.self.inside.core in
    let out : core.is_handed_out ≡ false = ap (λ (b : Book). b.is_handed_out) c.self.view_is ∙ c.requires in
    let hands = c.in_ok-next.ensures in
    let b = begins core out in
    let is : c.as_action.result ≡ as_action (disk_next core).0 = c.as_action.ensures ∙ ap as_action hands.answer in
    rw (is, hands.book) (record { disk = b.disk; out = b.out; slaves = c.self.invariant.slaves ∙ sym (ap all_asked b.slaves) })
