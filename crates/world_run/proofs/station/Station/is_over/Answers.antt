use Rattle.std.proofs.lemmas.Grind.{common_steps}
use Rattle.std.proofs.Common.{arith, ◌≡◌, List, true, false, subst}
use Rattle.std.specs.Prelude.{◌↔◌, is_some, IsTrue}
use Rattle.std.specs.List.{AllByRecursion}
use Rattle.book_model.specs.Book.{Book}
use Rattle.world_run.specs.declared.station.Asked.{Asked}
use Rattle.world_run.specs.declared.station.Asked.TheVariants.{Nothing}
use Rattle.world_run.specs.Progress.{IsClosedAndIdle}
use Rattle.world_run.proofs.ProgressLaws.{over-is}
use Rattle.world_run.proofs.station.Station.is_over.Goals as goal

pub returns : goal.returns
returns c =
    let core = c.self.inside.core in
    let fault : is_some core.fault ≡ true = (let none = c.if-is_none.false in grind (arith, common_steps)) in
    let out : is_some c.self.inside.action ≡ false = (let none = c.if-is_some.false in grind (arith, common_steps)) in
    let all = subst (λ (l : List Asked). IsTrue c.are_idle.result ↔ AllByRecursion (λ (a : Asked). a ≡ Nothing) l) c.deref.ensures.value c.are_idle.ensures in
    subst (λ (b : Book). IsTrue c.are_idle.result ↔ IsClosedAndIdle b) c.self.view_is (over-is c.self.inside.action c.self.inside.asked.items core c.are_idle.result c.self.invariant fault out all)
