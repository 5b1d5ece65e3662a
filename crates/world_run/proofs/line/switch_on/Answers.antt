use Rattle.std.proofs.Common.{◌≡◌, ◌∙◌, ◌∷◌, ◌++◌, [], length, sym, subst, ap, arith, List}
use Rattle.esc_model.specs.SlaveHalf.{SlaveHalf, powered_up}
use Rattle.esc_model.specs.Orders.{station}
use Rattle.world_run.specs.Sides.{IsPoweredUp}
use Rattle.world_run.proofs.SidesLaws.{powered-more}
use Rattle.world_run.proofs.line.switch_on.Goals as goal

pub loop-contents-preserved : goal.loop-contents-preserved
loop-contents-preserved c =
    let halves = c.loop-contents.halves.items in
    let contents = c.in-Some.contents in
    let half = c.power_up.result in
    let count : c.len-in-loop-contents.result ≡ length halves = omega (arith, c.len-in-loop-contents.ensures, c.loop-contents.halves.ok.0) in
    let items : c.push.new.self.items ≡ halves ++ half ∷ [] = rw c.in_ok-push.was at c.push.ensures.items in
    subst (λ (l : List SlaveHalf). IsPoweredUp (c.loop-contents.yielded ++ contents ∷ []) l) (sym items)
    (powered-more c.loop-contents.yielded halves contents half c.loop-contents.invariant
    (c.power_up.ensures ∙ ap (powered_up contents) (c.station_address-station.ensures ∙ ap station count)))
