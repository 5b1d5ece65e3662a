use Rattle.std.proofs.Common.{◌≡◌, ◌∙◌, ℕ, length, replicate, ap, arith}
use Rattle.world_run.specs.declared.station.Asked.{Asked}
use Rattle.world_run.specs.declared.station.Asked.TheVariants.{Nothing}
use Rattle.world_run.proofs.ProgressLaws.{knows-opened}
use Rattle.world_run.proofs.station.Station.open.Goals as goal

pub invariant_of-result : goal.invariant_of-result
invariant_of-result c =
    let count : c.len.result ≡ length c.args.slaves.items = omega (arith, c.len.ensures, c.args.slaves.ok.0) in
    let asked = c.in_ok-asked.ensures.items_if_clones_equal (λ (y : Asked) (e : y ≡ Nothing). e) ∙ ap (λ (n : ℕ). replicate n Nothing) count in
    rw (asked, c.in_ok-core.ensures) (knows-opened c.args.slaves.items c.args.capacity c.args.journal)
