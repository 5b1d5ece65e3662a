use Rattle.std.proofs.Common.{◌≡◌, ◌≤◌, length, ap, subst, arith}
use Rattle.std.proofs.lemmas.List.{length-map}
use Rattle.sii_edit.specs.Fitting.{PlantFits}
use Rattle.esc_model.specs.SlaveHalf.{SlaveHalf}
use Rattle.world_run.specs.Torn.{disk_of}
use Rattle.world_run.proofs.FreshLaws.{fresh-starts}
use Rattle.world_run.proofs.making.World.of.Goals as goal

pub returns-clause-starts : goal.returns-clause-starts
returns-clause-starts c =
    let line = c.in_ok-line.line in
    let count : c.len.result ≡ length line.halves =
    omega (arith, c.len.ensures, c.args.slaves.ok.0, ap length c.in_ok-line.ensures.words, length-map line.halves (λ (half : SlaveHalf). half.words)) in
    let few : c.len.result ≤ 64 = omega (arith, c.len.ensures, c.requires.most) in
    fresh-starts line.halves line.took c.args.slaves.items c.len.result c.args.capacity (disk_of c.in_ok-disk.disk) c.in_ok-disk.ensures count few c.requires.capacity
    c.in_ok-line.ensures.words c.in_ok-line.ensures.idle c.in_ok-line.ensures.took (subst PlantFits c.deref.ensures.value c.plant_fits.ensures)
