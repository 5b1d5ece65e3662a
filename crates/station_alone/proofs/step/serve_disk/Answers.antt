use Rattle.std.proofs.Common.{sym, subst, Result}
use Rattle.station_alone.specs.declared.fault.OpenFault.{OpenFault}
use Rattle.station_alone.specs.Rounds.{ServesDisk}
use Rattle.station_alone.proofs.RecoveryDiskLaws.{disk-serves}
use Rattle.station_alone.proofs.step.serve_disk.Goals as goal

pub returns : goal.returns
returns g c =
    let step = c.step-answer in
    subst (λ (r : Result (Unit {0}) OpenFault). ServesDisk r c.args.station.now step.new.self) (sym c.reported.ensures)
    (disk-serves c.args.station.now step.new.self step.result c.requires c.stand.ensures step.ensures.goes_on step.ensures.keeps step.ensures.steps)
