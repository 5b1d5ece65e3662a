use Rattle.std.proofs.Common.{[]}
use Rattle.station_alone.specs.declared.choice.Choice.TheVariants.{Disk}
use Rattle.station_line.proofs.Extending.{one_step}
use Rattle.station_line.proofs.RoundLaws.{goes-by}
use Rattle.station_line.proofs.rounds.serve_disk.Goals as goal

pub returns : goal.returns
returns g c =
    let step = c.act-answer in
    goes-by [] 1 c.args.alone.now step.new.self step.ensures.goes_on (one_step Disk c.args.alone.now step.result step.new.self step.ensures.steps)
    step.ensures.keeps
