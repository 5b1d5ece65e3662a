use Rattle.std.proofs.Common.{[]}
use Rattle.book_model.specs.RomSteps.{rom_next}
use Rattle.station_line.proofs.Extending.{slave_step}
use Rattle.station_line.proofs.RoundLaws.{goes-by}
use Rattle.station_line.proofs.rounds.serve_slave.Goals as goal

pub returns : goal.returns
returns g c =
    let step = c.serve-next in
    let old = c.args.alone.now in
    let led = slave_step (rom_next old.book c.args.slave).0 c.args.slave old step.result.1 step.new.self step.ensures.serves in
    goes-by [] 10001 old step.new.self step.ensures.goes_on led step.ensures.keeps
