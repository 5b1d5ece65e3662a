use Rattle.station_line.proofs.RoundLaws.{goes-still}
use Rattle.station_line.proofs.rounds.serve_round.Goals as goal

pub loop-slave-init : goal.loop-slave-init
loop-slave-init g c = c.in_ok-serve_disk.ensures

pub loop-slave-preserved : goal.loop-slave-preserved
loop-slave-preserved g c = goes-still c.args.alone.now c.loop-slave.alone c.serve_slave.new.alone c.loop-slave.invariant c.serve_slave.ensures

pub returns-in_err-serve_slave : goal.returns-in_err-serve_slave
returns-in_err-serve_slave g c = goes-still c.args.alone.now c.loop-slave.alone c.serve_slave.new.alone c.loop-slave.invariant c.serve_slave.ensures
