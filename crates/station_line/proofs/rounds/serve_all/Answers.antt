use Rattle.station_line.proofs.RoundLaws.{goes-none, goes-still}
use Rattle.station_line.proofs.rounds.serve_all.Goals as goal

pub loop-round-init : goal.loop-round-init
loop-round-init g c = goes-none c.args.alone.now

pub loop-round-preserved : goal.loop-round-preserved
loop-round-preserved g c = goes-still c.args.alone.now c.loop-round.alone c.serve_round.new.alone c.loop-round.invariant c.serve_round.ensures

pub returns-in_err-serve_round-clause-goes : goal.returns-in_err-serve_round-clause-goes
returns-in_err-serve_round-clause-goes g c = goes-still c.args.alone.now c.loop-round.alone c.serve_round.new.alone c.loop-round.invariant c.serve_round.ensures
