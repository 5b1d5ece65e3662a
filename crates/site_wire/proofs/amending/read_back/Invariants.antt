use Rattle.site_wire.specs.Following.{SendsOwn}
use Rattle.site_wire.proofs.amending.read_back.Given as goal

abbrev pub invariant-loop-try : goal.invariant-loop-try
invariant-loop-try g l = SendsOwn l.slave l.half l.initial.line.log.all l.line.log.all
