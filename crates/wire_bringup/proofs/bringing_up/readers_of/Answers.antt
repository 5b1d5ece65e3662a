use Rattle.std.proofs.Common.{length-set, arith}
use Rattle.std.proofs.lemmas.List.{length-replicate}
use Rattle.std.proofs.lemmas.List.Elements.{All-set, All-replicate}
use Rattle.wire_words.specs.declared.reader.Reader.{Reader}
use Rattle.wire_words.specs.Reading.{NothingReported}
use Rattle.wire_bringup.proofs.bringing_up.readers_of.Goals as goal

pub loop-slave-init : goal.loop-slave-init
loop-slave-init c = record { count = length-replicate 64 c.ended-readers.result; reported = All-replicate NothingReported 64 c.ended-readers.result c.ended-readers.ensures }

pub loop-slave-preserved : goal.loop-slave-preserved
loop-slave-preserved c = record {
  count = omega (arith, length-set {A = Reader});
  reported = All-set NothingReported _ _ _ c.reader_of.ensures c.loop-slave.invariant.reported;
}
