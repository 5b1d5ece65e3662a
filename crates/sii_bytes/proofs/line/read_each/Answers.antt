use Rattle.std.proofs.Common.{◌+◌, drop, arith}
use Rattle.sii_bytes.specs.Line.{FirstRefused, pieces}
use Rattle.sii_bytes.proofs.BytesLaws.{handed_on}
use Rattle.sii_bytes.proofs.LineRead.{onward-as, onward-ends, onward-more, onward-refused, nothing-left, entire-more}
use Rattle.sii_bytes.proofs.line.read_each.Goals as goal

pub returns-in_err-words-clause-err : goal.returns-in_err-words-clause-err
returns-in_err-words-clause-err c =
    handed_on (FirstRefused (pieces c.args.lengths.now c.args.bytes.now)) c.from_residual.result c.in_err-words.field-0.0 c.from_residual.ensures.1
    (onward-refused c.args.lengths.now c.loop-count.count-index 0 (omega arith) c.loop-count.slaves.items c.loop-count.left.now c.args.bytes.now c.split_at.result.0.now
    c.split_at.result.1.now c.loop-count.invariant.onward c.split_at.ensures.front c.split_at.ensures.back c.in_err-words.field-0.0 c.in_err-words.ensures)

pub loop-count-preserved : goal.loop-count-preserved
loop-count-preserved c = record {
  entire = entire-more c.args.lengths.now c.loop-count.left.now c.split_at.result.1.now c.loop-count.count-index 0 (omega arith) c.loop-count.invariant.entire c.split_at.ensures.back;
  onward =
      onward-as _ c.push.new.self.items (drop (c.loop-count.count-index + 1) c.args.lengths.now) c.split_at.result.1.now c.args.lengths.now c.args.bytes.now c.in-Ok.ensures.items
      (onward-more c.args.lengths.now c.loop-count.count-index 0 (omega arith) c.loop-count.slaves.items c.loop-count.left.now c.args.bytes.now c.split_at.result.0.now
      c.split_at.result.1.now c.loop-count.invariant.onward c.split_at.ensures.front c.split_at.ensures.back c.in_ok-words.words c.in_ok-words.ensures.0 c.in_ok-words.ensures.1);
}

pub returns-clause-ok : goal.returns-clause-ok
returns-clause-ok c =
    onward-ends c.loop-count.slaves.items (drop c.loop-count.count-index c.args.lengths.now) c.loop-count.left.now c.args.lengths.now c.args.bytes.now
    (nothing-left c.args.lengths.now c.loop-count.count-index c.loop-count-test.false) c.loop-count.invariant.onward
