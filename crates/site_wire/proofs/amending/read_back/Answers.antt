use Rattle.std.proofs.Common.{None, Some, refl, ap, ◌∙◌, ◌-◌, ◌%◌}
use Rattle.site_wire.proofs.Sends.{own_then}
use Rattle.site_wire.proofs.ReadingBack.{own_tried, reads_nothing, reads_word}
use Rattle.site_wire.proofs.amending.read_back.Goals as goal

pub returns-in_err-pair : goal.returns-in_err-pair
returns-in_err-pair g c =
    reads_nothing c.args.slave c.args.half.now c.args.write.word c.args.line.now.log.all c.try_pair.new.line.log.all c.from_residual.result
    c.from_residual.ensures
    (own_tried c.args.slave c.args.half.now (c.args.write.word - c.args.write.word % 2) c.args.line.now.log.all c.loop-try.line.log.all
    c.try_pair.new.line.log.all c.try_pair.result c.loop-try.invariant c.try_pair.ensures)

pub returns-in-Read : goal.returns-in-Read
returns-in-Read g c =
    reads_word c.args.slave c.args.half.now c.args.write.word c.word_in.result c.args.line.now.log.all c.loop-try.line.log.all
    c.try_pair.new.line.log.all c.in-Read.pair c.try_pair.result (c.in_ok-pair.was ∙ ap (λ t. Some t) c.in-Read.is)
    c.word_in.ensures.even c.word_in.ensures.odd c.loop-try.invariant c.try_pair.ensures

pub returns-in-Unseen : goal.returns-in-Unseen
returns-in-Unseen g c =
    reads_nothing c.args.slave c.args.half.now c.args.write.word c.args.line.now.log.all c.try_pair.new.line.log.all None refl
    (own_tried c.args.slave c.args.half.now (c.args.write.word - c.args.write.word % 2) c.args.line.now.log.all c.loop-try.line.log.all
    c.try_pair.new.line.log.all c.try_pair.result c.loop-try.invariant c.try_pair.ensures)

pub returns-in_err-_cleared : goal.returns-in_err-_cleared
returns-in_err-_cleared g c =
    reads_nothing c.args.slave c.args.half.now c.args.write.word c.args.line.now.log.all c.clear.new.line.log.all c.from_residual-in_err-_cleared.result
    c.from_residual-in_err-_cleared.ensures
    (own_then c.args.slave c.args.half.now c.args.line.now.log.all c.try_pair.new.line.log.all c.clear.new.line.log.all
    (own_tried c.args.slave c.args.half.now (c.args.write.word - c.args.write.word % 2) c.args.line.now.log.all c.loop-try.line.log.all
    c.try_pair.new.line.log.all c.try_pair.result c.loop-try.invariant c.try_pair.ensures)
    c.clear.ensures)

pub loop-try-preserved : goal.loop-try-preserved
loop-try-preserved g c =
    own_then c.args.slave c.args.half.now c.args.line.now.log.all c.try_pair.new.line.log.all c.clear.new.line.log.all
    (own_tried c.args.slave c.args.half.now (c.args.write.word - c.args.write.word % 2) c.args.line.now.log.all c.loop-try.line.log.all
    c.try_pair.new.line.log.all c.try_pair.result c.loop-try.invariant c.try_pair.ensures)
    c.clear.ensures
