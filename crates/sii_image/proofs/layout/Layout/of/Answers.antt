use Rattle.std.proofs.Common.{[], arith, ◌∙◌}
use Rattle.std.proofs.lemmas.List.{take_all}
use Rattle.sii_words.proofs.Copying.{copied_more}
use Rattle.sii_image.proofs.layout.Layout.of.Goals as goal

pub loop-slave-preserved : goal.loop-slave-preserved
loop-slave-preserved c =
    let plant = c.args.plant.now in
    copied_more c.loop-slave.slaves.items c.push.new.self.items plant c.loop-slave.slave c.in_ok-of.field-0 [] (omega (arith, c.loop-slave-test.true, c.len-slave-end.ensures.len))
    (c.in_ok-of.ensures ∙ c.slave.ensures) c.loop-slave.invariant c.in_ok-push.ensures.items

pub returns : goal.returns
returns c =
    c.loop-slave.invariant ∙ take_all c.loop-slave.slave c.args.plant.now (omega (arith, c.loop-slave-test.false, c.len-slave-end.ensures.len))
