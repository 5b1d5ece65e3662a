use Rattle.std.proofs.Common.{subst, All}
use Rattle.std.proofs.lemmas.List.{take_all}
use Rattle.std.proofs.lemmas.List.Elements.{All-more}
use Rattle.sii_edit.specs.Fitting.{WordsFit}
use Rattle.world_run.proofs.making.plant_fits.Goals as goal

pub loop-words-preserved : goal.loop-words-preserved
loop-words-preserved c = All-more WordsFit c.args.slaves.now c.loop-words.words-index c.words-item.result c.loop-words-test.true c.loop-words.invariant (subst WordsFit c.words-item.is c.words_fit.ensures)

pub returns : goal.returns
returns c = subst (All WordsFit) (take_all c.loop-words.words-index c.args.slaves.now c.loop-words-test.false) c.loop-words.invariant
