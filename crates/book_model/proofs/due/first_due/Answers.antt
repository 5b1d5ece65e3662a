use Rattle.book_model.proofs.QueueLaws.{cursor-more}
use Rattle.book_model.proofs.due.first_due.Goals as goal

pub loop-place-preserved : goal.loop-place-preserved
loop-place-preserved c = cursor-more c.args.namings.now c.args.words.now c.loop-place.place c.requires.stands c.loop-place.invariant c.loop-place-test.true (λ due. let t = c.is_due.ensures.not due in let f = c.if-not-is_due.true in cc)
