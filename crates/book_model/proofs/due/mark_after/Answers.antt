use Rattle.std.proofs.Common.{arith}
use Rattle.book_model.proofs.WrittenLaws.{after-last, after-more, rest-at-mark, rest-after}
use Rattle.book_model.specs.Queue.{word_at}
use Rattle.book_model.proofs.due.mark_after.Goals as goal
use Rattle.book_model.proofs.due.mark_after.Goals.{then-loop-place-test+else-namings-place, else-loop-place-test}

pub loop-place-init : goal.loop-place-init
loop-place-init c = record {
  after = after-last c.args.namings.now c.args.words.now c.args.at c.args.value c.requires.stands c.requires.inside;
  below = omega arith;
}

pub loop-place-smaller : goal.loop-place-smaller
loop-place-smaller c = (after-more c.args.namings.now c.args.words.now c.args.at c.args.value c.loop-place.place c.requires.stands c.loop-place.invariant.after (omega arith) c.if-namings-place.true).1

pub loop-place-preserved : goal.loop-place-preserved
loop-place-preserved c =
    let more = after-more c.args.namings.now c.args.words.now c.args.at c.args.value c.loop-place.place c.requires.stands c.loop-place.invariant.after (omega arith) c.if-namings-place.true in
    record { after = more.0; below = omega (arith, more.1, c.loop-place.invariant.below) }

pub returns-then-word-place-clause-owed : goal.returns-then-word-place-clause-owed
returns-then-word-place-clause-owed c = elim c.loop-place-test.branch [
  | then-loop-place-test+else-namings-place w ↦ rest-after c.args.namings.now c.args.at c.args.value c.loop-place.place (word_at c.args.words.now c.args.at).mark c.loop-place.invariant.after c.if-word-place.true w.if-namings-place.false
  | else-loop-place-test w ↦ absurd (omega arith)
]

pub returns-else-word-place-clause-owed : goal.returns-else-word-place-clause-owed
returns-else-word-place-clause-owed c = rest-at-mark c.args.namings.now c.args.at c.args.value c.loop-place.place (word_at c.args.words.now c.args.at).mark c.loop-place.invariant.after (omega arith)

pub returns-else-word-place-clause-inside : goal.returns-else-word-place-clause-inside
returns-else-word-place-clause-inside c = (c.requires.stands.each_word c.args.at c.requires.inside).mark
