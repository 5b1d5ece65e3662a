use Rattle.std.proofs.Common.{◌≡◌, ◌-◌, ◌∙◌, ◌<◌, ◌+◌, ℕ, List, sym, ap, subst, arith, length, set}
use Rattle.book_model.specs.declared.due.Word.{Word}
use Rattle.book_model.specs.Queue.{word_at, naming_at, word_down, word_passed}
use Rattle.book_model.proofs.DownLaws.{pass-none, pass-kept, pass-set, pass-all}
use Rattle.book_model.proofs.down.words_down.Goals as goal
use Rattle.book_model.proofs.down.words_down.Goals.{then-word-place, else-word-place}

pub loop-place-init : goal.loop-place-init
loop-place-init c = record { same = omega arith; each = λ k. pass-none c.args.namings.now c.args.words.now c.args.count k c.requires }

pub loop-place-preserved : goal.loop-place-preserved
loop-place-preserved c = elim c.if-word-place.branch [
  | then-word-place w ↦
      let at = (naming_at c.args.namings.now c.loop-place.place).word in
      let word = word_at c.loop-place.words at in
      let here = pass-set c.args.namings.now c.args.words.now c.loop-place.words c.args.count c.loop-place.place c.requires c.loop-place.invariant.same c.loop-place-test.true c.loop-place.invariant.each w.if-word-place.true in
      let is : c.if-word-place.words ≡ set c.loop-place.words at (word_down c.args.count word) =
      w.words-is
      ∙ ap (λ (n : ℕ). let v : Word = record { held = word.held; end = n; mark = w.lowered-then-word-place.result } in set c.loop-place.words at v) w.lowered.ensures
      ∙ ap (λ (n : ℕ). let v : Word = record { held = word.held; end = word.end - c.args.count; mark = n } in set c.loop-place.words at v) w.lowered-then-word-place.ensures in
      record {
        same = omega arith;
        each = subst (λ (l : List Word). (k : ℕ) → k < length c.args.words.now → word_at l k ≡ word_passed c.args.count (c.loop-place.place + 1) (word_at c.args.words.now k)) (sym is) here;
      }
  | else-word-place w ↦ record {
    same = omega arith;
    each = subst (λ (l : List Word). (k : ℕ) → k < length c.args.words.now → word_at l k ≡ word_passed c.args.count (c.loop-place.place + 1) (word_at c.args.words.now k)) (sym w.words-is)
        (pass-kept c.args.namings.now c.args.words.now c.loop-place.words c.args.count c.loop-place.place c.requires c.loop-place.invariant.same c.loop-place.invariant.each w.if-word-place.false);
  }
]

pub returns : goal.returns
returns c = pass-all c.args.namings.now c.args.words.now c.loop-place.words c.args.count c.requires c.loop-place.invariant.same
    (let e : c.loop-place.place ≡ length c.args.namings.now = omega arith in
    subst (λ (n : ℕ). (k : ℕ) → k < length c.args.words.now → word_at c.loop-place.words k ≡ word_passed c.args.count n (word_at c.args.words.now k)) e c.loop-place.invariant.each)
