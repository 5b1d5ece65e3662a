use Rattle.std.proofs.Common.{◌≡◌, ℕ, suc, ◌+◌, ◌-◌, ◌^◌, ◌<◌, ◌≤◌, Bool, true, false, if◌then◌else◌, List, Option, Some, None, slice_get, refl, sym, ap, subst, ◌∙◌, add-one, arith}
use Rattle.std.specs.Prelude.{IfSome}
use Rattle.slave_match.specs.declared.comparing.Difference.{Difference}
use Rattle.slave_match.specs.Difference.{counted, difference_from, difference_of, is_same, next_difference}
use Rattle.slave_match.proofs.Same.{same_without}
use Rattle.slave_match.proofs.comparing.difference_between.Goals as goal

one_more : (n at next : ℕ) (words kept : List ℕ) → next ≡ suc at
    → difference_from (n + 1) at words kept ≡ next_difference at (slice_get words at) (slice_get kept at) (difference_from n next words kept)
one_more n at next words kept is = rw (add-one n, is) refl

step : (result old : Option Difference) (n most at : ℕ) (has held : Option ℕ) (words kept : List ℕ) → n < most → at ≡ most - 1 - n → has ≡ slice_get words at → held ≡ slice_get kept at
    → old ≡ difference_from n (most - n) words kept → result ≡ next_difference at has held old → result ≡ difference_from (n + 1) (most - (n + 1)) words kept
step result old n most at has held words kept inside there has_is held_is old_is is =
    let place : at ≡ most - (n + 1) = omega (arith, there, inside) in
    let next : most - n ≡ suc (most - (n + 1)) = omega (arith, inside) in
    let here : next_difference at has held old ≡ next_difference at (slice_get words at) (slice_get kept at) (difference_from n (most - n) words kept) = cc in
    is ∙ here ∙ ap (λ (a : ℕ). next_difference a (slice_get words a) (slice_get kept a) (difference_from n (most - n) words kept)) place
    ∙ sym (one_more n (most - (n + 1)) (most - n) words kept next)

either : (test : Bool) (old : Option Difference) (one : Difference) (n : ℕ) → IfSome old (λ d. d.count ≤ n) → one.count ≤ n → IfSome (if test then old else Some one) (λ d. d.count ≤ n)
either true old one n before here = before
either false old one n before here = here

count_step : (at : ℕ) (has held : Option ℕ) (old : Option Difference) (n : ℕ) → IfSome old (λ d. d.count ≤ n) → IfSome (next_difference at has held old) (λ d. d.count ≤ n + 1)
count_step at has held (Some d) n le = either (is_same has held) (Some d) (counted at has held (Some d)) (n + 1) (omega (arith, le)) (omega (arith, le))
count_step at has held None n le = either (is_same has held) None (counted at has held None) (n + 1) tt (omega arith)

room : (old : Option Difference) (n most : ℕ) → IfSome old (λ d. d.count ≤ n) → n < most → most < 2 ^ 64 → IfSome old (λ d. d.count + 1 < 2 ^ 64)
room (Some d) n most le inside fits = omega (arith, le, inside, fits)
room None n most le inside fits = tt

pub joined-found-requires-clause-most : goal.joined-found-requires-clause-most
joined-found-requires-clause-most c =
    room c.loop-after.found c.loop-after.after c.max-most.result c.loop-after.invariant.count c.loop-after-test.true (omega arith)

pub loop-after-preserved : goal.loop-after-preserved
loop-after-preserved c = record {
  found =
      step c.joined-found.result c.loop-after.found c.loop-after.after c.max-most.result (c.max-most.result - 1 - c.loop-after.after) c.word_at.result c.word_at-in-loop-after.result c.args.words.now c.args.kept.now
      c.loop-after-test.true refl c.word_at.ensures c.word_at-in-loop-after.ensures c.loop-after.invariant.found c.joined-found.ensures;
  count =
      subst (λ (r : Option Difference). IfSome r (λ d. d.count ≤ c.loop-after.after + 1)) (sym c.joined-found.ensures)
      (count_step (c.max-most.result - 1 - c.loop-after.after) c.word_at.result c.word_at-in-loop-after.result c.loop-after.found c.loop-after.after c.loop-after.invariant.count);
}

pub returns-clause-same : goal.returns-clause-same
returns-clause-same c = λ none.
    let words = c.args.words.now in
    let kept = c.args.kept.now in
    let most = c.max-most.result in
    let found = c.loop-after.found in
    let done : c.loop-after.after ≡ most = omega (arith, c.loop-after-test.false, c.loop-after.auto.after-end) in
    let all : found ≡ difference_from most (most - most) words kept = subst (λ (n : ℕ). found ≡ difference_from n (most - n) words kept) done c.loop-after.invariant.found in
    let nothing : most - most ≡ 0 = omega arith in
    let from_first : found ≡ difference_from most 0 words kept = subst (λ (z : ℕ). found ≡ difference_from most z words kept) nothing all in
    let is : found ≡ difference_of words kept = subst (λ (m : ℕ). found ≡ difference_from m 0 words kept) c.max-most.ensures from_first in
    same_without words kept (sym is ∙ none)
