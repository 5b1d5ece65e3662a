-- The least of numbers, each of which may be missing.
use Rattle.std.proofs.Common.{◌≡◌, ◌⊎◌, inl, inr, ℕ, ◌+◌, ◌<◌, ◌≤◌, List, [], ◌∷◌, ◌++◌, length, take, get_or, map, refl, sym, ◌∙◌, ap, subst, arith, Option, Some, None}
use Rattle.std.specs.Prelude.{min}
use Rattle.std.proofs.lemmas.List.{take_more, map-append, get_or_read}
use Rattle.book_model.specs.Cells.{cell_of}
use Rattle.book_model.specs.Pending.{values_of}
use Rattle.book_parts.specs.declared.work.SlaveWork.{SlaveWork}
use Rattle.book_parts.specs.Works.{unsettled_of, smaller, least, work_at, no_work, OweLive}

-- the number isn't less than this
abbrev pub AtLeast : ℕ → Option ℕ → Type 0
AtLeast n None = Unit {0}
AtLeast n (Some m) = n ≤ m

pub smaller-at_least : (n : ℕ) (a b : Option ℕ) → AtLeast n a → AtLeast n b → AtLeast n (smaller a b)
smaller-at_least n None b one other = other
smaller-at_least n (Some a) None one other = one
smaller-at_least n (Some a) (Some b) one other = omega arith

pub smaller-left : (n : ℕ) (b : Option ℕ) → AtLeast n b → smaller (Some n) b ≡ Some n
smaller-left n None le = refl
smaller-left n (Some b) le = let e : min n b ≡ n = omega arith in ap Some e

pub smaller-right : (n : ℕ) (a : Option ℕ) → AtLeast n a → smaller a (Some n) ≡ Some n
smaller-right n None le = refl
smaller-right n (Some a) le = let e : min a n ≡ n = omega arith in ap Some e

smaller-none : (a : Option ℕ) → smaller a None ≡ a
smaller-none None = refl
smaller-none (Some a) = refl

smaller_assoc : (a b c : Option ℕ) → smaller a (smaller b c) ≡ smaller (smaller a b) c
smaller_assoc None b c = refl
smaller_assoc (Some a) None c = refl
smaller_assoc (Some a) (Some b) None = refl
smaller_assoc (Some a) (Some b) (Some c) = let e : min a (min b c) ≡ min (min a b) c = omega arith in ap Some e

least-push : (numbers : List (Option ℕ)) (last : Option ℕ) → least (numbers ++ last ∷ []) ≡ smaller (least numbers) last
least-push [] last = smaller-none last
least-push (n ∷ ns) last = ap (smaller n) (least-push ns last) ∙ smaller_assoc n (least ns) last

-- as the code goes on
pub least-taken : (works : List SlaveWork) (i : ℕ) (w : SlaveWork) → i < length works → w ≡ get_or works i w → least (map unsettled_of (take (i + 1) works)) ≡ smaller (least (map unsettled_of (take i works))) (unsettled_of w)
least-taken works i w within is =
    ap (λ (l : List SlaveWork). least (map unsettled_of l)) (take_more works i w within ∙ ap (λ (v : SlaveWork). take i works ++ v ∷ []) (sym is))
    ∙ ap least (map-append unsettled_of (take i works) (w ∷ []))
    ∙ least-push (map unsettled_of (take i works)) (unsettled_of w)

pub owe-more : (works : List SlaveWork) (i : ℕ) (w : SlaveWork) → i < length works → w ≡ get_or works i w → OweLive works i
    → ((at : ℕ) → length (cell_of w.queue.cells at).owed ≤ length (values_of at w.queue.live)) → OweLive works (i + 1)
owe-more works i w within is before here = λ k at lt. one k at (sides k i lt)
  where
    sides : (m n : ℕ) → m < n + 1 → (m < n) ⊎ (m ≡ n)
    sides m n lt = grind arith

    one : (k at : ℕ) → (k < i) ⊎ (k ≡ i) → length (cell_of (work_at works k).queue.cells at).owed ≤ length (values_of at (work_at works k).queue.live)
    one k at (inl lt) = before k at lt
    one k at (inr same) =
        let read : w ≡ work_at works k = get_or_read works i w within is no_work ∙ ap (work_at works) (sym same) in
        subst (λ (v : SlaveWork). length (cell_of v.queue.cells at).owed ≤ length (values_of at v.queue.live)) read (here at)
