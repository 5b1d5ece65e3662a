-- Laws of one area.
use Rattle.std.proofs.Common.{◌≡◌, ◌≢◌, ℕ, ◌<◌, List, [], ◌∷◌, ◌++◌, length, drop, refl, sym, ap, subst, ◌∙◌, append_assoc, arith}
use Rattle.std.specs.Prelude.{◌↔◌}
use Rattle.std.specs.List.{AllByRecursion}
use Rattle.std.proofs.lemmas.List.{length-append, append-nil}
use Rattle.std.proofs.lemmas.List.Concat.{flat_map-append}
use Rattle.jrn_format.specs.declared.journal.Batch.{Batch}
use Rattle.jrn_format.specs.declared.journal.Spelling.{Spelling}
use Rattle.jrn_format.specs.Batch.{spelt_after, spelt_batch, CanStand}
use Rattle.jrn_format.specs.Area.{spelt_batches, IsClosed, IsLive}
use Rattle.jrn_format.specs.steps.Reading.{batch_at}
use Rattle.jrn_format.proofs.Numbers.{some_is}
use Rattle.jrn_format.proofs.BatchReading.{batch_again}
use Rattle.jrn_format.proofs.Areas.{starts_cons}
use Rattle.jrn_format.proofs.HalvesGrammar.{All-join}

-- ---- one list at most

-- a closed gate is after the batches
record Ends (spelling : Spelling) (half : ℕ) (area : List ℕ) (batches : List Batch) (gate : ℕ) (after : List ℕ) : Type 0 where
  closed : gate ≢ 0xA5
  can_stand : AllByRecursion (CanStand spelling half) batches
  spelt : area ≡ spelt_batches spelling batches ++ gate ∷ after

ends_of : (spelling : Spelling) (half : ℕ) (area : List ℕ) (batches : List Batch) (live : IsLive spelling half area batches) → Ends spelling half area batches live.ends.0 live.ends.1
ends_of spelling half area batches live = record {
  closed = live.ends.2;
  can_stand = live.starts.can_stand;
  spelt = live.starts.spelt ∙ ap (λ (t : List ℕ). spelt_batches spelling batches ++ t) live.ends.3;
}

-- the batch in front, and what follows it
split_batch : (spelling : Spelling) (batch : Batch) (batches : List Batch) (tail : List ℕ)
    → spelt_batches spelling (batch ∷ batches) ++ tail ≡ 0xA5 ∷ spelt_after spelling batch.generation batch.entries ++ (spelt_batches spelling batches ++ tail)
split_batch spelling batch batches tail = append_assoc (spelt_batch spelling batch) (spelt_batches spelling batches) tail

same_first : (spelling : Spelling) (half : ℕ) (x y : Batch) (a b : List ℕ) → CanStand spelling half x → CanStand spelling half y → 0 < length a → 0 < length b
    → spelt_after spelling x.generation x.entries ++ a ≡ spelt_after spelling y.generation y.entries ++ b → (x ≡ y) × (a ≡ b)
same_first spelling half x y a b can can' some some' e =
    let one : Batch × List ℕ = (x, a) in
    let two : Batch × List ℕ = (y, b) in
    let same : one ≡ two = some_is one two (sym (batch_again spelling half x a can some) ∙ ap (batch_at spelling half) e ∙ batch_again spelling half y b can' some') in
    (ap (λ (p : Batch × List ℕ). p.0) same, ap (λ (p : Batch × List ℕ). p.1) same)

one_list : (spelling : Spelling) (half : ℕ) (xs ys : List Batch) (g h : ℕ) (a b : List ℕ) → g ≢ 0xA5 → h ≢ 0xA5
    → AllByRecursion (CanStand spelling half) xs → AllByRecursion (CanStand spelling half) ys
    → spelt_batches spelling xs ++ g ∷ a ≡ spelt_batches spelling ys ++ h ∷ b → xs ≡ ys
one_list spelling half [] [] g h a b gc hc cx cy e = refl
one_list spelling half [] (y ∷ ys) g h a b gc hc cx cy e =
    let entire = e ∙ split_batch spelling y ys (h ∷ b) in let gate : g ≡ 0xA5 = cc in absurd (gc gate)
one_list spelling half (x ∷ xs) [] g h a b gc hc cx cy e =
    let entire = sym e ∙ split_batch spelling x xs (g ∷ a) in let gate : h ≡ 0xA5 = cc in absurd (hc gate)
one_list spelling half (x ∷ xs) (y ∷ ys) g h a b gc hc cx cy e =
    let left = spelt_batches spelling xs ++ g ∷ a in
    let right = spelt_batches spelling ys ++ h ∷ b in
    let entire : 0xA5 ∷ spelt_after spelling x.generation x.entries ++ left ≡ 0xA5 ∷ spelt_after spelling y.generation y.entries ++ right =
    sym (split_batch spelling x xs (g ∷ a)) ∙ e ∙ split_batch spelling y ys (h ∷ b) in
    let first = same_first spelling half x y left right cx.0 cy.0 (omega (arith, length-append (spelt_batches spelling xs) (g ∷ a))) (omega (arith, length-append (spelt_batches spelling ys) (h ∷ b))) (ap (drop 1) entire) in
    let others = one_list spelling half xs ys g h a b gc hc cx.1 cy.1 first.1 in
    ap (λ (z : Batch). z ∷ xs) first.0 ∙ ap (λ (zs : List Batch). y ∷ zs) others

pub one_live : (spelling : Spelling) (half : ℕ) (area : List ℕ) (xs ys : List Batch) → IsLive spelling half area xs → IsLive spelling half area ys → xs ≡ ys
one_live spelling half area xs ys live other =
    let a = ends_of spelling half area xs live in
    let b = ends_of spelling half area ys other in
    one_list spelling half xs ys live.ends.0 other.ends.0 live.ends.1 other.ends.1 a.closed b.closed a.can_stand b.can_stand (sym a.spelt ∙ b.spelt)

-- ---- nothing live

pub empty_live : (spelling : Spelling) (half : ℕ) (area : List ℕ) → IsLive spelling half area [] ↔ IsClosed area
empty_live spelling half area = (
  λ live. subst IsClosed (sym live.starts.spelt) live.ends,
  λ closed. record { rest = area; starts = record { can_stand = tt; spelt = refl }; ends = closed },
)

pub retired : (spelling : Spelling) (half gate : ℕ) (rest : List ℕ) → gate ≢ 0xA5 → IsLive spelling half (gate ∷ rest) []
retired spelling half gate rest closed = (empty_live spelling half (gate ∷ rest)).1 (gate, rest, closed, refl)

-- ---- one batch first

pub first_live : (spelling : Spelling) (half : ℕ) (batch : Batch) (batches : List Batch) (rest : List ℕ) → CanStand spelling half batch → IsLive spelling half rest batches
    → IsLive spelling half (spelt_batch spelling batch ++ rest) (batch ∷ batches)
first_live spelling half batch batches rest can live =
    record { rest = live.rest; starts = starts_cons spelling half (spelt_batch spelling batch ++ rest) batch rest batches live.rest can refl live.starts; ends = live.ends }

-- ---- one batch more

pub same_before : (spelling : Spelling) (half : ℕ) (batches : List Batch) (gate : ℕ) (rest : List ℕ) (other : ℕ) (after : List ℕ)
    → IsLive spelling half (spelt_batches spelling batches ++ gate ∷ rest) batches → other ≢ 0xA5 → IsLive spelling half (spelt_batches spelling batches ++ other ∷ after) batches
same_before spelling half batches gate rest other after live closed =
    record { rest = other ∷ after; starts = record { can_stand = live.starts.can_stand; spelt = refl }; ends = (other, after, closed, refl) }

pub appended : (spelling : Spelling) (half : ℕ) (batches : List Batch) (gate : ℕ) (rest : List ℕ) (batch : Batch) (closing : ℕ) (after : List ℕ)
    → IsLive spelling half (spelt_batches spelling batches ++ gate ∷ rest) batches → CanStand spelling half batch → closing ≢ 0xA5
    → rest ≡ spelt_after spelling batch.generation batch.entries ++ closing ∷ after
    → IsLive spelling half (spelt_batches spelling batches ++ 0xA5 ∷ rest) (batches ++ batch ∷ [])
appended spelling half batches gate rest batch closing after live can closed e =
    let spelt = spelt_batches spelling batches in
    let all : spelt_batches spelling (batches ++ batch ∷ []) ≡ spelt ++ spelt_batch spelling batch =
    flat_map-append (spelt_batch spelling) batches (batch ∷ []) ∙ ap (λ (t : List ℕ). spelt ++ t) (append-nil (spelt_batch spelling batch)) in
    record {
      rest = closing ∷ after;
      starts = record {
        can_stand = All-join (CanStand spelling half) batches (batch ∷ []) live.starts.can_stand (can, tt);
        spelt = ap (λ (t : List ℕ). spelt ++ 0xA5 ∷ t) e ∙ sym (append_assoc spelt (spelt_batch spelling batch) (closing ∷ after)) ∙ ap (λ (t : List ℕ). t ++ closing ∷ after) (sym all);
      };
      ends = (closing, after, closed, refl);
    }
