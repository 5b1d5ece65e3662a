-- A category edit has one result.
use Rattle.std.proofs.Common.{◌≡◌, ◌≢◌, ◌+◌, ℕ, zero, suc, List, [], ◌∷◌, ◌++◌, length, take, drop, All, Option, Some, None, refl, sym, ap, subst, ◌∙◌, append_assoc, arith}
use Rattle.std.specs.Prelude.{slice_get}
use Rattle.std.proofs.lemmas.List.{length-append, length-drop, take-append-drop, drop-drop}
use Rattle.std.proofs.lemmas.List.Elements.{All-head, All-tail}
use Rattle.std.proofs.Math.Seq.{drop-append_seam}
use Rattle.sii_cats.specs.Items.{AreItems}
use Rattle.sii_cats.specs.Chain.{Member, member_words, chain_words, Begins, IsEnd}
use Rattle.sii_cats.specs.Splice.{spliced, IsEdit}
use Rattle.sii_cats.specs.Laws.{UniqueChain}
use Rattle.sii_edit.specs.Category.{IsPlaceOf, ChangesCategory}

-- ---- the place

all-at : (P : Member → Type 0) (ms : List Member) (i : ℕ) (m : Member) → All P ms → slice_get ms i ≡ Some m → P m
all-at P [] i m all here = absurd cc
all-at P (x ∷ ms) zero m all here = let same : x ≡ m = cc in subst P same (All-head P x ms all)
all-at P (x ∷ ms) (suc i) m all here = all-at P ms i m (All-tail P x ms all) here

one-place : (kind : ℕ) (ms : List Member) (place other : Option ℕ) → IsPlaceOf kind ms place → IsPlaceOf kind ms other → place ≡ other
one-place kind ms None None is also = refl
one-place kind ms None (Some j) none at = absurd (all-at (λ m. m.kind ≢ kind) ms j at.0 none at.1 at.2)
one-place kind ms (Some i) None at none = absurd (all-at (λ m. m.kind ≢ kind) ms i at.0 none at.1 at.2)
one-place kind ms (Some i) (Some j) at also = ap Some (also.3 i at.0 at.1 at.2)

-- ---- the words

-- what stands behind a chain
after-chain : (cells : List ℕ) (ms : List Member) → AreItems Begins IsEnd cells ms → (rest : List ℕ) × (cells ≡ chain_words ms ++ rest) × IsEnd rest
after-chain cells [] ends = (cells, refl, ends)
after-chain cells (m ∷ ms) items =
    let further = after-chain items.0 ms items.2 in
    (further.0, items.1.1 ∙ ap (λ (l : List ℕ). member_words m ++ l) further.1 ∙ sym (append_assoc (member_words m) (chain_words ms) further.0), further.2)

same-rest : (xs ys : List ℕ) → length xs ≡ length ys → IsEnd xs → IsEnd ys → drop 1 xs ≡ drop 1 ys → xs ≡ ys
same-rest [] [] long ends also tails = refl
same-rest [] (y ∷ ys) long ends also tails = absurd (omega arith)
same-rest (x ∷ xs) [] long ends also tails = absurd (omega arith)
same-rest (x ∷ xs) (y ∷ ys) long ends also tails = ap (λ (n : ℕ). n ∷ xs) (ends ∙ sym also) ∙ ap (λ (l : List ℕ). y ∷ l) tails

-- the words one after the chain
tail-of : (words front rest : List ℕ) → drop 64 words ≡ front ++ rest → drop (suc (64 + length front)) words ≡ drop 1 rest
tail-of words front rest is =
    let next : suc (64 + length front) ≡ 64 + (length front + 1) = omega arith in
    ap (λ (n : ℕ). drop n words) next ∙ sym (drop-drop (length front + 1) 64 words) ∙ ap (drop (length front + 1)) is
    ∙ sym (drop-drop 1 (length front) (front ++ rest)) ∙ ap (drop 1) (drop-append_seam front rest)

one-edit : (old new other : List ℕ) (ms : List Member) → IsEdit old new ms → IsEdit old other ms → new ≡ other
one-edit old new other ms edit also =
    let ours = after-chain (drop 64 new) ms edit.chain in
    let theirs = after-chain (drop 64 other) ms also.chain in
    let chain = chain_words ms in
    let long : length new ≡ length other = edit.size ∙ sym also.size in
    let lengths : length ours.0 ≡ length theirs.0 =
    omega (arith, ap length ours.1, ap length theirs.1, length-append chain ours.0, length-append chain theirs.0, length-drop 64 new, length-drop 64 other) in
    let tails : drop 1 ours.0 ≡ drop 1 theirs.0 = sym (tail-of new chain ours.0 ours.1) ∙ edit.after ∙ sym also.after ∙ tail-of other chain theirs.0 theirs.1 in
    let rest : ours.0 ≡ theirs.0 = same-rest ours.0 theirs.0 lengths ours.2 theirs.2 tails in
    let back : drop 64 new ≡ drop 64 other = ours.1 ∙ ap (λ (l : List ℕ). chain ++ l) rest ∙ sym theirs.1 in
    sym (take-append-drop 64 new) ∙ ap (λ (l : List ℕ). l ++ drop 64 new) (edit.before ∙ sym also.before) ∙ ap (λ (l : List ℕ). take 64 other ++ l) back
    ∙ take-append-drop 64 other

pub one-change : UniqueChain → (old : List ℕ) (kind : ℕ) (content new other : List ℕ) → ChangesCategory old kind content new → ChangesCategory old kind content other → new ≡ other
one-change unique old kind content new other change also =
    let chains : change.chain ≡ also.chain = unique old change.chain also.chain change.read also.read in
    let theirs : IsPlaceOf kind change.chain also.place = subst (λ (ms : List Member). IsPlaceOf kind ms also.place) (sym chains) also.one in
    let places : change.place ≡ also.place = one-place kind change.chain change.place also.place change.one theirs in
    let same : spliced also.place kind content also.chain ≡ spliced change.place kind content change.chain =
    ap (λ (ms : List Member). spliced also.place kind content ms) (sym chains) ∙ ap (λ (p : Option ℕ). spliced p kind content change.chain) (sym places) in
    one-edit old new other (spliced change.place kind content change.chain) change.edit (subst (λ (ms : List Member). IsEdit old other ms) same also.edit)
