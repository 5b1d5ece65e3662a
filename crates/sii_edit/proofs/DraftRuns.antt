-- The runs that lead to a draft's plant are those of the slaves that get new words.
use Rattle.std.proofs.Common.{◌≡◌, ℕ, zero, suc, ◌+◌, ◌<◌, ◌≤◌, List, [], ◌∷◌, ◌++◌, length, get_or, set, drop, drop-cons, add-one, append_assoc, refl, sym, ap, ◌∙◌, arith}
use Rattle.sii_words.specs.Plant.{words_of}
use Rattle.sii_image.specs.NewLayouts.{RiseFrom}
use Rattle.sii_words.specs.declared.run.Run.{Run}
use Rattle.sii_words.specs.Run.{runs_from, runs_between, stretches}
use Rattle.sii_words.proofs.StretchLaws.{stretches-same}
use Rattle.sii_edit.specs.declared.draft.Renewal.{Renewal}
use Rattle.sii_edit.specs.Draft.{drafted, renewed, renewed_as, renewed_slaves, IsDraftOf}
use Rattle.sii_edit.specs.steps.Draft.{drafted_runs}
use Rattle.sii_edit.proofs.DraftLaws.{length-drafted, new_for-before, words_of-drafted}

-- the runs between the same contents
runs_from-same : (at : ℕ) (plant : List (List ℕ)) → runs_from at plant plant ≡ []
runs_from-same at [] = refl
runs_from-same at (words ∷ plant) = rw (stretches-same at 0 words, runs_from-same (suc at) plant) refl

-- one slave more, before those that differ
runs_from-set : (at : ℕ) (olds news : List (List ℕ)) (slave : ℕ) (words : List ℕ) → length news ≡ length olds → slave < length olds
    → ((other : ℕ) → other ≤ slave → words_of news other ≡ words_of olds other)
    → runs_from at olds (set news slave words) ≡ stretches (at + slave) 0 (words_of olds slave) words ++ runs_from at olds news
runs_from-set at [] news slave words size h same = absurd (omega (arith, h))
runs_from-set at (old ∷ olds) [] slave words size h same = absurd (omega (arith, size))
runs_from-set at (old ∷ olds) (new ∷ news) zero words size h same =
    let first : new ≡ old = same 0 (omega arith) in
    rw (first, stretches-same at 0 old) (ap (λ (n : ℕ). stretches n 0 old words ++ runs_from (suc at) olds news) (omega arith))
runs_from-set at (old ∷ olds) (new ∷ news) (suc slave) words size h same =
    let first : new ≡ old = same 0 (omega arith) in
    let rest = runs_from-set (suc at) olds news slave words (omega (arith, size)) (omega (arith, h)) (λ other below. same (suc other) (omega (arith, below))) in
    rw (first, stretches-same at 0 old) (rest ∙ ap (λ (n : ℕ). stretches n 0 (words_of olds slave) words ++ runs_from (suc at) olds news) (omega arith))

drafted_runs-from : (least : ℕ) (plant : List (List ℕ)) (draft : List Renewal) → RiseFrom least (renewed_slaves draft) → IsDraftOf plant draft
    → drafted_runs plant draft ≡ runs_between plant (drafted plant draft)
drafted_runs-from least plant [] rise fits = sym (runs_from-same 0 plant)
drafted_runs-from least plant (first ∷ others) rise fits =
    let mine : List ℕ = renewed (words_of plant first.slave) first.new in
    let rest : List (List ℕ) = drafted plant others in
    let same : (other : ℕ) → other ≤ first.slave → words_of rest other ≡ words_of plant other =
    λ other below. words_of-drafted plant others other (omega (arith, below, fits.0)) ∙ ap (renewed_as (words_of plant other)) (new_for-before others other (suc first.slave) (omega (arith, below)) rise.1) in
    ap (λ (runs : List Run). stretches first.slave 0 (words_of plant first.slave) mine ++ runs) (drafted_runs-from (suc first.slave) plant others rise.1 fits.2)
    ∙ ap (λ (n : ℕ). stretches n 0 (words_of plant first.slave) mine ++ runs_between plant rest) (omega arith)
    ∙ sym (runs_from-set 0 plant rest first.slave mine (length-drafted plant others) fits.0 same)

pub drafted_runs-are : (plant : List (List ℕ)) (draft : List Renewal) → RiseFrom 0 (renewed_slaves draft) → IsDraftOf plant draft
    → drafted_runs plant draft ≡ runs_between plant (drafted plant draft)
drafted_runs-are plant draft rise fits = drafted_runs-from 0 plant draft rise fits

-- the runs of one slave more
pub drafted_runs-more : (plant : List (List ℕ)) (draft : List Renewal) (at : ℕ) (renewal : Renewal) (before : List Run) {now all : List Run}
    → at < length draft → renewal ≡ get_or draft at renewal
    → now ≡ before ++ stretches renewal.slave 0 (words_of plant renewal.slave) (renewed (words_of plant renewal.slave) renewal.new)
    → before ++ drafted_runs plant (drop at draft) ≡ all → now ++ drafted_runs plant (drop (at + 1) draft) ≡ all
drafted_runs-more plant draft at renewal before there is more so_far =
    let mine : List Run = stretches renewal.slave 0 (words_of plant renewal.slave) (renewed (words_of plant renewal.slave) renewal.new) in
    let split : drop at draft ≡ renewal ∷ drop (suc at) draft = drop-cons draft at renewal there ∙ ap (λ (first : Renewal). first ∷ drop (suc at) draft) (sym is) in
    rw (add-one at, more)
    (append_assoc before mine (drafted_runs plant (drop (suc at) draft)) ∙ ap (λ (left : List Renewal). before ++ drafted_runs plant left) (sym split) ∙ so_far)
