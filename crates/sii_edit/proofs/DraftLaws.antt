-- Drafts: the plant that a draft makes, and the steps of a draft.
use Rattle.std.proofs.Common.{◌≡◌, ◌≢◌, ℕ, zero, suc, ◌<◌, ◌≤◌, List, [], ◌∷◌, length, get_or, set, refl, sym, ap, ap₂, ◌∙◌, arith, subst, inl, inr, Option, Some, None, Result, Ok, Err, IsErrAnd, slice_set, length-set, get_or-set_other}
use Rattle.std.proofs.lemmas.Bool.{cases_eq, cases_lt, eq-eqb, ne_eqb, lt-ltb, le-ltb}
use Rattle.std.proofs.lemmas.Grind.{get_or-set_at}
use Rattle.std.proofs.lemmas.List.{set-set, set_comm}
use Rattle.sii_words.specs.Words.{alias_of}
use Rattle.sii_words.specs.CheckByte.{IsChecked}
use Rattle.sii_words.specs.Plant.{words_of}
use Rattle.sii_image.specs.NewLayouts.{RiseFrom, AreRising}
use Rattle.sii_edit.specs.declared.command.Expect.{Expect}
use Rattle.sii_edit.specs.declared.command.Edit.{Edit}
use Rattle.sii_edit.specs.declared.refusal.Cause.{Cause}
use Rattle.sii_edit.specs.Alias.{with_alias}
use Rattle.sii_edit.specs.Refusal.{IsCauseOf}
use Rattle.sii_edit.specs.Command.{slave_of, edited_words, edited, swapped}
use Rattle.sii_edit.proofs.CommandLaws.{edited-ok, edited_refused, length-edited_words, swapped-ok}
use Rattle.sii_edit.specs.declared.draft.NewWords.{NewWords}
use Rattle.sii_edit.specs.declared.draft.NewWords.TheVariants.{Renamed, Rewritten}
use Rattle.sii_edit.specs.declared.draft.Renewal.{Renewal}
use Rattle.sii_edit.specs.declared.slave_words.Name.{Name}
use Rattle.sii_edit.specs.Draft.{drafted, named, new_for, renewed, renewed_as, renewed_slaves, over, with_renewal, FitsWords, IsDraftOf, IsStep}
use Rattle.sii_edit.proofs.NameLaws.{length-named, named-again}

pub length-drafted : (plant : List (List ℕ)) (draft : List Renewal) → length (drafted plant draft) ≡ length plant
length-drafted plant [] = refl
length-drafted plant (first ∷ others) = length-set (drafted plant others) first.slave (renewed (words_of plant first.slave) first.new) ∙ length-drafted plant others

rises_later : (least from : ℕ) (numbers : List ℕ) → least ≤ from → RiseFrom from numbers → RiseFrom least numbers
rises_later least from [] h rise = tt
rises_later least from (first ∷ others) h rise = (omega (arith, h, rise.0), rise.1)

-- a slave before those that get new words
pub new_for-before : (draft : List Renewal) (slave least : ℕ) → slave < least → RiseFrom least (renewed_slaves draft) → new_for draft slave ≡ None
new_for-before [] slave least h rise = refl
new_for-before (first ∷ others) slave least h rise =
    rw (ne_eqb first.slave slave (λ same. absurd (omega (arith, h, rise.0, same)))) (new_for-before others slave (suc first.slave) (omega (arith, h, rise.0)) rise.1)

-- the words of one slave
pub words_of-drafted : (plant : List (List ℕ)) (draft : List Renewal) (slave : ℕ) → slave < length plant
    → words_of (drafted plant draft) slave ≡ renewed_as (words_of plant slave) (new_for draft slave)
words_of-drafted plant [] slave there = refl
words_of-drafted plant (first ∷ others) slave there =
    let before : List (List ℕ) = drafted plant others in
    let new : List ℕ = renewed (words_of plant first.slave) first.new in
    elim (cases_eq first.slave slave) [
      | inl same ↦
          rw (eq-eqb first.slave slave same)
          (get_or-set_at before first.slave slave new [] (sym same) (omega (arith, there, same, length-drafted plant others)) ∙ ap (λ (s : ℕ). renewed (words_of plant s) first.new) same)
      | inr other ↦ rw (ne_eqb first.slave slave other) (get_or-set_other before first.slave slave new [] (λ same. other (sym same)) ∙ words_of-drafted plant others slave there)
    ]

pub length_words : (words : List ℕ) (new : NewWords) → FitsWords words new → length (renewed words new) ≡ length words
length_words words (Renamed name) fits = length-named words name
length_words words (Rewritten new) fits = fits

length_for : (plant : List (List ℕ)) (draft : List Renewal) (slave : ℕ) → IsDraftOf plant draft
    → length (renewed_as (words_of plant slave) (new_for draft slave)) ≡ length (words_of plant slave)
length_for plant [] slave fits = refl
length_for plant (first ∷ others) slave fits = elim (cases_eq first.slave slave) [
  | inl same ↦ rw (eq-eqb first.slave slave same) (length_words (words_of plant slave) first.new (subst (λ (s : ℕ). FitsWords (words_of plant s) first.new) same fits.1))
  | inr other ↦ rw (ne_eqb first.slave slave other) (length_for plant others slave fits.2)
]

-- a draft keeps the shape
pub size_drafted : (plant : List (List ℕ)) (draft : List Renewal) (slave : ℕ) → slave < length plant → IsDraftOf plant draft
    → length (words_of (drafted plant draft) slave) ≡ length (words_of plant slave)
size_drafted plant draft slave there fits = ap length (words_of-drafted plant draft slave there) ∙ length_for plant draft slave fits

-- ---- new words on top of others

abbrev on_top : Option NewWords → NewWords → NewWords
on_top None new = new
on_top (Some old) new = over old new

renewed-on_top : (words : List ℕ) (old : Option NewWords) (new : NewWords) → renewed words (on_top old new) ≡ renewed (renewed_as words old) new
renewed-on_top words None new = refl
renewed-on_top words (Some (Renamed first)) (Renamed name) = sym (named-again words first name)
renewed-on_top words (Some (Renamed first)) (Rewritten new) = refl
renewed-on_top words (Some (Rewritten first)) (Renamed name) = refl
renewed-on_top words (Some (Rewritten first)) (Rewritten new) = refl

fits-on_top : (words : List ℕ) (old : Option NewWords) (new : NewWords) → length (renewed (renewed_as words old) new) ≡ length words → FitsWords words (on_top old new)
fits-on_top words None (Renamed name) size = tt
fits-on_top words None (Rewritten new) size = size
fits-on_top words (Some (Renamed first)) (Renamed name) size = tt
fits-on_top words (Some (Renamed first)) (Rewritten new) size = size
fits-on_top words (Some (Rewritten first)) (Renamed name) size = size
fits-on_top words (Some (Rewritten first)) (Rewritten new) size = size

-- ---- new words of one slave

rising-put : (least : ℕ) (draft : List Renewal) (slave : ℕ) (new : NewWords) → least ≤ slave → RiseFrom least (renewed_slaves draft) → RiseFrom least (renewed_slaves (with_renewal draft slave new))
rising-put least [] slave new h rise = (h, tt)
rising-put least (first ∷ others) slave new h rise = elim (cases_lt first.slave slave) [
  | inl below ↦ rw (lt-ltb first.slave slave below) (rise.0, rising-put (suc first.slave) others slave new (omega (arith, below)) rise.1)
  | inr after ↦ elim (cases_eq first.slave slave) [
    | inl same ↦ rw (le-ltb first.slave slave after, eq-eqb first.slave slave same) rise
    | inr other ↦ rw (le-ltb first.slave slave after, ne_eqb first.slave slave other) (h, (omega (arith, after, other), rise.1))
  ]
]

fits-put : (least : ℕ) (plant : List (List ℕ)) (draft : List Renewal) (slave : ℕ) (new : NewWords) → RiseFrom least (renewed_slaves draft) → IsDraftOf plant draft
    → slave < length plant → FitsWords (words_of plant slave) (on_top (new_for draft slave) new) → IsDraftOf plant (with_renewal draft slave new)
fits-put least plant [] slave new rise fits there size = (there, size, tt)
fits-put least plant (first ∷ others) slave new rise fits there size = elim (cases_lt first.slave slave) [
  | inl below ↦
      rw (lt-ltb first.slave slave below)
      (fits.0, fits.1, fits-put (suc first.slave) plant others slave new rise.1 fits.2 there (rw (ne_eqb first.slave slave (λ same. absurd (omega (arith, below, same)))) at size))
  | inr after ↦ elim (cases_eq first.slave slave) [
    | inl same ↦
        rw (le-ltb first.slave slave after, eq-eqb first.slave slave same)
        (fits.0, subst (λ (s : ℕ). FitsWords (words_of plant s) (over first.new new)) (sym same) (rw (eq-eqb first.slave slave same) at size), fits.2)
    | inr other ↦
        rw (le-ltb first.slave slave after, ne_eqb first.slave slave other)
        (there, rw (ne_eqb first.slave slave other, new_for-before others slave (suc first.slave) (omega (arith, after)) rise.1) at size, fits)
  ]
]

drafted-put : (least : ℕ) (plant : List (List ℕ)) (draft : List Renewal) (slave : ℕ) (new : NewWords) → RiseFrom least (renewed_slaves draft)
    → drafted plant (with_renewal draft slave new) ≡ set (drafted plant draft) slave (renewed (words_of plant slave) (on_top (new_for draft slave) new))
drafted-put least plant [] slave new rise = refl
drafted-put least plant (first ∷ others) slave new rise =
    let before : List (List ℕ) = drafted plant others in
    let mine : List ℕ = renewed (words_of plant first.slave) first.new in
    elim (cases_lt first.slave slave) [
      | inl below ↦
          rw (lt-ltb first.slave slave below, ne_eqb first.slave slave (λ same. absurd (omega (arith, below, same))))
          (ap (λ (p : List (List ℕ)). set p first.slave mine) (drafted-put (suc first.slave) plant others slave new rise.1)
          ∙ set_comm before slave first.slave (renewed (words_of plant slave) (on_top (new_for others slave) new)) mine (λ same. absurd (omega (arith, below, same))))
      | inr after ↦ elim (cases_eq first.slave slave) [
        | inl same ↦
            rw (le-ltb first.slave slave after, eq-eqb first.slave slave same)
            (sym (set-set before first.slave mine (renewed (words_of plant first.slave) (over first.new new)))
            ∙ ap (λ (s : ℕ). set (set before first.slave mine) s (renewed (words_of plant s) (over first.new new))) same)
        | inr other ↦
            rw (le-ltb first.slave slave after, ne_eqb first.slave slave other, new_for-before others slave (suc first.slave) (omega (arith, after)) rise.1) refl
      ]
    ]

pub rising_step : (draft put : List Renewal) (slave : ℕ) (new : NewWords) → AreRising (renewed_slaves draft) → put ≡ with_renewal draft slave new → AreRising (renewed_slaves put)
rising_step draft put slave new rise made = rw made (rising-put 0 draft slave new (omega arith) rise)

-- new words of a slave, on top of those that it has got
pub record IsPut (plant : List (List ℕ)) (draft put : List Renewal) (slave : ℕ) (words : List ℕ) : Type 0 where
  pub rising : AreRising (renewed_slaves put)
  pub fits : IsDraftOf plant put
  pub is : drafted plant put ≡ set (drafted plant draft) slave words

pub put_step : (plant : List (List ℕ)) (draft put : List Renewal) (slave : ℕ) (words : List ℕ) (new : NewWords) → AreRising (renewed_slaves draft) → IsDraftOf plant draft
    → slave < length plant → words ≡ words_of (drafted plant draft) slave → length (renewed words new) ≡ length (words_of plant slave) → put ≡ with_renewal draft slave new
    → IsPut plant draft put slave (renewed words new)
put_step plant draft put slave words new rise fits there read size made =
    let base : List ℕ = words_of plant slave in
    let old : Option NewWords = new_for draft slave in
    let has : words ≡ renewed_as base old = read ∙ words_of-drafted plant draft slave there in
    let on : renewed base (on_top old new) ≡ renewed words new = renewed-on_top base old new ∙ ap (λ (ws : List ℕ). renewed ws new) (sym has) in
    let same : length (renewed (renewed_as base old) new) ≡ length base = ap (λ (ws : List ℕ). length (renewed ws new)) (sym has) ∙ size in
    rw made
    (record {
      rising = rising-put 0 draft slave new (omega arith) rise;
      fits = fits-put 0 plant draft slave new rise fits there (fits-on_top base old new same);
      is = drafted-put 0 plant draft slave new rise ∙ ap (λ (ws : List ℕ). set (drafted plant draft) slave ws) on;
    })

-- refusals of a draft's edit
pub refused_step : (plant : List (List ℕ)) (draft : List Renewal) (expect : Option Expect) (edit : Edit) (cause : Cause) (slave : ℕ) (words : List ℕ) (result : Result (Unit {0}) Cause)
    → IsErrAnd result (λ error. error ≡ cause) → slave ≡ slave_of edit → slave < length plant → words ≡ words_of (drafted plant draft) slave
    → IsCauseOf (edited_words expect edit words) cause → IsStep plant (edited (drafted plant draft) expect edit) draft draft result
refused_step plant draft expect edit cause slave words (Ok done) gave is there read refused = absurd gave
refused_step plant draft expect edit cause slave words (Err error) gave is there read refused =
    let here : words ≡ words_of (drafted plant draft) (slave_of edit) = read ∙ ap (words_of (drafted plant draft)) is in
    rw gave (edited_refused (drafted plant draft) expect edit cause (omega (arith, length-drafted plant draft)) (rw here at refused), refl)

-- an edit of a draft
pub edited_step : (plant : List (List ℕ)) (draft put : List Renewal) (expect : Option Expect) (edit : Edit) (slave : ℕ) (words : List ℕ) (new : NewWords)
    → AreRising (renewed_slaves draft) → IsDraftOf plant draft → slave ≡ slave_of edit → slave < length plant → words ≡ words_of (drafted plant draft) slave
    → edited_words expect edit words ≡ Ok (renewed words new) → put ≡ with_renewal draft slave new
    → IsDraftOf plant put × (edited (drafted plant draft) expect edit ≡ Ok (drafted plant put))
edited_step plant draft put expect edit slave words new rise fits is there read validated made =
    let here : words ≡ words_of (drafted plant draft) (slave_of edit) = read ∙ ap (words_of (drafted plant draft)) is in
    let size : length (renewed words new) ≡ length (words_of plant slave) = length-edited_words expect edit words (renewed words new) validated ∙ ap length read ∙ size_drafted plant draft slave there fits in
    let step = put_step plant draft put slave words new rise fits there read size made in (
      step.fits,
      edited-ok (drafted plant draft) expect edit (renewed words new) (omega (arith, length-drafted plant draft)) (ap (edited_words expect edit) (sym here) ∙ validated)
          ∙ ap (λ (s : ℕ). Ok (slice_set (drafted plant draft) s (renewed words new))) (sym is) ∙ ap (λ (p : List (List ℕ)). Ok p) (sym step.is),
    )

-- the aliases of two slaves exchanged
pub swapped_names : (plant : List (List ℕ)) (a b : ℕ) (of_a of_b : List ℕ) (new_a new_b : Name) → a < length plant → b < length plant → a ≢ b
    → of_a ≡ words_of plant a → of_b ≡ words_of plant b → IsChecked of_a → IsChecked of_b
    → named of_a new_a ≡ with_alias of_a (alias_of of_b) → named of_b new_b ≡ with_alias of_b (alias_of of_a)
    → swapped plant a b ≡ Ok (set (set plant a (named (words_of plant a) new_a)) b (named (words_of plant b) new_b))
swapped_names plant a b of_a of_b new_a new_b a_there b_there separate read_a read_b a_checked b_checked made_a made_b =
    let all_a = ap (λ (ws : List ℕ). named ws new_a) (sym read_a) ∙ made_a ∙ ap₂ with_alias read_a (ap alias_of read_b) in
    let all_b = ap (λ (ws : List ℕ). named ws new_b) (sym read_b) ∙ made_b ∙ ap₂ with_alias read_b (ap alias_of read_a) in
    swapped-ok plant a b a_there b_there separate (rw read_a at a_checked) (rw read_b at b_checked)
    ∙ ap₂ (λ (x y : List ℕ). Ok (set (set plant a x) b y)) (sym all_a) (sym all_b)

-- a swap in a draft
pub swapped_step : (plant : List (List ℕ)) (draft once put : List Renewal) (a b : ℕ) (new_a new_b : Name)
    → AreRising (renewed_slaves draft) → IsDraftOf plant draft → a < length plant → b < length plant → a ≢ b
    → swapped (drafted plant draft) a b ≡ Ok (set (set (drafted plant draft) a (named (words_of (drafted plant draft) a) new_a)) b (named (words_of (drafted plant draft) b) new_b))
    → once ≡ with_renewal draft a (Renamed new_a) → put ≡ with_renewal once b (Renamed new_b)
    → IsDraftOf plant put × (swapped (drafted plant draft) a b ≡ Ok (drafted plant put))
swapped_step plant draft once put a b new_a new_b rise fits a_there b_there separate validated put_a put_b =
    let all : List (List ℕ) = drafted plant draft in
    let of_a : List ℕ = words_of all a in
    let of_b : List ℕ = words_of all b in
    let size_a : length (named of_a new_a) ≡ length (words_of plant a) = length-named of_a new_a ∙ size_drafted plant draft a a_there fits in
    let size_b : length (named of_b new_b) ≡ length (words_of plant b) = length-named of_b new_b ∙ size_drafted plant draft b b_there fits in
    let first = put_step plant draft once a of_a (Renamed new_a) rise fits a_there refl size_a put_a in
    let still : of_b ≡ words_of (drafted plant once) b =
    sym (get_or-set_other all a b (named of_a new_a) [] (λ same. separate (sym same))) ∙ ap (λ (p : List (List ℕ)). words_of p b) (sym first.is) in
    let second = put_step plant once put b of_b (Renamed new_b) first.rising first.fits b_there still size_b put_b in
    let made = second.is ∙ ap (λ (p : List (List ℕ)). set p b (named of_b new_b)) first.is in
    (second.fits, validated ∙ ap (λ (p : List (List ℕ)). Ok p) (sym made))

-- ---- one renewal

-- One renewal of a draft is of a slave that is there.
pub record IsRenewal (plant : List (List ℕ)) (renewal : Renewal) : Type 0 where
  pub there : renewal.slave < length plant
  pub fits : FitsWords (words_of plant renewal.slave) renewal.new

pub renewal_at : (plant : List (List ℕ)) (draft : List Renewal) (k : ℕ) (d : Renewal) → IsDraftOf plant draft → k < length draft → IsRenewal plant (get_or draft k d)
renewal_at plant [] k d fits h = absurd (omega (arith, h))
renewal_at plant (first ∷ others) zero d fits h = record { there = fits.0; fits = fits.1 }
renewal_at plant (first ∷ others) (suc k) d fits h = renewal_at plant others k d fits.2 (omega (arith, h))
