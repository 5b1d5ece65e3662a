-- The steps of a cell keep CellFits true.
use Rattle.std.proofs.Common.{◌≡◌, ◌⊎◌, inl, inr, ℕ, suc, ◌+◌, ◌<◌, ◌≤◌, true, false, List, [], ◌∷◌, ◌++◌, length, refl, sym, ◌∙◌, ap, subst, arith, length-append, Option, Some, None, unwrap_or}
use Rattle.std.specs.Prelude.{if◌then◌else◌, ◌==◌, ◌-◌, nat_le, slice_get}
use Rattle.std.proofs.lemmas.List.Concat.{flat_map-append}
use Rattle.std.specs.Option.{option_or}
use Rattle.std.proofs.lemmas.Bool.{cases_eq, cases_lt, eq-eqb, le-leb, lt-leb, ne_eqb}
use Rattle.sii_words.specs.declared.run.Run.{Run}
use Rattle.sii_words.specs.Redo.{given_by, last_given}
use Rattle.book_model.specs.Cells.{Known, Holds, Unsure, Cell, named, all_named, owing, asked, written, opened}
use Rattle.book_model.specs.Pending.{values_of}
use Rattle.book_model.proofs.EndLaws as queue
use Rattle.book_model.specs.Entries.{named_from, named_by, namings, values}
use Rattle.book_model.specs.Owed.{MayBe, due, redone_word, CellFits}

pub due-append : (word : ℕ) (xs ys : List ℕ) → due word (xs ++ ys) ≡ due (due word xs) ys
due-append word [] ys = refl
due-append word (x ∷ xs) ys = due-append x xs ys

-- a value in place is due where it is named last
due-named : (known : Known) (word : ℕ) (owed : List ℕ) (value : ℕ) → MayBe known word → due word (named known owed value) ≡ value
due-named (Unsure issues) word owed value may = due-append word owed (value ∷ [])
due-named (Holds held) word owed value may = elim (cases_eq held value) [
  | inl same ↦ let t : (held == value) ≡ true = eq-eqb held value same in rw t (may ∙ same)
  | inr other ↦ let t : (held == value) ≡ false = ne_eqb held value other in rw t (due-append word owed (value ∷ []))
]

pub due-all_named : (known : Known) (word : ℕ) (owed vs : List ℕ) (target : ℕ) → MayBe known word → due word owed ≡ target → due word (all_named known owed vs) ≡ due target vs
due-all_named known word owed [] target may is = is
due-all_named known word owed (v ∷ vs) target may is = due-all_named known word (named known owed v) vs v may (due-named known word owed v may)

length-named : (known : Known) (owed : List ℕ) (value : ℕ) → length (named known owed value) ≤ length owed + 1
length-named (Unsure issues) owed value = omega (arith, length-append owed (value ∷ []))
length-named (Holds held) owed value = elim (cases_eq held value) [
  | inl same ↦ let t : (held == value) ≡ true = eq-eqb held value same in rw t (omega arith)
  | inr other ↦ let t : (held == value) ≡ false = ne_eqb held value other in rw t (omega (arith, length-append owed (value ∷ [])))
]

pub length-all_named : (known : Known) (owed vs : List ℕ) → length (all_named known owed vs) ≤ length owed + length vs
length-all_named known owed [] = omega arith
length-all_named known owed (v ∷ vs) = omega (arith, length-all_named known (named known owed v) vs, length-named known owed v)

-- THE VALUES OF RUNS

pub namings-append : (xs ys : List Run) (slave : ℕ) → namings (xs ++ ys) slave ≡ namings xs slave ++ namings ys slave
namings-append xs ys slave = flat_map-append (named_by slave) xs ys

pub values-append : (xs ys : List Run) (slave at : ℕ) → values (xs ++ ys) slave at ≡ values xs slave at ++ values ys slave at
values-append xs ys slave at = ap (values_of at) (namings-append xs ys slave) ∙ queue.values-append at (namings xs slave) (namings ys slave)

-- a value or none, as a list
abbrev some_value : Option ℕ → List ℕ
some_value None = []
some_value (Some v) = v ∷ []

-- neighbouring words from a place on
named-from : (first : ℕ) (words : List ℕ) (at : ℕ) → values_of at (named_from first words) ≡ some_value (if nat_le first at then slice_get words (at - first) else None)
named-from first [] at = elim (cases_lt at first) [
  | inl below ↦ let t : nat_le first at ≡ false = lt-leb first at (omega arith) in rw t refl
  | inr above ↦ let t : nat_le first at ≡ true = le-leb first at (omega arith) in rw t refl
]
named-from first (w ∷ words) at = elim (cases_eq first at) [
  | inl same ↦
      let t : (first == at) ≡ true = eq-eqb first at same in
      let le : nat_le first at ≡ true = le-leb first at (omega arith) in
      let past : nat_le (suc first) at ≡ false = lt-leb (suc first) at (omega arith) in
      let none : at - first ≡ 0 = omega arith in
      rw (t, le, none) (ap (λ (l : List ℕ). w ∷ l) (named-from (suc first) words at ∙ rw past refl))
  | inr other ↦ elim (cases_lt at first) [
    | inl below ↦
        let t : (first == at) ≡ false = ne_eqb first at other in
        let le : nat_le first at ≡ false = lt-leb first at (omega arith) in
        let past : nat_le (suc first) at ≡ false = lt-leb (suc first) at (omega arith) in
        rw (t, le) (named-from (suc first) words at ∙ rw past refl)
    | inr above ↦
        let t : (first == at) ≡ false = ne_eqb first at other in
        let le : nat_le first at ≡ true = le-leb first at (omega arith) in
        let past : nat_le (suc first) at ≡ true = le-leb (suc first) at (omega arith) in
        let one : at - first ≡ suc (at - suc first) = omega arith in
        rw (t, le, one) (named-from (suc first) words at ∙ rw past refl)
  ]
]

named-given : (run : Run) (slave at : ℕ) → values_of at (named_by slave run) ≡ some_value (given_by run slave at)
named-given run slave at = elim (cases_eq run.slave slave) [
  | inl mine ↦ let t : (run.slave == slave) ≡ true = eq-eqb run.slave slave mine in rw t (named-from run.first run.words at)
  | inr other ↦ let t : (run.slave == slave) ≡ false = ne_eqb run.slave slave other in rw t refl
]

-- a word is due what the last naming gives it
due-given : (given rest : Option ℕ) (word : ℕ) (vs : List ℕ) → ((w : ℕ) → unwrap_or rest w ≡ due w vs) → unwrap_or (option_or rest given) word ≡ due word (some_value given ++ vs)
due-given None None word vs is = is word
due-given None (Some r) word vs is = is word
due-given (Some v) None word vs is = is v
due-given (Some v) (Some r) word vs is = is v

pub redone-due : (runs : List Run) (slave at word : ℕ) → redone_word runs slave at word ≡ due word (values runs slave at)
redone-due [] slave at word = refl
redone-due (run ∷ runs) slave at word =
    due-given (given_by run slave at) (last_given runs slave at) word (values runs slave at) (redone-due runs slave at)
    ∙ ap (λ (l : List ℕ). due word (l ++ values runs slave at)) (sym (named-given run slave at))
    ∙ ap (due word) (sym (queue.values-append at (named_by slave run) (namings runs slave)))

-- THE STEPS

pub opened-fits : (slave at word : ℕ) → CellFits [] slave at word (opened word)
opened-fits slave at word = record { leads = λ w may. may; owed = omega arith }

-- a batch becomes live
pub owing-fits : (live runs : List Run) (slave at target : ℕ) (cell : Cell) → CellFits live slave at target cell
    → CellFits (live ++ runs) slave at (redone_word runs slave at target) (owing cell (values runs slave at))
owing-fits live runs slave at target cell fits = record {
  leads = λ w may. due-all_named cell.known w cell.owed (values runs slave at) target may (fits.leads w may) ∙ sym (redone-due runs slave at target);
  owed = omega (arith, fits.owed, length-all_named cell.known cell.owed (values runs slave at), ap length (values-append live runs slave at), length-append (values live slave at) (values runs slave at));
}

-- what is owed leads there from anything, where anything is owed
due-some : (a b : ℕ) (owed : List ℕ) → 0 < length owed → due a owed ≡ due b owed
due-some a b [] some = absurd (omega arith)
due-some a b (v ∷ vs) some = refl

pub held : (known : Known) → (word : ℕ) × MayBe known word
held (Holds value) = (value, refl)
held (Unsure issues) = (0, tt)

-- a word that is owed something is asked for
pub asked-fits : (live : List Run) (slave at target : ℕ) (cell : Cell) → 0 < length cell.owed → CellFits live slave at target cell → CellFits live slave at target (asked cell)
asked-fits live slave at target cell some fits =
    let h = held cell.known in
    record { leads = λ w may. due-some w h.0 cell.owed some ∙ fits.leads h.0 h.1; owed = fits.owed }

-- a word is written, whatever came to be owed meanwhile
pub written-fits : (live : List Run) (slave at target value issues : ℕ) (cell : Cell) → cell.known ≡ Unsure issues → CellFits live slave at target cell → CellFits live slave at target (written cell value)
written-fits live slave at target value issues cell unsure fits = record {
  leads = λ w may. due-all_named (Holds value) w [] cell.owed w may refl ∙ fits.leads w (subst (λ (k : Known). MayBe k w) (sym unsure) tt);
  owed = omega (arith, fits.owed, length-all_named (Holds value) [] cell.owed);
}

-- the older half is retired: what is owed is named by later runs
pub retired-fits : (older newer : List Run) (slave at target : ℕ) (cell : Cell) → length cell.owed ≤ length (values newer slave at) → CellFits (older ++ newer) slave at target cell → CellFits newer slave at target cell
retired-fits older newer slave at target cell settled fits = record { leads = fits.leads; owed = settled }

-- WHAT A POWER CUT LEAVES

named_or : (vs : List ℕ) → ((a b : ℕ) → due a vs ≡ due b vs) ⊎ (vs ≡ [])
named_or [] = inr refl
named_or (v ∷ vs) = inl (λ a b. refl)

no_owed : (owed : List ℕ) → length owed ≤ 0 → owed ≡ []
no_owed [] none = refl
no_owed (v ∷ vs) none = absurd (omega arith)

-- the contents are those after all runs so far, of which the live ones are the last
pub stop-leads : (retired live : List Run) (slave at own word : ℕ) (cell : Cell) → CellFits live slave at (redone_word (retired ++ live) slave at own) cell → MayBe cell.known word
    → redone_word live slave at word ≡ redone_word (retired ++ live) slave at own
stop-leads retired live slave at own word cell fits may =
    let all : redone_word (retired ++ live) slave at own ≡ due (due own (values retired slave at)) (values live slave at) =
    redone-due (retired ++ live) slave at own ∙ ap (due own) (values-append retired live slave at) ∙ due-append own (values retired slave at) (values live slave at) in
    elim (named_or (values live slave at)) [
      | inl some ↦ redone-due live slave at word ∙ some word (due own (values retired slave at)) ∙ sym all
      | inr none ↦
          let nothing : cell.owed ≡ [] = no_owed cell.owed (omega (arith, fits.owed, ap length none)) in
          redone-due live slave at word ∙ ap (due word) (none ∙ sym nothing) ∙ fits.leads word may
    ]
