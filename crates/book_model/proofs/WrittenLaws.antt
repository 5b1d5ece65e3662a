-- A word is written.
use Rattle.std.proofs.Common.{◌≡◌, ◌≢◌, inl, inr, ℕ, zero, suc, ◌+◌, ◌-◌, ◌<◌, ◌≤◌, true, false, List, [], ◌∷◌, ◌++◌, length, take, drop, set, refl, sym, ◌∙◌, ap, subst, arith, append_assoc}
use Rattle.std.specs.Prelude.{◌==◌}
use Rattle.std.proofs.lemmas.List.{append-nil, length-map, length-take, take-append-drop, drop-append-le, drop_more, get_or-take, drop-drop, length-take-le}
use Rattle.std.proofs.lemmas.Bool.{cases_eq}
use Rattle.book_model.specs.Cells.{Cell, Known, Holds, named, all_named, written}
use Rattle.book_model.specs.Cells.{cell_of}
use Rattle.book_model.specs.declared.due.Naming.{Naming}
use Rattle.book_model.specs.declared.due.Word.{Word}
use Rattle.book_model.specs.Pending.{Pending, values_of, word_written}
use Rattle.book_model.specs.Queue.{no_naming, pair_of, live_of, numbers_of, end_of, known_of, cell_for, cells_from, pending_of, word_at, naming_at, Stands, IsVacant, IsAfter}
use Rattle.book_model.proofs.EndLaws.{same_test, other_test, values-append, none-after, end-names, end-le}
use Rattle.book_model.proofs.QueueLaws.{live-at, cell-at, cell-set}

-- VALUES

pub all_named-append : (known : Known) (owed xs ys : List ℕ) → all_named known owed (xs ++ ys) ≡ all_named known (all_named known owed xs) ys
all_named-append known owed [] ys = refl
all_named-append known owed (x ∷ xs) ys = all_named-append known (named known owed x) xs ys

all_named-vacant : (value : ℕ) (owed ys : List ℕ) → IsVacant value ys → all_named (Holds value) owed ys ≡ owed ++ ys
all_named-vacant value owed [] vacant = sym (append-nil owed)
all_named-vacant value owed (y ∷ ys) vacant =
    let t : (value == y) ≡ false = other_test value y (λ is. vacant.0 (sym is)) in
    rw t (all_named-vacant value (owed ++ y ∷ []) ys vacant.1 ∙ append_assoc owed (y ∷ []) ys)

-- the value is named last before these
pub all_named-last : (value : ℕ) (xs ys : List ℕ) → IsVacant value ys → all_named (Holds value) [] (xs ++ value ∷ ys) ≡ ys
all_named-last value xs ys vacant =
    let t : (value == value) ≡ true = same_test value value refl in
    all_named-append (Holds value) [] xs (value ∷ ys) ∙ rw t (all_named-vacant value [] ys vacant)

-- FREE OF A VALUE

vacant-rest : (value at k : ℕ) (live : List (ℕ × ℕ)) → IsVacant value (values_of at live) → IsVacant value (values_of at (drop k live))
vacant-rest value at zero live vacant = vacant
vacant-rest value at (suc k) [] vacant = vacant
vacant-rest value at (suc k) (n ∷ ns) vacant = elim (cases_eq n.0 at) [
  | inl is ↦ let t = same_test n.0 at is in let f = rw t at vacant in vacant-rest value at k ns f.1
  | inr not ↦ let t = other_test n.0 at not in let f = rw t at vacant in vacant-rest value at k ns f
]

-- from a naming of the word on
split-live : (namings : List Naming) (p : ℕ) → p < length namings → drop p (live_of namings) ≡ pair_of (naming_at namings p) ∷ drop (p + 1) (live_of namings)
split-live namings p within =
    drop_more (live_of namings) p (pair_of no_naming) (omega (arith, length-map namings pair_of)) ∙ ap (λ (n : ℕ × ℕ). n ∷ drop (p + 1) (live_of namings)) (live-at namings p)

values-here : (namings : List Naming) (at p : ℕ) → p < length namings → (naming_at namings p).word ≡ at
    → values_of at (drop p (live_of namings)) ≡ (naming_at namings p).value ∷ values_of at (drop (p + 1) (live_of namings))
values-here namings at p within names =
    let t : ((naming_at namings p).word == at) ≡ true = same_test (naming_at namings p).word at names in
    ap (values_of at) (split-live namings p within) ∙ rw t refl

-- the namings from one place on, parted at a later one
values-split : (at m p : ℕ) (live : List (ℕ × ℕ)) → m ≤ p → p ≤ length live → values_of at (drop m live) ≡ values_of at (drop m (take p live)) ++ values_of at (drop p live)
values-split at m p live le within =
    ap (λ (l : List (ℕ × ℕ)). values_of at (drop m l)) (sym (take-append-drop p live))
    ∙ ap (values_of at) (drop-append-le m (take p live) (drop p live) (omega (arith, length-take-le p live within)))
    ∙ values-append at (drop m (take p live)) (drop p live)

-- BACKWARDS

pub after-last : (namings : List Naming) (words : List Word) (at value : ℕ) → Stands namings words → at < length words → IsAfter namings at value (word_at words at).end
after-last namings words at value stands inside =
    let e : (word_at words at).end ≡ end_of at (live_of namings) = (stands.each_word at inside).end in
    record {
      inside = omega (arith, end-le at (live_of namings), length-map namings pair_of);
      names = λ p is. ap (λ (n : ℕ × ℕ). n.0) (sym (live-at namings p)) ∙ end-names at p (live_of namings) (pair_of no_naming) (sym e ∙ is);
      vacant = rw (none-after at (word_at words at).end (live_of namings) (omega arith)) tt;
    }

after-before : (namings : List Naming) (at value p : ℕ) → IsAfter namings at value (suc p) → p < length namings → (naming_at namings p).value ≢ value
    → IsAfter namings at value (end_of at (take p (live_of namings)))
after-before namings at value p after within other =
    let live = live_of namings in
    let place = end_of at (take p live) in
    let low : place ≤ p = omega (arith, end-le at (take p live), length-take p live) in
    let all : p ≤ length live = omega (arith, length-map namings pair_of) in
    let none : values_of at (drop place (take p live)) ≡ [] = none-after at place (take p live) (omega arith) in
    let names : (naming_at namings p).word ≡ at = after.names p refl in
    let values : values_of at (drop place live) ≡ (naming_at namings p).value ∷ values_of at (drop (p + 1) live) =
    values-split at place p live low all ∙ ap (λ (l : List ℕ). l ++ values_of at (drop p live)) none ∙ values-here namings at p within names in
    let next : suc p ≡ p + 1 = omega arith in
    let vacant : IsVacant value (values_of at (drop (p + 1) live)) = subst (λ (n : ℕ). IsVacant value (values_of at (drop n live))) next after.vacant in
    record {
      inside = omega arith;
      names = λ q is. ap (λ (n : ℕ × ℕ). n.0) (sym (live-at namings q) ∙ sym (get_or-take p live q (pair_of no_naming) (omega arith))) ∙ end-names at q (take p live) (pair_of no_naming) is;
      vacant = subst (IsVacant value) (sym values) (other, vacant);
    }

-- as the code steps back
pub after-more : (namings : List Naming) (words : List Word) (at value place : ℕ) → Stands namings words → IsAfter namings at value place → 0 < place
    → (naming_at namings (place - 1)).value ≢ value → (IsAfter namings at value (naming_at namings (place - 1)).before) × ((naming_at namings (place - 1)).before < place)
after-more namings words at value zero stands after some other = absurd (omega arith)
after-more namings words at value (suc p) stands after some other =
    let within : p < length namings = omega (arith, after.inside) in
    let less : suc p - 1 ≡ p = omega arith in
    let is : (naming_at namings p).before ≡ end_of at (take p (live_of namings)) =
    (stands.each_naming p within).before ∙ ap (λ (k : ℕ). end_of k (take p (live_of namings))) (after.names p refl) in
    let differs : (naming_at namings p).value ≢ value = subst (λ (k : ℕ). (naming_at namings k).value ≢ value) less other in
    subst (λ (k : ℕ). (IsAfter namings at value (naming_at namings k).before) × ((naming_at namings k).before < suc p)) (sym less) (
      subst (IsAfter namings at value) (sym is) (after-before namings at value p after within differs),
      omega (arith, end-le at (take p (live_of namings)), length-take p (live_of namings)),
    )

-- where it ends
pub rest-at-mark : (namings : List Naming) (at value place mark : ℕ) → IsAfter namings at value place → place ≤ mark
    → values_of at (drop mark (live_of namings)) ≡ all_named (Holds value) [] (values_of at (drop mark (live_of namings)))
rest-at-mark namings at value place mark after le =
    let live = live_of namings in
    let sum : place + (mark - place) ≡ mark = omega arith in
    let vacant : IsVacant value (values_of at (drop mark live)) =
    subst (λ (n : ℕ). IsVacant value (values_of at (drop n live))) sum
    (subst (λ (l : List (ℕ × ℕ)). IsVacant value (values_of at l)) (drop-drop (mark - place) place live) (vacant-rest value at (mark - place) (drop place live) after.vacant)) in
    sym (all_named-vacant value [] (values_of at (drop mark live)) vacant)

pub rest-after : (namings : List Naming) (at value place mark : ℕ) → IsAfter namings at value place → mark < place → (naming_at namings (place - 1)).value ≡ value
    → values_of at (drop place (live_of namings)) ≡ all_named (Holds value) [] (values_of at (drop mark (live_of namings)))
rest-after namings at value zero mark after lt same = absurd (omega arith)
rest-after namings at value (suc p) mark after lt same =
    let live = live_of namings in
    let within : p < length namings = omega (arith, after.inside) in
    let less : suc p - 1 ≡ p = omega arith in
    let v : (naming_at namings p).value ≡ value = subst (λ (k : ℕ). (naming_at namings k).value ≡ value) less same in
    let next : p + 1 ≡ suc p = omega arith in
    let values : values_of at (drop mark live) ≡ values_of at (drop mark (take p live)) ++ value ∷ values_of at (drop (suc p) live) =
    values-split at mark p live (omega arith) (omega (arith, length-map namings pair_of))
    ∙ ap (λ (l : List ℕ). values_of at (drop mark (take p live)) ++ l) (values-here namings at p within (after.names p refl) ∙ ap (λ (k : ℕ). k ∷ values_of at (drop (p + 1) live)) v ∙ ap (λ (k : ℕ). value ∷ values_of at (drop k live)) next) in
    sym (ap (all_named (Holds value) []) values ∙ all_named-last value (values_of at (drop mark (take p live))) (values_of at (drop (suc p) live)) after.vacant)

-- a word's cell, written
pub writes : (namings : List Naming) (words : List Word) (room at value : ℕ) (word : Word) → at < length words → known_of word.held ≡ Holds value
    → values_of at (drop word.mark (live_of namings)) ≡ all_named (Holds value) [] (values_of at (drop (word_at words at).mark (live_of namings)))
    → pending_of namings (set words at word) room ≡ word_written (pending_of namings words room) at value
writes namings words room at value word within holds owed =
    let live = live_of namings in
    let here : cell_for live at word ≡ written (cell_of (cells_from live 0 words) at) value =
    ap (λ (k : Known). let c : Cell = record { known = k; owed = values_of at (drop word.mark live) } in c) holds
    ∙ ap (λ (l : List ℕ). let c : Cell = record { known = Holds value; owed = l } in c) owed
    ∙ sym (ap (λ (c : Cell). written c value) (cell-at live words at within)) in
    ap (λ (l : List Cell). let p : Pending = record { cells = l; live = live; numbers = numbers_of namings; room = room } in p) (cell-set live words at word ∙ ap (λ (c : Cell). set (cells_from live 0 words) at c) here)
