-- What each step of a slave keeps of its wear.
use Rattle.std.proofs.Common.{◌≡◌, ◌≢◌, ◌⊎◌, inl, inr, ℕ, suc, ◌+◌, ◌*◌, ◌<◌, ◌≤◌, Bool, true, false, List, [], ◌∷◌, ◌++◌, length, set, refl, sym, subst, arith, length-append}
use Rattle.std.specs.Prelude.{◌==◌}
use Rattle.std.proofs.lemmas.Bool.{cases_eq, eq-eqb}
use Rattle.std.proofs.lemmas.Bool.Decides.{nat_tests}
use Rattle.std.proofs.lemmas.List.{get_or-set_same, get_or-set_other}
use Rattle.std.proofs.lemmas.List.Sums.{sum_by-set}
use Rattle.sii_words.specs.declared.run.Run.{Run}
use Rattle.book_model.specs.Cells.{Known, Holds, Unsure, Cell, nothing, named, all_named, asked, written, owing, next_issue, since, cell_of}
use Rattle.book_model.specs.Entries.{namings}
use Rattle.book_model.specs.Book.{Slave, Operation, NoOperation, Issuing, Unsettled, Settling, IsAbout}
use Rattle.book_model.specs.Open.{owing_words}
use Rattle.book_model.specs.RomSteps.{is_last}
use Rattle.book_model.specs.Owed.{IsAmong}
use Rattle.book_model.proofs.CellLaws.{length-all_named}
use Rattle.book_model.specs.Worn.{owed_in, since_in, SlaveWorn}
use Rattle.book_model.proofs.WornCounts.{owed-first, since-first, owed-grows, since-stays, owing-at}

-- ---- one cell of many

-- a fact of each cell, where one is another now
each-cell : (P : ℕ → Cell → Type 0) (cells : List Cell) (word : ℕ) (cell : Cell) → word < length cells → P word cell → ((at : ℕ) → at ≢ word → P at (cell_of cells at)) → (at : ℕ) → P at (cell_of (set cells word cell) at)
each-cell P cells word cell inside here others at = elim (cases_eq at word) [
  | inl same ↦ subst (λ (n : ℕ). P n (cell_of (set cells word cell) n)) (sym same) (subst (P word) (sym (get_or-set_same cells word cell nothing inside)) here)
  | inr other ↦ subst (P at) (sym (get_or-set_other cells word at cell nothing other)) (others at other)
]

-- ---- an issue

next-since : (known : Known) → next_issue known ≡ since known + 1
next-since (Holds value) = omega arith
next-since (Unsure issues) = omega arith

of-vacant : (operation : Operation) (at : ℕ) → operation ≡ NoOperation → IsAbout operation at → ⊥
of-vacant NoOperation at is of = of
of-vacant (Issuing word value) at is of = absurd cc
of-vacant (Unsettled word value taken) at is of = absurd cc
of-vacant (Settling word value taken) at is of = absurd cc

-- of a slave that is free each word is known after two issues at most
vacant-calm : (named : ℕ) (slave : Slave) → slave.operation ≡ NoOperation → SlaveWorn named false slave → (at : ℕ) → since (cell_of slave.cells at).known ≤ 2
vacant-calm named slave vacant worn at = elim (worn.calm refl at) [ inl calm ↦ calm | inr of ↦ absurd (of-vacant slave.operation at vacant of) ]

pub worn-asked : (named : ℕ) (slave : Slave) (word value : ℕ) (failed : Bool) → slave.operation ≡ NoOperation → word < length slave.cells → 0 < length (cell_of slave.cells word).owed → SlaveWorn named false slave
    → SlaveWorn named failed (record { cells = set slave.cells word (asked (cell_of slave.cells word)); operation = Issuing word value; issues = slave.issues + 1 })
worn-asked named slave word value failed vacant inside some worn =
    let cell = cell_of slave.cells word in
    let before = vacant-calm named slave vacant worn in
    let here = before word in
    let next = next-since cell.known in
    let most = worn.most in
    record {
      few = omega (arith, worn.few, next, sum_by-set (λ (c : Cell). length c.owed) slave.cells word (asked cell) nothing inside, sum_by-set (λ (c : Cell). since c.known) slave.cells word (asked cell) nothing inside);
      most = each-cell (λ at c. since c.known ≤ 3 * length c.owed) slave.cells word (asked cell) inside (omega (arith, here, next)) (λ at other. most at);
      three = each-cell (λ at c. since c.known ≤ 3) slave.cells word (asked cell) inside (omega (arith, here, next)) (λ at other. worn.three at);
      calm = λ ok. each-cell (λ at c. (since c.known ≤ 2) ⊎ (word ≡ at)) slave.cells word (asked cell) inside (inr refl) (λ at other. inl (before at));
    }

-- ---- its outcome

-- the book does something else with the slave, about the same word
pub worn-operation : (named : ℕ) (failed : Bool) (slave : Slave) (operation : Operation) → ((at : ℕ) → IsAbout slave.operation at → IsAbout operation at) → SlaveWorn named failed slave → SlaveWorn named failed (record slave { operation = operation })
worn-operation named failed slave operation same worn = record {
  few = worn.few;
  most = worn.most;
  three = worn.three;
  calm = λ ok at. elim (worn.calm ok at) [ inl calm ↦ inl calm | inr of ↦ inr (same at of) ];
}

-- in a fault, whatever it does
pub worn-failed : (named : ℕ) (failed : Bool) (slave : Slave) (operation : Operation) → SlaveWorn named failed slave → SlaveWorn named true (record slave { operation = operation })
worn-failed named failed slave operation worn = record { few = worn.few; most = worn.most; three = worn.three; calm = λ ok. absurd cc }

not-last : (known : Known) → is_last known ≡ false → since known ≤ 2
not-last (Holds value) is = omega arith
not-last (Unsure issues) is = grind (arith, nat_tests)

-- the word has to be issued again, and was issued fewer than three times
pub worn-again : (named : ℕ) (failed : Bool) (slave : Slave) (word value : ℕ) (taken : Bool) → slave.operation ≡ Settling word value taken → is_last (cell_of slave.cells word).known ≡ false → SlaveWorn named failed slave
    → SlaveWorn named failed (record slave { operation = NoOperation })
worn-again named failed slave word value taken is last worn = record {
  few = worn.few;
  most = worn.most;
  three = worn.three;
  calm = λ ok at. elim (worn.calm ok at) [
    | inl calm ↦ inl calm
    | inr of ↦
        let here : word ≡ at = subst (λ (e : Operation). IsAbout e at) is of in
        inl (subst (λ (n : ℕ). since (cell_of slave.cells n).known ≤ 2) here (not-last (cell_of slave.cells word).known last))
  ];
}

shorter : (value : ℕ) (owed vs : List ℕ) → IsAmong value vs → length (all_named (Holds value) owed vs) + 1 ≤ length vs
shorter value owed [] has = absurd has
shorter value owed (v ∷ vs) (inl same) =
    let t : (value == v) ≡ true = eq-eqb value v (sym same) in
    rw t (omega (arith, length-all_named (Holds value) [] vs))
shorter value owed (v ∷ vs) (inr has) = omega (arith, shorter value (named (Holds value) owed v) vs has)

-- the word is written, and a naming at least is settled
pub worn-written : (count : ℕ) (failed : Bool) (slave : Slave) (word value : ℕ) (taken : Bool) → slave.operation ≡ Settling word value taken → word < length slave.cells → IsAmong value (cell_of slave.cells word).owed → SlaveWorn count failed slave
    → SlaveWorn count failed (record slave { cells = set slave.cells word (written (cell_of slave.cells word) value); operation = NoOperation })
worn-written count failed slave word value taken is inside has worn =
    let cell = cell_of slave.cells word in
    let new = written cell value in
    let three = worn.three word in
    let less = shorter value [] cell.owed has in
    record {
      few = omega (arith, worn.few, three, less, sum_by-set (λ (c : Cell). length c.owed) slave.cells word new nothing inside, sum_by-set (λ (c : Cell). since c.known) slave.cells word new nothing inside);
      most = each-cell (λ at c. since c.known ≤ 3 * length c.owed) slave.cells word new inside (omega arith) (λ at other. worn.most at);
      three = each-cell (λ at c. since c.known ≤ 3) slave.cells word new inside (omega arith) (λ at other. worn.three at);
      calm = λ ok. each-cell (λ at c. (since c.known ≤ 2) ⊎ IsAbout NoOperation at) slave.cells word new inside (inl (omega arith)) (λ at other. elim (worn.calm ok at) [
        | inl calm ↦ inl calm
        | inr of ↦ let here : word ≡ at = subst (λ (e : Operation). IsAbout e at) is of in absurd (other (sym here))
      ]);
    }

-- ---- a batch becomes live

unsure-owing : (known : Known) (owed vs : List ℕ) → since known ≤ 3 * length owed → since known ≤ 3 * length (all_named known owed vs)
unsure-owing (Holds value) owed vs most = omega arith
unsure-owing (Unsure issues) owed [] most = most
unsure-owing (Unsure issues) owed (v ∷ vs) most = unsure-owing (Unsure issues) (owed ++ v ∷ []) vs (omega (arith, most, length-append owed (v ∷ [])))

pub worn-owing : (count : ℕ) (failed : Bool) (slave : Slave) (runs : List Run) (i : ℕ) → SlaveWorn count failed slave → SlaveWorn (count + length (namings runs i)) failed (record slave { cells = owing_words runs i 0 slave.cells })
worn-owing count failed slave runs i worn = record {
  few = omega (arith, worn.few, owed-grows runs i slave.cells, since-stays runs i 0 slave.cells);
  most = λ at. of-each at (λ c. since c.known ≤ 3 * length c.owed) (λ vs. unsure-owing (cell_of slave.cells at).known (cell_of slave.cells at).owed vs (worn.most at));
  three = λ at. of-each at (λ c. since c.known ≤ 3) (λ vs. worn.three at);
  calm = λ ok at. of-each at (λ c. (since c.known ≤ 2) ⊎ IsAbout slave.operation at) (λ vs. worn.calm ok at);
}
  where
    of-each : (at : ℕ) (P : Cell → Type 0) → ((vs : List ℕ) → P (owing (cell_of slave.cells at) vs)) → P (cell_of (owing_words runs i 0 slave.cells) at)
    of-each at P each = let o = owing-at runs i 0 slave.cells at in subst P (sym o.1) (each o.0)

-- ---- what follows

since-few : (cells : List Cell) → ((at : ℕ) → since (cell_of cells at).known ≤ 3 * length (cell_of cells at).owed) → since_in cells ≤ 3 * owed_in cells
since-few [] most = omega arith
since-few (c ∷ cells) most = omega (arith, most 0, since-few cells (λ at. most (suc at)), since-first c cells, owed-first c cells)

pub few-issues : (count : ℕ) (failed : Bool) (slave : Slave) → SlaveWorn count failed slave → slave.issues ≤ 3 * count
few-issues count failed slave worn = omega (arith, worn.few, since-few slave.cells worn.most)
