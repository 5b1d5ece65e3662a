-- When a batch becomes live, its words are owed.
use Rattle.std.proofs.Common.{◌≡◌, inl, inr, ℕ, zero, suc, Bool, false, List, [], ◌∷◌, ◌++◌, length, get_or, refl, sym, ◌∙◌, ap, subst, arith}
use Rattle.sii_words.specs.declared.run.Run.{Run}
use Rattle.esc_model.specs.SlaveHalf.{SlaveHalf}
use Rattle.book_model.specs.Cells.{Known, Unsure, Cell, all_named, owing, cell_of}
use Rattle.book_model.specs.Entries.{values}
use Rattle.book_model.specs.Book.{Slave, Operation, NoOperation, Issuing, Unsettled, Settling, nobody, all_cells}
use Rattle.book_model.specs.Open.{owing_words, owing_slaves}
use Rattle.book_model.specs.Owed.{MayBe, IsAmong}
use Rattle.book_model.specs.Fits.{SameCells}
use Rattle.book_model.proofs.BookLaws.{cells_of, length-all_cells}
use Rattle.book_model.specs.Slaves.{Asks, OperationFits, SlaveFits}
use Rattle.book_model.specs.Up.{SlavesFit}
use Rattle.book_model.proofs.WornCounts.{owing-at}

-- ---- one slave

length-owing : (runs : List Run) (slave at : ℕ) (cells : List Cell) → length (owing_words runs slave at cells) ≡ length cells
length-owing runs slave at [] = refl
length-owing runs slave at (cell ∷ cells) = omega (arith, length-owing runs slave (suc at) cells)

among-first : (value : ℕ) (owed : List ℕ) (v : ℕ) → IsAmong value owed → IsAmong value (owed ++ v ∷ [])
among-first value [] v has = absurd has
among-first value (x ∷ owed) v (inl is) = inl is
among-first value (x ∷ owed) v (inr has) = inr (among-first value owed v has)

-- an unknown word owes what it owed, and more
among-named : (value issues : ℕ) (owed vs : List ℕ) → IsAmong value owed → IsAmong value (all_named (Unsure issues) owed vs)
among-named value issues owed [] has = has
among-named value issues owed (v ∷ vs) has = among-named value issues (owed ++ v ∷ []) vs (among-first value owed v has)

asks-owes : (slave word value : ℕ) (taken : Bool) (half : SlaveHalf) (cells : List Cell) (runs : List Run) (n : ℕ) → Asks slave word value taken half cells → Asks slave word value taken half (owing_words runs n 0 cells)
asks-owes slave word value taken half cells runs n asks =
    let cell = cell_of cells word in
    let o = owing-at runs n 0 cells word in
    record {
      inside = omega (arith, asks.inside, length-owing runs n 0 cells);
      unsure = (asks.unsure.0, ap (λ (c : Cell). c.known) o.1 ∙ asks.unsure.1);
      owed = subst (λ (c : Cell). IsAmong value c.owed) (sym o.1)
          (subst (λ (k : Known). IsAmong value (all_named k cell.owed o.0)) (sym asks.unsure.1) (among-named value asks.unsure.0 cell.owed o.0 asks.owed));
      took = asks.took;
    }

operation-owes : (slave : ℕ) (operation : Operation) (took : Bool) (half : SlaveHalf) (cells : List Cell) (runs : List Run) (n : ℕ) → OperationFits slave operation took half cells → OperationFits slave operation took half (owing_words runs n 0 cells)
operation-owes slave NoOperation took half cells runs n fits = tt
operation-owes slave (Issuing word value) took half cells runs n fits = asks-owes slave word value took half cells runs n fits
operation-owes slave (Unsettled word value taken) took half cells runs n fits = asks-owes slave word value taken half cells runs n fits
operation-owes slave (Settling word value taken) took half cells runs n fits = asks-owes slave word value taken half cells runs n fits

slave-owes : (slave : ℕ) (half : SlaveHalf) (operation : Operation) (took : Bool) (cells : List Cell) (runs : List Run) (n : ℕ) → SlaveFits slave half operation took cells → SlaveFits slave half operation took (owing_words runs n 0 cells)
slave-owes slave half operation took cells runs n fits = record {
  size = length-owing runs n 0 cells ∙ fits.size;
  words = λ left may at within.
      let o = owing-at runs n 0 cells at in
      subst (λ (c : Cell). MayBe c.known (get_or left at 0)) (sym o.1) (fits.words left may at (omega (arith, within, length-owing runs n 0 cells)));
  asks = operation-owes slave operation took half cells runs n fits.asks;
}

-- ---- all slaves

owing-slave : (runs : List Run) (first : ℕ) (slaves : List Slave) (i : ℕ)
    → (n : ℕ) × (get_or (owing_slaves runs first slaves) i nobody ≡ record (get_or slaves i nobody) { cells = owing_words runs n 0 (get_or slaves i nobody).cells })
owing-slave runs first [] i = (0, refl)
owing-slave runs first (s ∷ slaves) zero = (first, refl)
owing-slave runs first (s ∷ slaves) (suc i) = owing-slave runs (suc first) slaves i

pub length-owing_slaves : (runs : List Run) (first : ℕ) (slaves : List Slave) → length (owing_slaves runs first slaves) ≡ length slaves
length-owing_slaves runs first [] = refl
length-owing_slaves runs first (s ∷ slaves) = omega (arith, length-owing_slaves runs (suc first) slaves)

pub slaves-owe : (halves : List SlaveHalf) (slaves : List Slave) (took : List Bool) (runs : List Run) → SlavesFit halves slaves took → SlavesFit halves (owing_slaves runs 0 slaves) took
slaves-owe halves slaves took runs fit = record {
  count = fit.count ∙ sym (length-owing_slaves runs 0 slaves);
  took_count = fit.took_count ∙ sym (length-owing_slaves runs 0 slaves);
  each = λ i half is.
      let slave = get_or slaves i nobody in
      let o = owing-slave runs 0 slaves i in
      subst (λ (s : Slave). SlaveFits i half s.operation (get_or took i false) s.cells) (sym o.1) (slave-owes i half slave.operation (get_or took i false) slave.cells runs o.0 (fit.each i half is));
}

pub same-owing : (words : List (List ℕ)) (slaves : List Slave) (runs : List Run) → SameCells words (all_cells slaves) → SameCells words (all_cells (owing_slaves runs 0 slaves))
same-owing words slaves runs same = record {
  slaves = length-all_cells (owing_slaves runs 0 slaves) ∙ length-owing_slaves runs 0 slaves ∙ sym (length-all_cells slaves) ∙ same.slaves;
  words = λ k.
      let o = owing-slave runs 0 slaves k in
      ap length (cells_of (owing_slaves runs 0 slaves) k) ∙ ap (λ (s : Slave). length s.cells) o.1 ∙ length-owing runs o.0 0 (get_or slaves k nobody).cells
      ∙ sym (ap length (cells_of slaves k)) ∙ same.words k;
}
