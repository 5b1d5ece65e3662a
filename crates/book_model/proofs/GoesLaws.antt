-- Up stays true when one slave changes.
use Rattle.std.proofs.Common.{◌≡◌, ◌≢◌, ◌⊎◌, inl, inr, ℕ, zero, suc, ◌<◌, ◌≤◌, Bool, false, List, [], ◌∷◌, length, get_or, set, refl, sym, ◌∙◌, ap, subst, arith, length-set, Some}
use Rattle.std.specs.Prelude.{slice_get}
use Rattle.std.proofs.lemmas.List.{get_or-set_same, get_or-set_other}
use Rattle.std.proofs.lemmas.Bool.{cases_eq}
use Rattle.sii_words.specs.declared.run.Run.{Run}
use Rattle.esc_model.specs.SlaveHalf.{SlaveHalf, MayRest}
use Rattle.site_core.specs.State.{State, with_half}
use Rattle.book_model.specs.Cells.{cell_of}
use Rattle.book_model.specs.declared.fault.Fault.{Fault}
use Rattle.book_model.specs.Book.{Book, Slave, nobody, all_cells, cell_at, slave_at, with_slave, with_fault}
use Rattle.book_model.specs.Machine.{Machine}
use Rattle.book_model.specs.Fits.{BookFits, SameCells}
use Rattle.book_model.specs.Frame.{JournalFrame}
use Rattle.book_model.proofs.BookLaws.{cells_of, length-all_cells}
use Rattle.book_model.proofs.CarryLaws.{Carries}
use Rattle.book_model.proofs.FormLaws.{journal-same, journal-faulted}
use Rattle.book_model.specs.Slaves.{SlaveFits}
use Rattle.book_model.specs.Up.{SlavesFit, Up}
use Rattle.book_model.proofs.SlaveLaws.{slave-rests}

-- ---- one half of many

half-here : (halves : List SlaveHalf) (i : ℕ) (later half : SlaveHalf) → slice_get (set halves i later) i ≡ Some half → later ≡ half
half-here [] i later half is = absurd cc
half-here (h ∷ halves) zero later half is = cc
half-here (h ∷ halves) (suc i) later half is = half-here halves i later half is

half-other : (halves : List SlaveHalf) (i k : ℕ) (later : SlaveHalf) → k ≢ i → slice_get (set halves i later) k ≡ slice_get halves k
half-other [] i k later other = refl
half-other (h ∷ halves) zero zero later other = absurd (other refl)
half-other (h ∷ halves) zero (suc k) later other = refl
half-other (h ∷ halves) (suc i) zero later other = refl
half-other (h ∷ halves) (suc i) (suc k) later other = half-other halves i k later (λ e. other (ap suc e))

-- ---- one slave of many

-- What has to hold of a slave that changes.
pub record SlaveGoes (book : Book) (i : ℕ) (slave : Slave) (later : SlaveHalf) (took : Bool) : Type 0 where
  pub fits : (gone : List Run) → BookFits book gone → BookFits (with_slave book i slave) gone
  pub here : SlaveFits i later slave.operation took slave.cells
  pub count : length slave.cells ≡ length (slave_at book i).cells
  pub owes : (at : ℕ) → length (cell_of slave.cells at).owed ≤ length (cell_of (slave_at book i).cells at).owed

same-goes : (words : List (List ℕ)) (slaves : List Slave) (i : ℕ) (slave : Slave) → i < length slaves → length slave.cells ≡ length (get_or slaves i nobody).cells → SameCells words (all_cells slaves)
    → SameCells words (all_cells (set slaves i slave))
same-goes words slaves i slave within count same = record {
  slaves = length-all_cells (set slaves i slave) ∙ length-set slaves i slave ∙ sym (length-all_cells slaves) ∙ same.slaves;
  words = λ k. ap length (cells_of (set slaves i slave) k) ∙ one k (cases_eq k i) ∙ sym (ap length (cells_of slaves k)) ∙ same.words k;
}
  where
    one : (k : ℕ) → (k ≡ i) ⊎ (k ≢ i) → length (get_or (set slaves i slave) k nobody).cells ≡ length (get_or slaves k nobody).cells
    one k (inl here) = subst (λ (n : ℕ). length (get_or (set slaves i slave) n nobody).cells ≡ length (get_or slaves n nobody).cells) (sym here) (ap (λ (s : Slave). length s.cells) (get_or-set_same slaves i slave nobody within) ∙ count)
    one k (inr other) = ap (λ (s : Slave). length s.cells) (get_or-set_other slaves i k slave nobody other)

owes-less : (slaves : List Slave) (i : ℕ) (slave : Slave) → i < length slaves → ((at : ℕ) → length (cell_of slave.cells at).owed ≤ length (cell_of (get_or slaves i nobody).cells at).owed)
    → (k at : ℕ) → length (cell_at (all_cells (set slaves i slave)) k at).owed ≤ length (cell_at (all_cells slaves) k at).owed
owes-less slaves i slave within owes k at = rw (cells_of (set slaves i slave) k, cells_of slaves k) (one (cases_eq k i))
  where
    one : (k ≡ i) ⊎ (k ≢ i) → length (cell_of (get_or (set slaves i slave) k nobody).cells at).owed ≤ length (cell_of (get_or slaves k nobody).cells at).owed
    one (inl here) = subst (λ (n : ℕ). length (cell_of (get_or (set slaves i slave) n nobody).cells at).owed ≤ length (cell_of (get_or slaves n nobody).cells at).owed) (sym here)
        (rw (get_or-set_same slaves i slave nobody within) (owes at))
    one (inr other) = rw (get_or-set_other slaves i k slave nobody other) (omega arith)

slaves-go : (halves : List SlaveHalf) (slaves : List Slave) (took : List Bool) (i : ℕ) (slave : Slave) (later : SlaveHalf) (t : Bool) → i < length slaves → SlaveFits i later slave.operation t slave.cells → SlavesFit halves slaves took
    → SlavesFit (set halves i later) (set slaves i slave) (set took i t)
slaves-go halves slaves took i slave later t within here fit = record {
  count = length-set halves i later ∙ fit.count ∙ sym (length-set slaves i slave);
  took_count = length-set took i t ∙ fit.took_count ∙ sym (length-set slaves i slave);
  each = λ k half is. one k half (cases_eq k i) is;
}
  where
    one : (k : ℕ) (half : SlaveHalf) → (k ≡ i) ⊎ (k ≢ i) → slice_get (set halves i later) k ≡ Some half
        → SlaveFits k half (get_or (set slaves i slave) k nobody).operation (get_or (set took i t) k false) (get_or (set slaves i slave) k nobody).cells
    one k half (inl same) is =
        let half_is : later ≡ half = half-here halves i later half (subst (λ (n : ℕ). slice_get (set halves i later) n ≡ Some half) same is) in
        subst (λ (n : ℕ). SlaveFits n half (get_or (set slaves i slave) n nobody).operation (get_or (set took i t) n false) (get_or (set slaves i slave) n nobody).cells) (sym same)
        (rw (get_or-set_same slaves i slave nobody within, get_or-set_same took i t false (omega (arith, fit.took_count)), ← half_is) here)
    one k half (inr other) is =
        rw (get_or-set_other slaves i k slave nobody other, get_or-set_other took i k t false other) (fit.each k half (sym (half-other halves i k later other) ∙ is))

pub slave-goes : (frame : JournalFrame) (book : Book) (state : State) (took : List Bool) (m : Machine) (i : ℕ) (slave : Slave) (later : SlaveHalf) (t : Bool) → Up frame book state took m → i < length book.slaves
    → SlaveGoes book i slave later t → Up frame (with_slave book i slave) (with_half state i later) (set took i t) m
slave-goes frame book state took m i slave later t up within goes =
    let less = owes-less book.slaves i slave within goes.owes in
    let carries : Carries book (with_slave book i slave) = record {
      halves = refl;
      appends = λ place entries a. a;
      retires = λ r. record { settled = λ s at there inside. let before = r.settled s at there inside in omega (arith, before, less s at); some = r.some };
    } in
    record {
      line = record { is_frame = up.line.is_frame; slaves = up.line.slaves; capacity = up.line.capacity; within = up.line.within };
      of = record { base = up.of.base; accepted = up.of.accepted; acknowledged = up.of.acknowledged };
      gone = up.gone;
      fits = goes.fits up.gone up.fits;
      same = same-goes book.words book.slaves i slave within goes.count up.same;
      disk = journal-same frame book (with_slave book i slave) state.disk (record { carries = carries; form = refl; doing = refl; out = refl; failed = refl }) up.disk;
      slaves = slaves-go state.halves book.slaves took i slave later t within goes.here up.slaves;
      pending = record { each = up.pending.each; within = up.pending.within; few = up.pending.few };
      ordered = up.ordered;
      after = up.after;
      no_command = up.no_command;
      no_migration = up.no_migration;
    }

-- ---- becoming idle

halves-rest : (halves : List SlaveHalf) (slaves : List Slave) (took : List Bool) (i : ℕ) (half later : SlaveHalf) → slice_get halves i ≡ Some half → MayRest half later → SlavesFit halves slaves took → SlavesFit (set halves i later) slaves took
halves-rest halves slaves took i half later there rest fit = record {
  count = length-set halves i later ∙ fit.count;
  took_count = fit.took_count;
  each = λ k other is. one k other (cases_eq k i) is;
}
  where
    one : (k : ℕ) (other : SlaveHalf) → (k ≡ i) ⊎ (k ≢ i) → slice_get (set halves i later) k ≡ Some other
        → SlaveFits k other (get_or slaves k nobody).operation (get_or took k false) (get_or slaves k nobody).cells
    one k other (inl same) is =
        let later_is : later ≡ other = half-here halves i later other (subst (λ (n : ℕ). slice_get (set halves i later) n ≡ Some other) same is) in
        subst (λ (n : ℕ). SlaveFits n other (get_or slaves n nobody).operation (get_or took n false) (get_or slaves n nobody).cells) (sym same)
        (subst (λ (h : SlaveHalf). SlaveFits i h (get_or slaves i nobody).operation (get_or took i false) (get_or slaves i nobody).cells) later_is
        (slave-rests i half later (get_or slaves i nobody).operation (get_or took i false) (get_or slaves i nobody).cells rest (fit.each i half there)))
    one k other (inr separate) is = fit.each k other (sym (half-other halves i k later separate) ∙ is)

pub up-rests : (frame : JournalFrame) (book : Book) (state : State) (took : List Bool) (m : Machine) (i : ℕ) (half later : SlaveHalf) → Up frame book state took m → slice_get state.halves i ≡ Some half → MayRest half later
    → Up frame book (with_half state i later) took m
up-rests frame book state took m i half later up there rest = record {
  line = up.line;
  of = up.of;
  gone = up.gone;
  fits = up.fits;
  same = up.same;
  disk = up.disk;
  slaves = halves-rest state.halves book.slaves took i half later there rest up.slaves;
  pending = up.pending;
  ordered = up.ordered;
  after = up.after;
  no_command = up.no_command;
  no_migration = up.no_migration;
}

-- ---- a fault

pub up-faulted : (frame : JournalFrame) (book : Book) (state : State) (took : List Bool) (m : Machine) (fault : Fault) → Up frame book state took m → Up frame (with_fault book fault) state took m
up-faulted frame book state took m fault up =
    record {
      line = record { is_frame = up.line.is_frame; slaves = up.line.slaves; capacity = up.line.capacity; within = up.line.within };
      of = record { base = up.of.base; accepted = up.of.accepted; acknowledged = up.of.acknowledged };
      gone = up.gone;
      fits = up.fits;
      same = up.same;
      disk = journal-faulted frame book state.disk fault up.disk;
      slaves = up.slaves;
      pending = record { each = up.pending.each; within = up.pending.within; few = up.pending.few };
      ordered = up.ordered;
      after = up.after;
      no_command = up.no_command;
      no_migration = up.no_migration;
    }
