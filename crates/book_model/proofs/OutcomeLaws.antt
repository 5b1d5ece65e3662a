-- Up stays true when an action on a slave ends, and when a settle is handed out.
use Rattle.std.proofs.Common.{◌≡◌, ◌⊎◌, inl, inr, ℕ, zero, suc, ◌<◌, Bool, true, false, List, [], ◌∷◌, length, get_or, set, refl, sym, ap, subst, arith, Some}
use Rattle.std.proofs.lemmas.Bool.{lt-ltb}
use Rattle.std.specs.Prelude.{slice_get, is_some, nat_lt}
use Rattle.std.proofs.lemmas.List.{set-get_or}
use Rattle.esc_model.specs.SlaveHalf.{SlaveHalf}
use Rattle.esc_model.specs.WordAccess.{IsWell, OnlyRests}
use Rattle.site_core.specs.declared.answers.Issued.{Issued}
use Rattle.site_core.specs.declared.answers.Settled.TheVariants as settled
use Rattle.site_core.specs.State.{State, with_half}
use Rattle.book_model.specs.declared.next.RomOutcome.TheVariants as outcomes
use Rattle.book_model.specs.Cells.{cell_of}
use Rattle.book_model.specs.declared.fault.Fault.TheVariants as faults
use Rattle.book_model.specs.Book.{Book, Operation, NoOperation, Issuing, Unsettled, Settling, slave_at, with_fault}
use Rattle.book_model.specs.RomSteps.{is_last, with_again, with_operation, with_written, was_taken, rom_next, rom_done}
use Rattle.book_model.specs.Machine.{Machine}
use Rattle.book_model.specs.Frame.{JournalFrame}
use Rattle.book_model.specs.Slaves.{SlaveFits}
use Rattle.book_model.specs.Up.{Up}
use Rattle.book_model.proofs.SlaveLaws.{slave-freed, slave-issued, slave-settles}
use Rattle.book_model.proofs.LineLaws.{half-there}
use Rattle.book_model.proofs.GoesLaws.{up-faulted}
use Rattle.book_model.proofs.RomLaws.{up-operation, up-written}

pub set-same : (halves : List SlaveHalf) (i : ℕ) (half : SlaveHalf) → slice_get halves i ≡ Some half → set halves i half ≡ halves
set-same [] i half is = refl
set-same (h ∷ halves) zero half is = let e : h ≡ half = cc in ap (λ (x : SlaveHalf). x ∷ halves) (sym e)
set-same (h ∷ halves) (suc i) half is = ap (λ (l : List SlaveHalf). h ∷ l) (set-same halves i half is)

-- a half that is set to what it is
up-unmoved : (frame : JournalFrame) (book : Book) (state : State) (took : List Bool) (m : Machine) (i : ℕ) (half : SlaveHalf) → slice_get state.halves i ≡ Some half
    → Up frame book (with_half state i half) (set took i (get_or took i false)) m → Up frame book state took m
up-unmoved frame book state took m i half there up =
    subst (λ (t : List Bool). Up frame book state t m) (set-get_or took i false)
    (subst (λ (l : List SlaveHalf). Up frame book (record state { halves = l }) (set took i (get_or took i false)) m) (set-same state.halves i half there) up)

-- the book does something else with a slave, whose half stays as it is
up-only_operation : (frame : JournalFrame) (book : Book) (state : State) (took : List Bool) (m : Machine) (i : ℕ) (operation : Operation) → Up frame book state took m → i < length book.slaves
    → ((half : SlaveHalf) → SlaveFits i half (slave_at book i).operation (get_or took i false) (slave_at book i).cells → SlaveFits i half operation (get_or took i false) (slave_at book i).cells)
    → Up frame (with_operation book i operation) state took m
up-only_operation frame book state took m i operation up within goes =
    let h = half-there state.halves i (omega (arith, within, up.slaves.count)) in
    up-unmoved frame (with_operation book i operation) state took m i h.0 h.1 (up-operation frame book state took m i h.0 operation (get_or took i false) up within (goes h.0 (up.slaves.each i h.0 h.1)))

-- ---- an issue comes back

issued-as : (i : ℕ) (half : SlaveHalf) (operation : Operation) (took said : Bool) (book : Book) (word value : ℕ) → operation ≡ Issuing word value → (said ≡ true → took ≡ true) → SlaveFits i half operation took (slave_at book i).cells
    → SlaveFits i half (Unsettled word value said) took (slave_at book i).cells
issued-as i half operation took said book word value is so fits =
    slave-issued i half word value took said took (slave_at book i).cells so (subst (λ (e : Operation). SlaveFits i half e took (slave_at book i).cells) is fits)

pub up-issued : (frame : JournalFrame) (book : Book) (state : State) (took : List Bool) (m : Machine) (i word value : ℕ) (issued : Issued) → Up frame book state took m → i < length book.slaves → (slave_at book i).operation ≡ Issuing word value
    → (was_taken issued ≡ true → get_or took i false ≡ true) → Up frame (rom_done book i (outcomes.Issued issued)) state took m
up-issued frame book state took m i word value issued up within is so =
    let done : rom_done book i (outcomes.Issued issued) ≡ with_operation book i (Unsettled word value (was_taken issued)) = rw is refl in
    subst (λ (b : Book). Up frame b state took m) (sym done)
    (up-only_operation frame book state took m i (Unsettled word value (was_taken issued)) up within
    (λ half fits. issued-as i half (slave_at book i).operation (get_or took i false) (was_taken issued) book word value is so fits))

-- ---- its settle is handed out

settles-as : (i : ℕ) (half : SlaveHalf) (operation : Operation) (took taken : Bool) (book : Book) (word value : ℕ) → operation ≡ Unsettled word value taken → SlaveFits i half operation took (slave_at book i).cells
    → SlaveFits i half (Settling word value taken) took (slave_at book i).cells
settles-as i half operation took taken book word value is fits =
    slave-settles i half word value took taken took (slave_at book i).cells (subst (λ (e : Operation). SlaveFits i half e took (slave_at book i).cells) is fits)

next-settle : (frame : JournalFrame) (book : Book) (state : State) (took : List Bool) (m : Machine) (i word value : ℕ) (taken failed : Bool) → Up frame book state took m → i < length book.slaves → nat_lt i (length book.slaves) ≡ true
    → (slave_at book i).operation ≡ Unsettled word value taken → is_some book.fault ≡ failed → Up frame (rom_next book i).1 state took m
next-settle frame book state took m i word value taken true up within there is ok =
    let same : (rom_next book i).1 ≡ book = rw (there, is, ok) refl in
    subst (λ (b : Book). Up frame b state took m) (sym same) up
next-settle frame book state took m i word value taken false up within there is ok =
    let goes : (rom_next book i).1 ≡ with_operation book i (Settling word value taken) = rw (there, is, ok) refl in
    subst (λ (b : Book). Up frame b state took m) (sym goes)
    (up-only_operation frame book state took m i (Settling word value taken) up within (λ half fits. settles-as i half (slave_at book i).operation (get_or took i false) taken book word value is fits))

-- in a fault nothing is handed out
pub up-settles : (frame : JournalFrame) (book : Book) (state : State) (took : List Bool) (m : Machine) (i word value : ℕ) (taken : Bool) → Up frame book state took m → i < length book.slaves
    → (slave_at book i).operation ≡ Unsettled word value taken → Up frame (rom_next book i).1 state took m
up-settles frame book state took m i word value taken up within is =
    let there : nat_lt i (length book.slaves) ≡ true = lt-ltb i (length book.slaves) (omega arith) in
    next-settle frame book state took m i word value taken (is_some book.fault) up within there is refl

-- ---- the word is written

pub up-settled : (frame : JournalFrame) (book : Book) (state : State) (took : List Bool) (m : Machine) (i : ℕ) (half : SlaveHalf) (word value : ℕ) → Up frame book state took m → i < length book.slaves → slice_get state.halves i ≡ Some half
    → (slave_at book i).operation ≡ Settling word value true → IsWell half → Up frame (rom_done book i (outcomes.Settled settled.Written)) state took m
up-settled frame book state took m i half word value up within there is well =
    let done : rom_done book i (outcomes.Settled settled.Written) ≡ with_written book i word value = rw is refl in
    subst (λ (b : Book). Up frame b state took m) (sym done)
    (up-unmoved frame (with_written book i word value) state took m i half there (up-written frame book state took m i half word value (get_or took i false) up within there is well))

-- ---- it is free again

pub up-freed : (frame : JournalFrame) (book : Book) (state : State) (took : List Bool) (m : Machine) (i : ℕ) (half later : SlaveHalf) → Up frame book state took m → i < length book.slaves → slice_get state.halves i ≡ Some half → OnlyRests half later
    → Up frame (with_operation book i NoOperation) (with_half state i later) took m
up-freed frame book state took m i half later up within there rest =
    let now = get_or took i false in
    subst (λ (t : List Bool). Up frame (with_operation book i NoOperation) (with_half state i later) t m) (set-get_or took i false)
    (up-operation frame book state took m i later NoOperation now up within (slave-freed i half later (slave_at book i).operation now now (slave_at book i).cells rest (up.slaves.each i half there)))

-- as its settle says so, or as the site stops
stopped-is : (book : Book) (i word value : ℕ) (taken : Bool) → ((slave_at book i).operation ≡ Issuing word value) ⊎ ((slave_at book i).operation ≡ Settling word value taken)
    → rom_done book i outcomes.Stopped ≡ with_fault (with_operation book i NoOperation) faults.Stopped
stopped-is book i word value taken (inl is) = rw is refl
stopped-is book i word value taken (inr is) = rw is refl

pub up-stopped : (frame : JournalFrame) (book : Book) (state : State) (took : List Bool) (m : Machine) (i word value : ℕ) (taken : Bool) (half later : SlaveHalf) → Up frame book state took m → i < length book.slaves
    → slice_get state.halves i ≡ Some half → OnlyRests half later → ((slave_at book i).operation ≡ Issuing word value) ⊎ ((slave_at book i).operation ≡ Settling word value taken)
    → Up frame (rom_done book i outcomes.Stopped) (with_half state i later) took m
up-stopped frame book state took m i word value taken half later up within there rest is =
    subst (λ (b : Book). Up frame b (with_half state i later) took m) (sym (stopped-is book i word value taken is))
    (up-faulted frame (with_operation book i NoOperation) (with_half state i later) took m faults.Stopped (up-freed frame book state took m i half later up within there rest))

pub up-dead : (frame : JournalFrame) (book : Book) (state : State) (took : List Bool) (m : Machine) (i word value : ℕ) (taken : Bool) (half later : SlaveHalf) → Up frame book state took m → i < length book.slaves
    → slice_get state.halves i ≡ Some half → OnlyRests half later → (slave_at book i).operation ≡ Settling word value taken → Up frame (rom_done book i (outcomes.Settled settled.Dead)) (with_half state i later) took m
up-dead frame book state took m i word value taken half later up within there rest is =
    let done : rom_done book i (outcomes.Settled settled.Dead) ≡ with_fault (with_operation book i NoOperation) (faults.SlaveDead i) = rw is refl in
    subst (λ (b : Book). Up frame b (with_half state i later) took m) (sym done)
    (up-faulted frame (with_operation book i NoOperation) (with_half state i later) took m (faults.SlaveDead i) (up-freed frame book state took m i half later up within there rest))

again-as : (frame : JournalFrame) (book : Book) (state : State) (took : List Bool) (m : Machine) (i word : ℕ) (last : Bool) → is_last (cell_of (slave_at book i).cells word).known ≡ last → Up frame (with_operation book i NoOperation) state took m
    → Up frame (with_again book i word) state took m
again-as frame book state took m i word true is up =
    let e : with_again book i word ≡ with_fault (with_operation book i NoOperation) (faults.SlaveDead i) = rw is refl in
    subst (λ (b : Book). Up frame b state took m) (sym e) (up-faulted frame (with_operation book i NoOperation) state took m (faults.SlaveDead i) up)
again-as frame book state took m i word false is up =
    let e : with_again book i word ≡ with_operation book i NoOperation = rw is refl in
    subst (λ (b : Book). Up frame b state took m) (sym e) up

pub up-again : (frame : JournalFrame) (book : Book) (state : State) (took : List Bool) (m : Machine) (i word value : ℕ) (taken : Bool) (half later : SlaveHalf) → Up frame book state took m → i < length book.slaves
    → slice_get state.halves i ≡ Some half → OnlyRests half later → (slave_at book i).operation ≡ Settling word value taken → Up frame (rom_done book i (outcomes.Settled settled.Again)) (with_half state i later) took m
up-again frame book state took m i word value taken half later up within there rest is =
    let done : rom_done book i (outcomes.Settled settled.Again) ≡ with_again book i word = rw is refl in
    subst (λ (b : Book). Up frame b (with_half state i later) took m) (sym done)
    (again-as frame book (with_half state i later) took m i word (is_last (cell_of (slave_at book i).cells word).known) refl (up-freed frame book state took m i half later up within there rest))
