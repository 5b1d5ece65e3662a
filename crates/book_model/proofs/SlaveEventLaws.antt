-- Up stays true whatever action on a slave is handed out, and however it ends.
use Rattle.std.proofs.Common.{◌≡◌, inl, inr, ℕ, ◌<◌, Bool, true, false, List, [], ◌∷◌, length, get_or, refl, sym, ◌∙◌, ap, subst, arith, Some}
use Rattle.std.specs.Prelude.{slice_get, is_some, nat_lt, nat_le, ◌&&◌, if◌then◌else◌}
use Rattle.std.proofs.lemmas.Bool.Decides.{nat_tests}
use Rattle.esc_model.specs.SlaveHalf.{SlaveHalf}
use Rattle.site_core.specs.declared.answers.Issued.TheVariants.{Taken, NotTaken, Lost}
use Rattle.site_core.specs.declared.answers.Settled.TheVariants.{Written, Again, Dead}
use Rattle.site_core.specs.State.{State, with_half}
use Rattle.book_model.specs.declared.next.RomNext.{RomNext}
use Rattle.book_model.specs.declared.next.RomNext.TheVariants as next
use Rattle.book_model.specs.declared.next.RomOutcome.{RomOutcome}
use Rattle.book_model.specs.declared.next.RomOutcome.TheVariants.{Issued, Settled, Stopped}
use Rattle.book_model.specs.Book.{Book, Operation, NoOperation, Issuing, Unsettled, Settling, slave_at}
use Rattle.book_model.specs.RomSteps.{to_do, with_operation, with_issue, without_work, rom_next, rom_done}
use Rattle.book_model.specs.Machine.{Machine}
use Rattle.book_model.specs.Frame.{JournalFrame}
use Rattle.book_model.specs.Steps.{MayBegin, took_after, MayComeBack}
use Rattle.book_model.specs.Up.{Up}
use Rattle.book_model.proofs.OutcomeLaws.{set-same, up-issued, up-settles, up-settled, up-stopped, up-dead, up-again}
use Rattle.book_model.proofs.WorkLaws.{up-works}

-- ---- what is handed out

-- nothing is asked of the slave
abbrev pub IsNothing : RomNext → Type 0
IsNothing (next.Issue word value) = ⊥
IsNothing (next.Settle taken) = ⊥
IsNothing next.Idle = Unit {0}
IsNothing next.Stop = Unit {0}

pub data Asks (book : Book) (i : ℕ) : Type 0 where
  nothing : (answer : RomNext) → IsNothing answer → rom_next book i ≡ (answer, book) → Asks book i
  issue : (w : ℕ × ℕ) (others : List (ℕ × ℕ)) → to_do book i ≡ w ∷ others → rom_next book i ≡ (next.Issue w.0 w.1, with_issue book i w) → Asks book i
  settle : (word value : ℕ) (taken : Bool) → (slave_at book i).operation ≡ Unsettled word value taken → rom_next book i ≡ (next.Settle taken, with_operation book i (Settling word value taken)) → Asks book i

idle-or-stop : (done : Bool) → IsNothing (if done then next.Stop else next.Idle)
idle-or-stop true = tt
idle-or-stop false = tt

module _ (book : Book) (i : ℕ) (there : nat_lt i (length book.slaves) ≡ true) where
  asks-vacant : (failed : Bool) (work : List (ℕ × ℕ)) → (slave_at book i).operation ≡ NoOperation → is_some book.fault ≡ failed → to_do book i ≡ work → Asks book i
  asks-vacant true work is ok todo = nothing next.Stop tt (rw (there, is, ok) refl)
  asks-vacant false [] is ok todo = nothing (without_work book) (idle-or-stop (book.is_finished && nat_le (length book.accepted) book.durable)) (rw (there, is, ok, todo) refl)
  asks-vacant false (w ∷ others) is ok todo = issue w others todo (rw (there, is, ok, todo) refl)

  asks-unsettled : (word value : ℕ) (taken failed : Bool) → (slave_at book i).operation ≡ Unsettled word value taken → is_some book.fault ≡ failed → Asks book i
  asks-unsettled word value taken true is ok = nothing next.Stop tt (rw (there, is, ok) refl)
  asks-unsettled word value taken false is ok = settle word value taken is (rw (there, is, ok) refl)

  pub asks : (operation : Operation) → (slave_at book i).operation ≡ operation → Asks book i
  asks NoOperation is = asks-vacant (is_some book.fault) (to_do book i) is refl refl
  asks (Issuing word value) is = nothing next.Idle tt (rw (there, is) refl)
  asks (Unsettled word value taken) is = asks-unsettled word value taken (is_some book.fault) is refl
  asks (Settling word value taken) is = nothing next.Idle tt (rw (there, is) refl)

-- a half that is left as it is
pub same-state : (state : State) (i : ℕ) (half later : SlaveHalf) → slice_get state.halves i ≡ Some half → later ≡ half → with_half state i later ≡ state
same-state state i half later there same =
    ap (λ (h : SlaveHalf). with_half state i h) same ∙ ap (λ (l : List SlaveHalf). record state { halves = l }) (set-same state.halves i half there)

module _ (frame : JournalFrame) (book : Book) (state : State) (took : List Bool) (m : Machine) (i : ℕ) (half later : SlaveHalf) (t : Bool) (up : Up frame book state took m) (within : i < length book.slaves) (there : slice_get state.halves i ≡ Some half) where
  abbrev Begins : RomNext × Book → Type 0
  Begins a = MayBegin a.0 i t half later → Up frame a.1 (with_half state i later) (took_after a.0 took i t) m

  begins-nothing : (answer : RomNext) → IsNothing answer → Begins (answer, book)
  begins-nothing (next.Issue word value) none begins = absurd none
  begins-nothing (next.Settle taken) none begins = absurd none
  begins-nothing next.Idle none begins = subst (λ (s : State). Up frame book s took m) (sym (same-state state i half later there begins)) up
  begins-nothing next.Stop none begins = subst (λ (s : State). Up frame book s took m) (sym (same-state state i half later there begins)) up

  begins-as : Asks book i → Begins (rom_next book i)
  begins-as (nothing answer none is) = subst Begins (sym is) (begins-nothing answer none)
  begins-as (issue w others todo is) = subst Begins (sym is) (λ takes. up-works frame book state took m i half later w others t up within there todo takes)
  begins-as (settle word value taken operation is) =
      let settles = subst (λ (a : RomNext × Book). Up frame a.1 state took m) is (up-settles frame book state took m i word value taken up within operation) in
      subst Begins (sym is) (λ same. subst (λ (s : State). Up frame (with_operation book i (Settling word value taken)) s took m) (sym (same-state state i half later there same)) settles)

  pub up-asks : MayBegin (rom_next book i).0 i t half later → Up frame (rom_next book i).1 (with_half state i later) (took_after (rom_next book i).0 took i t) m
  up-asks = begins-as (asks book i (grind (arith, nat_tests)) (slave_at book i).operation refl)

-- ---- what comes back

module _ (frame : JournalFrame) (book : Book) (state : State) (took : List Bool) (m : Machine) (i : ℕ) (half later : SlaveHalf) (up : Up frame book state took m) (within : i < length book.slaves) (there : slice_get state.halves i ≡ Some half) where
  abbrev UpBy : RomOutcome → State → Type 0
  UpBy outcome s = Up frame (rom_done book i outcome) s took m

  unmoved : (outcome : RomOutcome) → later ≡ half → UpBy outcome state → UpBy outcome (with_half state i later)
  unmoved outcome same up = subst (UpBy outcome) (sym (same-state state i half later there same)) up

  back-as : (operation : Operation) (outcome : RomOutcome) → (slave_at book i).operation ≡ operation → MayComeBack (get_or took i false) operation outcome half later → UpBy outcome (with_half state i later)
  back-as NoOperation outcome is back = absurd back
  back-as (Unsettled word value taken) outcome is back = absurd back
  back-as (Issuing word value) (Issued Taken) is back = unmoved (Issued Taken) back.1 (up-issued frame book state took m i word value Taken up within is (λ said. back.0))
  back-as (Issuing word value) (Issued NotTaken) is back = unmoved (Issued NotTaken) back.1 (up-issued frame book state took m i word value NotTaken up within is (λ said. absurd cc))
  back-as (Issuing word value) (Issued Lost) is back = unmoved (Issued Lost) back (up-issued frame book state took m i word value Lost up within is (λ said. absurd cc))
  back-as (Issuing word value) (Settled how) is back = absurd back
  back-as (Issuing word value) Stopped is back = up-stopped frame book state took m i word value false half later up within there back (inl is)
  back-as (Settling word value taken) (Issued how) is back = absurd back
  back-as (Settling word value taken) (Settled Written) is back =
      unmoved (Settled Written) back.2 (up-settled frame book state took m i half word value up within there (is ∙ ap (λ (c : Bool). Settling word value c) back.0) back.1)
  back-as (Settling word value taken) (Settled Again) is back = up-again frame book state took m i word value taken half later up within there back.1 is
  back-as (Settling word value taken) (Settled Dead) is back = up-dead frame book state took m i word value taken half later up within there back is
  back-as (Settling word value taken) Stopped is back = up-stopped frame book state took m i word value taken half later up within there back (inr is)

  pub up-back : (outcome : RomOutcome) → MayComeBack (get_or took i false) (slave_at book i).operation outcome half later → Up frame (rom_done book i outcome) (with_half state i later) took m
  up-back outcome back = back-as (slave_at book i).operation outcome refl back
