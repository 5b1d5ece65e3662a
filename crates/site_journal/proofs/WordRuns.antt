-- Issues and settles of a slave's words, on any site.
use Rattle.std.proofs.Common.{◌≡◌, inl, inr, ℕ, ◌<◌, Bool, true, false, List, length, get_or, set, refl, sym, ◌∙◌, ap, subst, arith, length-set, Some, Ok, Err, Result}
use Rattle.std.specs.Prelude.{slice_get}
use Rattle.std.proofs.lemmas.Bool.Decides.{nat_tests}
use Rattle.std.proofs.lemmas.List.{get_or-set_same}
use Rattle.std.proofs.lemmas.Option.{slice_get-get_or}
use Rattle.esc_model.specs.SlaveHalf.{SlaveHalf}
use Rattle.esc_model.proofs.OnlyResting.{MayRest-only}
use Rattle.esc_rom.specs.Access.{WordMayDiffer, IssuesWord, BecomesSettled, SettlesSlave}
use Rattle.site_core.specs.declared.fault.DeviceFault.{DeviceFault}
use Rattle.site_core.specs.declared.fault.DeviceFault.TheVariants as device
use Rattle.site_core.specs.declared.answers.Issued.{Issued}
use Rattle.site_core.specs.declared.answers.Issued.TheVariants.{Taken, NotTaken, Lost}
use Rattle.site_core.specs.declared.answers.Settled.{Settled}
use Rattle.site_core.specs.declared.answers.Settled.TheVariants.{Written, Again, Dead}
use Rattle.site_core.specs.State.{State, Pair, Leaves, Seen, with_half}
use Rattle.book_model.specs.Cells.{Cell, cell_of}
use Rattle.book_model.specs.declared.next.RomNext.{RomNext}
use Rattle.book_model.specs.declared.next.RomNext.TheVariants as next
use Rattle.book_model.specs.declared.next.RomOutcome.TheVariants as outcomes
use Rattle.book_model.specs.Book.{Book, Slave, Operation, NoOperation, Issuing, Settling, nobody, slave_at, all_cells, cell_at}
use Rattle.book_model.specs.RomSteps.{was_taken, rom_next, rom_done}
use Rattle.book_model.specs.Machine.{Machine}
use Rattle.book_model.specs.Kept.{Kept}
use Rattle.world_law.specs.Law.{KeptFor}
use Rattle.book_model.specs.Owed.{IsUnsure}
use Rattle.book_model.specs.Plants.{MayHoldAll}
use Rattle.book_model.specs.Frame.{JournalFrame}
use Rattle.book_model.proofs.BookLaws.{cells_of}
use Rattle.book_model.proofs.FormLaws.{journal-kept}
use Rattle.book_model.specs.Slaves.{Asks, OperationFits}
use Rattle.book_model.specs.Steps.{TakesOrNot, MayBegin, took_after}
use Rattle.book_model.specs.Up.{Up}
use Rattle.book_model.proofs.LineLaws.{half-there, holds-all}
use Rattle.book_model.proofs.GoesLaws.{up-rests}
use Rattle.book_model.proofs.OutcomeLaws.{up-issued, up-settled, up-dead, up-again}
use Rattle.book_model.proofs.SlaveEventLaws as events
use Rattle.book_model.proofs.SlaveEventLaws.{IsNothing, asks, same-state, up-asks}
use Rattle.site_journal.specs.Running.{KeepsAll, UpAfterIssue, UpAfterSettle}
use Rattle.site_journal.proofs.GoLaws.{stays-weaker}
use Rattle.site_journal.proofs.DiskRuns.{keeps-all}
use Rattle.site_journal.proofs.HoldLaws.{holds-torn}

-- ---- what the book does with the slave then

abbrev pub operation_for : RomNext → Operation
operation_for (next.Issue word value) = Issuing word value
operation_for other = NoOperation

module _ (book : Book) (i : ℕ) (within : i < length book.slaves) where
  pub handed : events.Asks book i
  handed = asks book i (grind (arith, nat_tests)) (slave_at book i).operation refl

  -- a word is issued
  abbrev pub IssuesAs : ℕ → ℕ → RomNext × Book → Type 0
  IssuesAs word value a = a.0 ≡ next.Issue word value → (slave_at a.1 i).operation ≡ Issuing word value

  pub issues-as : (word value : ℕ) → events.Asks book i → IssuesAs word value (rom_next book i)
  issues-as word value (events.nothing answer none is) = subst (IssuesAs word value) (sym is) (λ same. absurd (subst IsNothing same none))
  issues-as word value (events.issue w others todo is) =
      subst (IssuesAs word value) (sym is) (λ same. ap (λ (s : Slave). s.operation) (get_or-set_same book.slaves i _ nobody within) ∙ ap operation_for same)
  issues-as word value (events.settle w v taken operation is) = subst (IssuesAs word value) (sym is) (λ same. absurd cc)

  -- a word is settled
  abbrev pub SettlesAs : Bool → RomNext × Book → Type 0
  SettlesAs taken a = a.0 ≡ next.Settle taken → (word : ℕ) × (value : ℕ) × ((slave_at a.1 i).operation ≡ Settling word value taken)

  pub settles-as : (taken : Bool) → events.Asks book i → SettlesAs taken (rom_next book i)
  settles-as taken (events.nothing answer none is) = subst (SettlesAs taken) (sym is) (λ same. absurd (subst IsNothing same none))
  settles-as taken (events.issue w others todo is) = subst (SettlesAs taken) (sym is) (λ same. absurd cc)
  settles-as taken (events.settle w v t operation is) =
      subst (SettlesAs taken) (sym is) (λ same. let t_is : t ≡ taken = cc in (w, v, ap (λ (s : Slave). s.operation) (get_or-set_same book.slaves i _ nobody within) ∙ ap (Settling w v) t_is))

module _ (frame : JournalFrame) (book : Book) (took : List Bool) (m : Machine) (old : Seen) (i : ℕ) (up : Up frame book old.state took m) (within : i < length book.slaves) where
  abbrev later : Book
  later = (rom_next book i).1

  -- the slave is still there
  still : (state : State) (taken : List Bool) → Up frame later state taken m → length state.halves ≡ length old.state.halves → i < length later.slaves
  still state taken now same = omega (arith, within, up.slaves.count, now.slaves.count, same)

  -- ---- an issue

  module _ (word value : ℕ) (is : (rom_next book i).0 ≡ next.Issue word value) where
    asked : (half after : SlaveHalf) (t : Bool) → slice_get old.state.halves i ≡ Some half → TakesOrNot t i word value half after → Up frame later (with_half old.state i after) (set took i t) m
    asked half after t here takes =
        subst (λ (a : RomNext). Up frame later (with_half old.state i after) (took_after a took i t) m) is
        (up-asks frame book old.state took m i half after t up within here (subst (λ (a : RomNext). MayBegin a i t half after) (sym is) takes))

    operation : (slave_at later i).operation ≡ Issuing word value
    operation = issues-as book i within word value (handed book i within) is

    -- nothing has happened to the slave yet
    begun : Up frame later old.state (set took i false) m
    begun =
        let h = half-there old.state.halves i (omega (arith, within, up.slaves.count)) in
        subst (λ (s : State). Up frame later s (set took i false) m) (same-state old.state i h.0 h.0 h.1 refl) (asked h.0 h.0 false h.1 (inl refl))

    unsure : IsUnsure (cell_at (all_cells later.slaves) i word).known
    unsure =
        let h = half-there old.state.halves i (omega (arith, within, up.slaves.count)) in
        let slave = slave_at later i in
        let fits = begun.slaves.each i h.0 h.1 in
        let asks : Asks i word value (get_or (set took i false) i false) h.0 slave.cells = subst (λ (e : Operation). OperationFits i e (get_or (set took i false) i false) h.0 slave.cells) operation fits.asks in
        subst (λ (l : List Cell). IsUnsure (cell_of l word).known) (sym (cells_of later.slaves i)) asks.unsure

    kept-with : (pair : Pair) (left : List (List ℕ)) (before : Pair) → Leaves old.state before → pair.disk ≡ before.disk → pair.words ≡ left → MayHoldAll later.words (all_cells later.slaves) left → Kept pair.disk pair.words m
    kept-with pair left before leaves disk words may =
        subst (λ (d : List ℕ). Kept d pair.words m) (sym disk) (subst (λ (w : List (List ℕ)). Kept before.disk w m) (sym words)
        (journal-kept frame later m begun.gone old.state.disk before.disk left begun.line begun.of begun.fits begun.disk may leaves.disk))

    kept-pair : (pair : Pair) → WordMayDiffer old i word pair → KeptFor m pair
    kept-pair pair d =
        let may = holds-all later.words old.state.halves later.slaves (set took i false) d.0.words begun.same begun.slaves d.1.words in
        elim d.2.1 [
          | inl same ↦ kept-with pair d.0.words d.0 d.1 d.2.0 same may
          | inr torn ↦ kept-with pair (set d.0.words i (set torn.0 word torn.1)) d.0 d.1 d.2.0 torn.3
              (holds-torn later.words (all_cells later.slaves) d.0.words may i word torn.1 torn.0 torn.2 unsure)
        ]

    came : (issued : Issued) (t : Bool) (new : Seen) (half after : SlaveHalf) → slice_get old.state.halves i ≡ Some half → new.state ≡ with_half old.state i after → TakesOrNot t i word value half after
        → (t ≡ false → issued ≡ Taken → ⊥) → UpAfterIssue frame later took m i new (Ok issued)
    came issued t new half after here new_is takes never =
        let now = asked half after t here takes in
        let state = with_half old.state i after in
        let there = still state (set took i t) now (length-set old.state.halves i after) in
        let long = up.slaves.took_count in (
          t,
          subst (λ (s : State). Up frame (rom_done later i (outcomes.Issued issued)) s (set took i t) m) (sym new_is)
              (up-issued frame later state (set took i t) m i word value issued now there operation (λ said. said-so t issued said never (get_or-set_same took i t false (omega (arith, long, within))))),
        )
      where
        said-so : (t : Bool) (issued : Issued) → was_taken issued ≡ true → (t ≡ false → issued ≡ Taken → ⊥) → get_or (set took i t) i false ≡ t → get_or (set took i t) i false ≡ true
        said-so true issued said never is = is
        said-so false Taken said never is = absurd (never refl refl)
        said-so false NotTaken said never is = absurd cc
        said-so false Lost said never is = absurd cc

    after-issue : (result : Result Issued DeviceFault) (new : Seen) → IssuesWord old i word value result new → UpAfterIssue frame later took m i new result
    after-issue (Ok Taken) new issues = let g = issues.half Taken refl in came Taken true new g.half g.later g.here g.new_is g.goes (λ no yes. absurd cc)
    after-issue (Ok NotTaken) new issues = let g = issues.half NotTaken refl in came NotTaken false new g.half g.later g.here g.new_is g.goes.0 (λ no yes. absurd cc)
    after-issue (Ok Lost) new issues =
        let g = issues.half Lost refl in
        elim g.goes.0 [
          | inl rests ↦ came Lost false new g.half g.later g.here g.new_is rests (λ no yes. absurd cc)
          | inr takes ↦ came Lost true new g.half g.later g.here g.new_is takes (λ no yes. absurd cc)
        ]
    after-issue (Err device.Disk) new issues = let e = issues.only_stopped in absurd cc
    after-issue (Err device.Lost) new issues = let e = issues.only_stopped in absurd cc
    after-issue (Err device.Stopped) new issues = tt

    pub issue-runs : (result : Result Issued DeviceFault) (new : Seen) → IssuesWord old i word value result new → KeepsAll m old new × UpAfterIssue frame later took m i new result
    issue-runs result new issues = (stays-weaker (WordMayDiffer old i word) (KeptFor m) old new kept-pair issues.stays, after-issue result new issues)

  -- ---- a settle

  module _ (taken : Bool) (is : (rom_next book i).0 ≡ next.Settle taken) where
    settling : Up frame later old.state took m
    settling =
        let h = half-there old.state.halves i (omega (arith, within, up.slaves.count)) in
        subst (λ (s : State). Up frame later s took m) (same-state old.state i h.0 h.0 h.1 refl)
        (subst (λ (a : RomNext). Up frame later (with_half old.state i h.0) (took_after a took i false) m) is
        (up-asks frame book old.state took m i h.0 h.0 false up within h.1 (subst (λ (a : RomNext). MayBegin a i false h.0 h.0) (sym is) refl)))

    there : i < length later.slaves
    there = still old.state took settling refl

    settled-as : (settled : Settled) (new : Seen) (half after : SlaveHalf) → slice_get old.state.halves i ≡ Some half → BecomesSettled old i taken new settled half after
        → Up frame (rom_done later i (outcomes.Settled settled)) (with_half old.state i after) took m
    settled-as Written new half after here goes =
        let s = settles-as book i within taken (handed book i within) is in
        let state = with_half old.state i after in
        let lt : i < length state.halves = omega (arith, within, up.slaves.count, length-set old.state.halves i after) in
        let there_is : slice_get state.halves i ≡ Some after = slice_get-get_or state.halves i after lt ∙ ap Some (get_or-set_same old.state.halves i after after (omega (arith, within, up.slaves.count))) in
        up-settled frame later state took m i after s.0 s.1 (up-rests frame later old.state took m i half after settling here goes.1) there there_is (s.2 ∙ ap (Settling s.0 s.1) goes.0) goes.2
    settled-as Again new half after here goes =
        let s = settles-as book i within taken (handed book i within) is in up-again frame later old.state took m i s.0 s.1 taken half after settling there here goes.0 s.2
    settled-as Dead new half after here goes =
        let s = settles-as book i within taken (handed book i within) is in up-dead frame later old.state took m i s.0 s.1 taken half after settling there here (MayRest-only half after goes.0) s.2

    after-settle : (result : Result Settled DeviceFault) (new : Seen) → SettlesSlave old i taken result new → UpAfterSettle frame later took m i new result
    after-settle (Ok settled) new settles =
        let g = settles.half settled refl in
        subst (λ (s : State). Up frame (rom_done later i (outcomes.Settled settled)) s took m) (sym g.new_is) (settled-as settled new g.half g.later g.here g.goes)
    after-settle (Err device.Disk) new settles = let e = settles.only_stopped in absurd cc
    after-settle (Err device.Lost) new settles = let e = settles.only_stopped in absurd cc
    after-settle (Err device.Stopped) new settles = tt

    pub settle-runs : (result : Result Settled DeviceFault) (new : Seen) → SettlesSlave old i taken result new → KeepsAll m old new × UpAfterSettle frame later took m i new result
    settle-runs result new settles = (keeps-all frame book old.state took m old new up settles.quiet.adds, after-settle result new settles)
