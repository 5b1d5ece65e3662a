-- A recovery gets to its end, and what the slaves hold then.
use Rattle.std.proofs.Common.{◌≡◌, ◌≢◌, ℕ, suc, ◌+◌, ◌<◌, Bool, true, false, List, [], ◌∷◌, ◌++◌, length, get_or, refl, sym, ◌∙◌, ap, subst, arith, length-append}
use Rattle.std.specs.Prelude.{◌==◌, ◌&&◌, ◌↔◌, filter, is_some, nat_le, nat_lt, not}
use Rattle.std.specs.List.{AllByRecursion}
use Rattle.std.proofs.lemmas.Bool.Decides.{nat_tests}
use Rattle.sii_words.specs.declared.run.Run.{Run}
use Rattle.sii_words.specs.Redo.{redone}
use Rattle.sii_words.proofs.RedoLaws.{redone-nil}
use Rattle.sii_edit.proofs.FoldLaws.{none-taken}
use Rattle.jrn_format.specs.declared.journal.Batch.{Batch}
use Rattle.jrn_format.specs.declared.journal.Spelling.{Spelling}
use Rattle.jrn_format.specs.Area.{spelt_batches}
use Rattle.jrn_format.specs.Batch.{spelt_after}
use Rattle.jrn_format.specs.Halves.{live}
use Rattle.site_core.specs.State.{State, Pair, Leaves}
use Rattle.book_model.specs.Cells.{Cell, is_any, cell_of}
use Rattle.book_model.specs.Pending as pending
use Rattle.book_model.specs.Pending.{last_of, namings_settled, values_of}
use Rattle.book_model.specs.declared.next.RomNext.TheVariants as next
use Rattle.book_model.specs.Entries.{live_runs, namings}
use Rattle.book_model.specs.Book.{Book, Slave, Operation, NoOperation, Issuing, Unsettled, Settling, all_cells, base_of, nobody, own, slave_at}
use Rattle.book_model.specs.RomSteps.{rom_next, to_do}
use Rattle.book_model.specs.Reading.{applied, live_bytes, planned, runs_settled, settled_from, spelling_of}
use Rattle.book_model.specs.Machine.{Machine}
use Rattle.book_model.proofs.CellLaws.{namings-append}
use Rattle.book_model.proofs.CommandLaws.{entries-contents}
use Rattle.book_model.proofs.FitLaws.{kept-live, live_runs-append}
use Rattle.book_model.specs.Frame.{JournalFrame}
use Rattle.book_model.specs.Up.{Up}
use Rattle.book_model.proofs.LineLaws.{holds-all}
use Rattle.site_journal.specs.Recovering.{HasNothingToDo, IsBetween, IsRecovering}
use Rattle.site_journal.proofs.DiskLaws.{idle-tests, none-live}

-- ---- words that are owed nothing

-- the word of this naming is owed nothing
abbrev IsQuiet : List Cell → ℕ × ℕ → Type 0
IsQuiet cells n = is_any (cell_of cells n.0).owed ≡ false

-- a word that is named among these
named-quiet : (cells : List Cell) (at : ℕ) (ns : List (ℕ × ℕ)) → is_any (values_of at ns) ≡ true → AllByRecursion (IsQuiet cells) ns → is_any (cell_of cells at).owed ≡ false
named-quiet cells at [] is all = absurd cc
named-quiet cells at (n ∷ ns) is all = one (n.0 == at) refl (λ later. named-quiet cells at ns later all.1)
  where
    one : (c : Bool) → (n.0 == at) ≡ c → (is_any (values_of at ns) ≡ true → is_any (cell_of cells at).owed ≡ false) → is_any (cell_of cells at).owed ≡ false
    one true same after = let here : n.0 ≡ at = grind (arith, nat_tests) in subst (λ (k : ℕ). is_any (cell_of cells k).owed ≡ false) here all.0
    one false other after = after (rw other at is)

filter-first : (cells : List Cell) (n : ℕ × ℕ) (ns : List (ℕ × ℕ)) (c : Bool) → is_any (cell_of cells n.0).owed ≡ c → filter (λ (k : ℕ × ℕ). is_any (cell_of cells k.0).owed) (n ∷ ns) ≡ []
    → IsQuiet cells n × (filter (λ (k : ℕ × ℕ). is_any (cell_of cells k.0).owed) ns ≡ [])
filter-first cells n ns true owes none =
    let some : filter (λ (k : ℕ × ℕ). is_any (cell_of cells k.0).owed) (n ∷ ns) ≡ n ∷ filter (λ (k : ℕ × ℕ). is_any (cell_of cells k.0).owed) ns = rw owes refl in
    absurd cc
filter-first cells n ns false owes none = (owes, sym (rw owes refl) ∙ none)

-- where nothing is to do, each word that is named is owed nothing
all-quiet : (cells : List Cell) (ns : List (ℕ × ℕ)) → pending.to_do cells ns ≡ [] → AllByRecursion (IsQuiet cells) ns
all-quiet cells [] none = tt
all-quiet cells (n ∷ ns) none = one (is_any (values_of n.0 ns)) refl (λ later. all-quiet cells ns later)
  where
    one : (c : Bool) → is_any (values_of n.0 ns) ≡ c → (pending.to_do cells ns ≡ [] → AllByRecursion (IsQuiet cells) ns) → AllByRecursion (IsQuiet cells) (n ∷ ns)
    one true again after =
        let rest = after (rw again at none) in
        (named-quiet cells n.0 ns again rest, rest)
    one false last after =
        let both = filter-first cells n (last_of ns) (is_any (cell_of cells n.0).owed) refl (rw last at none) in
        (both.0, after both.1)

none-owed : (owed : List ℕ) → is_any owed ≡ false → length owed ≡ 0
none-owed [] is = refl
none-owed (v ∷ owed) is = absurd cc

quiet-settled : (cells : List Cell) (after ns : List (ℕ × ℕ)) → AllByRecursion (IsQuiet cells) ns → namings_settled cells after ns ≡ true
quiet-settled cells after [] all = refl
quiet-settled cells after (n ∷ ns) all =
    let none = none-owed (cell_of cells n.0).owed all.0 in
    let le : nat_le (length (cell_of cells n.0).owed) (length (values_of n.0 after)) ≡ true = grind (arith, nat_tests) in
    rw le (quiet-settled cells after ns all.1)

all-front : (cells : List Cell) (xs ys : List (ℕ × ℕ)) → AllByRecursion (IsQuiet cells) (xs ++ ys) → AllByRecursion (IsQuiet cells) xs
all-front cells [] ys all = tt
all-front cells (x ∷ xs) ys all = (all.0, all-front cells xs ys all.1)

-- ---- the whole line

-- of the slaves from a number on, each word that the runs name is owed nothing
abbrev QuietFrom : (first : ℕ) → List Slave → List Run → Type 0
QuietFrom first slaves runs = (i k : ℕ) → i < length slaves → k ≡ first + i → AllByRecursion (IsQuiet (get_or slaves i nobody).cells) (namings runs k)

all-settled : (first : ℕ) (slaves : List Slave) (after runs : List Run) → QuietFrom first slaves runs → settled_from first (all_cells slaves) after runs ≡ true
all-settled first [] after runs quiet = refl
all-settled first (s ∷ slaves) after runs quiet =
    let here : namings_settled s.cells (namings after first) (namings runs first) ≡ true = quiet-settled s.cells (namings after first) (namings runs first) (quiet 0 first (omega arith) (omega arith)) in
    rw here (all-settled (suc first) slaves after runs (λ i k within is. quiet (suc i) k (omega arith) (omega arith)))

-- ---- nothing is handed out

module _ (book : Book) (i : ℕ) (there : nat_lt i (length book.slaves) ≡ true) (ok : is_some book.fault ≡ false) (idle : (rom_next book i).0 ≡ next.Idle) where
  idle-vacant : (work : List (ℕ × ℕ)) → (slave_at book i).operation ≡ NoOperation → to_do book i ≡ work → to_do book i ≡ []
  idle-vacant [] is todo = todo
  idle-vacant (w ∷ others) is todo = let goes : (rom_next book i).0 ≡ next.Issue w.0 w.1 = rw (there, is, ok, todo) refl in absurd cc

  idle-as : (operation : Operation) → (slave_at book i).operation ≡ operation → IsBetween operation → to_do book i ≡ []
  idle-as NoOperation is between = idle-vacant (to_do book i) is refl
  idle-as (Issuing word value) is between = absurd between
  idle-as (Unsettled word value taken) is between = let goes : (rom_next book i).0 ≡ next.Settle taken = rw (there, is, ok) refl in absurd cc
  idle-as (Settling word value taken) is between = absurd between

module _ (book : Book) (recovering : IsRecovering book) (ok : is_some book.fault ≡ false) (nothing : HasNothingToDo book) where
  quiet : QuietFrom 0 book.slaves (live_runs book.halves.older)
  quiet i k within is =
      let same : k ≡ i = omega arith in
      let none = idle-as book i (grind (arith, nat_tests)) ok (nothing.slaves i within) (slave_at book i).operation refl (recovering.between i within) in
      let older = live_runs book.halves.older in
      let split : namings (live_runs (live book.halves)) i ≡ namings older i ++ namings (live_runs book.halves.newer) i =
      ap (λ (runs : List Run). namings runs i) (live_runs-append book.halves.older book.halves.newer) ∙ namings-append older (live_runs book.halves.newer) i in
      let all = subst (AllByRecursion (IsQuiet (slave_at book i).cells)) split (all-quiet (slave_at book i).cells (namings (live_runs (live book.halves)) i) none) in
      subst (λ (n : ℕ). AllByRecursion (IsQuiet (slave_at book i).cells) (namings older n)) (sym same) (all-front (slave_at book i).cells (namings older i) (namings (live_runs book.halves.newer) i) all)

  none-is_live : (some : Bool) → is_any (live book.halves) ≡ some → live book.halves ≡ []
  none-is_live false is = none-live (live book.halves) is
  none-is_live true is =
      let settled : runs_settled (all_cells book.slaves) (live_runs book.halves.newer) (live_runs book.halves.older) ≡ true = all-settled 0 book.slaves (live_runs book.halves.newer) (live_runs book.halves.older) quiet in
      let tests = idle-tests book recovering ok nothing.disk in
      let can : (is_any (live book.halves) && runs_settled (all_cells book.slaves) (live_runs book.halves.newer) (live_runs book.halves.older)) ≡ true = rw (is, settled) refl in
      absurd cc

  not-migrating : (asked : Bool) → book.is_migrating ≡ asked → live book.halves ≡ [] → book.is_migrating ≡ false
  not-migrating false is none = is
  not-migrating true is none =
      let tests = idle-tests book recovering ok nothing.disk in
      let can : (book.is_migrating && not (is_any (live book.halves))) ≡ true = rw (is, none) refl in
      absurd cc

  pub nothing-left : (live book.halves ≡ []) × (book.is_migrating ≡ false)
  nothing-left = let none = none-is_live (is_any (live book.halves)) refl in (none, not-migrating book.is_migrating refl none)

-- ---- nobody stops

module _ (book : Book) (i : ℕ) (there : nat_lt i (length book.slaves) ≡ true) (recovering : IsRecovering book) (ok : is_some book.fault ≡ false) (stop : (rom_next book i).0 ≡ next.Stop) where
  stops-vacant : (work : List (ℕ × ℕ)) → (slave_at book i).operation ≡ NoOperation → to_do book i ≡ work → ⊥
  stops-vacant [] is todo = let goes : (rom_next book i).0 ≡ next.Idle = rw (there, is, ok, todo, recovering.going) refl in absurd cc
  stops-vacant (w ∷ others) is todo = let goes : (rom_next book i).0 ≡ next.Issue w.0 w.1 = rw (there, is, ok, todo) refl in absurd cc

  stops-as : (operation : Operation) → (slave_at book i).operation ≡ operation → ⊥
  stops-as NoOperation is = stops-vacant (to_do book i) is refl
  stops-as (Issuing word value) is = let goes : (rom_next book i).0 ≡ next.Idle = rw (there, is) refl in absurd cc
  stops-as (Unsettled word value taken) is = let goes : (rom_next book i).0 ≡ next.Settle taken = rw (there, is, ok) refl in absurd cc
  stops-as (Settling word value taken) is = let goes : (rom_next book i).0 ≡ next.Idle = rw (there, is) refl in absurd cc

pub slave-goes : (book : Book) (i : ℕ) → IsRecovering book → is_some book.fault ≡ false → i < length book.slaves → (rom_next book i).0 ≢ next.Stop
slave-goes book i recovering ok within stop = stops-as book i (grind (arith, nat_tests)) recovering ok stop (slave_at book i).operation refl

-- ---- no byte is live

no-byte : (spelling : Spelling) (batches : List Batch) → length (spelt_batches spelling batches) ≡ 0 → batches ≡ []
no-byte spelling [] none = refl
no-byte spelling (b ∷ batches) none = absurd (omega (arith, length-append (0xA5 ∷ spelt_after spelling b.generation b.entries) (spelt_batches spelling batches)))

pub without-byte : (book : Book) → (live_bytes book ≡ 0) ↔ (live book.halves ≡ [])
without-byte book = (no-byte (spelling_of book.form) (live book.halves), λ none. ap (λ (l : List Batch). length (spelt_batches (spelling_of book.form) l)) none)

-- ---- the end

pub end-plan : (book : Book) → book.accepted ≡ [] → planned book ≡ base_of book
end-plan book none = none-taken (base_of book) book.accepted (applied book) none

pub end-words : (frame : JournalFrame) (book : Book) (state : State) (took : List Bool) (m : Machine) (pair : Pair) → Up frame book state took m → book.accepted ≡ [] → live book.halves ≡ [] → Leaves state pair → pair.words ≡ base_of book
end-words frame book state took m pair up none nothing leaves =
    let may = holds-all book.words state.halves book.slaves took pair.words up.same up.slaves leaves.words in
    let leads = kept-live book.words (base_of book) (own book) book.durable book.halves (all_cells book.slaves) up.gone up.fits pair.words may in
    sym (redone-nil pair.words) ∙ ap (λ (l : List Batch). redone pair.words (live_runs l)) (sym nothing) ∙ leads ∙ entries-contents 0 (base_of book) book.accepted book.durable
    ∙ none-taken (base_of book) book.accepted book.durable none
