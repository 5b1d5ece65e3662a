-- What is handed out for a slave is what `rom_next` says.
use Rattle.std.proofs.Common.{◌≡◌, ℕ, ◌<◌, Bool, true, false, List, [], ◌∷◌, ◌++◌, length, Some, None, refl, sym, ◌∙◌, ap, subst, arith}
use Rattle.std.proofs.lemmas.Bool.{lt-ltb}
use Rattle.std.specs.Prelude.{is_some, nat_lt, filter, if◌then◌else◌}
use Rattle.sii_words.specs.declared.run.Run.{Run}
use Rattle.book_model.specs.Cells.{Cell, cell_of, is_any}
use Rattle.book_model.specs.Pending.{first, last_of}
use Rattle.book_model.specs.Pending as pending
use Rattle.book_model.specs.declared.next.RomNext.TheVariants as next
use Rattle.book_model.specs.Entries.{runs_of, namings}
use Rattle.book_model.specs.Book.{Book, Slave, NoOperation, slave_at}
use Rattle.book_model.specs.RomSteps.{rom_next, to_do, with_issue, without_work}
use Rattle.book_parts.specs.Line.{LineState}
use Rattle.book_parts.specs.Line as line
use Rattle.book_core.specs.Stands.{HasLive}
use Rattle.book_core.proofs.RunLaws.{live-runs}
use Rattle.book_model.proofs.WorkLaws.{owed-inside}

-- ---- the same words are to be written

pub same-to_do : (book : Book) (work : LineState) (i : ℕ) → book.slaves ≡ work.slaves → HasLive book.halves work → to_do book i ≡ line.to_do work i
same-to_do book work i slaves has =
    ap (λ (l : List Run). pending.to_do (slave_at book i).cells (namings l i)) (sym (live-runs book.halves work has))
    ∙ ap (λ (s : List Slave). pending.to_do (line.slave_at (record work { slaves = s }) i).cells (namings (runs_of (work.older ++ work.newer)) i)) slaves

-- ---- a word that is to be written is one of the slave's

pub kept-by : (cells : List Cell) (ns : List (ℕ × ℕ)) (w : ℕ × ℕ) → first (filter (λ (n : ℕ × ℕ). is_any (cell_of cells n.0).owed) ns) ≡ Some w → is_any (cell_of cells w.0).owed ≡ true
kept-by cells [] w is = absurd (cc is)
kept-by cells (n ∷ ns) w is = one (is_any (cell_of cells n.0).owed) refl (λ rest. kept-by cells ns w rest) is
  where
    one : (b : Bool) → is_any (cell_of cells n.0).owed ≡ b → (first (filter (λ (n : ℕ × ℕ). is_any (cell_of cells n.0).owed) ns) ≡ Some w → is_any (cell_of cells w.0).owed ≡ true)
        → first (if b then n ∷ filter (λ (n : ℕ × ℕ). is_any (cell_of cells n.0).owed) ns else filter (λ (n : ℕ × ℕ). is_any (cell_of cells n.0).owed) ns) ≡ Some w → is_any (cell_of cells w.0).owed ≡ true
    one true kept later here = let e : n ≡ w = cc in subst (λ (v : ℕ × ℕ). is_any (cell_of cells v.0).owed ≡ true) e kept
    one false dropped later rest = later rest

pub to_do-inside : (cells : List Cell) (ns : List (ℕ × ℕ)) (w : ℕ × ℕ) → first (pending.to_do cells ns) ≡ Some w → w.0 < length cells
to_do-inside cells ns w is = owed-inside cells w.0 (kept-by cells (last_of ns) w is)

-- ---- the answers

has-first : (l : List (ℕ × ℕ)) (w : ℕ × ℕ) → first l ≡ Some w → (others : List (ℕ × ℕ)) × (l ≡ w ∷ others)
has-first [] w is = absurd (cc is)
has-first (n ∷ ns) w is = let e : n ≡ w = cc in (ns, ap (λ (v : ℕ × ℕ). v ∷ ns) e)

has-none : (l : List (ℕ × ℕ)) → first l ≡ None → l ≡ []
has-none [] is = refl
has-none (n ∷ ns) is = absurd (cc is)

pub next-issue : (book : Book) (i : ℕ) (w : ℕ × ℕ) → i < length book.slaves → (slave_at book i).operation ≡ NoOperation → is_some book.fault ≡ false → first (to_do book i) ≡ Some w
    → rom_next book i ≡ (next.Issue w.0 w.1, with_issue book i w)
next-issue book i w within vacant none is =
    let t : nat_lt i (length book.slaves) ≡ true = lt-ltb i (length book.slaves) (omega arith) in
    let some = has-first (to_do book i) w is in
    rw (t, vacant, none, some.1) refl

pub next-none : (book : Book) (i : ℕ) → i < length book.slaves → (slave_at book i).operation ≡ NoOperation → is_some book.fault ≡ false → first (to_do book i) ≡ None
    → rom_next book i ≡ (without_work book, book)
next-none book i within vacant none is =
    let t : nat_lt i (length book.slaves) ≡ true = lt-ltb i (length book.slaves) (omega arith) in
    rw (t, vacant, none, has-none (to_do book i) is) refl
