-- How many commands are settled without a gap: those before the first live entry that isn't.
use Rattle.std.proofs.Common.{◌≡◌, ℕ, zero, suc, ◌+◌, ◌-◌, ◌≤◌, Bool, true, false, List, [], ◌∷◌, ◌++◌, length, take, map, refl, sym, ◌∙◌, ap, subst, arith, Option, Some, None, zero-add, suc-add}
use Rattle.std.specs.Prelude.{slice_get, if◌then◌else◌}
use Rattle.std.proofs.lemmas.List.{length-append, length-map, map-append}
use Rattle.sii_words.specs.declared.run.Run.{Run}
use Rattle.sii_words.specs.Redo.{redone}
use Rattle.sii_edit.specs.declared.command.Command.{Command}
use Rattle.sii_edit.specs.Fold.{after}
use Rattle.jrn_format.specs.declared.journal.Entry.{Entry}
use Rattle.book_model.specs.Cells.{Cell, cell_of}
use Rattle.book_model.proofs.SettledLaws.{settled-all}
use Rattle.book_model.specs.Entries.{runs_of, namings, values, entries_from}
use Rattle.book_model.specs.Book.{all_cells, cell_at}
use Rattle.book_model.specs.Reading.{settled_from, runs_settled, settled_prefix}
use Rattle.book_model.proofs.CellLaws.{values-append}
use Rattle.book_model.proofs.FitLaws.{runs_of-append}
use Rattle.book_parts.specs.Line.{LineState, first_unsettled, OweNoMore}
use Rattle.book_parts.specs.Ledger.{Ledger, own}
use Rattle.book_core.specs.Stands.{as_found, AreLatest, applied_of}

-- ---- the first entry that isn't settled is the one after the prefix

first-number : (cells : List (List Cell)) (es : List Entry) → first_unsettled cells es ≡ slice_get (map (λ (e : Entry). e.number) es) (settled_prefix cells es)
first-number cells [] = refl
first-number cells (e ∷ es) = one (runs_settled cells (runs_of es) e.runs) (first-number cells es)
  where
    one : (b : Bool) → first_unsettled cells es ≡ slice_get (map (λ (x : Entry). x.number) es) (settled_prefix cells es)
        → (if b then first_unsettled cells es else Some e.number) ≡ slice_get (e.number ∷ map (λ (x : Entry). x.number) es) (if b then suc (settled_prefix cells es) else 0)
    one true later = later
    one false later = refl

pub prefix-few : (cells : List (List Cell)) (es : List Entry) → settled_prefix cells es ≤ length es
prefix-few cells [] = omega arith
prefix-few cells (e ∷ es) = one (runs_settled cells (runs_of es) e.runs) (prefix-few cells es)
  where
    one : (b : Bool) → settled_prefix cells es ≤ length es → (if b then suc (settled_prefix cells es) else 0) ≤ suc (length es)
    one true le = omega arith
    one false le = omega arith

-- ---- entries that were found count as the first ones

runs-found : (found rest : List Entry) → runs_of (map as_found found ++ rest) ≡ runs_of (found ++ rest)
runs-found [] rest = refl
runs-found (f ∷ fs) rest = ap (λ (l : List Run). f.runs ++ l) (runs-found fs rest)

pub prefix-found : (cells : List (List Cell)) (found rest : List Entry) → settled_prefix cells (map as_found found ++ rest) ≡ settled_prefix cells (found ++ rest)
prefix-found cells [] rest = refl
prefix-found cells (f ∷ fs) rest =
    ap (λ (l : List Run). if runs_settled cells l f.runs then suc (settled_prefix cells (map as_found fs ++ rest)) else 0) (runs-found fs rest)
    ∙ ap (λ (n : ℕ). if runs_settled cells (runs_of (fs ++ rest)) f.runs then suc n else 0) (prefix-found cells fs rest)

-- ---- what is gone is settled

from-vacant : (first : ℕ) (cells : List (List Cell)) (afterwards runs : List Run) → ((k at : ℕ) → length (cell_at cells k at).owed ≤ length (values afterwards (first + k) at)) → settled_from first cells afterwards runs ≡ true
from-vacant first [] afterwards runs few = refl
from-vacant first (c ∷ cs) afterwards runs few =
    let here = settled-all c (namings afterwards first) (namings runs first) (λ at. subst (λ (n : ℕ). length (cell_of c at).owed ≤ length (values afterwards n at)) (omega arith) (few 0 at)) in
    let later = from-vacant (suc first) cs afterwards runs (λ k at. subst (λ (n : ℕ). length (cell_at cs k at).owed ≤ length (values afterwards n at)) (omega arith) (few (suc k) at)) in
    rw (here, later) refl

pub prefix-gone : (cells : List (List Cell)) (gone live : List Entry) → ((k at : ℕ) → length (cell_at cells k at).owed ≤ length (values (runs_of live) k at))
    → settled_prefix cells (gone ++ live) ≡ length gone + settled_prefix cells live
prefix-gone cells [] live few = sym (zero-add (settled_prefix cells live))
prefix-gone cells (g ∷ gone) live few =
    let all : runs_of (gone ++ live) ≡ runs_of gone ++ runs_of live = runs_of-append gone live in
    let here : runs_settled cells (runs_of (gone ++ live)) g.runs ≡ true =
    ap (λ (l : List Run). runs_settled cells l g.runs) all
    ∙ from-vacant 0 cells (runs_of gone ++ runs_of live) g.runs
    (λ k at. let z : k ≡ 0 + k = omega arith in
    subst (λ (n : ℕ). length (cell_at cells k at).owed ≤ length (values (runs_of gone ++ runs_of live) n at)) z
    (omega (arith, few k at, ap length (values-append (runs_of gone) (runs_of live) k at), length-append (values (runs_of gone) k at) (values (runs_of live) k at)))) in
    rw here (omega (arith, prefix-gone cells gone live few))

-- ---- the number of an entry

get-afterwards : (xs ys : List ℕ) (k : ℕ) → slice_get (xs ++ ys) (length xs + k) ≡ slice_get ys k
get-afterwards [] ys k = rw (zero-add k) refl
get-afterwards (x ∷ xs) ys k = rw (suc-add (length xs) k) (get-afterwards xs ys k)

-- its number, where there is one
abbrev pub number_or : Option ℕ → ℕ → ℕ
number_or None n = n
number_or (Some m) n = m

own-number : (first count : ℕ) (base : List (List ℕ)) (commands : List Command) (k : ℕ) → count ≤ length commands → k ≤ count
    → number_or (slice_get (map (λ (e : Entry). e.number) (take count (entries_from first base commands))) k) (first + count) ≡ first + k
own-number first zero base commands k le most = omega arith
own-number first (suc count) base [] k le most = absurd (omega arith)
own-number first (suc count) base (c ∷ cs) zero le most = omega arith
own-number first (suc count) base (c ∷ cs) (suc k) le most =
    let later = own-number (suc first) count (after base c) cs k (omega arith) (omega arith) in
    let a : suc first + count ≡ first + suc count = omega arith in
    let b : suc first + k ≡ first + suc k = omega arith in
    ap (number_or (slice_get (map (λ (e : Entry). e.number) (take count (entries_from (suc first) (after base c) cs))) k)) (sym a) ∙ later ∙ b

found-number : (found : List Entry) (count : ℕ) (base : List (List ℕ)) (commands : List Command) (k : ℕ) → count ≤ length commands → k ≤ length found + count
    → number_or (slice_get (map (λ (e : Entry). e.number) (map as_found found ++ take count (entries_from 0 base commands))) k) count ≡ k - length found
found-number [] count base commands k le most =
    let own = own-number 0 count base commands k le (omega arith) in
    let z : 0 + count ≡ count = omega arith in
    ap (number_or (slice_get (map (λ (e : Entry). e.number) (take count (entries_from 0 base commands))) k)) (sym z) ∙ own ∙ omega arith
found-number (f ∷ fs) count base commands zero le most = omega arith
found-number (f ∷ fs) count base commands (suc k) le most = found-number fs count base commands k le (omega arith) ∙ omega arith

-- ---- all together

length-own : (first count : ℕ) (base : List (List ℕ)) (commands : List Command) → count ≤ length commands → length (take count (entries_from first base commands)) ≡ count
length-own first zero base commands le = refl
length-own first (suc count) base [] le = absurd (omega arith)
length-own first (suc count) base (c ∷ cs) le = ap suc (length-own (suc first) count (after base c) cs (omega arith))

pub applied-is : (found : List Entry) (ledger : Ledger) (work : LineState) → AreLatest found ledger work → OweNoMore work.slaves (work.older ++ work.newer) → ledger.durable ≤ length ledger.accepted
    → number_or (first_unsettled (all_cells work.slaves) (work.older ++ work.newer)) ledger.durable ≡ applied_of found ledger work
applied-is found ledger work latest few durable =
    let cells = all_cells work.slaves in
    let live = work.older ++ work.newer in
    let done = take ledger.durable (own ledger) in
    let all = map as_found found ++ done in
    let k = settled_prefix cells all in
    let is : k ≡ length latest.gone + settled_prefix cells live = ap (settled_prefix cells) (sym latest.all) ∙ prefix-gone cells latest.gone live few in
    let number : first_unsettled cells live ≡ slice_get (map (λ (e : Entry). e.number) all) k =
    first-number cells live
    ∙ sym (get-afterwards (map (λ (e : Entry). e.number) latest.gone) (map (λ (e : Entry). e.number) live) (settled_prefix cells live))
    ∙ ap (λ (n : ℕ). slice_get (map (λ (e : Entry). e.number) latest.gone ++ map (λ (e : Entry). e.number) live) (n + settled_prefix cells live)) (length-map latest.gone (λ (e : Entry). e.number))
    ∙ ap (slice_get (map (λ (e : Entry). e.number) latest.gone ++ map (λ (e : Entry). e.number) live)) (sym is)
    ∙ ap (λ (l : List ℕ). slice_get l k) (sym (map-append (λ (e : Entry). e.number) latest.gone live))
    ∙ ap (λ (l : List Entry). slice_get (map (λ (e : Entry). e.number) l) k) latest.all in
    let most : k ≤ length found + ledger.durable =
    omega (arith, prefix-few cells all, length-append (map as_found found) done, length-map found as_found, length-own 0 ledger.durable ledger.base ledger.accepted durable) in
    ap (λ (o : Option ℕ). number_or o ledger.durable) number
    ∙ found-number found ledger.durable ledger.base ledger.accepted k durable most
    ∙ ap (λ (n : ℕ). n - length found) (prefix-found cells found done)

-- as the book says it
pub applied-book : (words : List (List ℕ)) (found : List Entry) (ledger : Ledger) (work : LineState) → ledger.base ≡ redone words (runs_of found) → AreLatest found ledger work → OweNoMore work.slaves (work.older ++ work.newer)
    → ledger.durable ≤ length ledger.accepted → (unsettled : Option ℕ) → unsettled ≡ first_unsettled (all_cells work.slaves) (work.older ++ work.newer)
    → number_or unsettled ledger.durable ≡ settled_prefix (all_cells work.slaves) (found ++ take ledger.durable (entries_from 0 (redone words (runs_of found)) ledger.accepted)) - length found
applied-book words found ledger work base latest few durable unsettled is =
    ap (λ (o : Option ℕ). number_or o ledger.durable) is ∙ applied-is found ledger work latest few durable
    ∙ ap (λ (b : List (List ℕ)). settled_prefix (all_cells work.slaves) (found ++ take ledger.durable (entries_from 0 b ledger.accepted)) - length found) base
