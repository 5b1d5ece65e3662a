-- If no live entry is unsettled, everything is settled.
use Rattle.std.proofs.Common.{◌≡◌, ℕ, suc, ◌+◌, ◌<◌, Bool, true, false, List, [], ◌∷◌, ◌++◌, length, take, map, refl, sym, ◌∙◌, ap, arith, Option, Some, None}
use Rattle.std.proofs.lemmas.Bool.{eq-eqb, ne_eqb}
use Rattle.std.specs.Prelude.{◌==◌, is_none, is_some, not, if◌then◌else◌}
use Rattle.std.proofs.lemmas.List.{length-append, length-map}
use Rattle.sii_words.specs.Redo.{redone}
use Rattle.jrn_format.specs.declared.journal.Entry.{Entry}
use Rattle.book_model.specs.Cells.{Cell}
use Rattle.book_model.specs.Entries.{runs_of, entries_from}
use Rattle.book_model.specs.Book.{all_cells}
use Rattle.book_model.specs.Reading.{runs_settled, settled_prefix}
use Rattle.book_parts.specs.Line.{LineState, first_unsettled, OweNoMore}
use Rattle.book_parts.specs.Ledger.{Ledger, own}
use Rattle.book_core.specs.Stands.{as_found, AreLatest}
use Rattle.book_core.proofs.AppliedLaws.{prefix-found, prefix-gone}

-- what is found says whether the prefix is whole
abbrev Complete : Option ℕ → (prefix all : ℕ) → Type 0
Complete None prefix all = prefix ≡ all
Complete (Some number) prefix all = prefix < all

entire-live : (cells : List (List Cell)) (es : List Entry) → Complete (first_unsettled cells es) (settled_prefix cells es) (length es)
entire-live cells [] = refl
entire-live cells (e ∷ es) = one (runs_settled cells (runs_of es) e.runs) (first_unsettled cells es) (entire-live cells es)
  where
    one : (b : Bool) (o : Option ℕ) → Complete o (settled_prefix cells es) (length es)
        → Complete (if b then o else Some e.number) (if b then suc (settled_prefix cells es) else 0) (suc (length es))
    one true None same = ap suc same
    one true (Some number) less = omega arith
    one false o any = omega arith

entire-more : (o : Option ℕ) (before prefix all : ℕ) → Complete o prefix all → Complete o (before + prefix) (before + all)
entire-more None before prefix all same = ap (λ (n : ℕ). before + n) same
entire-more (Some number) before prefix all less = omega arith

tells : (o : Option ℕ) (prefix all : ℕ) → Complete o prefix all → is_none o ≡ (prefix == all)
tells None prefix all same = sym (eq-eqb prefix all same)
tells (Some number) prefix all less = sym (ne_eqb prefix all (λ same. absurd (omega (arith, same, less))))

pub settled-book : (words : List (List ℕ)) (found : List Entry) (ledger : Ledger) (work : LineState) → ledger.base ≡ redone words (runs_of found) → AreLatest found ledger work → OweNoMore work.slaves (work.older ++ work.newer)
    → (unsettled : Option ℕ) → unsettled ≡ first_unsettled (all_cells work.slaves) (work.older ++ work.newer)
    → is_none unsettled
    ≡ (settled_prefix (all_cells work.slaves) (found ++ take ledger.durable (entries_from 0 (redone words (runs_of found)) ledger.accepted))
    == length (found ++ take ledger.durable (entries_from 0 (redone words (runs_of found)) ledger.accepted)))
settled-book words found ledger work base latest few unsettled is =
    let cells = all_cells work.slaves in
    let live = work.older ++ work.newer in
    let done = take ledger.durable (own ledger) in
    let here = entire-more (first_unsettled cells live) (length latest.gone) (settled_prefix cells live) (length live) (entire-live cells live) in
    let count : length latest.gone + length live ≡ length (found ++ done) =
    omega (arith, ap length latest.all, length-append latest.gone live, length-append (map as_found found) done, length-map found as_found, length-append found done) in
    let prefix : length latest.gone + settled_prefix cells live ≡ settled_prefix cells (found ++ done) =
    sym (prefix-gone cells latest.gone live few) ∙ ap (settled_prefix cells) latest.all ∙ prefix-found cells found done in
    ap (λ (o : Option ℕ). is_none o) is
    ∙ tells (first_unsettled cells live) (length latest.gone + settled_prefix cells live) (length latest.gone + length live) here
    ∙ ap (λ (n : ℕ). n == (length latest.gone + length live)) prefix
    ∙ ap (λ (n : ℕ). settled_prefix cells (found ++ done) == n) count
    ∙ ap (λ (b : List (List ℕ)). settled_prefix cells (found ++ take ledger.durable (entries_from 0 b ledger.accepted)) == length (found ++ take ledger.durable (entries_from 0 b ledger.accepted))) base

pub none-from-some : (o : Option ℕ) (b : Bool) → is_some o ≡ not b → b ≡ is_none o
none-from-some None true e = refl
none-from-some None false e = cc
none-from-some (Some n) true e = cc
none-from-some (Some n) false e = refl
