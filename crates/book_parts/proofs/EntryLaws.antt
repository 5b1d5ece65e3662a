-- The words that entries name, one entry after another.
use Rattle.std.proofs.Common.{◌≡◌, ◌≢◌, ℕ, ◌+◌, ◌-◌, ◌<◌, ◌≤◌, List, [], ◌∷◌, ◌++◌, length, take, drop, get_or, map, refl, sym, ◌∙◌, ap, arith, append_assoc}
use Rattle.std.proofs.lemmas.List.{append-nil, take_more, take-append-drop, length-append}
use Rattle.std.proofs.lemmas.Grind.{flat_map-append}
use Rattle.sii_words.specs.declared.run.Run.{Run}
use Rattle.jrn_format.specs.declared.journal.Entry.{Entry}
use Rattle.book_model.specs.Cells.{Cell, Known, cell_of, owing, named, all_named}
use Rattle.book_model.specs.Pending.{Pending, values_of}
use Rattle.book_model.proofs.EndLaws.{values-append}
use Rattle.book_model.specs.Entries.{runs_of, namings, named_by, named_from, values}
use Rattle.book_parts.specs.Works.{words_named, entries_named, numbers_named, no_run}
use Rattle.book_parts.proofs.NamedLaws.{length-named_from, named-cells, named-room, named-live, named-numbers, named-cell}
use Rattle.book_model.proofs.EndLaws.{same_test}
use Rattle.book_model.proofs.EndLaws.{other_test}
use Rattle.book_model.proofs.WrittenLaws.{all_named-append}
use Rattle.book_model.proofs.FitLaws.{runs_of-append}

pub namings-append : (xs ys : List Run) (i : ℕ) → namings (xs ++ ys) i ≡ namings xs i ++ namings ys i
namings-append xs ys i = flat_map-append (named_by i) xs ys

pub numbers-append : (xs ys : List Entry) (i : ℕ) → numbers_named (xs ++ ys) i ≡ numbers_named xs i ++ numbers_named ys i
numbers-append xs ys i = flat_map-append (λ (e : Entry). map (λ (n : ℕ × ℕ). e.number) (namings e.runs i)) xs ys

-- one run more
pub namings-more : (runs : List Run) (j i : ℕ) → j < length runs → namings (take (j + 1) runs) i ≡ namings (take j runs) i ++ named_by i (get_or runs j no_run)
namings-more runs j i within =
    ap (λ (l : List Run). namings l i) (take_more runs j no_run within)
    ∙ namings-append (take j runs) (get_or runs j no_run ∷ []) i
    ∙ ap (λ (l : List (ℕ × ℕ)). namings (take j runs) i ++ l) (append-nil (named_by i (get_or runs j no_run)))

pub named-mine : (run : Run) (i : ℕ) → run.slave ≡ i → named_by i run ≡ named_from run.first run.words
named-mine run i is = rw (same_test run.slave i is) refl

pub named-none : (run : Run) (i : ℕ) → run.slave ≢ i → named_by i run ≡ []
named-none run i other = rw (other_test run.slave i other) refl

pub words-more : (runs : List Run) (j : ℕ) → j < length runs
    → length (namings (take (j + 1) runs) (get_or runs j no_run).slave) ≡ length (namings (take j runs) (get_or runs j no_run).slave) + length (get_or runs j no_run).words
words-more runs j within =
    let run : Run = get_or runs j no_run in
    let i : ℕ = run.slave in
    ap length (namings-more runs j i within ∙ ap (λ (l : List (ℕ × ℕ)). namings (take j runs) i ++ l) (named-mine run i refl))
    ∙ length-append (namings (take j runs) i) (named_from run.first run.words) ∙ ap (λ (n : ℕ). length (namings (take j runs) i) + n) (length-named_from run.first run.words)

pub namings-few : (runs : List Run) (k i : ℕ) → length (namings (take k runs) i) ≤ length (namings runs i)
namings-few runs k i =
    let split : namings runs i ≡ namings (take k runs) i ++ namings (drop k runs) i = ap (λ (l : List Run). namings l i) (sym (take-append-drop k runs)) ∙ namings-append (take k runs) (drop k runs) i in
    omega (arith, ap length split, length-append (namings (take k runs) i) (namings (drop k runs) i))

-- ENTRIES

pub entries-append : (p : Pending) (xs ys : List Entry) (i : ℕ) → entries_named p (xs ++ ys) i ≡ entries_named (entries_named p xs i) ys i
entries-append p [] ys i = refl
entries-append p (x ∷ xs) ys i = entries-append (words_named p (namings x.runs i) x.number) xs ys i

pub entries-cells : (p : Pending) (es : List Entry) (i : ℕ) → length (entries_named p es i).cells ≡ length p.cells
entries-cells p [] i = refl
entries-cells p (e ∷ es) i = entries-cells (words_named p (namings e.runs i) e.number) es i ∙ named-cells p (namings e.runs i) e.number

pub entries-room : (p : Pending) (es : List Entry) (i : ℕ) → (entries_named p es i).room ≡ p.room - length (namings (runs_of es) i)
entries-room p [] i = omega arith
entries-room p (e ∷ es) i =
    let all : length (namings (runs_of (e ∷ es)) i) ≡ length (namings e.runs i) + length (namings (runs_of es) i) =
    ap length (namings-append e.runs (runs_of es) i) ∙ length-append (namings e.runs i) (namings (runs_of es) i) in
    let rest = entries-room (words_named p (namings e.runs i) e.number) es i in
    let here = named-room p (namings e.runs i) e.number in
    omega arith

pub entries-live : (p : Pending) (es : List Entry) (i : ℕ) → (entries_named p es i).live ≡ p.live ++ namings (runs_of es) i
entries-live p [] i = sym (append-nil p.live)
entries-live p (e ∷ es) i =
    entries-live (words_named p (namings e.runs i) e.number) es i
    ∙ ap (λ (l : List (ℕ × ℕ)). l ++ namings (runs_of es) i) (named-live p (namings e.runs i) e.number)
    ∙ append_assoc p.live (namings e.runs i) (namings (runs_of es) i)
    ∙ ap (λ (l : List (ℕ × ℕ)). p.live ++ l) (sym (namings-append e.runs (runs_of es) i))

pub entries-numbers : (p : Pending) (es : List Entry) (i : ℕ) → (entries_named p es i).numbers ≡ p.numbers ++ numbers_named es i
entries-numbers p [] i = sym (append-nil p.numbers)
entries-numbers p (e ∷ es) i =
    entries-numbers (words_named p (namings e.runs i) e.number) es i
    ∙ ap (λ (l : List ℕ). l ++ numbers_named es i) (named-numbers p (namings e.runs i) e.number)
    ∙ append_assoc p.numbers (map (λ (n : ℕ × ℕ). e.number) (namings e.runs i)) (numbers_named es i)

pub owing-append : (cell : Cell) (xs ys : List ℕ) → owing cell (xs ++ ys) ≡ owing (owing cell xs) ys
owing-append cell xs ys = ap (λ (l : List ℕ). let c : Cell = record { known = cell.known; owed = l } in c) (all_named-append cell.known cell.owed xs ys)

pub entries-cell : (p : Pending) (es : List Entry) (i k : ℕ) → k < length p.cells → cell_of (entries_named p es i).cells k ≡ owing (cell_of p.cells k) (values (runs_of es) i k)
entries-cell p [] i k within = refl
entries-cell p (e ∷ es) i k within =
    let next = words_named p (namings e.runs i) e.number in
    entries-cell next es i k (omega (arith, named-cells p (namings e.runs i) e.number))
    ∙ ap (λ (c : Cell). owing c (values (runs_of es) i k)) (named-cell p (namings e.runs i) e.number k within)
    ∙ sym (owing-append (cell_of p.cells k) (values e.runs i k) (values (runs_of es) i k))
    ∙ ap (owing (cell_of p.cells k)) (sym (values-append k (namings e.runs i) (namings (runs_of es) i)) ∙ ap (values_of k) (sym (namings-append e.runs (runs_of es) i)))
