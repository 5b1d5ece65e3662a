-- A book that was just opened is recovering.
use Rattle.std.proofs.Common.{◌≡◌, ℕ, zero, suc, ◌+◌, ◌*◌, ◌<◌, ◌≤◌, List, [], ◌∷◌, ◌++◌, length, map, get_or, refl, sym, ◌∙◌, ap, subst, arith, length-append}
use Rattle.std.specs.List.{sum_by}
use Rattle.std.proofs.lemmas.List.{append-nil}
use Rattle.std.proofs.lemmas.List.Concat.{flat_map-append}
use Rattle.std.proofs.lemmas.List.Sums.{sum_by-cons, sum_by-append}
use Rattle.sii_words.specs.declared.run.Run.{Run}
use Rattle.jrn_format.specs.declared.journal.Entry.{Entry}
use Rattle.jrn_format.specs.declared.journal.Batch.{Batch}
use Rattle.jrn_format.specs.declared.journal.Journal.{Journal}
use Rattle.jrn_format.specs.declared.journal.Form.{Form}
use Rattle.jrn_format.specs.declared.journal.Form.TheVariants.{One, Two, Moving}
use Rattle.jrn_format.specs.declared.journal.Spelling.{Spelling}
use Rattle.jrn_format.specs.declared.journal.Spelling.TheVariants.{Plain, WithGeneration}
use Rattle.jrn_format.specs.Area.{spelt_batches}
use Rattle.jrn_format.specs.Batch.{spelt_batch, entry_size}
use Rattle.jrn_format.specs.Halves.{live}
use Rattle.jrn_format.specs.Live.{halves_in, FitForm, CanBeLive}
use Rattle.jrn_format.proofs.SizeLaws.{payload_size, batch_size, plain_size}
use Rattle.book_model.specs.Entries.{entries_of, runs_of, live_runs}
use Rattle.book_model.specs.Book.{Slave, nobody}
use Rattle.book_model.specs.Open.{opened_slave, owing_slaves, open_book}
use Rattle.book_model.proofs.WornBooks.{worn-opened}
use Rattle.site_journal.specs.Left.{half_calls, migration_calls, slaves_calls, calls_left, words_named, words_issued}
use Rattle.site_journal.specs.Recovering.{IsBetween, IsRecovering}
use Rattle.site_journal.proofs.NamedLaws.{words_of_runs, named_among, named-few}

-- ---- the slaves

abbrev found_slaves : List Run → ℕ → List (List ℕ) → List Slave
found_slaves runs k words = owing_slaves runs k (map opened_slave words)

vacant-found : (runs : List Run) (k : ℕ) (words : List (List ℕ)) (i : ℕ) → i < length (found_slaves runs k words) → IsBetween (get_or (found_slaves runs k words) i nobody).operation
vacant-found runs k [] i within = absurd (omega arith)
vacant-found runs k (w ∷ words) zero within = tt
vacant-found runs k (w ∷ words) (suc i) within = vacant-found runs (suc k) words i (omega arith)

calls-found : (entries : List Entry) (runs : List Run) (first k : ℕ) (words : List (List ℕ)) → slaves_calls entries first (found_slaves runs k words) ≡ 30006 * named_among (runs_of entries) first (found_slaves runs k words)
calls-found entries runs first k [] = refl
calls-found entries runs first k (w ∷ words) = omega (arith, calls-found entries runs (suc first) (suc k) words)

issued-found : (runs : List Run) (k : ℕ) (words : List (List ℕ)) → words_issued (found_slaves runs k words) ≡ 0
issued-found runs k [] = refl
issued-found runs k (w ∷ words) =
    omega (arith, sum_by-cons (λ (s : Slave). s.issues) (get_or (found_slaves runs k (w ∷ words)) 0 nobody) (found_slaves runs (suc k) words), issued-found runs (suc k) words)

-- ---- the book

half-few : (batches : List Batch) → half_calls batches ≤ 2
half-few [] = omega arith
half-few (b ∷ batches) = omega arith

pub recovering-opened : (words : List (List ℕ)) (capacity : ℕ) (journal : Journal) → IsRecovering (open_book words capacity journal)
recovering-opened words capacity journal =
    record { none = refl; step = tt; rests = refl; going = refl; between = vacant-found (live_runs journal.batches) 0 words; worn = worn-opened words capacity journal }

pub few-calls : (words : List (List ℕ)) (capacity : ℕ) (journal : Journal) → calls_left (open_book words capacity journal) ≤ 4 + migration_calls journal.form + 30006 * words_named journal.batches
few-calls words capacity journal =
    let entries = entries_of journal.batches in
    let halves = halves_in journal.batches in
    let slaves = found_slaves (live_runs journal.batches) 0 words in
    let all : slaves_calls (entries ++ []) 0 slaves ≡ slaves_calls entries 0 slaves = ap (λ (l : List Entry). slaves_calls l 0 slaves) (append-nil entries) in
    omega (arith, all, calls-found entries (live_runs journal.batches) 0 0 words, named-few (runs_of entries) 0 slaves, half-few halves.older, half-few halves.newer)

pub none-issued : (words : List (List ℕ)) (capacity : ℕ) (journal : Journal) → words_issued (open_book words capacity journal).slaves ≡ 0
none-issued words capacity journal = issued-found (live_runs journal.batches) 0 words

-- ---- how much is found

runs-sized : (runs : List Run) → 10 + 2 * words_of_runs runs ≤ entry_size runs
runs-sized [] = omega arith
runs-sized (r ∷ runs) = omega (arith, runs-sized runs, sum_by-cons (λ (run : Run). length run.words) r runs, sum_by-cons (λ (run : Run). 6 + 2 * length run.words) r runs)

entries-sized : (entries : List Entry) → length entries + 2 * words_of_runs (runs_of entries) ≤ sum_by (λ (e : Entry). entry_size e.runs) entries
entries-sized [] = omega arith
entries-sized (e ∷ entries) =
    omega (arith, entries-sized entries, runs-sized e.runs, sum_by-append (λ (run : Run). length run.words) e.runs (runs_of entries), sum_by-cons (λ (x : Entry). entry_size x.runs) e entries)

batch-sized : (spelling : Spelling) (batch : Batch) → 1 + length batch.entries + 2 * words_of_runs (runs_of batch.entries) ≤ length (spelt_batch spelling batch)
batch-sized Plain batch = omega (arith, plain_size batch, payload_size batch.entries, entries-sized batch.entries)
batch-sized WithGeneration batch = omega (arith, batch_size batch, payload_size batch.entries, entries-sized batch.entries)

abbrev Few : List Batch → ℕ → Type 0
Few batches bytes = length batches + length (entries_of batches) + 2 * words_named batches ≤ bytes

few-of : (spelling : Spelling) (batches : List Batch) → Few batches (length (spelt_batches spelling batches))
few-of spelling [] = omega arith
few-of spelling (b ∷ batches) =
    let runs : runs_of (b.entries ++ entries_of batches) ≡ runs_of b.entries ++ live_runs batches = flat_map-append (λ (e : Entry). e.runs) b.entries (entries_of batches) in
    omega (arith, few-of spelling batches, batch-sized spelling b, length-append b.entries (entries_of batches), ap words_of_runs runs, sum_by-append (λ (run : Run). length run.words) (runs_of b.entries) (live_runs batches), length-append (spelt_batch spelling b) (spelt_batches spelling batches))

few-in : (form : Form) (capacity : ℕ) (batches : List Batch) → FitForm form capacity batches → Few batches capacity
few-in One capacity batches fit = omega (arith, few-of Plain batches, fit.closes)
few-in Moving capacity batches fit = subst (λ (l : List Batch). Few l capacity) (sym fit) (omega arith)
few-in Two capacity batches fit =
    let halves = halves_in batches in
    let both : length (spelt_batches WithGeneration (live halves)) ≡ length (spelt_batches WithGeneration halves.older) + length (spelt_batches WithGeneration halves.newer) =
    ap length (flat_map-append (spelt_batch WithGeneration) halves.older halves.newer) ∙ length-append (spelt_batches WithGeneration halves.older) (spelt_batches WithGeneration halves.newer) in
    let few : Few batches (length (spelt_batches WithGeneration (live halves))) = subst (λ (l : List Batch). Few batches (length (spelt_batches WithGeneration l))) (sym fit.1) (few-of WithGeneration batches) in
    omega (arith, few, both, fit.0.older_fit.closes, fit.0.newer_fit.closes)

pub little-found : (capacity : ℕ) (sizes : List ℕ) (journal : Journal) → CanBeLive journal.form capacity sizes journal.batches → Few journal.batches capacity
little-found capacity sizes journal can = few-in journal.form capacity journal.batches can.fit
