-- How many bytes commands and batches take.
use Rattle.std.proofs.Common.{◌≡◌, ◌+◌, ◌*◌, ◌^◌, ◌<◌, ◌≤◌, List, [], ◌∷◌, ◌++◌, length, refl, arith, length-append}
use Rattle.std.specs.Prelude.{All}
use Rattle.std.specs.List.{flat_map, sum_by}
use Rattle.std.proofs.lemmas.List.Sums.{sum_by-cons, sum_by_push, sum_by-le}
use Rattle.std.proofs.lemmas.List.Elements.{All-weaker}
use Rattle.sii_words.specs.declared.run.Run.{Run}
use Rattle.jrn_format.specs.declared.journal.Entry.{Entry}
use Rattle.jrn_format.specs.declared.journal.Batch.{Batch}
use Rattle.jrn_format.specs.declared.journal.Spelling.TheVariants.{Plain, WithGeneration}
use Rattle.jrn_format.specs.Batch.{spelt_entry, spelt_payload, spelt_batch, entry_size}
use Rattle.jrn_format.proofs.Sizes.{length-entry}
use Rattle.jrn_format.specs.Halves.{entries_size}

sizes : (entries : List Entry) → length (flat_map spelt_entry entries) ≡ sum_by (λ (e : Entry). entry_size e.runs) entries
sizes [] = refl
sizes (entry ∷ entries) =
    omega (arith, length-append (spelt_entry entry) (flat_map spelt_entry entries), length-entry entry.number entry.runs, sizes entries, sum_by-cons (λ (e : Entry). entry_size e.runs) entry entries)

pub payload_size : (entries : List Entry) → length (spelt_payload entries) ≡ 2 + sum_by (λ entry. entry_size entry.runs) entries
payload_size entries = omega (arith, sizes entries)

pub payload_one_more : (entries : List Entry) (entry : Entry) → length (spelt_payload (entries ++ entry ∷ [])) ≡ length (spelt_payload entries) + entry_size entry.runs
payload_one_more entries entry =
    omega (arith, payload_size entries, payload_size (entries ++ entry ∷ []), sum_by_push (λ (e : Entry). entry_size e.runs) entries entry)

pub batch_size : (batch : Batch) → length (spelt_batch WithGeneration batch) ≡ entries_size batch.entries
batch_size batch = omega arith

pub plain_size : (batch : Batch) → length (spelt_batch Plain batch) ≡ 5 + length (spelt_payload batch.entries)
plain_size batch = omega arith

-- the most runs that a command may have, of the most words that a slave has
pub most_runs_fit : (runs : List Run) → length runs ≤ 65535 → All (λ run. length run.words ≤ 4096) runs → entry_size runs < 2 ^ 32
most_runs_fit runs few short =
    let each : All (λ run. 6 + 2 * length run.words ≤ 8198) runs = All-weaker (λ (run : Run). length run.words ≤ 4096) (λ run. 6 + 2 * length run.words ≤ 8198) (λ run le. omega arith) runs short in
    omega (arith, sum_by-le (λ (run : Run). 6 + 2 * length run.words) 8198 runs each)
