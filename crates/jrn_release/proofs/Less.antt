-- What is left without a slave fits where all of it did.
use Rattle.std.proofs.Common.{ℕ, ◌+◌, ◌*◌, ◌≤◌, eqb, List, [], ◌∷◌, ◌++◌, length, map, drop, refl, ap, append_assoc, arith, length-append}
use Rattle.std.specs.List.{sum_by, AllByRecursion}
use Rattle.std.proofs.lemmas.List.{length-map}
use Rattle.std.proofs.lemmas.List.Sums.{sum_by-cons}
use Rattle.std.proofs.lemmas.List.Filters.{sum_by-filter_both, length-filter_both}
use Rattle.std.proofs.lemmas.List.Elements.{All-from_recursion, recursion_from_All, All-filter, All-weaker}
use Rattle.sii_words.specs.declared.run.Run.{Run}
use Rattle.jrn_format.specs.declared.journal.Entry.{Entry}
use Rattle.jrn_format.specs.declared.journal.Batch.{Batch}
use Rattle.jrn_format.specs.declared.journal.Spelling.{Spelling}
use Rattle.jrn_format.specs.declared.journal.Spelling.TheVariants.{Plain, WithGeneration}
use Rattle.jrn_format.specs.Batch.{spelt_payload, spelt_batch, entry_size, RunFits, EntryFits, PayloadFits, CanStand, LiesWithin, LieWithin, IsWithin, IsCountedRun, AreCountedRuns, AreCounted}
use Rattle.jrn_format.specs.Area.{spelt_batches, IsLive}
use Rattle.jrn_format.specs.Journal.{AreOf}
use Rattle.jrn_format.proofs.SizeLaws.{payload_size}
use Rattle.jrn_release.specs.Without.{is_other, runs_without, entry_without, batch_without, over}

-- ENTRIES

counted_runs : (entry : Entry) → EntryFits entry → AreCountedRuns entry.runs
counted_runs entry fits = (fits.count, All-weaker RunFits IsCountedRun (λ run f. (f.some, f.count)) entry.runs (All-from_recursion RunFits entry.runs fits.runs))

pub counted : (entries : List Entry) → PayloadFits entries → AreCounted entries
counted entries fits = record {
  some = fits.some;
  count = fits.count;
  runs = All-weaker EntryFits (λ (entry : Entry). AreCountedRuns entry.runs) counted_runs entries (All-from_recursion EntryFits entries fits.each);
  bytes = fits.bytes;
}

module _ (slave : ℕ) where
  runs_size : (runs : List Run) → entry_size (runs_without slave runs) ≤ entry_size runs
  runs_size runs = omega (arith, sum_by-filter_both (λ (run : Run). eqb run.slave slave) (is_other slave) (λ _. refl) (λ (run : Run). 6 + 2 * length run.words) runs)

  runs_count : (runs : List Run) → length (runs_without slave runs) ≤ length runs
  runs_count runs = omega (arith, length-filter_both (λ (run : Run). eqb run.slave slave) (is_other slave) (λ _. refl) runs)

  kept_runs : (P : Run → Type 0) (runs : List Run) → AllByRecursion P runs → AllByRecursion P (runs_without slave runs)
  kept_runs P runs all = recursion_from_All P (runs_without slave runs) (All-filter (is_other slave) P runs (All-from_recursion P runs all))

  entry_fits : (entry : Entry) → EntryFits entry → EntryFits (entry_without slave entry)
  entry_fits entry fits = record {
    number = fits.number;
    count = omega (arith, runs_count entry.runs, fits.count);
    runs = kept_runs RunFits entry.runs fits.runs;
  }

  entries_fit : (entries : List Entry) → AllByRecursion EntryFits entries → AllByRecursion EntryFits (map (entry_without slave) entries)
  entries_fit [] fit = tt
  entries_fit (entry ∷ entries) fit = (entry_fits entry fit.0, entries_fit entries fit.1)

  abbrev sum_of : List Entry → ℕ
  sum_of entries = sum_by (λ (entry : Entry). entry_size entry.runs) entries

  entries_size : (entries : List Entry) → sum_of (map (entry_without slave) entries) ≤ sum_of entries
  entries_size [] = omega arith
  entries_size (entry ∷ entries) =
      omega (
        arith,
        entries_size entries,
        runs_size entry.runs,
        sum_by-cons (λ (e : Entry). entry_size e.runs) entry entries,
        sum_by-cons (λ (e : Entry). entry_size e.runs) (entry_without slave entry) (map (entry_without slave) entries),
      )

  payload_less : (entries : List Entry) → length (spelt_payload (map (entry_without slave) entries)) ≤ length (spelt_payload entries)
  payload_less entries = omega (arith, payload_size entries, payload_size (map (entry_without slave) entries), entries_size entries)

  pub payload_fits : (entries : List Entry) → PayloadFits entries → PayloadFits (map (entry_without slave) entries)
  payload_fits entries fits = record {
    some = omega (arith, length-map entries (entry_without slave), fits.some);
    count = omega (arith, length-map entries (entry_without slave), fits.count);
    each = entries_fit entries fits.each;
    bytes = omega (arith, payload_less entries, fits.bytes);
  }

  lie_within : (sizes : List ℕ) (entries : List Entry) → AllByRecursion (LieWithin sizes) entries → AllByRecursion (LieWithin sizes) (map (entry_without slave) entries)
  lie_within sizes [] all = tt
  lie_within sizes (entry ∷ entries) all = (kept_runs (LiesWithin sizes) entry.runs all.0, lie_within sizes entries all.1)

  -- BATCHES

  pub are_within : (sizes : List ℕ) (batches : List Batch) → AllByRecursion (IsWithin sizes) batches → AllByRecursion (IsWithin sizes) (map (batch_without slave) batches)
  are_within sizes [] all = tt
  are_within sizes (batch ∷ batches) all = (lie_within sizes batch.entries all.0, are_within sizes batches all.1)

  pub are_of : (generation : ℕ) (batches : List Batch) → AreOf generation batches → AreOf generation (map (batch_without slave) batches)
  are_of generation [] all = tt
  are_of generation (batch ∷ batches) all = (all.0, are_of generation batches all.1)

  all_can : (spelling : Spelling) (half : ℕ) (batches : List Batch) → AllByRecursion (CanStand spelling half) batches
      → AllByRecursion (CanStand spelling half) (map (batch_without slave) batches)
  all_can spelling half [] can = tt
  all_can spelling half (batch ∷ batches) can =
      (record { of_half = can.0.of_half; generation = can.0.generation; payload = payload_fits batch.entries can.0.payload }, all_can spelling half batches can.1)

  batch_less : (spelling : Spelling) (batch : Batch) → length (spelt_batch spelling (batch_without slave batch)) ≤ length (spelt_batch spelling batch)
  batch_less Plain batch = omega (arith, payload_less batch.entries)
  batch_less WithGeneration batch = omega (arith, payload_less batch.entries)

  spelt_less : (spelling : Spelling) (batches : List Batch) → length (spelt_batches spelling (map (batch_without slave) batches)) ≤ length (spelt_batches spelling batches)
  spelt_less spelling [] = omega arith
  spelt_less spelling (batch ∷ batches) =
      omega (
        arith,
        batch_less spelling batch,
        spelt_less spelling batches,
        length-append (spelt_batch spelling batch) (spelt_batches spelling batches),
        length-append (spelt_batch spelling (batch_without slave batch)) (spelt_batches spelling (map (batch_without slave) batches)),
      )

  -- what is spelt without the slave takes no more
  pub over_fits : (spelling : Spelling) (half : ℕ) (area : List ℕ) (batches : List Batch) → IsLive spelling half area batches → length (over slave spelling batches) ≤ length area
  over_fits spelling half area batches lives =
      omega (
        arith,
        spelt_less spelling batches,
        ap length lives.starts.spelt,
        ap length lives.ends.3,
        length-append (spelt_batches spelling batches) lives.rest,
        length-append (spelt_batches spelling (map (batch_without slave) batches)) (0 ∷ []),
      )

  -- and is live in its place
  pub over_lives : (spelling : Spelling) (half : ℕ) (area : List ℕ) (batches : List Batch) → IsLive spelling half area batches
      → IsLive spelling half (over slave spelling batches ++ drop (length (over slave spelling batches)) area) (map (batch_without slave) batches)
  over_lives spelling half area batches lives =
      let back = drop (length (over slave spelling batches)) area in
      record {
        rest = 0 ∷ back;
        starts = record {
          can_stand = all_can spelling half batches lives.starts.can_stand;
          spelt = append_assoc (spelt_batches spelling (map (batch_without slave) batches)) (0 ∷ []) back;
        };
        ends = (0, back, (λ e. absurd (omega (arith, e))), refl);
      }
