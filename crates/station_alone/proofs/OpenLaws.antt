-- What opening a station gives.
use Rattle.std.proofs.Common.{◌≡◌, inl, inr, ℕ, ◌+◌, ◌^◌, ◌<◌, ◌≤◌, Bool, false, List, length, get_or, map, take, drop, refl, sym, ◌∙◌, ap, subst, arith, length-append, Result, Ok, Err, Vec, Global}
use Rattle.std.specs.Prelude.{IsTrue, IfErr, IsErrAnd}
use Rattle.std.proofs.lemmas.List.{length-map, take-append-drop}
use Rattle.std.proofs.lemmas.List.Concat.{flat_map-append}
use Rattle.std.proofs.lemmas.Result.{err_from_is_err_and}
use Rattle.sii_words.specs.declared.words.Words.{Words}
use Rattle.sii_edit.specs.Fitting.{PlantFits}
use Rattle.jrn_format.specs.declared.journal.Entry.{Entry}
use Rattle.jrn_format.specs.declared.journal.Batch.{Batch}
use Rattle.jrn_format.specs.declared.journal.Journal.{Journal}
use Rattle.jrn_format.specs.Journal.{IsJournal}
use Rattle.jrn_format.specs.Live.{CanBeLive}
use Rattle.jrn_format.proofs.OpenLaws.{journal-can-be-live}
use Rattle.esc_model.specs.SlaveHalf.{SlaveHalf}
use Rattle.esc_rom.specs.declared.fault.RomFault.{RomFault}
use Rattle.esc_rom.specs.declared.fault.RomFault.TheVariants as rom
use Rattle.esc_rom.specs.Runs.{Quiet}
use Rattle.esc_rom.proofs.Runs.{Quiet-none, Quiet-then}
use Rattle.site_core.specs.declared.fault.DeviceFault.{DeviceFault}
use Rattle.site_core.specs.Line.{Line}
use Rattle.site_core.specs.State.{State, Leaves, Seen, word_counts}
use Rattle.site_core.specs.Disk.{Disk, synced}
use Rattle.site_journal.specs.Runs.{MakesCalls}
use Rattle.site_journal.specs.Reading.{ReadsJournal}
use Rattle.esc_rom.specs.Owned.{OwnsAll, AreSizes}
use Rattle.esc_rom.specs.Reading.{AreRead, ReadsLine, most_calls}
use Rattle.book_model.specs.Entries.{entries_of, sizes_of}
use Rattle.book_model.specs.Book.{Book, contents_of}
use Rattle.book_model.specs.Open.{open_book}
use Rattle.book_model.specs.Machine.{reopened}
use Rattle.book_core.proofs.FoundLaws.{entries-more}
use Rattle.book_model.specs.Keeping.{IsOfBook}
use Rattle.book_model.specs.Opening.{words_in, capacity_in, IsAllSynced, IsFound, book_on}
use Rattle.book_model.proofs.LineLaws.{up-kept}
use Rattle.book_model.proofs.OpeningLaws.{up-opens}
use Rattle.world_law.specs.Happenings.{with_synced}
use Rattle.world_law.proofs.StandsLaws.{pair_read, leaves-read}
use Rattle.site_journal.specs.Ready.{IsReady}
use Rattle.site_journal.proofs.GoLaws.{keeps-still}
use Rattle.site_journal.proofs.ReadyLaws.{opened-ready}
use Rattle.site_journal.proofs.OpenLaws.{little-found}
use Rattle.station_alone.specs.declared.fault.OpenFault.TheVariants as faults
use Rattle.station_alone.specs.declared.opening.Reading.{Reading}
use Rattle.station_alone.specs.Station.{Station, station, Stands}
use Rattle.station_alone.specs.Keeping.{KeepsThroughout}
use Rattle.station_alone.specs.Opening.{ReadsFound, OpensOn, FailsToOpen, BeginsSession, most_calls_to_open}

-- the exit of a `?`
pub err-exit : {T E : Type 0} (r : Result T E) (e : E) (P : E → Type 0) → IsErrAnd r (λ given. given ≡ e) → P e → IfErr r P
err-exit r e P is p = let g = err_from_is_err_and r is in subst (λ (x : Result _ _). IfErr x P) (sym g.1) (subst P (sym g.2) p)

-- ---- how many commands are found

pub count-more : (batches : List Batch) (k : ℕ) (d : Batch) → k < length batches → length (entries_of (take (k + 1) batches)) ≡ length (entries_of (take k batches)) + length (get_or batches k d).entries
count-more batches k d within = ap (λ (l : List Entry). length l) (entries-more batches k d within) ∙ length-append (entries_of (take k batches)) (get_or batches k d).entries

pub count-within : (batches : List Batch) (k : ℕ) → length (entries_of (take k batches)) ≤ length (entries_of batches)
count-within batches k =
    let entire = ap (λ (l : List Batch). length (entries_of l)) (take-append-drop k batches) in
    let parts = ap (λ (l : List Entry). length l) (flat_map-append (λ (b : Batch). b.entries) (take k batches) (drop k batches)) in
    omega (arith, entire, parts, length-append (entries_of (take k batches)) (entries_of (drop k batches)))

-- ---- calls in a row

-- those of the disk are quiet
runs-quiet : (old : Seen) (most : ℕ) (result : Result (Unit {0}) DeviceFault) (new : Seen) → MakesCalls (Leaves old.state) old most result new → Quiet old most new
runs-quiet old most result new runs =
    let counted = runs.counted in
    record { adds = runs.stays; follows = runs.follows; within = runs.within; never_fewer = omega (arith, counted); turns = runs.turns }

-- ---- why it isn't opened

pub fails-without-memory : (its : Line) (seen : Seen) → FailsToOpen its seen faults.Memory its seen
fails-without-memory its seen = record { line = refl; quiet = Quiet-none seen (most_calls_to_open its.sizes); why = inl refl }

module _ (T : Type 0) (plant_of : T → List (List ℕ)) (its later last : Line) (sizes : List ℕ) (old mid new : Seen) (are : AreSizes sizes its old) (later_is : later ≡ its) (last_is : last ≡ later) where
  fault-is : (result : Result T RomFault) (fault other : RomFault) → result ≡ Err fault → result ≡ Err other → fault ≡ other
  fault-is result fault other one two = cc

  pub fails-at-slave : (found : ℕ × Journal) (fault : RomFault) → ReadsJournal sizes old (Ok found) mid → ReadsLine {T = T} plant_of later.sizes mid (Err fault) new → FailsToOpen its old (faults.Slave fault) last new
  fails-at-slave found fault reads slaves =
      let journal : ReadsJournal its.sizes old (Ok found) mid = subst (λ (s : List ℕ). ReadsJournal s old (Ok found) mid) are.of_line reads in
      let line : ReadsLine {T = T} plant_of its.sizes mid (Err fault) new = subst (λ (l : Line). ReadsLine {T = T} plant_of l.sizes mid (Err fault) new) later_is slaves in
      record {
        line = last_is ∙ later_is;
        quiet = Quiet-then {a = old} {b = mid} {c = new} {m = 3} {n = most_calls its.sizes} {most = most_calls_to_open its.sizes} (omega arith) (runs-quiet old 3 _ mid journal.syncs.runs) line.quiet;
        why = record { found = found; read = mid; journal = journal; ends = line.faults; stopped = (λ is. fault-is (Err fault) fault rom.Stopped refl (line.stopped.0 is), λ is. line.stopped.1 (ap Err is)) };
      }

-- ---- what is read

module _ (sizes : List ℕ) (its : Line) (old mid new : Seen) (capacity : ℕ) (journal : Journal) (plant : List (List ℕ)) (are : AreSizes sizes its old) (reads : ReadsJournal sizes old (Ok (capacity, journal)) mid)
    (read : AreRead plant mid.state new.state) where
  mid-is : mid.state ≡ with_synced old.state
  mid-is = reads.syncs.first

  pub disk-is : new.state.disk ≡ synced old.state.disk
  disk-is = read.disk ∙ ap (λ (s : State). s.disk) mid-is

  pub bytes-are : new.state.disk.bytes ≡ old.state.disk.bytes
  bytes-are = ap (λ (d : Disk). d.bytes) disk-is

  pub sizes-are : sizes_of plant ≡ sizes
  sizes-are = read.counts ∙ ap (λ (s : State). word_counts s.halves) mid-is ∙ sym are.held

  halves-are : sizes ≡ sizes_of (words_in new.state.halves)
  halves-are = sym sizes-are ∙ ap sizes_of read.words

  -- the journal is that of the disk and the slaves as they are then
  pub found-is : IsFound journal new.state
  found-is = record {
    is_journal = subst (λ (b : List ℕ). IsJournal b (sizes_of (words_in new.state.halves)) journal) (sym bytes-are) (subst (λ (s : List ℕ). IsJournal old.state.disk.bytes s journal) halves-are reads.finds.0);
    synced = subst IsAllSynced (sym disk-is) (record { all = refl; entire = omega arith });
    idle = read.idle;
  }

pub reads-found : (its later : Line) (sizes : List ℕ) (old mid new : Seen) (capacity : ℕ) (journal : Journal) (words : Vec Words Global) → AreSizes sizes its old → later ≡ its → ReadsJournal sizes old (Ok (capacity, journal)) mid
    → ReadsLine {T = Vec Words Global} (λ plant. plant.items) later.sizes mid (Ok words) new → ReadsFound its old (record { capacity = capacity; journal = journal; words = words }) new
reads-found its later sizes old mid new capacity journal words are later_is reads slaves =
    let line : ReadsLine {T = Vec Words Global} (λ plant. plant.items) its.sizes mid (Ok words) new =
    subst (λ (l : Line). ReadsLine {T = Vec Words Global} (λ plant. plant.items) l.sizes mid (Ok words) new) later_is slaves in
    let bytes = bytes-are sizes its old mid new capacity journal words.items are reads line.read in
    let many : length words.items ≡ length sizes = sym (length-map words.items _) ∙ ap (λ (l : List ℕ). length l) (sizes-are sizes its old mid new capacity journal words.items are reads line.read) in
    let some = are.some in
    let most = are.most in
    record {
      quiet = Quiet-then {a = old} {b = mid} {c = new} {m = 3} {n = most_calls its.sizes} {most = most_calls_to_open its.sizes} (omega arith) (runs-quiet old 3 _ mid reads.syncs.runs) line.quiet;
      bytes = bytes;
      disk = disk-is sizes its old mid new capacity journal words.items are reads line.read;
      is_journal = subst (λ (s : List ℕ). IsJournal old.state.disk.bytes s journal) are.of_line reads.finds.0;
      found = found-is sizes its old mid new capacity journal words.items are reads line.read;
      capacity = reads.finds.1 ∙ ap capacity_in (sym bytes);
      words = line.read.words;
      some = omega (arith, many, some);
      most = omega (arith, many, most);
      of_line = many ∙ ap (λ (l : List ℕ). length l) are.of_line;
      all = record { found = (capacity, journal); read = mid; journal = subst (λ (s : List ℕ). ReadsJournal s old (Ok (capacity, journal)) mid) are.of_line reads; slaves = line.were_read };
    }

-- memory for the book was refused once all was read
pub fails-at-book : (its later : Line) (old : Seen) (r : Reading) (new : Seen) → later ≡ its → ReadsFound its old r new → FailsToOpen its old faults.Memory later new
fails-at-book its later old r new later_is reads = record { line = later_is; quiet = reads.quiet; why = inr reads.all }

-- ---- the book is opened on it

took-none : (halves : List SlaveHalf) → List Bool
took-none halves = map (λ (half : SlaveHalf). false) halves

took-long : (halves : List SlaveHalf) → length (took-none halves) ≡ length halves
unfolding took-none
took-long halves = length-map halves _

pub found-ready : (journal : Journal) (seen : Seen) → IsFound journal seen.state → IsReady (book_on seen.state journal) seen
found-ready journal seen found = opened-ready journal seen (took-none seen.state.halves) (took-long seen.state.halves) found

module _ (its : Line) (old : Seen) (r : Reading) (new : Seen) (reads : ReadsFound its old r new) where
  live-there : CanBeLive r.journal.form (capacity_in new.state.disk.bytes) (sizes_of (words_in new.state.halves)) r.journal.batches
  live-there = journal-can-be-live new.state.disk.bytes (sizes_of (words_in new.state.halves)) r.journal reads.found.is_journal

  pub live-found : CanBeLive r.journal.form r.capacity (sizes_of r.words.items) r.journal.batches
  live-found =
      subst (λ (c : ℕ). CanBeLive r.journal.form c (sizes_of r.words.items) r.journal.batches) (sym reads.capacity)
      (subst (λ (w : List (List ℕ)). CanBeLive r.journal.form (capacity_in new.state.disk.bytes) (sizes_of w) r.journal.batches) (sym reads.words) live-there)

  -- an area has 4 MiB at most
  capacity-few : capacity_in new.state.disk.bytes ≤ 4194304
  capacity-few =
      let u = (found-ready r.journal new reads.found).up refl in
      let same = u.3.line.capacity in
      let few = u.3.line.is_frame.is_capacity.1 in
      omega (arith, same, few)

  pub few-found : length r.journal.batches + length (entries_of r.journal.batches) < 2 ^ 64
  few-found =
      let few = little-found (capacity_in new.state.disk.bytes) (sizes_of (words_in new.state.halves)) r.journal live-there in
      let most = capacity-few in
      omega (arith, few, most)

  module _ (core : Book) (is : core ≡ open_book r.words.items r.capacity r.journal) where
    pub book-is : core ≡ book_on new.state r.journal
    book-is =
        is ∙ ap (λ (w : List (List ℕ)). open_book w r.capacity r.journal) reads.words ∙ ap (λ (c : ℕ). open_book (words_in new.state.halves) c r.journal) reads.capacity

    pub opened-stands : (later : Line) → IsTrue its.has_disk → OwnsAll its → later ≡ its → PlantFits (contents_of core) → Stands (station core later new)
    opened-stands later disk owned same fits = record {
      disk = subst (λ (l : Line). IsTrue l.has_disk) (sym same) disk;
      owned = subst OwnsAll (sym same) owned;
      slaves = ap (λ (b : Book). length b.words) is ∙ reads.of_line ∙ ap (λ (l : Line). length l.sizes) (sym same);
      words = fits;
      ready = subst (λ (b : Book). IsReady b new) (sym book-is) (found-ready r.journal new reads.found);
    }

-- ---- what is kept

pub keeps-opening : (old new : Seen) (most : ℕ) → Quiet old most new → KeepsThroughout old new
keeps-opening old new most quiet machine kept = keeps-still machine old new quiet.adds kept

pub begins-session : (its : Line) (old : Seen) (journal : Journal) (new : Station) → OpensOn its old journal new → BeginsSession old new
begins-session its old journal new opens machine kept =
    let state = new.seen.state in
    let all = keeps-opening old new.seen (most_calls_to_open its.sizes) opens.quiet machine kept in
    let took = took-none state.halves in
    let o = up-opens journal state took machine opens.found (took-long state.halves) (all.passes.now (pair_read state) (leaves-read state)) in
    record {
      k = o.k;
      may_keep = o.may_keep;
      of = subst (λ (b : Book). IsOfBook b (reopened machine o.k)) (sym opens.book) o.up.of;
      kept = λ pair left. up-kept o.frame (book_on state journal) state took (reopened machine o.k) pair o.up left;
    }
