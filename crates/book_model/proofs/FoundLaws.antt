-- Opening a book on a synced journal establishes JournalFits.
use Rattle.std.proofs.Common.{◌≡◌, ℕ, ◌+◌, ◌/◌, ◌≤◌, false, List, [], ◌∷◌, ◌++◌, length, take, drop, refl, sym, ◌∙◌, ap, subst, arith, append_assoc, length-append, length-drop, take-append-drop}
use Rattle.std.specs.List.{AllByRecursion}
use Rattle.std.specs.Int.{w32}
use Rattle.std.proofs.lemmas.List.{append-nil, length-map, length-take-le, take_at, drop-drop}
use Rattle.jrn_format.specs.declared.journal.Batch.{Batch}
use Rattle.jrn_format.specs.declared.journal.Journal.{Journal}
use Rattle.jrn_format.specs.declared.journal.Form.{Form}
use Rattle.jrn_format.specs.declared.journal.Form.TheVariants.{One, Two, Moving}
use Rattle.jrn_format.specs.declared.journal.Spelling.TheVariants.{Plain}
use Rattle.jrn_format.specs.Batch.{CanStand, IsWithin}
use Rattle.jrn_format.specs.Header.{header_bytes, field_at, IsForm}
use Rattle.jrn_format.specs.Journal.{HasLive, IsJournal}
use Rattle.jrn_format.specs.Halves.{Halves, live}
use Rattle.jrn_format.specs.Live.{halves_in}
use Rattle.jrn_format.specs.File.{StandComplete}
use Rattle.jrn_format.proofs.OpenLaws.{StandIn, all_stand, halves_in-split, stated_capacity, journal-can-be-live}
use Rattle.jrn_format.proofs.CompleteLaws.{journal-entire}
use Rattle.site_core.specs.Disk.{Disk}
use Rattle.book_model.specs.Entries.{sizes_of}
use Rattle.book_model.specs.Book.{Book, is_version_2}
use Rattle.book_model.specs.Open.{open_book}
use Rattle.book_model.specs.Frame.{JournalFrame, room, IsJournalFrame}
use Rattle.book_model.specs.Keeping.{IsOfLine}
use Rattle.book_model.specs.OldFile.{area, OldAtRest}
use Rattle.book_model.specs.OldDoing.{undivided, JournalFits}
use Rattle.book_model.proofs.OldDoneLaws.{by-form}

-- ---- an old journal

-- all its batches are in the older half
undivided_in : (batches : List Batch) → AllByRecursion (CanStand Plain 0) batches → halves_in batches ≡ undivided batches
undivided_in [] can = refl
undivided_in (first ∷ batches) can =
    ap halves_in (sym (append-nil (first ∷ batches)))
    ∙ halves_in-split first batches [] (subst (λ (n : ℕ). StandIn n batches) (sym can.0.of_half) (all_stand Plain 0 batches can.1)) tt
    ∙ rw (can.0.of_half, can.0.generation) refl

-- two parts of equal length, and the rest
halved : (n : ℕ) (bytes : List ℕ) → bytes ≡ (take n bytes ++ take n (drop n bytes)) ++ drop (n + n) bytes
halved n bytes =
    sym (take-append-drop n bytes) ∙ ap (λ (l : List ℕ). take n bytes ++ l) (sym (take-append-drop n (drop n bytes)) ∙ ap (λ (l : List ℕ). take n (drop n bytes) ++ l) (drop-drop n n bytes))
    ∙ sym (append_assoc (take n bytes) (take n (drop n bytes)) (drop (n + n) bytes))

-- what is found of the disk
pub record FoundDisk (form : Form) (sizes : List ℕ) (batches : List Batch) (disk : Disk) : Type 0 where
  pub frame : JournalFrame
  pub is_frame : IsJournalFrame frame
  pub slaves : frame.slaves ≡ length sizes
  pub capacity : field_at w32 4 disk.bytes ≡ frame.capacity
  pub rests : OldAtRest frame form batches disk

found-disk : (form : Form) (sizes : List ℕ) (batches : List Batch) (disk : Disk) → IsJournal disk.bytes sizes (record { form = form; batches = batches }) → disk.unsynced ≡ [] → length disk.bytes ≤ disk.synced_length
    → FoundDisk form sizes batches disk
found-disk form sizes batches disk j synced entire =
    let h = j.has_area in
    let all = j.area ++ h.rest in
    let most = h.capacity in
    let long : length all ≡ length j.area + length h.rest = length-append j.area h.rest in
    let frame : JournalFrame = record { slaves = length sizes; capacity = length j.area; last = drop (length j.area / 2 + length j.area / 2) all } in
    let n = room frame in
    let split = halved n all in
    let first : length (take n all) ≡ n = length-take-le n all (omega (arith, long)) in
    let second : length (take n (drop n all)) ≡ n = length-take-le n (drop n all) (omega (arith, long, length-drop n all)) in
    let same : j.area ≡ area frame (take n all) (take n (drop n all)) = sym (take_at j.area h.rest (length j.area) refl) ∙ ap (take (length j.area)) split in
    record {
      frame = frame;
      is_frame = record { slaves_fit = h.header.slaves_fit; is_capacity = most; entire = omega (arith, long, length-drop (n + n) all) };
      slaves = refl;
      capacity = stated_capacity disk.bytes (length sizes) form j.area h;
      rests = record {
        version = h.version;
        first = take n all;
        second = take n (drop n all);
        versioned = record {
          file = record { equal = first ∙ sym second; is = h.header.spelt ∙ ap (λ (l : List ℕ). header_bytes h.version (length sizes) (length j.area) ++ l) split };
          room = first;
        };
        is_form = subst (λ (l : List ℕ). IsForm h.version l form) split h.is_form;
        live = subst (λ (l : List ℕ). HasLive form l batches) same j.live;
        synced = synced;
        entire = entire;
      };
    }

-- ---- the book that is opened on it

pub record Found (words : List (List ℕ)) (journal : Journal) (disk : Disk) : Type 0 where
  pub frame : JournalFrame
  pub line : IsOfLine frame (open_book words (field_at w32 4 disk.bytes) journal)
  pub fits : JournalFits frame (open_book words (field_at w32 4 disk.bytes) journal) disk
  pub lives : live (halves_in journal.batches) ≡ journal.batches

of-line : (frame : JournalFrame) (words : List (List ℕ)) (journal : Journal) (disk : Disk) → IsJournalFrame frame → frame.slaves ≡ length (sizes_of words) → field_at w32 4 disk.bytes ≡ frame.capacity → live (halves_in journal.batches) ≡ journal.batches
    → AllByRecursion (IsWithin (sizes_of words)) journal.batches → IsOfLine frame (open_book words (field_at w32 4 disk.bytes) journal)
of-line frame words journal disk is_frame slaves capacity lives within = record {
  is_frame = is_frame;
  slaves = sym (length-map words (λ (w : List ℕ). length w)) ∙ sym slaves;
  capacity = capacity;
  within = subst (AllByRecursion (IsWithin (sizes_of words))) (sym lives) within;
}

-- all batches of an old journal are in its one area
all-live : (batches : List Batch) → halves_in batches ≡ undivided batches → live (halves_in batches) ≡ batches
all-live batches one = ap live one ∙ append-nil batches

old-found : (form : Form) (batches : List Batch) (words : List (List ℕ)) (disk : Disk) → is_version_2 form ≡ false → halves_in batches ≡ undivided batches → IsJournal disk.bytes (sizes_of words) (record { form = form; batches = batches })
    → FoundDisk form (sizes_of words) batches disk → Found words (record { form = form; batches = batches }) disk
old-found form batches words disk old one j d =
    let journal : Journal = record { form = form; batches = batches } in
    let book : Book = open_book words (field_at w32 4 disk.bytes) journal in
    record {
      frame = d.frame;
      line = of-line d.frame words journal disk d.is_frame d.slaves d.capacity (all-live batches one) j.within;
      fits = by-form form d.frame book disk old (record {
        old = old;
        halves = one ∙ ap (λ (h : Halves). undivided h.older) (sym one);
        holds = subst (λ (h : Halves). OldAtRest d.frame form h.older disk) (sym one) d.rests;
      });
      lives = all-live batches one;
    }

two-found : (batches : List Batch) (words : List (List ℕ)) (disk : Disk) → IsJournal disk.bytes (sizes_of words) (record { form = Two; batches = batches }) → disk.unsynced ≡ [] → length disk.bytes ≤ disk.synced_length
    → Found words (record { form = Two; batches = batches }) disk
two-found batches words disk j synced long =
    let journal : Journal = record { form = Two; batches = batches } in
    let sizes = sizes_of words in
    let entire : StandComplete (length sizes) (field_at w32 4 disk.bytes) (halves_in batches) disk.bytes = journal-entire disk.bytes sizes batches j in
    let frame : JournalFrame = record { slaves = length sizes; capacity = field_at w32 4 disk.bytes; last = entire.inside.last } in
    let all = entire.entire in
    let half = entire.half in
    let equal = entire.inside.file.equal in
    let lives : live (halves_in batches) ≡ batches = (journal-can-be-live disk.bytes sizes journal j).fit.1 in
    record {
      frame = frame;
      line = of-line frame words journal disk (record { slaves_fit = entire.slaves_fit; is_capacity = entire.is_capacity; entire = omega (arith, all, half, equal) }) refl refl lives j.within;
      fits = record { older = entire.inside.older; newer = entire.inside.newer; framed = record { file = entire.inside.file; room = half }; stands = entire.inside.stands; synced = synced; entire = long };
      lives = lives;
    }

found-in : (form : Form) (batches : List Batch) (words : List (List ℕ)) (disk : Disk) → IsJournal disk.bytes (sizes_of words) (record { form = form; batches = batches }) → disk.unsynced ≡ [] → length disk.bytes ≤ disk.synced_length
    → Found words (record { form = form; batches = batches }) disk
found-in One batches words disk j synced entire = old-found One batches words disk refl (undivided_in batches j.live.starts.can_stand) j (found-disk One (sizes_of words) batches disk j synced entire)
found-in Two batches words disk j synced entire = two-found batches words disk j synced entire
found-in Moving batches words disk j synced entire =
    old-found Moving batches words disk refl (ap halves_in j.live ∙ ap undivided (sym j.live)) j (found-disk Moving (sizes_of words) batches disk j synced entire)

pub book-found : (words : List (List ℕ)) (journal : Journal) (disk : Disk) → IsJournal disk.bytes (sizes_of words) journal → disk.unsynced ≡ [] → length disk.bytes ≤ disk.synced_length → Found words journal disk
book-found words journal disk j synced entire = found-in journal.form journal.batches words disk j synced entire
