-- DiskFits stays true when an action begins.
use Rattle.std.proofs.Common.{◌≡◌, ◌≢◌, ◌⊎◌, inl, inr, ℕ, ◌+◌, ◌<◌, ◌≤◌, Bool, true, false, List, [], ◌∷◌, ◌++◌, length, take, drop, refl, sym, ◌∙◌, ap, subst, arith, length-append, length-drop, Option, Some, None}
use Rattle.std.proofs.lemmas.Bool.{leb-true}
use Rattle.std.specs.Prelude.{nat_le, ◌&&◌, if◌then◌else◌}
use Rattle.std.specs.Int.{w32, to_le_bytes}
use Rattle.jrn_format.specs.declared.journal.Entry.{Entry}
use Rattle.jrn_format.specs.declared.journal.Batch.{Batch}
use Rattle.jrn_format.specs.declared.journal.Spelling.TheVariants.{WithGeneration}
use Rattle.jrn_format.specs.Batch.{spelt_payload, spelt_after, PayloadFits, CanStand}
use Rattle.jrn_format.specs.Halves.{Halves, Place, InOlder, InNewer, live, half_of, batches_in, batch_in, fits, size, entries_size, place_in, place_of}
use Rattle.site_core.specs.Disk.{Disk, write_begun}
use Rattle.book_model.specs.Cells.{is_any}
use Rattle.book_model.specs.Entries.{live_runs, sizes_of}
use Rattle.book_model.specs.Book.{Book, Doing, Resting, Payload, CloseGate, FarGate, own, queued, appended, being_appended, all_cells}
use Rattle.book_model.specs.Book.{room as book_room}
use Rattle.book_model.specs.DiskSteps.{payload_bytes, action_of, can_retire, can_migrate, begun}
use Rattle.book_model.specs.Reading.{runs_settled}
use Rattle.book_model.proofs.FitLaws.{entries-in}
use Rattle.book_model.specs.Plants.{AllSettled}
use Rattle.book_model.specs.Frame.{JournalFrame, IsJournalFrame, room}
use Rattle.book_model.specs.Phases.{AtRest, HasPayload, HasClosing}
use Rattle.book_model.specs.Doing.{Appending, DoingFits}
use Rattle.book_model.specs.Events.{begun_on}
use Rattle.book_model.specs.Queued.{CanQueue}
use Rattle.book_model.proofs.AppendLaws.{payload-begun, close-begun}
use Rattle.book_model.proofs.DoneLaws.{place-at, half-at}
use Rattle.book_model.proofs.SettledLaws.{and-right, and-left}

-- ---- where a batch goes there is room for it

pub record HasRoom (room : ℕ) (halves : Halves) (place : Place) (entries : List Entry) : Type 0 where
  pub in_older : place ≡ InOlder → halves.newer ≡ []
  pub fits : size (batches_in halves place) + entries_size entries + 1 ≤ room

pub le-of : (n m : ℕ) → nat_le n m ≡ true → n ≤ m
le-of n m is = leb-true n m is

pub only : (c : Bool) (p q : Place) → (if c then Some p else None) ≡ Some q → (c ≡ true) × (p ≡ q)
only true p q is = (refl, cc)
only false p q is = absurd cc

pub first_or : (c d : Bool) (q : Place) → (if c then Some InOlder else if d then Some InNewer else None) ≡ Some q → ((c ≡ true) × (InOlder ≡ q)) ⊎ ((d ≡ true) × (InNewer ≡ q))
first_or true d q is = inl (refl, cc)
first_or false d q is = inr (only d InNewer q is)

room-in : (room : ℕ) (halves : Halves) (newer : List Batch) (entries : List Entry) (place : Place) → halves.newer ≡ newer → place_in room halves.older newer entries ≡ Some place → HasRoom room halves place entries
room-in room halves [] entries place none is = elim (first_or (fits room halves.older entries) (fits room [] entries) place is) [
  | inl older ↦ subst (λ (p : Place). HasRoom room halves p entries) older.1 (record { in_older = λ e. none; fits = le-of (size halves.older + entries_size entries + 1) room older.0 })
  | inr newer ↦ subst (λ (p : Place). HasRoom room halves p entries) newer.1 (record {
    in_older = λ e. none;
    fits = subst (λ (l : List Batch). size l + entries_size entries + 1 ≤ room) (sym none) (le-of (size [] + entries_size entries + 1) room newer.0);
  })
]
room-in room halves (b ∷ newer) entries place some is =
    let o = only (fits room (b ∷ newer) entries) InNewer place is in
    subst (λ (p : Place). HasRoom room halves p entries) o.1 (record {
      in_older = λ e. absurd cc;
      fits = subst (λ (l : List Batch). size l + entries_size entries + 1 ≤ room) (sym some) (le-of (size (b ∷ newer) + entries_size entries + 1) room o.0);
    })

pub room-for : (room : ℕ) (halves : Halves) (entries : List Entry) (place : Place) → place_of room halves entries ≡ Some place → HasRoom room halves place entries
room-for room halves entries place is = room-in room halves halves.newer entries place refl is

-- ---- a batch of the queue

generation-fits : (halves : Halves) (place : Place) (entries : List Entry) → halves.generation < 256 → (batch_in halves place entries).generation < 256
generation-fits halves InOlder entries small = small
generation-fits halves InNewer entries small = omega arith

half-is : (halves : Halves) (place : Place) (entries : List Entry) → (batch_in halves place entries).half ≡ half_of halves place
half-is halves InOlder entries = refl
half-is halves InNewer entries = refl

pub batch-can-stand : (halves : Halves) (place : Place) (entries : List Entry) → halves.generation < 256 → PayloadFits entries → CanStand WithGeneration (half_of halves place) (batch_in halves place entries)
batch-can-stand halves place entries small payload = record {
  of_half = half-is halves place entries;
  generation = generation-fits halves place entries small;
  payload = subst PayloadFits (sym (entries-in halves place entries)) payload;
}

some-is : (entries : List Entry) → is_any entries ≡ true → 1 ≤ length entries
some-is [] is = absurd cc
some-is (e ∷ entries) is = omega arith

take-all : (entries : List Entry) → take (length entries) entries ≡ entries
take-all [] = refl
take-all (e ∷ entries) = ap (λ (l : List Entry). e ∷ l) (take-all entries)

queued-resting : (book : Book) → book.doing ≡ Resting → queued book ≡ drop book.durable (own book)
queued-resting book is =
    ap (λ (d : Doing). drop (book.durable + length (being_appended (appended d))) (own book)) is ∙ ap (λ (n : ℕ). drop n (own book)) (omega arith)

after-long : (generation : ℕ) (entries : List Entry) → length (spelt_after WithGeneration generation entries ++ 0 ∷ []) ≡ entries_size entries
after-long generation entries =
    omega (arith, length-append (spelt_after WithGeneration generation entries) (0 ∷ []), length-append (generation ∷ []) (to_le_bytes w32 (length (spelt_payload entries)) ++ spelt_payload entries), length-append (to_le_bytes w32 (length (spelt_payload entries))) (spelt_payload entries), four (length (spelt_payload entries)))
  where
    four : (n : ℕ) → length (to_le_bytes w32 n) ≡ 4
    four n = refl

-- an append begins where the queue has a place
pub append-begins : (frame : JournalFrame) (book : Book) (place : Place) (disk : Disk) → IsJournalFrame frame → book.capacity ≡ frame.capacity → book.doing ≡ Resting → book.durable ≤ length (own book) → CanQueue (sizes_of book.words) (queued book)
    → is_any (queued book) ≡ true → place_of (room frame) book.halves (queued book) ≡ Some place → AtRest frame book.halves disk
    → DoingFits frame book (Payload place (queued book)) true false (begun_on (action_of book (Payload place (queued book))) disk)
append-begins frame book place disk is_frame same resting few can some is rest =
    let entries = queued book in
    let own_is = queued-resting book resting in
    let there = room-for (room frame) book.halves entries place is in
    let long : length (payload_bytes book place entries) ≡ entries_size entries = after-long (batch_in book.halves place entries).generation entries in
    let most = is_frame.is_capacity in
    let payload : PayloadFits entries = record { some = some-is entries some; count = can.count; each = can.each; bytes = omega (arith, there.fits, most) } in
    let p = payload-begun frame book.halves place (length (payload_bytes book place entries)) disk there.in_older rest (omega (arith, there.fits, long)) in
    let appends : Appending book place entries = record {
      next = subst (λ (l : List Entry). take (length l) (drop book.durable (own book)) ≡ l) (sym own_is) (take-all (drop book.durable (own book)));
      few = omega (arith, ap length own_is, length-drop book.durable (own book), few);
      in_older = there.in_older;
      can = batch-can-stand book.halves place entries rest.stands.generation payload;
      within = can.within;
    } in
    (tt, appends, (p.0, (p.1, subst (λ (n : ℕ). HasPayload frame book.halves place p.0 (write_begun disk (n + 1) (length (payload_bytes book place entries)))) (sym (place-at frame book place same)) p.2)))

not_any : (halves : Halves) → (halves.older ≡ [] → halves.newer ≡ []) → halves.older ≡ [] → is_any (live halves) ≡ false
not_any halves ordered none = ap (λ (l : List Batch). is_any (l ++ halves.newer)) none ∙ ap (λ (l : List Batch). is_any l) (ordered none)

-- a retire begins where the test holds
pub retire-begins : (frame : JournalFrame) (book : Book) (disk : Disk) → book.capacity ≡ frame.capacity → (book.halves.older ≡ [] → book.halves.newer ≡ [])
    → (runs_settled (all_cells book.slaves) (live_runs book.halves.newer) (live_runs book.halves.older) ≡ true → AllSettled book.words (live_runs book.halves.newer) (all_cells book.slaves))
    → can_retire book ≡ true → AtRest frame book.halves disk
    → DoingFits frame book CloseGate true false (begun_on (action_of book CloseGate) disk)
retire-begins frame book disk same ordered tested can rest =
    let tests = runs_settled (all_cells book.slaves) (live_runs book.halves.newer) (live_runs book.halves.older) in
    let some : book.halves.older ≢ [] = λ none. let no = not_any book.halves ordered none in let yes = and-left (is_any (live book.halves)) tests can in absurd cc in (
      tt,
      record { settled = tested (and-right (is_any (live book.halves)) tests can); some = some },
      (0xA5, subst (λ (n : ℕ). HasClosing frame book.halves 0xA5 (write_begun disk n 1)) (sym (half-at frame book book.halves.at same)) (close-begun frame book.halves disk rest some)),
    )

-- ---- what is begun

pub data BegunAs (book : Book) (doing : Doing) : Type 0 where
  appends : (place : Place) → is_any (queued book) ≡ true → place_of (book_room book) book.halves (queued book) ≡ Some place → doing ≡ Payload place (queued book) → BegunAs book doing
  retires : can_retire book ≡ true → doing ≡ CloseGate → BegunAs book doing
  migrates : can_migrate book ≡ true → doing ≡ FarGate → BegunAs book doing
  rests : doing ≡ Resting → BegunAs book doing

begun-without : (book : Book) (r m : Bool) → can_retire book ≡ r → can_migrate book ≡ m → BegunAs book (if can_retire book then CloseGate else if can_migrate book then FarGate else Resting)
begun-without book true m ir im = retires ir (rw ir refl)
begun-without book false true ir im = migrates im (rw (ir, im) refl)
begun-without book false false ir im = rests (rw (ir, im) refl)

begun-with : (book : Book) (p : Option Place) → is_any (queued book) ≡ true → place_of (book_room book) book.halves (queued book) ≡ p → BegunAs book (begun book)
begun-with book (Some place) some is = appends place some is (rw (some, is) refl)
begun-with book None some is = rw (some, is) (begun-without book (can_retire book) (can_migrate book) refl refl)

begun-if : (book : Book) (c : Bool) → is_any (queued book) ≡ c → BegunAs book (begun book)
begun-if book true some = begun-with book (place_of (book_room book) book.halves (queued book)) some refl
begun-if book false none = rw none (begun-without book (can_retire book) (can_migrate book) refl refl)

pub begun-as : (book : Book) → BegunAs book (begun book)
begun-as book = begun-if book (is_any (queued book)) refl
