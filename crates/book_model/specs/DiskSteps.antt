-- The book's next action on the disk, and the book after its outcome.
use Rattle.std.specs.Prelude.{ℕ, ◌+◌, Bool, true, false, not, ◌&&◌, ◌||◌, List, [], ◌∷◌, ◌++◌, length, Option, Some, None, is_some, Result, Ok, Err, if◌then◌else◌}
use Rattle.jrn_format.specs.declared.journal.Entry.{Entry}
use Rattle.jrn_format.specs.declared.journal.Form.{Form}
use Rattle.jrn_format.specs.declared.journal.Form.TheVariants.{Two, Moving}
use Rattle.jrn_format.specs.declared.journal.Spelling.TheVariants.{WithGeneration}
use Rattle.jrn_format.specs.Batch.{spelt_after}
use Rattle.site_core.specs.declared.fault.DeviceFault.{DeviceFault}
use Rattle.site_core.specs.declared.fault.DeviceFault.TheVariants as device
use Rattle.book_model.specs.declared.next.DiskNext.{DiskNext}
use Rattle.book_model.specs.declared.next.DiskNext.TheVariants as next
use Rattle.book_model.specs.declared.fault.Fault.TheVariants as faults
use Rattle.book_model.specs.Cells.{is_any}
use Rattle.book_model.specs.Entries.{runs_of, live_runs}
use Rattle.jrn_format.specs.Halves.{Place, InOlder, InNewer, other, live, batch_in, with_batch, size, place_of, retired}
use Rattle.book_model.specs.Book.{Book, Doing, Resting, Payload, PayloadSync, OpenGate, OpenSync, CloseGate, CloseSync, FarGate, Mark, MarkSync, Version, VersionSync, queued, room, half_at, all_cells, with_fault}
use Rattle.book_model.specs.Open.{owing_slaves}
use Rattle.book_model.specs.Reading.{runs_settled}

-- ---- the next step

-- A retire may begin: something is live, and the older half is settled.
abbrev pub can_retire : Book → Bool
can_retire book = is_any (live book.halves) && runs_settled (all_cells book.slaves) (live_runs book.halves.newer) (live_runs book.halves.older)

-- A migration may begin: it was asked for, and nothing is live.
abbrev pub can_migrate : Book → Bool
can_migrate book = book.is_migrating && not (is_any (live book.halves))

-- What a resting book begins: an append of the whole queue if a half has room for it, else a retire, else a migration.
abbrev pub begun : Book → Doing
begun book = append (if is_any (queued book) then place_of (room book) book.halves (queued book) else None)
  where
    append : Option Place → Doing
    append (Some place) = Payload place (queued book)
    append None = if can_retire book then CloseGate else if can_migrate book then FarGate else Resting

-- The step that is handed out next.
abbrev pub doing_next : Book → Doing → Doing
doing_next book Resting = begun book
doing_next book doing = doing

-- ---- the action on the disk

-- The file offset of the gate before the next batch at this place.
abbrev pub place_at : Book → Place → ℕ
place_at book InOlder = half_at book book.halves.at + size book.halves.older
place_at book InNewer = half_at book (other book.halves.at) + size book.halves.newer

-- The bytes of a batch after its gate, followed by a closed gate.
abbrev pub payload_bytes : Book → Place → List Entry → List ℕ
payload_bytes book place entries = spelt_after WithGeneration (batch_in book.halves place entries).generation entries ++ 0 ∷ []

-- The action of a step; None at rest.
abbrev pub action_of : Book → Doing → Option DiskNext
action_of book Resting = None
action_of book (Payload place entries) = Some (next.Write (place_at book place + 1) (payload_bytes book place entries))
action_of book (OpenGate place entries) = Some (next.Gate (place_at book place) false)
action_of book CloseGate = Some (next.Gate (half_at book book.halves.at) true)
action_of book FarGate = Some (next.Gate (half_at book 1) true)
action_of book Mark = Some (next.Write 9 (0x4d ∷ 0x49 ∷ 0x47 ∷ 0x32 ∷ []))
action_of book Version = Some (next.Write 1 (2 ∷ []))
action_of book sync = Some next.Sync

-- The next action, and the book once it is handed out. Idle while an action is handed out; Stop after a fault, or at rest after a
-- finish.
abbrev pub disk_next : Book → DiskNext × Book
disk_next book =
    if book.is_handed_out then (next.Idle, book)
    else if is_some book.fault then (next.Stop, book)
    else handed_out (action_of book (doing_next book book.doing))
  where
    handed_out : Option DiskNext → DiskNext × Book
    handed_out None = (if book.is_finished then next.Stop else next.Idle, book)
    handed_out (Some action) = (action, record book { doing = doing_next book book.doing; is_handed_out = true })

-- The length of the write that would be handed out now, in bytes.
abbrev pub disk_room : Book → ℕ
disk_room book = written_by (disk_next book).0
  where
    written_by : DiskNext → ℕ
    written_by (next.Write at bytes) = length bytes
    written_by other_action = 0

-- ---- the book after an outcome

-- The batch is live and synced: its commands are durable, and its words are owed.
abbrev pub went_live : Book → Place → List Entry → Book
went_live book place entries =
    record book {
      doing = Resting;
      halves = with_batch book.halves place (batch_in book.halves place entries);
      durable = book.durable + length entries;
      slaves = owing_slaves (runs_of entries) 0 book.slaves;
    }

-- The step after the far gate: an interrupted migration already has its mark.
abbrev pub after_far_gate : Form → Doing
after_far_gate Moving = MarkSync
after_far_gate form = Mark

-- The book after a step that succeeded.
abbrev pub went_on : Book → Doing → Book
went_on book Resting = book
went_on book (Payload place entries) = record book { doing = PayloadSync place entries }
went_on book (PayloadSync place entries) = record book { doing = OpenGate place entries }
went_on book (OpenGate place entries) = record book { doing = OpenSync place entries }
went_on book (OpenSync place entries) = went_live book place entries
went_on book CloseGate = record book { doing = CloseSync }
went_on book CloseSync = record book { doing = Resting; halves = retired book.halves }
went_on book FarGate = record book { doing = after_far_gate book.form }
went_on book Mark = record book { doing = MarkSync }
went_on book MarkSync = record book { doing = Version }
went_on book Version = record book { doing = VersionSync }
went_on book VersionSync = record book { doing = Resting; form = Two; is_migrating = false }

-- The book after the outcome of the action that is handed out. An outcome with nothing handed out changes nothing; nor does Lost,
-- which no disk reports.
abbrev pub disk_done : Book → Result (Unit {0}) DeviceFault → Book
disk_done book result = if book.is_handed_out then back (record book { is_handed_out = false }) result else book
  where
    back : Book → Result (Unit {0}) DeviceFault → Book
    back resting (Ok done) = went_on resting resting.doing
    back resting (Err device.Disk) = with_fault resting faults.Disk
    back resting (Err device.Stopped) = with_fault resting faults.Stopped
    back resting (Err device.Lost) = book
