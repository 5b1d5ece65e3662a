-- What real slaves hold after a run or a recovery on a wire (ETG.1000.4, slave information interface).
use Rattle.std.specs.Prelude.{◌≡◌, ℕ, List, ◌∷◌, ◌++◌, map, Some, IsSomeAnd, slice_get}
use Rattle.esc_model.specs.SlaveHalf.{SlaveHalf}
use Rattle.esc_model.specs.Orders.{station}
use Rattle.site_shadow.specs.declared.lending.LinePart.{LinePart}
use Rattle.site_shadow.specs.declared.lending.LinePart.TheVariants as part
use Rattle.site_wire.specs.After.{IsBroughtUp}
use Rattle.site_wire.specs.Sent.{Exchanged, exchanges}
use Rattle.site_wire.specs.RealSlaves.{Lives}
use Rattle.site_wire.specs.declared.device.WireLog.{WireLog}
use Rattle.book_model.specs.Book.{base_of}
use Rattle.station_alone.specs.Station.{Station}
use Rattle.station_alone.specs.Recovery.{HasRecovered}
use Rattle.station_text.specs.declared.line_file.LineFile.{LineFile}
use Rattle.station_files.specs.Files.{Known}
use Rattle.station_line.specs.Site.{HoldsSite}
use Rattle.script_session.specs.declared.logs.DeskLog.{DeskLog}
use Rattle.script_session.specs.declared.logs.PartLog.{PartLog}
use Rattle.script_session.specs.declared.logs.LineLog.{LineLog}
use Rattle.script_session.specs.declared.logs.RunLog.{RunLog}
use Rattle.script_session.specs.Running.{whole_of}
use Rattle.wire_session.specs.Interleaving.{Interleaves}

-- THE DEVICES

-- This is told of devices of the slaves' parts, each of its own.
abbrev pub AreOfSlaves : {T : Type 0} → (of : LinePart → T → Type 0) → List (PartLog T) → Type 0
AreOfSlaves {T} of parts = (slave : ℕ) (reported : PartLog T) → slice_get parts slave ≡ Some reported → of (part.Slave slave) reported.reported

-- The same of the disk's device too.
pub record AreOfParts {T : Type 0} (of : LinePart → T → Type 0) (reported : DeskLog T) : Type 0 where
  pub disk : of part.Disk reported.disk.reported
  pub slaves : AreOfSlaves of reported.slaves.items

-- THE SLAVES

-- what the devices of the disk and of each slave have sent at a desk, in order
abbrev pub sent_at_desk : DeskLog WireLog → List (List Exchanged)
sent_at_desk reported = map (λ (part : PartLog WireLog). exchanges part.reported.sent) (reported.disk ∷ reported.slaves.items)

-- What was sent since the line was found: by its device as the journal was opened; then this at the desk; and after it by the line's device again.
abbrev pub all_sent : LineLog WireLog → (desk : List Exchanged) → List Exchanged
all_sent reported desk = exchanges reported.desk.line.reported.sent ++ desk ++ exchanges reported.after.sent

-- A real slave at this place that was as it was found, with these words, and that could have answered so to what was sent, holds its contents now; in
-- whatever order the devices of a desk sent.
abbrev pub SlaveHolds : (slave : ℕ) → (words : List ℕ) → List (List ℕ) → LineLog WireLog → Type 0
SlaveHolds slave words contents reported = (desk : List Exchanged) (real later : SlaveHalf) → Interleaves (sent_at_desk reported.desk) desk
    → IsBroughtUp words (station slave) real → Lives (all_sent reported desk) real later → slice_get contents slave ≡ Some later.words

-- By what was told of the devices, each slave that was found with these words holds the contents of this station.
abbrev pub SlavesHold : List (List ℕ) → Station → LineLog WireLog → Type 0
SlavesHold plant s reported = (slave : ℕ) (words : List ℕ) → slice_get plant slave ≡ Some words → SlaveHolds slave words (base_of s.book) reported

-- All devices are told of, and by that each slave that was found with these words holds the contents of this station.
abbrev pub AllHold : List (List ℕ) → RunLog WireLog → Station → Type 0
AllHold plant reported s = IsSomeAnd (whole_of reported.desk reported.after) (SlavesHold plant s)

-- The files hold the state of a line that was recovered, and by what was told each slave that was found with these words holds its contents.
abbrev pub SlavesAreSaved : List (List ℕ) → Known → LineFile → RunLog WireLog → Type 0
SlavesAreSaved plant files line reported = (s : Station) × HasRecovered s × HoldsSite files line s.seen.state × AllHold plant reported s
