-- A line that is taken apart into sites, and put together again.
use Rattle.std.specs.Prelude.{◌≡◌, ◌⊎◌, ◌<◌, ◌≤◌, ◌+◌, ◌^◌, ℕ, Bool, List, [], ◌∷◌, true, length, Ok, IfOk, Option, Some}
use Rattle.std.specs.Prelude.{slice_get, IsTrue, None, count_by, false, sum_by}
use Rattle.std.specs.List.{AllByRecursion}
use Rattle.std.specs.Global.{Vec}
use Rattle.esc_model.specs.SlaveHalf.{SlaveHalf}
use Rattle.site_core.specs.Line as lines
use Rattle.site_core.specs.State.{State, Seen}
use Rattle.site_shadow.specs.Unsynced.{of_bytes}
use Rattle.esc_rom.specs.Owned.{OwnsAll}
use Rattle.site_shadow.specs.Site.{SiteValue}
use Rattle.site_shadow.specs.Line.{halves_of}
use Rattle.station_line.specs.Site.{IsFollowed}
use Rattle.book_model.specs.declared.next.DiskNext.TheVariants as disk
use Rattle.book_model.specs.declared.next.RomNext.{RomNext}
use Rattle.book_model.specs.declared.next.RomNext.TheVariants as rom
use Rattle.desk_book.specs.Logs.{DiskEntry, RomEntry}
use Rattle.station_jobs.specs.declared.log.SlaveLog.{SlaveLog}
use Rattle.station_jobs.specs.Ends.{Stay}
use Rattle.station_jobs.specs.Flushing.{IsFlushed}
use Rattle.station_jobs.specs.Working.{IsWorked}
use Rattle.station_threads.specs.declared.sites.Sites.{Sites as SitesOf}
use Rattle.station_threads.specs.declared.closing.Ends.{Ends}
use Rattle.script_session.specs.declared.logs.PartLog.{PartLog}
use Rattle.script_session.specs.declared.logs.DeskLog.{DeskLog}
use Rattle.script_session.specs.declared.logs.UnservedLog.{UnservedLog}
use Rattle.script_session.specs.declared.logs.UnservedLog.TheVariants as unserved
use Rattle.script_session.specs.declared.together.OfSlaves.{OfSlaves}
use Rattle.station_threads.specs.Places.{AllPlaced}
use Rattle.station_threads.specs.Sites.{OwnParts, AreEndsOfSites, IsEndOfTurns}

-- a site for the disk, one for each slave, and one for the process data
abbrev pub Sites : Type 0
Sites = SitesOf SiteValue

-- the site holds this EEPROM half for this slave
abbrev pub HasHalf : ℕ → SlaveHalf → SiteValue → Type 0
HasHalf slave half site = slice_get site.seen.state.halves slave ≡ Some half

-- the site's disk has these bytes, all of them synced; for None the site has no disk
abbrev pub HasDiskOf : Option (Vec ℕ) → SiteValue → Type 0
HasDiskOf (Some bytes) site = site.seen.state.disk ≡ of_bytes bytes.items
HasDiskOf None site = site.line.has_disk ≡ false

-- the site holds this EEPROM half for this slave, and has seen no call
pub record BeginsWith (slave : ℕ) (half : SlaveHalf) (site : SiteValue) : Type 0 where
  pub has : HasHalf slave half site
  pub new : site.seen.past ≡ []

-- The sites hold the bytes of the line's disk, all of them synced, and each slave's EEPROM half, and have seen no call.
pub record IsSeparate (entire : State) (sites : Sites) : Type 0 where
  pub disk : sites.disk.seen.state.disk ≡ of_bytes entire.disk.bytes
  pub new : sites.disk.seen.past ≡ []
  pub slaves : AllPlaced BeginsWith 0 entire.halves sites.slaves.items

-- Each site owns its part, and the disk reaches at least to this byte of the file.
pub record OwnUpTo (limit : ℕ) (sites : Sites) : Type 0 where
  pub owned : OwnParts (λ (s : SiteValue). s.line) sites.disk sites.slaves.items sites.cycle
  pub long : limit ≤ length sites.disk.seen.state.disk.bytes

-- The line is taken apart so, each site owns its part, and the disk reaches to the end of a journal's area of this capacity.
pub record IsServable (capacity : ℕ) (entire : State) (sites : Sites) : Type 0 where
  pub separate : IsSeparate entire sites
  pub own : OwnUpTo (8 + capacity) sites

-- These sites are in the same states, whatever devices stand behind them.
pub record AreSame (sites same : Sites) : Type 0 where
  pub disk : same.disk ≡ sites.disk
  pub slaves : same.slaves.items ≡ sites.slaves.items
  pub cycle : same.cycle ≡ sites.cycle

-- These are the ends of the threads that served these sites: each began with its site.
pub record AreEndsOfParts (sites : Sites) (ends : Ends SiteValue) : Type 0 where
  pub flusher : ends.flusher.start ≡ sites.disk
  pub workers : AreEndsOfSites sites.slaves.items ends.workers.items
  pub cycle : IsEndOfTurns sites.cycle ends.cycle

-- No desk has served these parts: each is as it began, and there is no job in its log.
pub record AreUnserved (ends : Ends SiteValue) : Type 0 where
  pub disk : (ends.flusher.site ≡ ends.flusher.start) × (ends.flusher.log ≡ [])
  pub slaves : AllByRecursion (λ (end : Stay SiteValue SlaveLog). (end.site ≡ end.start) × (end.log.jobs ≡ [])) ends.workers.items

-- A device keeps this of a site, nothing has failed that it was asked, and the site has not stopped.
abbrev pub Soundly : {D : Type 0} → (D → Seen → Type 0) → (D → Type 0) → D → Seen → Type 0
Soundly follows well device seen = follows device seen × well device × (seen.is_stopped ≡ false)

-- A device keeps this of a site, and this is told of it. Where it is called sound, nothing has failed that it was asked, and the site goes on.
abbrev pub Telling : {D T : Type 0} → (D → Seen → Type 0) → (D → Type 0) → (D → T → Type 0) → PartLog T → D → Seen → Type 0
Telling follows well tells reported device seen =
    follows device seen × tells device reported.reported × (IsTrue reported.is_sound → well device × (seen.is_stopped ≡ false))

-- The jobs of its log led the site of a slave's end there, and a device keeps this of it.
pub record IsWorkFollowed {D : Type 0} (follows : D → Seen → Type 0) (end : Stay SiteValue SlaveLog) : Type 0 where
  pub worked : IsWorked end.log.slave end.log.jobs end.start.seen end.site.seen
  pub followed : IsFollowed follows end.site.seen

-- Each of these is told of the device behind the end at its place.
abbrev pub AreReportedOf : {D T : Type 0} → (D → Seen → Type 0) → (D → Type 0) → (D → T → Type 0) → List (PartLog T)
    → List (Stay SiteValue SlaveLog) → Type 0
AreReportedOf follows well tells [] [] = Unit {0}
AreReportedOf follows well tells (reported ∷ rest) (end ∷ ends) =
    IsWorkFollowed (Telling follows well tells reported) end × AreReportedOf follows well tells rest ends
AreReportedOf follows well tells tellings ends = ⊥

-- The log is empty, or its last action is a sync that succeeded.
abbrev pub EndsSynced : List DiskEntry → Type 0
EndsSynced log = (log ≡ []) ⊎
    ((at : ℕ) × (at + 1 ≡ length log) × (slice_get log at ≡ Some (record { job = disk.Sync; outcome = Some (Ok tt) })))

-- All bytes of the disk are synced at its end.
abbrev pub IsSynced : Ends SiteValue → Type 0
IsSynced ends = ends.flusher.site.seen.state.disk ≡ of_bytes ends.flusher.site.seen.state.disk.bytes

-- This is told of the devices of a line that was served at a desk: of the line's, whose site was this before it was taken apart, and of those
-- after the ends of the disk and of each slave.
pub record IsDeskReported {D T : Type 0} (follows : D → Seen → Type 0) (well : D → Type 0) (tells : D → T → Type 0) (opened : Seen)
    (reported : DeskLog T) (ends : Ends SiteValue) : Type 0 where
  pub before : IsFollowed (Telling follows well tells reported.line) opened
  pub flushed : IsFlushed ends.flusher.log ends.flusher.start.seen ends.flusher.site.seen
  pub disk : IsFollowed (Telling follows well tells reported.disk) ends.flusher.site.seen
  pub slaves : AreReportedOf follows well tells reported.slaves.items ends.workers.items

-- The line began soundly, and each part of it ended so.
pub record AreSound {T : Type 0} (reported : DeskLog T) : Type 0 where
  pub line : IsTrue reported.line.is_sound
  pub disk : IsTrue reported.disk.is_sound
  pub slaves : AllByRecursion (λ (part : PartLog T). IsTrue part.is_sound) reported.slaves.items

-- this is the EEPROM half of this slave at the end of its worker
abbrev pub EndsWith : ℕ → Stay SiteValue SlaveLog → SlaveHalf → Type 0
EndsWith slave end half = HasHalf slave half end.site

-- The EEPROM halves of the slaves, where none is missing, are those at the ends of their workers, in order, and this is told of the devices behind
-- these.
pub record AreLeftBy {D T : Type 0} (follows : D → Seen → Type 0) (well : D → Type 0) (tells : D → T → Type 0)
    (workers : List (Stay SiteValue SlaveLog)) (left : OfSlaves T) : Type 0 where
  pub halves : IfOk left.halves (λ halves. AllPlaced EndsWith 0 workers (halves_of halves.items))
  pub reported : AreReportedOf follows well tells left.reported.items workers

-- There is nothing in these lists yet.
abbrev pub IsRoom : {T : Type 0} → OfSlaves T → Type 0
IsRoom room = IfOk room.halves (λ halves. halves.items ≡ []) × (room.reported.items ≡ [])

-- This is told of the line's device, which keeps this of the line.
pub record IsLineReported {D T : Type 0} (follows : D → Seen → Type 0) (well : D → Type 0) (tells : D → T → Type 0) (seen : Seen)
    (reported : UnservedLog T) : Type 0 where
  pub part : PartLog T
  pub line : reported ≡ unserved.Line part
  pub tells_it : IsFollowed (Telling follows well tells part) seen

-- This is told of the devices at a desk with these ends; of the line's, what was told before.
pub record IsDeskLeft {D T : Type 0} (follows : D → Seen → Type 0) (well : D → Type 0) (tells : D → T → Type 0) (line : PartLog T)
    (ends : Ends SiteValue) (reported : UnservedLog T) : Type 0 where
  pub devices : DeskLog T
  pub desk : reported ≡ unserved.Desk devices
  pub tells_them : (opened : Seen) → IsFollowed (Telling follows well tells line) opened → IsDeskReported follows well tells opened devices ends

-- The site's disk has the bytes that the flusher left, all of them synced, and each slave's EEPROM half is as its worker left it. It has seen no
-- call.
pub record IsTogether (ends : Ends SiteValue) (site : SiteValue) : Type 0 where
  pub new : site.seen.past ≡ []
  pub disk : site.seen.state.disk ≡ of_bytes ends.flusher.site.seen.state.disk.bytes
  pub halves : AllPlaced EndsWith 0 ends.workers.items site.seen.state.halves

-- this is a line of this many slaves, all of them owned, with its disk
pub record IsLineOf (slaves : ℕ) (line : lines.Line) : Type 0 where
  pub disk : IsTrue line.has_disk
  pub owned : OwnsAll line
  pub count : length line.sizes ≡ slaves

-- ---- how many words were issued

-- the job is the issue of a word
abbrev pub is_issue : RomNext → Bool
is_issue (rom.Issue word value) = true
is_issue job = false

-- the number of issues among these jobs
abbrev pub issues_in : List RomEntry → ℕ
issues_in jobs = count_by (λ (entry : RomEntry). is_issue entry.job) jobs

-- the number of issues in the logs of these workers
abbrev pub issues_of : List (Stay SiteValue SlaveLog) → ℕ
issues_of workers = sum_by (λ (end : Stay SiteValue SlaveLog). issues_in end.log.jobs) workers

-- `words` is this count, if that fits 64 bits
abbrev pub IsCount : (count words : ℕ) → Type 0
IsCount count words = count < 2 ^ 64 → words ≡ count
