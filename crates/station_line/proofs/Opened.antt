-- A line as it was read, and a station that was opened on it.
use Rattle.std.proofs.Common.{◌≡◌, ℕ, Bool, true, false, List, [], length, Result, Ok, Err, sym, ◌∙◌, ap, subst}
use Rattle.std.specs.Prelude.{IfOk, IsTrue, string_bytes}
use Rattle.std.proofs.lemmas.List.{length-map}
use Rattle.site_core.specs.Disk.{Disk, synced}
use Rattle.site_shadow.specs.Unsynced.{of_bytes}
use Rattle.site_core.specs.Line.{Line}
use Rattle.site_core.specs.State.{Seen}
use Rattle.site_shadow.specs.Site.{SiteValue}
use Rattle.book_model.specs.Book.{Book}
use Rattle.station_alone.specs.Station.{Station}
use Rattle.station_alone.specs.Opening.{BeginsSession, Opens}
use Rattle.station_alone.specs.declared.fault.OpenFault.{OpenFault}
use Rattle.station_text.specs.declared.line_file.LineFile.{LineFile}
use Rattle.station_files.specs.Files.{Known, HasBytes}
use Rattle.station_files.specs.LineFiles.{SpellsLine, SpellsSlaves}
use Rattle.station_line.specs.Site.{IsSiteOf}
use Rattle.station_line.specs.Opened.{is_old, IsFresh, IsMigrated, IsOpened, Loads, StartsFrom}

pub loads : (files first second : Known) (name : List ℕ) (line : LineFile) (plant : List (List ℕ)) (bytes : List ℕ) (site : SiteValue) → SpellsLine files name line → first ≡ files → SpellsSlaves first line plant → second ≡ first
    → HasBytes second (string_bytes line.journal) bytes → IsSiteOf plant bytes site → length plant ≡ length line.images.items → Loads files name line site
loads files first second name line plant bytes site described same slaves still journal made count = record {
  plant = plant;
  bytes = bytes;
  given = record {
    described = described;
    slaves = subst (λ (f : Known). SpellsSlaves f line plant) same slaves;
    journal = subst (λ (f : Known). HasBytes f (string_bytes line.journal) bytes) (still ∙ same) journal;
  };
  made = made;
  count = ap length made.sizes ∙ length-map plant length ∙ count;
}

pub is_fresh : (files : Known) (name : List ℕ) (line : LineFile) (site : SiteValue) → Loads files name line site → IsFresh line site
is_fresh files name line site loaded =
    record { has_disk = loaded.made.has_disk; owned = loaded.made.owned; new = ap (λ (seen : Seen). seen.past) loaded.made.seen; count = loaded.count }

pub has-disk : (old new : Line) → new ≡ old → IsTrue old.has_disk → IsTrue new.has_disk
has-disk old new same disk = subst (λ (l : Line). IsTrue l.has_disk) (sym same) disk

pub as-many : (old new : Line) (count : ℕ) → new ≡ old → length old.sizes ≡ count → length new.sizes ≡ count
as-many old new count same is = ap (λ (l : Line). length l.sizes) same ∙ is

-- the station was opened after a recovery
pub starts-after : (was_old : Bool) (site : SiteValue) (its : Line) (left : Seen) (s : Station) → was_old ≡ true → IsMigrated site.seen its left → IsOpened its left s → StartsFrom was_old site s
starts-after was_old site its left s old migrated opens = subst (λ (b : Bool). StartsFrom b site s) (sym old) (record {
  r = migrated.r;
  recovered = migrated.recovered;
  begins = migrated.begins;
  opened = subst (λ (seen : Seen). IsOpened migrated.r.line seen s) migrated.its_state (subst (λ (l : Line). IsOpened l left s) migrated.its_line opens);
})

pub starts-migrated : (was_old : Bool) (site left : SiteValue) (result : Result Station (SiteValue × OpenFault)) → was_old ≡ true → IsMigrated site.seen left.line left.seen
    → IfOk result (λ s. Opens left.line left.seen s) → IfOk result (λ s. BeginsSession left.seen s) → IfOk result (λ s. StartsFrom was_old site s)
starts-migrated was_old site left (Ok s) old migrated opens begins = starts-after was_old site left.line left.seen s old migrated (record { opens = opens; begins = begins })
starts-migrated was_old site left (Err e) old migrated opens begins = tt

-- of which version the journal is
pub old-by : (slaves : List (List ℕ)) (bytes : List ℕ) (site : SiteValue) (was_old : Bool) → IsSiteOf slaves bytes site → was_old ≡ is_old bytes → was_old ≡ is_old site.seen.state.disk.bytes
old-by slaves bytes site was_old made is = is ∙ ap (λ (seen : Seen). is_old seen.state.disk.bytes) (sym made.seen)

-- no command is accepted yet
pub starts-none : (was_old : Bool) (site : SiteValue) (s : Station) → StartsFrom was_old site s → s.book.accepted ≡ []
starts-none true site s starts = ap (λ (b : Book). b.accepted) starts.opened.opens.1.book
starts-none false site s starts = ap (λ (b : Book). b.accepted) starts.opens.1.book

-- the disk is synced
synced-as : (disk old : Disk) → disk ≡ synced old → disk ≡ of_bytes disk.bytes
synced-as disk old is = is ∙ ap of_bytes (sym (ap (λ (d : Disk). d.bytes) is))

pub starts-synced : (was_old : Bool) (site : SiteValue) (s : Station) → StartsFrom was_old site s → s.seen.state.disk ≡ of_bytes s.seen.state.disk.bytes
starts-synced true site s starts = synced-as s.seen.state.disk starts.r.seen.state.disk starts.opened.opens.1.disk
starts-synced false site s starts = synced-as s.seen.state.disk site.seen.state.disk starts.opens.1.disk
