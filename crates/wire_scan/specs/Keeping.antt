-- Whether each slave is the one that its image file was written of.
use Rattle.std.specs.Prelude.{◌≡◌, ℕ, zero, suc, ◌<◌, ◌==◌, ◌&&◌, Bool, true, false, if◌then◌else◌, List, [], ◌∷◌, ◌++◌, length, map, Option, Some, None, IsSome}
use Rattle.std.specs.Prelude.{slice_get, slice_index, slice_index_or, slice_set, unwrap_or, ⊤}
use Rattle.std.specs.List.{AllZip}
use Rattle.sii_words.specs.declared.identity.Identity.{Identity}
use Rattle.sii_words.specs.declared.run.Run.{Run}
use Rattle.sii_words.specs.Identity.{identity_of}
use Rattle.sii_words.specs.Plant.{words_of}
use Rattle.sii_words.specs.Redo.{redone, redone_words}
use Rattle.sii_words.specs.Words.{bytes_of}
use Rattle.sii_edit.specs.declared.command.Command.{Command}
use Rattle.sii_edit.specs.declared.command.Command.TheVariants.{Group}
use Rattle.sii_edit.specs.declared.command.Edit.{Edit}
use Rattle.sii_edit.specs.declared.command.Edit.TheVariants.{Image}
use Rattle.station_files.specs.Files.{Known, IsAbsent}
use Rattle.slave_match.specs.declared.comparing.Difference.{Difference}
use Rattle.slave_match.specs.declared.reason.Reason.{Reason}
use Rattle.slave_match.specs.Difference.{difference_of}
use Rattle.slave_match.specs.Reason.{IsReasonAt}
use Rattle.jrn_format.specs.declared.journal.Batch.{Batch}
use Rattle.jrn_format.specs.declared.journal.Journal.{Journal}
use Rattle.jrn_format.specs.Journal.{IsJournal}
use Rattle.book_model.specs.Entries.{live_runs}
use Rattle.station_text.specs.declared.line_file.LineFile.{LineFile}
use Rattle.station_files.specs.LineFiles.{SpellsWords, names_of}
use Rattle.station_files.specs.declared.faults.Fault.TheVariants.{Memory}
use Rattle.wire_faults.specs.declared.faults.WireFault.{WireFault}
use Rattle.wire_faults.specs.declared.faults.WireFault.TheVariants.{OtherWords, Station}
use Rattle.wire_scan.specs.declared.asked.Mend.{Mend}
use Rattle.wire_scan.specs.declared.asked.Mend.TheVariants as mend
use Rattle.wire_scan.specs.declared.asked.Mend.TheVariants.{Unsaid, Slave, File, Exchanged}
use Rattle.wire_scan.specs.declared.keeping.Beside.{Beside}
use Rattle.wire_scan.specs.declared.keeping.Beside.TheVariants.{Absent, Same, Differs}

-- these are the words of an image file; for None, it isn't there
abbrev pub IsImageOf : Known → List ℕ → Option (List ℕ) → Type 0
IsImageOf files name (Some words) = SpellsWords files name words
IsImageOf files name None = IsAbsent files name

-- A recovery that redoes these runs makes the same of each slave and of its image file, where there is one and nothing is said of the slave: they differ
-- in words alone that a run names.
abbrev pub AreKept : List Mend → List Run → List (List ℕ) → List (Option (List ℕ)) → Type 0
AreKept mends runs plant images = (slave : ℕ) (words image : List ℕ) → slice_get mends slave ≡ Some mend.Unsaid → slice_get plant slave ≡ Some words
    → slice_get images slave ≡ Some (Some image) → redone_words runs slave 0 words ≡ redone_words runs slave 0 image

-- the words of an image file, or those of its slave where it isn't there or has another number of them
abbrev pub IsOwn : (words : List ℕ) → (image : Option (List ℕ)) → (own : List ℕ) → Type 0
IsOwn words None own = own ≡ words
IsOwn words (Some image) own = (length image ≡ length words → own ≡ image) × (¬ (length image ≡ length words) → own ≡ words)

-- the same for each slave of a line
abbrev pub KeepsEach : List (List ℕ) → List (Option (List ℕ)) → List (List ℕ) → Type 0
KeepsEach [] [] [] = ⊤
KeepsEach (words ∷ plant) (image ∷ images) (own ∷ kept) = IsOwn words image own × KeepsEach plant images kept
KeepsEach plant images kept = ⊥

-- the same with the live batches of a journal with these bytes
pub record KeepsImages (mends : List Mend) (bytes : List ℕ) (plant : List (List ℕ)) (images : List (Option (List ℕ))) : Type 0 where
  pub journal : Journal
  pub read : IsJournal bytes (map length plant) journal
  pub kept : AreKept mends (live_runs journal.batches) plant images

-- the same of the image files of a line
pub record AreOfImages (files : Known) (line : LineFile) (mends : List Mend) (bytes : List ℕ) (plant : List (List ℕ)) : Type 0 where
  pub images : List (Option (List ℕ))
  pub loaded : AllZip (IsImageOf files) (names_of line) images
  pub kept : KeepsImages mends bytes plant images

-- ---- which slave is refused

-- what is said of a slave
abbrev pub said_of : List Mend → ℕ → Mend
said_of mends slave = unwrap_or (slice_get mends slave) mend.Unsaid

-- one vendor and product
abbrev pub are_same_type : Identity → Identity → Bool
are_same_type one other = (one.vendor == other.vendor) && (one.product == other.product)

-- What is said of a slave with these words lets it differ from its image file: any difference, or one in words of a slave as long, or as long and of one type.
abbrev pub may_differ : Mend → (words image : List ℕ) → Bool
may_differ Unsaid words image = false
may_differ Slave words image = true
may_differ File words image = length image == length words
may_differ Exchanged words image = (length image == length words) && are_same_type (identity_of words) (identity_of image)

-- In what a slave differs from its image file, of which a recovery makes `found` and `kept`: where both are as long, what it makes of them counts.
abbrev pub difference_beside : (words image found kept : List ℕ) → Option Difference
difference_beside words image found kept = if length image == length words then difference_of found kept else difference_of words image

-- the difference for which it is refused; none where it isn't, or has no image file
abbrev pub refusal_of : Mend → (words : List ℕ) → (image : Option (List ℕ)) → (found kept : List ℕ) → Option Difference
refusal_of said words None found kept = None
refusal_of said words (Some image) found kept = if may_differ said words image then None else difference_beside words image found kept

-- the words of the image file of a slave, where it is there
abbrev pub image_of : List (Option (List ℕ)) → ℕ → Option (List ℕ)
image_of images slave = slice_index_or images slave None

-- the difference for which a slave of a line is refused, where this is said of it and a recovery redoes these runs
abbrev pub refusal_at : List Run → Mend → (plant : List (List ℕ)) → (images : List (Option (List ℕ))) → (slave : ℕ) → Option Difference
refusal_at runs said plant images slave = refusal_of said (words_of plant slave) (image_of images slave)
    (redone_words runs slave 0 (words_of plant slave)) (redone_words runs slave 0 (unwrap_or (image_of images slave) []))

-- no slave below this one is refused
abbrev pub ArePassed : List Mend → List Run → (plant : List (List ℕ)) → (images : List (Option (List ℕ))) → (count : ℕ) → Type 0
ArePassed mends runs plant images count = (slave : ℕ) → slave < count → refusal_at runs (said_of mends slave) plant images slave ≡ None

-- The slave is the first one that is refused, where these batches are live, with this difference, and that is its usual reason.
pub record IsRefused (mends : List Mend) (batches : List Batch) (plant : List (List ℕ)) (images : List (Option (List ℕ))) (slave : ℕ) (difference : Difference) (reason : Reason)
    : Type 0 where
  pub inside : slave < length plant
  pub differs : refusal_at (live_runs batches) (said_of mends slave) plant images slave ≡ Some difference
  pub usual : IsReasonAt slave (slice_get plant slave) (slice_get images slave) images batches reason
  pub first : ArePassed mends (live_runs batches) plant images slave

-- the fault is that this slave is refused so, or want of memory
abbrev pub IsRefusal : List Mend → List Batch → (plant : List (List ℕ)) → (images : List (Option (List ℕ))) → WireFault → Type 0
IsRefusal mends batches plant images (OtherWords slave difference reason) = IsRefused mends batches plant images slave difference reason
IsRefusal mends batches plant images fault = fault ≡ Station Memory

-- What a recovery that redoes these runs makes of the slaves of a line (`found`), and of their image files (`kept`).
pub record AreRedone (runs : List Run) (plant : List (List ℕ)) (images : List (Option (List ℕ))) (found kept : List (List ℕ)) : Type 0 where
  pub own : List (List ℕ)
  pub keeps : KeepsEach plant images own
  pub of_slaves : found ≡ redone plant runs
  pub of_files : kept ≡ redone own runs
  pub slaves : length found ≡ length plant
  pub files : length kept ≡ length plant

-- what is seen of a slave beside its image file, where these batches are live and this is said of it
abbrev pub IsSeen : List Batch → Mend → (plant : List (List ℕ)) → (images : List (Option (List ℕ))) → (slave : ℕ) → Beside → Type 0
IsSeen batches said plant images slave Absent = image_of images slave ≡ None
IsSeen batches said plant images slave Same = IsSome (image_of images slave) × (refusal_at (live_runs batches) said plant images slave ≡ None)
IsSeen batches said plant images slave (Differs difference reason) = (refusal_at (live_runs batches) said plant images slave ≡ Some difference)
    × IsReasonAt slave (slice_get plant slave) (slice_get images slave) images batches reason

-- the same of each slave below this one, where nothing is said
abbrev pub AreSeen : List Batch → (plant : List (List ℕ)) → (images : List (Option (List ℕ))) → (count : ℕ) → List Beside → Type 0
AreSeen batches plant images count seen = (slave : ℕ) → slave < count → IsSeen batches mend.Unsaid plant images slave (slice_index_or seen slave Absent)

-- ---- what is to become of it

-- nothing is said of any slave
abbrev pub IsUnsaid : List Mend → Type 0
IsUnsaid mends = (slave : ℕ) (said : Mend) → slice_get mends slave ≡ Some said → said ≡ mend.Unsaid

-- commands that write image files to their slaves: none, where nothing is said
abbrev pub AreMends : List Mend → List Command → Type 0
AreMends mends commands = IsUnsaid mends → commands ≡ []

-- the words of an image file, with the serial number of its slave (ETG.1000.6: words 14 and 15)
abbrev pub with_serial : (found kept : List ℕ) → List ℕ
with_serial found kept = slice_set (slice_set kept 14 (slice_index found 14)) 15 (slice_index found 15)

-- What the image file of a slave with `words` holds as the work begins, where a recovery makes `found` of the slave and `kept` of the file: where the file
-- is right, its own words, with the serial number of a slave that was exchanged; else those of the slave.
abbrev pub wanted_words : (words found kept : List ℕ) → Mend → List ℕ
wanted_words words found kept Unsaid = words
wanted_words words found kept Slave = words
wanted_words words found kept File = kept
wanted_words words found kept Exchanged = with_serial found kept

-- the image file is right
abbrev pub IsOfFile : Mend → Type 0
IsOfFile Unsaid = ⊥
IsOfFile Slave = ⊥
IsOfFile File = ⊤
IsOfFile Exchanged = ⊤

-- the edit writes an image with these words to this slave
abbrev pub WritesImage : (slave : ℕ) → (words : List ℕ) → Edit → Type 0
WritesImage slave words (Image at image) = (at ≡ slave) × (bytes_of image ≡ bytes_of words)
WritesImage slave words edit = ⊥

-- The edit for a slave of which a recovery makes `found`: where the image file is right, it writes the words that the file then holds, and is missing only
-- where these are `found`. Where it isn't right there is none.
abbrev pub IsEditOf : (slave : ℕ) → (found image : List ℕ) → Mend → Option Edit → Type 0
IsEditOf slave found image said None = IsOfFile said → found ≡ image
IsEditOf slave found image said (Some edit) = IsOfFile said × WritesImage slave image edit

abbrev pub with_edit : List Edit → Option Edit → List Edit
with_edit edits None = edits
with_edit edits (Some edit) = edits ++ edit ∷ []

-- what the image files of the slaves below this one hold as the work begins, and the edits for these slaves, in order
abbrev pub MendsBelow : ℕ → List Mend → (plant found kept images : List (List ℕ)) → List Edit → Type 0
MendsBelow zero mends plant found kept images edits = edits ≡ []
MendsBelow (suc slave) mends plant found kept images edits =
    (before : List Edit) × (edit : Option Edit) × MendsBelow slave mends plant found kept images before
    × (words_of images slave ≡ wanted_words (words_of plant slave) (words_of found slave) (words_of kept slave) (said_of mends slave))
    × IsEditOf slave (words_of found slave) (words_of images slave) (said_of mends slave) edit × (edits ≡ with_edit before edit)

-- one command with these edits, if there are any
abbrev pub together : List Edit → List Command
together [] = []
together (edit ∷ edits) = Group (edit ∷ edits) ∷ []

-- The same of all slaves. The commands have all edits.
pub record MendsAll (mends : List Mend) (plant found kept images : List (List ℕ)) (commands : List Command) : Type 0 where
  pub edits : List Edit
  pub each : MendsBelow (length plant) mends plant found kept images edits
  pub all : commands ≡ together edits

-- What the image files hold as the work begins (`begun`), and the commands that write them to their slaves, as was said, where a recovery redoes these runs.
pub record Mends (mends : List Mend) (runs : List Run) (plant : List (List ℕ)) (images : List (Option (List ℕ))) (begun : List (List ℕ)) (commands : List Command)
    : Type 0 where
  pub own : List (List ℕ)
  pub keeps : KeepsEach plant images own
  pub mended : MendsAll mends plant (redone plant runs) (redone own runs) begun commands

-- the same with the live batches of a journal with these bytes
pub record MendsImages (mends : List Mend) (bytes : List ℕ) (plant : List (List ℕ)) (images : List (Option (List ℕ))) (begun : List (List ℕ)) (commands : List Command)
    : Type 0 where
  pub journal : Journal
  pub read : IsJournal bytes (map length plant) journal
  pub mended : Mends mends (live_runs journal.batches) plant images begun commands

-- the same of the image files of a line
pub record MendsFiles (files : Known) (line : LineFile) (mends : List Mend) (bytes : List ℕ) (plant begun : List (List ℕ)) (commands : List Command) : Type 0 where
  pub images : List (Option (List ℕ))
  pub loaded : AllZip (IsImageOf files) (names_of line) images
  pub mended : MendsImages mends bytes plant images begun commands
