-- Laws of the journal's file, and of real slaves with it, behind a device on a wire.
use Rattle.std.specs.Prelude.{◌≡◌, false, List}
use Rattle.site_core.specs.Disk.{StopImage}
use Rattle.site_core.specs.State.{Seen, Pair, Leaves}
use Rattle.site_shadow.specs.Following.{first_of}
use Rattle.site_file.specs.declared.asking.LineFile.{LineFile}
use Rattle.site_file.specs.declared.asking.LineFile.TheVariants.{Journal}
use Rattle.site_file.specs.declared.asking.Asked.{Asked}
use Rattle.site_file.specs.Asking.{HasLog}
use Rattle.site_file.specs.Files.{File, BecomesBy}
use Rattle.site_file.specs.Held.{is_same, of_file}
use Rattle.site_file.specs.AllFiles.{Holds, FilesFollow}
use Rattle.site_wire.specs.Sent.{exchanges}
use Rattle.site_wire.specs.Following.{WireFollows}
use Rattle.site_wire.specs.Moments.{AreLeftOfSlaves}
use Rattle.site_wire.specs.declared.device.WireDevice.{WireDevice}

-- A file that held the disk with which the site began, as the device's log began, has followed it so from then on.
abbrev pub JournalIsFollowed : (L F C : Type 0) → Type 0
JournalIsFollowed L F C = (device : WireDevice L F C) (seen : Seen) → WireFollows device seen → (begun : LineFile → File)
    → Holds (first_of seen) Journal (begun Journal) → FilesFollow 0 (is_same Journal) begun device.journal seen

-- Between two calls, as long as neither the device nor the site has stopped: what a power cut leaves at that moment of the journal's file and of all
-- real slaves, it may leave of the site. The file held the disk as the device's log began, and became this by these calls.
abbrev pub CutBetweenCalls : (L F C : Type 0) → Type 0
CutBetweenCalls L F C = (device : WireDevice L F C) (seen : Seen) (begun : LineFile → File) (calls : List Asked) (now : File) (pair : Pair)
    → WireFollows device seen → device.is_over ≡ false → seen.is_stopped ≡ false → Holds (first_of seen) Journal (begun Journal)
    → HasLog device.journal.asking.calls calls → BecomesBy (of_file Journal calls) (begun Journal) now → StopImage now.disk pair.disk
    → AreLeftOfSlaves (exchanges device.sender.log.all) (first_of seen).halves seen.state.halves pair.words → Leaves seen.state pair
