-- From its start the world keeps IsKept, whatever happens.
use Rattle.std.proofs.Common.{◌≡◌, ℕ, List, [], ◌∷◌, sym, subst, arith}
use Rattle.std.specs.List.{AllByRecursion}
use Rattle.site_core.specs.Disk.{Disk, Range, StopImage, IsOutside, IsSynced}
use Rattle.site_core.specs.Passes.{LeavesOnly}
use Rattle.site_core.proofs.StopImages.{StopImage-synced}
use Rattle.site_core.proofs.Counts.{words-idle}
use Rattle.book_model.specs.Kept.{Kept}
use Rattle.book_model.specs.Opening as opening
use Rattle.book_model.specs.Opening.{words_in}
use Rattle.world_law.specs.World.{World, Step}
use Rattle.world_law.specs.Law.{Session, EventFits, MachineFits, Starts, KeptFor, Runs, StaysKept}
use Rattle.world_law.proofs.StandsLaws.{Stands, stands-down, stands-is_kept}
use Rattle.world_law.proofs.StepLaws.{step-goes}

pub run-stays : (world : World) (session : Session) (steps : List Step) → Stands world session → MachineFits session.machine → Runs world steps → AllByRecursion (λ (step : Step). EventFits step.event) steps
    → StaysKept world session steps
run-stays world session [] stands fits runs small = stands-is_kept world session stands
run-stays world session (step ∷ steps) stands fits runs small =
    let goes = step-goes session step.event world step.world step.reported stands fits small.0 runs.0 in
    (stands-is_kept world session stands, (goes.session, goes.follows, run-stays step.world goes.session steps goes.stands goes.fits runs.1 small.1))

-- ---- where it starts

-- a disk that is all synced leaves what a read gives
image-read : (disk : Disk) (image : List ℕ) → opening.IsAllSynced disk → StopImage disk image → image ≡ disk.bytes
image-read disk image all stop =
    let none : (at : ℕ) → IsSynced disk at = λ at. subst (λ (ranges : List Range). AllByRecursion (IsOutside at) ranges) (sym all.all) tt in
    let entire = all.entire in
    let no_shorter = stop.no_shorter in
    StopImage-synced disk image (record { bytes = λ at outside. stop.bytes at (none at); no_shorter = omega (arith, no_shorter, entire) })

start-stands : (world : World) (session : Session) → Starts world session.machine → Stands world session
start-stands world session starts = stands-down starts.down only starts.took
  where
    only : LeavesOnly (KeptFor session.machine) world.state
    only pair leaves =
        let disk = image-read world.state.disk pair.disk starts.synced leaves.disk in
        let words = words-idle world.state.halves pair.words starts.idle leaves.words in
        subst (λ (d : List ℕ). Kept d pair.words session.machine) (sym disk) (subst (λ (w : List (List ℕ)). Kept world.state.disk.bytes w session.machine) (sym words) starts.kept)

pub start-stays : (world : World) (session : Session) (steps : List Step) → Starts world session.machine → Runs world steps → AllByRecursion (λ (step : Step). EventFits step.event) steps
    → StaysKept world session steps
start-stays world session steps starts = run-stays world session steps (start-stands world session starts) starts.fits
