-- A station is opened in a world.
use Rattle.std.proofs.Common.{◌≡◌, ◌∙◌, inl, inr, Some, Result, Ok, Err, refl, ap, arith}
use Rattle.std.specs.List.{AllByRecursion}
use Rattle.jrn_format.specs.declared.journal.Journal.{Journal}
use Rattle.jrn_format.specs.Journal.{IsJournal}
use Rattle.esc_model.specs.WordAccess.{IsIdle}
use Rattle.site_core.specs.Disk.{Disk, synced}
use Rattle.book_model.specs.Entries.{sizes_of}
use Rattle.book_model.specs.Book.{Book, is_version_2}
use Rattle.book_model.specs.Opening.{words_in, book_on}
use Rattle.world_law.specs.World as law
use Rattle.world_law.specs.World.{World}
use Rattle.world_law.specs.Happenings.{CanOpen, Steps}
use Rattle.book_model.specs.declared.fault.CoreFault.{CoreFault}
use Rattle.world_run.specs.declared.happenings.Event.{Event}
use Rattle.world_run.specs.declared.happenings.Event.TheVariants as events
use Rattle.world_run.specs.Step.{Happened, happens, cannot, Went, as_event}

pub opens : (world : World) (journal : Journal) (station : Book) (disk : Disk) → CanOpen world.book → AllByRecursion IsIdle world.state.halves
    → IsJournal world.state.disk.bytes (sizes_of (words_in world.state.halves)) journal → station ≡ book_on world.state journal → disk ≡ synced world.state.disk
    → Happened events.Open world (record { book = Some station; state = record world.state { disk = disk }; took = world.took })
opens world journal station disk can idle is_journal goes is =
    happens (law.Opened (is_version_2 journal.form)) (record {
      can = can;
      journal = journal;
      found = record { is_journal = is_journal; synced = record { all = refl; entire = omega arith }; idle = idle };
      says = refl;
      is = ap (λ (b : Book). record { book = Some b; state = record world.state { disk = disk }; took = world.took }) goes
          ∙ ap (λ (d : Disk). record { book = Some (book_on world.state journal); state = record world.state { disk = d }; took = world.took }) is;
    }) tt

pub cannot-open : (world : World) → ¬ CanOpen world.book → Happened events.Open world world
cannot-open world not = cannot (λ reported later o. not o.can) refl

pub busy-open : (world : World) → ¬ AllByRecursion IsIdle world.state.halves → Happened events.Open world world
busy-open world not = cannot (λ reported later o. not o.found.idle) refl

pub lost-open : (world : World) → ((journal : Journal) → IsJournal world.state.disk.bytes (sizes_of (words_in world.state.halves)) journal → ⊥) → Happened events.Open world world
lost-open world not = cannot (λ reported later o. not o.journal o.found.is_journal) refl

-- ---- a step of the law

step-happened : (event : Event) (old new : World) → Happened event old new → (reported : law.Reported) × Steps (as_event event) old reported new
step-happened event old new (happens reported h chosen) = (reported, inl h)
step-happened event old new (cannot not same) = (law.Nothing, inr (refl, same))

pub step-of_law : (event : Event) (old new : World) (result : Result (Unit {0}) CoreFault) → Went event old result new → (reported : law.Reported) × Steps (as_event event) old reported new
step-of_law event old new (Ok done) went = step-happened event old new went
step-of_law event old new (Err fault) went = (law.Nothing, inr (refl, went.1))
