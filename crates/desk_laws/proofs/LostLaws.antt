-- A disk that is told `Lost`: it changes nothing, and no work done on a site comes to that.
use Rattle.std.proofs.Common.{◌≡◌, ◌≢◌, Bool, true, false, List, [], ◌∷◌, refl, sym, subst, inl, inr, Some, Result, Err}
use Rattle.sii_words.proofs.Quantifiers.{all_append}
use Rattle.site_core.specs.declared.fault.DeviceFault.{DeviceFault}
use Rattle.site_core.specs.declared.fault.DeviceFault.TheVariants as device
use Rattle.site_core.specs.State.{Seen}
use Rattle.book_model.specs.declared.next.DiskNext.{DiskNext}
use Rattle.book_model.specs.declared.next.DiskNext.TheVariants as disk
use Rattle.book_model.specs.Book.{Book}
use Rattle.book_model.specs.DiskSteps.{disk_done}
use Rattle.station_jobs.specs.Flushing.{DoesAction, IsFlushed}
use Rattle.station_jobs.specs.Jobs.{DoneInTurn, IsDone, IsLast, MayEnd}
use Rattle.desk_book.specs.Logs.{DiskEntry}
use Rattle.desk_laws.specs.Events.{NoneIsLost}

lost-if : (book : Book) (out : Bool) → book.is_handed_out ≡ out → disk_done book (Err device.Lost) ≡ book
lost-if book true is = rw is refl
lost-if book false is = rw is refl

pub lost-changes-nothing : (book : Book) → disk_done book (Err device.Lost) ≡ book
lost-changes-nothing book = lost-if book book.is_handed_out refl

-- no action is answered so
not-lost : (action : DiskNext) (outcome : Result (Unit {0}) DeviceFault) (old new : Seen) → DoesAction action outcome old new → outcome ≢ Err device.Lost
not-lost (disk.Write at bytes) outcome old new does = does.writes.not_lost
not-lost (disk.Gate at closed) outcome old new does = does.writes.not_lost
not-lost disk.Sync outcome old new does = does.not_lost
not-lost disk.Idle outcome old new does = absurd does
not-lost disk.Stop outcome old new does = absurd does

done-not-lost : (entry : DiskEntry) (old new : Seen) → IsDone DoesAction entry old new → entry.outcome ≢ Some (Err device.Lost)
done-not-lost entry old new done e =
    let reported = done.reported in
    not-lost entry.job done.outcome old new done.does cc

done-none : (log : List DiskEntry) (old new : Seen) → DoneInTurn DoesAction log old new → NoneIsLost log
done-none [] old new done = tt
done-none (first ∷ others) old new done = (done-not-lost first old done.0 done.1, done-none others done.0 new done.2)

last-not-lost : (entry : DiskEntry) (old new : Seen) → IsLast DoesAction entry old new → entry.outcome ≢ Some (Err device.Lost)
last-not-lost entry old new last e = elim last.reported [
  | inl reported ↦ not-lost entry.job last.outcome old new last.does cc
  | inr reported ↦ absurd cc
]

last-none : (log : List DiskEntry) (old new : Seen) → MayEnd DoesAction log old new → NoneIsLost log
last-none [] old new ends = tt
last-none (last ∷ []) old new ends = (last-not-lost last old new ends, tt)
last-none (last ∷ next ∷ others) old new ends = absurd ends

pub none-is-lost : (log : List DiskEntry) (old new : Seen) → IsFlushed log old new → NoneIsLost log
none-is-lost log old new flushed =
    let led = flushed.led in
    subst NoneIsLost (sym led.log_is)
    (all_append (λ (entry : DiskEntry). entry.outcome ≢ Some (Err device.Lost)) led.done led.last (done-none led.done old led.mid led.in_turn) (last-none led.last led.mid new led.ends))
