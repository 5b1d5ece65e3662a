-- What a station's invariant needs, and that each step gives it again.
use Rattle.std.proofs.Common.{◌≡◌, ℕ, ◌<◌, Bool, List, length, sym, ◌∙◌, ap, subst, arith, Result}
use Rattle.std.specs.Prelude.{IsTrue, is_some, false}
use Rattle.sii_edit.specs.Fitting.{PlantFits}
use Rattle.site_core.specs.declared.fault.DeviceFault.{DeviceFault}
use Rattle.site_core.specs.Line.{Line, Owns}
use Rattle.site_core.specs.State.{State, Seen}
use Rattle.esc_rom.specs.Owned.{OwnsAll}
use Rattle.site_journal.specs.Action.{BeginsInside, DoesAction}
use Rattle.book_model.specs.declared.next.DiskNext.{DiskNext}
use Rattle.book_model.specs.declared.next.DiskNext.TheVariants as disk
use Rattle.book_model.specs.Book.{Book, contents_of}
use Rattle.book_model.specs.DiskSteps.{disk_next}
use Rattle.book_model.specs.Machine.{Machine}
use Rattle.book_model.proofs.BookLaws.{length-all_cells}
use Rattle.book_model.specs.Frame.{JournalFrame}
use Rattle.book_model.specs.Keeping.{IsOfBook}
use Rattle.book_model.specs.Up.{Up}
use Rattle.site_journal.specs.Running.{CallsDisk}
use Rattle.site_journal.specs.Ready.{IsReady}
use Rattle.site_journal.proofs.DiskRuns.{IsAction}
use Rattle.site_journal.proofs.InsideLaws.{bytes-inside, gate-byte-inside}
use Rattle.station_alone.specs.Station.{Station, Stands}
use Rattle.station_alone.proofs.HandedLaws.{open-still}
use Rattle.station_alone.proofs.SessionLaws.{SameOrMore, same-contents}

-- a station that is up is so as each machine that its book is to its callers
pub up-for : (frame : JournalFrame) (book : Book) (state : State) (took : List Bool) (some m : Machine) → Up frame book state took some → IsOfBook book m → Up frame book state took m
up-for frame book state took some m up of = record {
  line = up.line;
  of = of;
  gone = up.gone;
  fits = up.fits;
  same = up.same;
  disk = up.disk;
  slaves = up.slaves;
  pending = up.pending;
  ordered = up.ordered;
  after = up.after;
  no_command = up.no_command;
  no_migration = up.no_migration;
}

-- ---- the disk

-- what is to be written begins inside the disk
pub begins-inside : (book : Book) (seen : Seen) → IsReady book seen → (action : DiskNext) → (disk_next book).0 ≡ action → BeginsInside action seen
begins-inside book seen ready (disk.Write at bytes) is =
    let u = ready.up (open-still book (subst IsAction (sym is) tt)) in bytes-inside u.0 book u.1 u.2 seen u.3 at bytes is
begins-inside book seen ready (disk.Gate at closed) is =
    let u = ready.up (open-still book (subst IsAction (sym is) tt)) in gate-byte-inside u.0 book u.1 u.2 seen u.3 at closed is
begins-inside book seen ready disk.Sync is = tt
begins-inside book seen ready disk.Idle is = tt
begins-inside book seen ready disk.Stop is = tt

-- what is done with the disk is the call that is asked for
pub calls-disk : (action : DiskNext) (old : Seen) (result : Result (Unit {0}) DeviceFault) (new : Seen) → IsAction action → BeginsInside action old → DoesAction action old result new → CallsDisk action old result new
calls-disk (disk.Write at bytes) old result new some inside does = record { inside = inside; writes = does }
calls-disk (disk.Gate at closed) old result new some inside does = record { inside = inside; writes = does }
calls-disk disk.Sync old result new some inside does = does
calls-disk disk.Idle old result new some inside does = absurd some
calls-disk disk.Stop old result new some inside does = absurd some

-- ---- the slaves

-- the site has each slave of the book
pub slave-owned : (s : Station) (i : ℕ) → Stands s → i < length s.book.slaves → is_some s.book.fault ≡ false → Owns s.line i
slave-owned s i stands within ok =
    let u = stands.ready.up ok in
    let cells = u.3.same.slaves in
    stands.owned i (omega (arith, within, cells, length-all_cells s.book.slaves, stands.slaves))

-- ---- after a step

pub stands-with : (old new : Station) → Stands old → new.line ≡ old.line → new.book.words ≡ old.book.words → PlantFits (contents_of new.book) → IsReady new.book new.seen → Stands new
stands-with old new stands line words fits ready = record {
  disk = subst (λ (l : Line). IsTrue l.has_disk) (sym line) stands.disk;
  owned = subst OwnsAll (sym line) stands.owned;
  slaves = ap (λ (w : List (List ℕ)). length w) words ∙ stands.slaves ∙ ap (λ (l : Line). length l.sizes) (sym line);
  words = fits;
  ready = ready;
}

pub stands-still : (old new : Station) → Stands old → new.line ≡ old.line → SameOrMore old.book new.book → IsReady new.book new.seen → Stands new
stands-still old new stands line s ready =
    stands-with old new stands line s.0 (subst PlantFits (sym (same-contents old.book new.book s.0 s.1 s.2)) stands.words) ready
