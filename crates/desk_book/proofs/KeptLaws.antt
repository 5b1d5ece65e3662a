-- What the calls of a book leave unchanged.
use Rattle.std.proofs.Common.{◌≡◌, ℕ, Bool, true, false, List, [], ◌∷◌, length, refl, Option, Some, None, Result, Ok, Err}
use Rattle.std.specs.Prelude.{is_some, nat_lt}
use Rattle.site_core.specs.declared.fault.DeviceFault.{DeviceFault}
use Rattle.site_core.specs.declared.fault.DeviceFault.TheVariants.{Disk, Lost, Stopped}
use Rattle.site_core.specs.declared.answers.Settled.TheVariants.{Written, Again, Dead}
use Rattle.book_model.specs.Cells.{cell_of}
use Rattle.book_model.specs.declared.next.DiskNext.{DiskNext}
use Rattle.book_model.specs.declared.next.RomOutcome.{RomOutcome}
use Rattle.book_model.specs.declared.next.RomOutcome.TheVariants as outcomes
use Rattle.book_model.specs.Book.{Book, Doing, Resting, Payload, PayloadSync, OpenGate, OpenSync, CloseGate, CloseSync, FarGate, Mark, MarkSync, Version, VersionSync, Operation, NoOperation, Issuing, Unsettled, Settling, slave_at}
use Rattle.book_model.specs.DiskSteps.{action_of, doing_next, disk_next, went_on, disk_done}
use Rattle.book_model.specs.RomSteps.{to_do, is_last, with_again, rom_next, rom_done}

-- the later book was opened on the same words and live entries, and has accepted the same commands
pub record Keeps (book later : Book) : Type 0 where
  pub words : later.words ≡ book.words
  pub found : later.found ≡ book.found
  pub accepted : later.accepted ≡ book.accepted

pub keeps : (book : Book) → Keeps book book
keeps book = record { words = refl; found = refl; accepted = refl }

-- ---- the disk

next-keeps : (book : Book) (out failed : Bool) (action : Option DiskNext) → book.is_handed_out ≡ out → is_some book.fault ≡ failed → action_of book (doing_next book book.doing) ≡ action
    → Keeps book (disk_next book).1
next-keeps book true failed action o f a = rw o (record { words = refl; found = refl; accepted = refl })
next-keeps book false true action o f a = rw (o, f) (record { words = refl; found = refl; accepted = refl })
next-keeps book false false None o f a = rw (o, f, a) (record { words = refl; found = refl; accepted = refl })
next-keeps book false false (Some next) o f a = rw (o, f, a) (record { words = refl; found = refl; accepted = refl })

pub keeps-disk_next : (book : Book) → Keeps book (disk_next book).1
keeps-disk_next book = next-keeps book book.is_handed_out (is_some book.fault) (action_of book (doing_next book book.doing)) refl refl refl

went-keeps : (book : Book) (doing : Doing) → Keeps book (went_on book doing)
went-keeps book Resting = keeps book
went-keeps book (Payload place entries) = record { words = refl; found = refl; accepted = refl }
went-keeps book (PayloadSync place entries) = record { words = refl; found = refl; accepted = refl }
went-keeps book (OpenGate place entries) = record { words = refl; found = refl; accepted = refl }
went-keeps book (OpenSync place entries) = record { words = refl; found = refl; accepted = refl }
went-keeps book CloseGate = record { words = refl; found = refl; accepted = refl }
went-keeps book CloseSync = record { words = refl; found = refl; accepted = refl }
went-keeps book FarGate = record { words = refl; found = refl; accepted = refl }
went-keeps book Mark = record { words = refl; found = refl; accepted = refl }
went-keeps book MarkSync = record { words = refl; found = refl; accepted = refl }
went-keeps book Version = record { words = refl; found = refl; accepted = refl }
went-keeps book VersionSync = record { words = refl; found = refl; accepted = refl }

-- the book with nothing handed out
abbrev rested : Book → Book
rested book = record book { is_handed_out = false }

done-keeps : (book : Book) (out : Bool) (result : Result (Unit {0}) DeviceFault) → book.is_handed_out ≡ out → Keeps book (disk_done book result)
done-keeps book false result o = rw o (record { words = refl; found = refl; accepted = refl })
done-keeps book true (Ok done) o = rw o (let went = went-keeps (rested book) book.doing in record { words = went.words; found = went.found; accepted = went.accepted })
done-keeps book true (Err Disk) o = rw o (record { words = refl; found = refl; accepted = refl })
done-keeps book true (Err Stopped) o = rw o (record { words = refl; found = refl; accepted = refl })
done-keeps book true (Err Lost) o = rw o (record { words = refl; found = refl; accepted = refl })

pub keeps-disk_done : (book : Book) (result : Result (Unit {0}) DeviceFault) → Keeps book (disk_done book result)
keeps-disk_done book result = done-keeps book book.is_handed_out result refl

-- ---- a slave

rom-keeps : (book : Book) (i : ℕ) (inside failed : Bool) (operation : Operation) (todo : List (ℕ × ℕ)) → nat_lt i (length book.slaves) ≡ inside → (slave_at book i).operation ≡ operation
    → is_some book.fault ≡ failed → to_do book i ≡ todo → Keeps book (rom_next book i).1
rom-keeps book i false failed operation todo n e f t = rw n (record { words = refl; found = refl; accepted = refl })
rom-keeps book i true true NoOperation todo n e f t = rw (n, e, f) (record { words = refl; found = refl; accepted = refl })
rom-keeps book i true false NoOperation [] n e f t = rw (n, e, f, t) (record { words = refl; found = refl; accepted = refl })
rom-keeps book i true false NoOperation (w ∷ others) n e f t = rw (n, e, f, t) (record { words = refl; found = refl; accepted = refl })
rom-keeps book i true failed (Issuing word value) todo n e f t = rw (n, e) (record { words = refl; found = refl; accepted = refl })
rom-keeps book i true true (Unsettled word value taken) todo n e f t = rw (n, e, f) (record { words = refl; found = refl; accepted = refl })
rom-keeps book i true false (Unsettled word value taken) todo n e f t = rw (n, e, f) (record { words = refl; found = refl; accepted = refl })
rom-keeps book i true failed (Settling word value taken) todo n e f t = rw (n, e) (record { words = refl; found = refl; accepted = refl })

pub keeps-rom_next : (book : Book) (i : ℕ) → Keeps book (rom_next book i).1
keeps-rom_next book i = rom-keeps book i (nat_lt i (length book.slaves)) (is_some book.fault) (slave_at book i).operation (to_do book i) refl refl refl refl

again-keeps : (book : Book) (i word : ℕ) (last : Bool) → is_last (cell_of (slave_at book i).cells word).known ≡ last → Keeps book (with_again book i word)
again-keeps book i word true is = rw is (record { words = refl; found = refl; accepted = refl })
again-keeps book i word false is = rw is (record { words = refl; found = refl; accepted = refl })

back-keeps : (book : Book) (i : ℕ) (operation : Operation) (outcome : RomOutcome) → (slave_at book i).operation ≡ operation → Keeps book (rom_done book i outcome)
back-keeps book i NoOperation outcome is = rw is (record { words = refl; found = refl; accepted = refl })
back-keeps book i (Unsettled word value taken) outcome is = rw is (record { words = refl; found = refl; accepted = refl })
back-keeps book i (Issuing word value) (outcomes.Issued how) is = rw is (record { words = refl; found = refl; accepted = refl })
back-keeps book i (Issuing word value) (outcomes.Settled how) is = rw is (record { words = refl; found = refl; accepted = refl })
back-keeps book i (Issuing word value) outcomes.Stopped is = rw is (record { words = refl; found = refl; accepted = refl })
back-keeps book i (Settling word value taken) (outcomes.Issued how) is = rw is (record { words = refl; found = refl; accepted = refl })
back-keeps book i (Settling word value taken) (outcomes.Settled Written) is = rw is (record { words = refl; found = refl; accepted = refl })
back-keeps book i (Settling word value taken) (outcomes.Settled Again) is = rw is (again-keeps book i word (is_last (cell_of (slave_at book i).cells word).known) refl)
back-keeps book i (Settling word value taken) (outcomes.Settled Dead) is = rw is (record { words = refl; found = refl; accepted = refl })
back-keeps book i (Settling word value taken) outcomes.Stopped is = rw is (record { words = refl; found = refl; accepted = refl })

pub keeps-rom_done : (book : Book) (i : ℕ) (outcome : RomOutcome) → Keeps book (rom_done book i outcome)
keeps-rom_done book i outcome = back-keeps book i (slave_at book i).operation outcome refl
