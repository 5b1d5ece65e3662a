-- No call changes what the book was opened with, and only an accepted command changes what it has accepted.
use Rattle.std.proofs.Common.{◌≡◌, ℕ, ◌≤◌, Bool, true, false, List, refl, sym, ◌∙◌, ap, subst, arith, Result, Ok, Err}
use Rattle.std.specs.Prelude.{◌||◌}
use Rattle.sii_edit.specs.declared.command.Command.{Command}
use Rattle.jrn_format.specs.declared.journal.Entry.{Entry}
use Rattle.site_core.specs.declared.fault.DeviceFault.{DeviceFault}
use Rattle.site_core.specs.declared.fault.DeviceFault.TheVariants as device
use Rattle.site_core.specs.declared.answers.Settled.TheVariants.{Written, Again, Dead}
use Rattle.book_model.specs.Cells.{cell_of}
use Rattle.book_model.specs.declared.next.DiskNext.{DiskNext}
use Rattle.book_model.specs.declared.next.RomNext.{RomNext}
use Rattle.book_model.specs.declared.next.RomOutcome.{RomOutcome}
use Rattle.book_model.specs.declared.next.RomOutcome.TheVariants as outcomes
use Rattle.book_model.specs.Book.{Book, Doing, Resting, Payload, PayloadSync, OpenGate, OpenSync, CloseGate, CloseSync, FarGate, Mark, MarkSync, Version, VersionSync, Operation, NoOperation, Issuing, Unsettled, Settling, slave_at, is_closed, is_version_2, contents_of}
use Rattle.book_model.specs.DiskSteps.{went_on, disk_next, disk_done}
use Rattle.book_model.specs.RomSteps.{is_last, with_again, rom_next, rom_done}
use Rattle.book_model.specs.Open.{migrate}
use Rattle.station_alone.proofs.HandedLaws.{Hands, nothing, action, hands, HandsRom, nothing_asked, issue, settle, hands-rom}

-- the words and the entries that were found, the accepted commands, and how many of them are durable
abbrev pub Same : Book → Book → Type 0
Same old new = (new.words ≡ old.words) × (new.found ≡ old.found) × (new.accepted ≡ old.accepted) × (new.durable ≡ old.durable)

-- but for more that are durable
abbrev pub SameOrMore : Book → Book → Type 0
SameOrMore old new = (new.words ≡ old.words) × (new.found ≡ old.found) × (new.accepted ≡ old.accepted) × (old.durable ≤ new.durable)

pub same : (book : Book) → Same book book
same book = (refl, refl, refl, refl)

pub same-then : (a b c : Book) → Same a b → Same b c → Same a c
same-then a b c first second = (second.0 ∙ first.0, second.1 ∙ first.1, second.2 ∙ first.2, second.3 ∙ first.3)

pub more-then : (a b c : Book) → Same a b → SameOrMore b c → SameOrMore a c
more-then a b c first second = let count = first.3 in let more = second.3 in (second.0 ∙ first.0, second.1 ∙ first.1, second.2 ∙ first.2, omega (arith, count, more))

pub no-fewer : (old new : Book) → Same old new → SameOrMore old new
no-fewer old new s = let count = s.3 in (s.0, s.1, s.2, omega (arith, count))

-- the contents are the same then
pub same-contents : (old new : Book) → new.words ≡ old.words → new.found ≡ old.found → new.accepted ≡ old.accepted → contents_of new ≡ contents_of old
same-contents old new words found accepted =
    ap (λ (w : List (List ℕ)). contents_of (record new { words = w })) words
    ∙ ap (λ (f : List Entry). contents_of (record new { words = old.words; found = f })) found
    ∙ ap (λ (a : List Command). contents_of (record new { words = old.words; found = old.found; accepted = a })) accepted

-- ---- the disk

next-by : (book : Book) → Hands book → Same book (disk_next book).1
next-by book (nothing answer none is) = subst (λ (a : DiskNext × Book). Same book a.1) (sym is) (same book)
next-by book (action given some ok is) = subst (λ (a : DiskNext × Book). Same book a.1) (sym is) (same book)

pub next-same : (book : Book) → Same book (disk_next book).1
next-same book = next-by book (hands book)

went-same : (book : Book) (doing : Doing) → SameOrMore book (went_on book doing)
went-same book Resting = (refl, refl, refl, omega arith)
went-same book (Payload place entries) = (refl, refl, refl, omega arith)
went-same book (PayloadSync place entries) = (refl, refl, refl, omega arith)
went-same book (OpenGate place entries) = (refl, refl, refl, omega arith)
went-same book (OpenSync place entries) = (refl, refl, refl, omega arith)
went-same book CloseGate = (refl, refl, refl, omega arith)
went-same book CloseSync = (refl, refl, refl, omega arith)
went-same book FarGate = (refl, refl, refl, omega arith)
went-same book Mark = (refl, refl, refl, omega arith)
went-same book MarkSync = (refl, refl, refl, omega arith)
went-same book Version = (refl, refl, refl, omega arith)
went-same book VersionSync = (refl, refl, refl, omega arith)

module _ (book : Book) where
  -- nothing becomes durable in a fault
  failed-by : (out : Bool) (fault : DeviceFault) → book.is_handed_out ≡ out → Same book (disk_done book (Err fault))
  failed-by false fault out = rw out (same book)
  failed-by true device.Disk out = rw out (same book)
  failed-by true device.Lost out = rw out (same book)
  failed-by true device.Stopped out = rw out (same book)

  pub failed-same : (fault : DeviceFault) → Same book (disk_done book (Err fault))
  failed-same fault = failed-by book.is_handed_out fault refl

  went-by : (out : Bool) → book.is_handed_out ≡ out → SameOrMore book (disk_done book (Ok tt))
  went-by false out = rw out (no-fewer book book (same book))
  went-by true out = rw out (went-same (record book { is_handed_out = false }) book.doing)

  pub done-same : (result : Result (Unit {0}) DeviceFault) → SameOrMore book (disk_done book result)
  done-same (Ok done) = went-by book.is_handed_out refl
  done-same (Err fault) = no-fewer book (disk_done book (Err fault)) (failed-same fault)

-- ---- a slave

module _ (book : Book) (i : ℕ) where
  rom-next-by : HandsRom book i → Same book (rom_next book i).1
  rom-next-by (nothing_asked answer none is) = subst (λ (a : RomNext × Book). Same book a.1) (sym is) (same book)
  rom-next-by (issue w within ok is) = subst (λ (a : RomNext × Book). Same book a.1) (sym is) (same book)
  rom-next-by (settle word value taken within ok is) = subst (λ (a : RomNext × Book). Same book a.1) (sym is) (same book)

  pub rom-next-same : Same book (rom_next book i).1
  rom-next-same = rom-next-by (hands-rom book i)

  again-same : (word : ℕ) (last : Bool) → is_last (cell_of (slave_at book i).cells word).known ≡ last → Same book (with_again book i word)
  again-same word true is = rw is (same book)
  again-same word false is = rw is (same book)

  back-same : (operation : Operation) (outcome : RomOutcome) → (slave_at book i).operation ≡ operation → Same book (rom_done book i outcome)
  back-same NoOperation outcome is = rw is (same book)
  back-same (Unsettled word value taken) outcome is = rw is (same book)
  back-same (Issuing word value) (outcomes.Issued how) is = rw is (same book)
  back-same (Issuing word value) (outcomes.Settled how) is = rw is (same book)
  back-same (Issuing word value) outcomes.Stopped is = rw is (same book)
  back-same (Settling word value taken) (outcomes.Issued how) is = rw is (same book)
  back-same (Settling word value taken) (outcomes.Settled Written) is = rw is (same book)
  back-same (Settling word value taken) (outcomes.Settled Again) is =
      let done : rom_done book i (outcomes.Settled Again) ≡ with_again book i word = rw is refl in
      subst (Same book) (sym done) (again-same word (is_last (cell_of (slave_at book i).cells word).known) refl)
  back-same (Settling word value taken) (outcomes.Settled Dead) is = rw is (same book)
  back-same (Settling word value taken) outcomes.Stopped is = rw is (same book)

  pub rom-done-same : (outcome : RomOutcome) → Same book (rom_done book i outcome)
  rom-done-same outcome = back-same (slave_at book i).operation outcome refl

-- ---- a migration

module _ (book : Book) where
  asked-by : (refused : Bool) → (is_closed book || is_version_2 book.form) ≡ refused → Same book (migrate book).1
  asked-by true is = rw is (same book)
  asked-by false is = rw is (same book)

  pub asked-same : Same book (migrate book).1
  asked-same = asked-by (is_closed book || is_version_2 book.form) refl
