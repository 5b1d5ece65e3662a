-- Which calls close a book, and which one changes the form of its journal.
use Rattle.std.proofs.Common.{◌≡◌, ◌⊎◌, inl, inr, ℕ, ◌<◌, Bool, true, false, length, refl, sym, subst, arith, Ok}
use Rattle.std.specs.Prelude.{is_some, ◌||◌}
use Rattle.std.proofs.lemmas.Bool.Decides.{nat_tests}
use Rattle.site_core.specs.declared.answers.Settled.TheVariants.{Written, Again, Dead}
use Rattle.book_model.specs.Cells.{cell_of}
use Rattle.jrn_format.specs.declared.journal.Form.TheVariants.{Two}
use Rattle.book_model.specs.declared.next.RomNext.{RomNext}
use Rattle.book_model.specs.declared.next.RomOutcome.{RomOutcome}
use Rattle.book_model.specs.declared.next.RomOutcome.TheVariants.{Issued, Settled, Stopped}
use Rattle.book_model.specs.Book.{Book, Doing, Resting, Payload, PayloadSync, OpenGate, OpenSync, CloseGate, CloseSync, FarGate, Mark, MarkSync, Version, VersionSync, Operation, NoOperation, Issuing, Unsettled, Settling, is_closed, is_version_2, slave_at}
use Rattle.book_model.specs.Open.{migrate}
use Rattle.book_model.specs.DiskSteps.{went_on, disk_next, disk_done}
use Rattle.book_model.specs.RomSteps.{is_last, with_again, rom_next, rom_done}
use Rattle.book_model.specs.Events.{rested}
use Rattle.book_model.proofs.DiskEventLaws.{Answers, same, goes, by-out}
use Rattle.book_model.proofs.SlaveEventLaws.{Asks, nothing, issue, settle, asks}

-- the later book is closed where this one is, and its journal has the same form
pub record SameFlags (book later : Book) : Type 0 where
  pub closed : is_closed later ≡ is_closed book
  pub form : later.form ≡ book.form

same-flags : (book : Book) → SameFlags book book
same-flags book = record { closed = refl; form = refl }

-- ---- what is handed out

disk-flags : (book : Book) → Answers book → SameFlags book (disk_next book).1
disk-flags book (same is) = subst (SameFlags book) (sym is) (same-flags book)
disk-flags book (goes is) = subst (SameFlags book) (sym is) (record { closed = refl; form = refl })

pub flags-disk_next : (book : Book) → SameFlags book (disk_next book).1
flags-disk_next book = disk-flags book (by-out book book.is_handed_out refl)

slave-flags : (book : Book) (i : ℕ) → Asks book i → SameFlags book (rom_next book i).1
slave-flags book i (nothing answer none is) = subst (λ (a : RomNext × Book). SameFlags book a.1) (sym is) (same-flags book)
slave-flags book i (issue w others todo is) = subst (λ (a : RomNext × Book). SameFlags book a.1) (sym is) (record { closed = refl; form = refl })
slave-flags book i (settle word value taken operation is) = subst (λ (a : RomNext × Book). SameFlags book a.1) (sym is) (record { closed = refl; form = refl })

pub flags-rom_next : (book : Book) (i : ℕ) → i < length book.slaves → SameFlags book (rom_next book i).1
flags-rom_next book i within = slave-flags book i (asks book i (grind (arith, nat_tests)) (slave_at book i).operation refl)

migrate-flags : (book : Book) (refused : Bool) → (is_closed book || is_version_2 book.form) ≡ refused → SameFlags book (migrate book).1
migrate-flags book true is = rw is (same-flags book)
migrate-flags book false is = rw is (record { closed = refl; form = refl })

pub flags-migrate : (book : Book) → SameFlags book (migrate book).1
flags-migrate book = migrate-flags book (is_closed book || is_version_2 book.form) refl

-- ---- what comes back of a slave

-- the later book has a fault, or it is closed where this one is
pub record BackFlags (book later : Book) : Type 0 where
  pub closed : (is_some later.fault ≡ true) ⊎ (is_closed later ≡ is_closed book)
  pub form : later.form ≡ book.form

again-flags : (book : Book) (i word : ℕ) (last : Bool) → is_last (cell_of (slave_at book i).cells word).known ≡ last → BackFlags book (with_again book i word)
again-flags book i word true is = rw is (record { closed = inl refl; form = refl })
again-flags book i word false is = rw is (record { closed = inr refl; form = refl })

back-flags : (book : Book) (i : ℕ) (operation : Operation) (outcome : RomOutcome) → (slave_at book i).operation ≡ operation → BackFlags book (rom_done book i outcome)
back-flags book i NoOperation outcome is = rw is (record { closed = inr refl; form = refl })
back-flags book i (Unsettled word value taken) outcome is = rw is (record { closed = inr refl; form = refl })
back-flags book i (Issuing word value) (Issued how) is = rw is (record { closed = inr refl; form = refl })
back-flags book i (Issuing word value) (Settled how) is = rw is (record { closed = inr refl; form = refl })
back-flags book i (Issuing word value) Stopped is = rw is (record { closed = inl refl; form = refl })
back-flags book i (Settling word value taken) (Issued how) is = rw is (record { closed = inr refl; form = refl })
back-flags book i (Settling word value taken) (Settled Written) is = rw is (record { closed = inr refl; form = refl })
back-flags book i (Settling word value taken) (Settled Again) is =
    let done : rom_done book i (Settled Again) ≡ with_again book i word = rw is refl in
    subst (BackFlags book) (sym done) (again-flags book i word (is_last (cell_of (slave_at book i).cells word).known) refl)
back-flags book i (Settling word value taken) (Settled Dead) is = rw is (record { closed = inl refl; form = refl })
back-flags book i (Settling word value taken) Stopped is = rw is (record { closed = inl refl; form = refl })

pub flags-rom_done : (book : Book) (i : ℕ) (outcome : RomOutcome) → BackFlags book (rom_done book i outcome)
flags-rom_done book i outcome = back-flags book i (slave_at book i).operation outcome refl

-- ---- what comes back of the disk

-- The form changes to version 2 alone, and then no commands become durable.
pub record DoneFlags (book later : Book) : Type 0 where
  pub closed : is_closed later ≡ is_closed book
  pub form : (later.form ≡ book.form) ⊎ ((later.form ≡ Two) × (later.durable ≡ book.durable))

went-flags : (book : Book) (doing : Doing) → DoneFlags book (went_on book doing)
went-flags book Resting = record { closed = refl; form = inl refl }
went-flags book (Payload place entries) = record { closed = refl; form = inl refl }
went-flags book (PayloadSync place entries) = record { closed = refl; form = inl refl }
went-flags book (OpenGate place entries) = record { closed = refl; form = inl refl }
went-flags book (OpenSync place entries) = record { closed = refl; form = inl refl }
went-flags book CloseGate = record { closed = refl; form = inl refl }
went-flags book CloseSync = record { closed = refl; form = inl refl }
went-flags book FarGate = record { closed = refl; form = inl refl }
went-flags book Mark = record { closed = refl; form = inl refl }
went-flags book MarkSync = record { closed = refl; form = inl refl }
went-flags book Version = record { closed = refl; form = inl refl }
went-flags book VersionSync = record { closed = refl; form = inr (refl, refl) }

pub flags-disk_done : (book : Book) → book.is_handed_out ≡ true → DoneFlags book (disk_done book (Ok tt))
flags-disk_done book out =
    let done : disk_done book (Ok tt) ≡ went_on (rested book) book.doing = rw out refl in
    let flags = went-flags (rested book) book.doing in
    subst (DoneFlags book) (sym done) (record { closed = flags.closed; form = flags.form })
