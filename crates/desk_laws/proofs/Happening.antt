-- For each answered call a world in which its event happens, and the outcomes with which no event happens.
use Rattle.std.proofs.Common.{◌≡◌, ◌≢◌, inl, ℕ, zero, suc, Bool, true, false, List, [], ◌∷◌, refl, arith, Option, Some, None, Result, Ok, Err}
use Rattle.std.specs.Prelude.{slice_get, slice_index_or}
use Rattle.esc_model.specs.SlaveHalf.{SlaveHalf, powered_up}
use Rattle.esc_model.specs.Registers.{cleared}
use Rattle.site_core.specs.declared.fault.DeviceFault.{DeviceFault}
use Rattle.site_core.specs.declared.fault.DeviceFault.TheVariants as device
use Rattle.site_core.specs.declared.answers.Issued.TheVariants.{Taken, NotTaken, Lost}
use Rattle.site_core.specs.declared.answers.Settled.TheVariants.{Written, Again, Dead}
use Rattle.site_core.specs.Disk.{Disk, no_disk}
use Rattle.site_core.specs.State.{with_half}
use Rattle.book_model.specs.declared.next.DiskNext.{DiskNext}
use Rattle.book_model.specs.declared.next.DiskNext.TheVariants as disk
use Rattle.book_model.specs.declared.next.RomNext.{RomNext}
use Rattle.book_model.specs.declared.next.RomNext.TheVariants as rom
use Rattle.book_model.specs.declared.next.RomOutcome.{RomOutcome}
use Rattle.book_model.specs.declared.next.RomOutcome.TheVariants.{Issued, Settled, Stopped}
use Rattle.book_model.specs.Book.{Book, Operation, NoOperation, Issuing, Unsettled, Settling, slave_at}
use Rattle.book_model.specs.Submit.{submit}
use Rattle.book_model.specs.Open.{finish}
use Rattle.book_model.specs.DiskSteps.{disk_next, disk_done}
use Rattle.book_model.specs.RomSteps.{rom_next, rom_done}
use Rattle.book_model.specs.Reading.{applied, planned}
use Rattle.book_model.specs.Events.{begun_on, ended_on, FailsOn, in_progress}
use Rattle.book_model.specs.Steps.{MayBegin, MayComeBack, took_after}
use Rattle.sii_image.specs.ProcessImage.{process_image}
use Rattle.world_law.specs.World.{World, RomIssue, RomDone, DiskDone, Nothing, Planned, Closed}
use Rattle.world_law.specs.Happenings.{submitted, with_book, with_disk, reported_of, fault_reported}
use Rattle.desk_book.specs.declared.call.Call.{Call}
use Rattle.desk_book.specs.declared.call.Call.TheVariants.{Submitted, DiskAsked, DiskReported, SlaveAsked, SlaveReported, PlanAsked, Finished}
use Rattle.desk_book.specs.Calls.{IsAnswered}
use Rattle.desk_laws.specs.Events.{event_of, CanHappen, IsOfOperation, IsOfItsJob}

-- ---- the disk

abbrev world_of : Book → World
world_of book = record { book = Some book; state = record { disk = no_disk; halves = [] }; took = [] }

-- an action that failed may have left the disk as it was when it began
fails-same : (action : Option DiskNext) (disk : Disk) → FailsOn action disk disk
fails-same None disk = refl
fails-same (Some (disk.Write at bytes)) disk = record { bytes = λ place out. refl; no_shorter = omega arith; unsynced = refl; synced_length = refl }
fails-same (Some (disk.Gate at closed)) disk = record { bytes = λ place out. refl; no_shorter = omega arith; unsynced = refl; synced_length = refl }
fails-same (Some disk.Sync) disk = refl
fails-same (Some disk.Idle) disk = refl
fails-same (Some disk.Stop) disk = refl

disk-happens : (book : Book) (outcome : Result (Unit {0}) DeviceFault) → book.is_handed_out ≡ true → outcome ≢ Err device.Lost → CanHappen (DiskDone outcome) book
disk-happens book (Ok done) out not = record {
  world = world_of book;
  up = refl;
  reported = reported_of book (disk_done book (Ok tt));
  later = with_disk (world_of book) (disk_done book (Ok tt)) (ended_on (in_progress book) no_disk);
  happens = (out, (refl, refl));
}
disk-happens book (Err fault) out not = record {
  world = world_of book;
  up = refl;
  reported = Closed;
  later = with_disk (world_of book) (disk_done book (Err fault)) no_disk;
  happens = (out, (no_disk, (λ e. not cc), fails-same (in_progress book) no_disk, refl, refl));
}

-- ---- a slave

-- the one at this place, with those before it
abbrev up_to : {A : Type 0} → ℕ → A → List A
up_to zero x = x ∷ []
up_to (suc n) x = x ∷ up_to n x

at-place : {A : Type 0} (n : ℕ) (x : A) → slice_get (up_to n x) n ≡ Some x
at-place zero x = refl
at-place (suc n) x = at-place n x

index-place : {A : Type 0} (n : ℕ) (x d : A) → slice_index_or (up_to n x) n d ≡ x
index-place zero x d = refl
index-place (suc n) x d = index-place n x d

-- an idle half without an error
abbrev well : SlaveHalf
well = record (powered_up [] 0) { registers = cleared false }

-- a world in which slaves up to this one are such halves, and took the last datagram or didn't
abbrev world_with : Book → ℕ → Bool → World
world_with book slave took = record { book = Some book; state = record { disk = no_disk; halves = up_to slave well }; took = up_to slave took }

begins : (job : RomNext) (slave : ℕ) → MayBegin job slave false well well
begins (rom.Issue word value) slave = inl refl
begins (rom.Settle taken) slave = refl
begins rom.Idle slave = refl
begins rom.Stop slave = refl

slave-begins : (book : Book) (slave : ℕ) → CanHappen (RomIssue slave) book
slave-begins book slave =
    let world : World = world_with book slave false in
    record {
      world = world;
      up = refl;
      reported = Nothing;
      later = record {
        book = Some (rom_next book slave).1;
        state = with_half world.state slave well;
        took = took_after (rom_next book slave).0 world.took slave false;
      };
      happens = (refl, record { half = well; here = at-place slave well; taken = false; after = well; may = begins (rom_next book slave).0 slave; is = refl });
    }

-- whether the datagram was taken, where an action ends so
abbrev took_for : RomOutcome → Bool
took_for (Issued Taken) = true
took_for outcome = false

comes-back : (operation : Operation) (outcome : RomOutcome) → IsOfOperation operation outcome → MayComeBack (took_for outcome) operation outcome well well
comes-back NoOperation outcome of = absurd of
comes-back (Unsettled word value taken) outcome of = absurd of
comes-back (Issuing word value) (Issued Taken) of = (refl, refl)
comes-back (Issuing word value) (Issued NotTaken) of = (refl, refl)
comes-back (Issuing word value) (Issued Lost) of = refl
comes-back (Issuing word value) (Settled settled) of = absurd of
comes-back (Issuing word value) Stopped of = record { station = refl; words = inl (refl, refl) }
comes-back (Settling word value taken) (Issued issued) of = absurd of
comes-back (Settling word value taken) (Settled Written) of = (of, record { idle = refl; command_error = refl; enable_error = refl }, refl)
comes-back (Settling word value taken) (Settled Again) of = (refl, record { station = refl; words = inl (refl, refl) })
comes-back (Settling word value taken) (Settled Dead) of = record { station = refl; words = inl (refl, refl) }
comes-back (Settling word value taken) Stopped of = record { station = refl; words = inl (refl, refl) }

slave-happens : (book : Book) (slave : ℕ) (outcome : RomOutcome) → IsOfOperation (slave_at book slave).operation outcome → CanHappen (RomDone slave outcome) book
slave-happens book slave outcome of =
    let world : World = world_with book slave (took_for outcome) in
    record {
      world = world;
      up = refl;
      reported = fault_reported (rom_done book slave outcome);
      later = record { book = Some (rom_done book slave outcome); state = with_half world.state slave well; took = world.took };
      happens = (
        refl,
        record {
          half = well;
          here = at-place slave well;
          after = well;
          may = rw (index-place slave (took_for outcome) false) (comes-back (slave_at book slave).operation outcome of);
          is = refl;
        },
      );
    }

-- ---- each call

pub can-happen : (book : Book) (call : Call) → IsAnswered book call → IsOfItsJob book call → CanHappen (event_of call) book
can-happen book (Submitted command answer) answered of =
    let after = submitted book command (submit book command) in
    record { world = world_of book; up = refl; reported = after.1; later = with_book (world_of book) after.0; happens = (refl, refl) }
can-happen book (DiskAsked answer) answered of = record {
  world = world_of book;
  up = refl;
  reported = Nothing;
  later = with_disk (world_of book) (disk_next book).1 (begun_on (Some (disk_next book).0) no_disk);
  happens = (refl, refl);
}
can-happen book (DiskReported outcome) answered of = disk-happens book outcome answered of
can-happen book (SlaveAsked slave answer) answered of = slave-begins book slave
can-happen book (SlaveReported slave outcome) answered of = slave-happens book slave outcome of
can-happen book (PlanAsked answer) answered of =
    record { world = world_of book; up = refl; reported = Planned (applied book) (process_image (planned book)); later = world_of book; happens = (refl, refl) }
can-happen book Finished answered of =
    record { world = world_of book; up = refl; reported = Closed; later = with_book (world_of book) (finish book); happens = (refl, refl) }

-- ---- no event with any other outcome

of-operation : (took : Bool) (operation : Operation) (outcome : RomOutcome) (half later : SlaveHalf) → MayComeBack took operation outcome half later → IsOfOperation operation outcome
of-operation took NoOperation outcome half later back = absurd back
of-operation took (Unsettled word value taken) outcome half later back = absurd back
of-operation took (Issuing word value) (Issued issued) half later back = tt
of-operation took (Issuing word value) (Settled settled) half later back = absurd back
of-operation took (Issuing word value) Stopped half later back = tt
of-operation took (Settling word value taken) (Issued issued) half later back = absurd back
of-operation took (Settling word value taken) (Settled Written) half later back = back.0
of-operation took (Settling word value taken) (Settled Again) half later back = tt
of-operation took (Settling word value taken) (Settled Dead) half later back = tt
of-operation took (Settling word value taken) Stopped half later back = tt

pub only-of-its-job : (book : Book) (call : Call) → CanHappen (event_of call) book → IsOfItsJob book call
only-of-its-job book (Submitted command answer) can = tt
only-of-its-job book (DiskAsked answer) can = tt
only-of-its-job book (DiskReported (Ok done)) can = λ e. absurd cc
only-of-its-job book (DiskReported (Err fault)) can = λ e. can.happens.1.1 cc
only-of-its-job book (SlaveAsked slave answer) can = tt
only-of-its-job book (SlaveReported slave outcome) can =
    let back = can.happens.1 in
    of-operation (slice_index_or can.world.took slave false) (slave_at book slave).operation outcome back.half back.after back.may
only-of-its-job book (PlanAsked answer) can = tt
only-of-its-job book Finished can = tt
