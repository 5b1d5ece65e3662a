-- An action for the disk as a step of a recovery.
use Rattle.std.proofs.Common.{◌≡◌, inl, inr, ◌≤◌, false, [], refl, sym, ◌∙◌, ap, subst, arith, Option, Some, None, Result, Ok, Err}
use Rattle.std.specs.Prelude.{is_some, IsTrue}
use Rattle.site_core.specs.declared.fault.DeviceFault.{DeviceFault}
use Rattle.site_core.specs.declared.fault.DeviceFault.TheVariants as device
use Rattle.book_model.specs.declared.fault.Fault.{Fault}
use Rattle.book_model.specs.declared.fault.Fault.TheVariants as faults
use Rattle.book_model.specs.declared.next.DiskNext.{DiskNext}
use Rattle.book_model.specs.declared.next.DiskNext.TheVariants as disk
use Rattle.book_model.specs.Book.{Book, first_fault}
use Rattle.book_model.specs.DiskSteps.{disk_next, disk_done}
use Rattle.site_journal.specs.Running.{CallsDisk}
use Rattle.site_journal.proofs.DiskRuns.{IsAction}
use Rattle.site_journal.specs.Left.{calls_left}
use Rattle.site_journal.specs.Recovering.{GetsNearer, HasAction}
use Rattle.site_journal.proofs.DiskLaws.{action-done, action-fault, disk-goes}
use Rattle.site_journal.proofs.ReadyLaws.{call-ends}
use Rattle.station_alone.specs.declared.choice.Choice.TheVariants as choices
use Rattle.station_alone.specs.declared.choice.Answer.{Answer}
use Rattle.station_alone.specs.declared.choice.Answer.TheVariants.{Did, Idle, Failed, NoMemory}
use Rattle.station_alone.specs.Station.{Station, Stands}
use Rattle.station_alone.specs.Steps.{DoesDisk, CarriesOut, StepsDisk, carried_out, out_of_memory, done_with}
use Rattle.station_alone.specs.Keeping.{GoesOn, Keeps}
use Rattle.station_alone.specs.Recovery.{LeadsTo}
use Rattle.station_alone.specs.Rounds.{IsWorking, StaysKept, DiskRests, ServesDisk, reported}
use Rattle.station_alone.proofs.KeepLaws.{goes-within}
use Rattle.station_alone.proofs.RowLaws.{up-of, kept-none, leads-none, leads-one, works-none}

-- ---- faults

pub none-of : (fault : Option Fault) → is_some fault ≡ false → fault ≡ None
none-of None is = refl
none-of (Some fault) is = absurd cc

pub first-is : (old : Option Fault) (fault : Fault) → is_some old ≡ false → Some (first_fault old fault) ≡ Some fault
first-is None fault is = refl
first-is (Some other) fault is = absurd cc

has-action : (book : Book) (action : DiskNext) → (disk_next book).0 ≡ action → IsAction action → HasAction book
has-action book (disk.Write at bytes) is some = (λ idle. absurd cc, λ stop. absurd cc)
has-action book (disk.Gate at closed) is some = (λ idle. absurd cc, λ stop. absurd cc)
has-action book disk.Sync is some = (λ idle. absurd cc, λ stop. absurd cc)
has-action book disk.Idle is some = absurd some
has-action book disk.Stop is some = absurd some

-- ---- a step

-- a step that was done, or the fault that it met
abbrev Served : Answer → Station → Station → Type 0
Served answer old new = ServesDisk (reported answer) old new

module _ (old new : Station) (working : IsWorking old) (stands : Stands new) (goes : GoesOn [] 1 old new) (keeps : Keeps [] old new) where
  kept : 1 ≤ calls_left old.book → StaysKept old new
  kept some =
      let within = goes.within in
      record { session = goes-within [] 1 (calls_left old.book) old new goes (omega (arith, within, some)); keeps = keeps }

  -- it was done well
  did : GetsNearer 1 0 old.book new.book → new.book.fault ≡ old.book.fault → LeadsTo old new → Served Did old new
  did near same leads =
      let within = goes.within in
      let left = near.left in
      let issued = near.issued in record {
        goes = record {
          working = record { stands = stands; recovering = near.recovering; sound = ap is_some same ∙ working.sound };
          kept = kept (omega (arith, left));
          leads = leads;
          left = omega (arith, within, left);
          issued = issued;
        };
        moves = inl (omega (arith, left));
      }

  -- the disk failed, or the site has stopped
  failed : GetsNearer 1 0 old.book (disk_done (disk_next old.book).1 (Ok tt)) → CallsDisk (disk_next old.book).0 old.seen (Err device.Disk) new.seen → Served (Failed faults.Disk) old new
  failed near fails = let left = near.left in record { goes = record { kept = kept (omega (arith, left)); breaks = record { mid = old; leads = leads-none old; fails = fails } }; moves = tt }

  stopped : GetsNearer 1 0 old.book (disk_done (disk_next old.book).1 (Ok tt)) → StepsDisk old (Failed faults.Stopped) new → IsTrue new.seen.is_stopped → Served (Failed faults.Stopped) old new
  stopped near step is =
      let left = near.left in record {
        goes = record { kept = kept (omega (arith, left)); breaks = record { mid = old; leads = leads-none old; choice = choices.Disk; of_recovery = tt; steps = step; stopped = is } };
        moves = tt;
      }

  -- after the outcome was reported to the book
  module _ (action : DiskNext) (is_next : (disk_next old.book).0 ≡ action) (has : HasAction old.book) (near : GetsNearer 1 0 old.book (disk_done (disk_next old.book).1 (Ok tt))) where
    after : (answer : Answer) → LeadsTo old new → StepsDisk old answer new → (result : Result (Unit {0}) DeviceFault) → CallsDisk action old.seen result new.seen → new.book ≡ disk_done (disk_next old.book).1 result → answer ≡ done_with new.book.fault → Served answer old new
    after answer leads step (Ok done) calls book said =
        let same : new.book.fault ≡ old.book.fault = ap (λ (b : Book). b.fault) book ∙ action-fault old.book (Ok done) working.recovering has in
        let is : answer ≡ Did = said ∙ ap done_with (same ∙ none-of old.book.fault working.sound) in
        subst (λ (a : Answer). Served a old new) (sym is) (did (subst (GetsNearer 1 0 old.book) (sym book) near) same leads)
    after answer leads step (Err device.Disk) calls book said =
        let now : new.book.fault ≡ Some faults.Disk = ap (λ (b : Book). b.fault) book ∙ action-fault old.book (Err device.Disk) working.recovering has ∙ first-is old.book.fault faults.Disk working.sound in
        let is : answer ≡ Failed faults.Disk = said ∙ ap done_with now in
        let fails = subst (λ (a : DiskNext). CallsDisk a old.seen (Err device.Disk) new.seen) (sym is_next) calls in
        subst (λ (a : Answer). Served a old new) (sym is) (failed near fails)
    after answer leads step (Err device.Lost) calls book said = let ends = call-ends action old.seen new.seen (Err device.Lost) calls in absurd (ends.1 refl)
    after answer leads step (Err device.Stopped) calls book said =
        let now : new.book.fault ≡ Some faults.Stopped = ap (λ (b : Book). b.fault) book ∙ action-fault old.book (Err device.Stopped) working.recovering has ∙ first-is old.book.fault faults.Stopped working.sound in
        let is : answer ≡ Failed faults.Stopped = said ∙ ap done_with now in
        let ends = call-ends action old.seen new.seen (Err device.Stopped) calls in
        subst (λ (a : Answer). Served a old new) (sym is) (stopped near (subst (λ (a : Answer). StepsDisk old a new) is step) (ends.0.1 refl))

  acts : (answer : Answer) (action : DiskNext) → (disk_next old.book).0 ≡ action → IsAction action → StepsDisk old answer new → DoesDisk action old answer new → Served answer old new
  acts answer action is some step does =
      let u = up-of old working in
      let has = has-action old.book action is some in
      let near = action-done u.0 old.book old.seen.state u.1 u.2 u.3 working.recovering has in
      after action is has near answer (leads-one choices.Disk answer old new tt step) step does.result does.calls does.book does.answered

rests : (old : Station) → IsWorking old → DiskRests old.book → Served Idle old old
rests old working idle = record { goes = works-none old working; moves = inr (refl, idle) }

carries : (old new : Station) (answer : Answer) (action : DiskNext) → IsWorking old → Stands new → GoesOn [] 1 old new → Keeps [] old new → (disk_next old.book).0 ≡ action → StepsDisk old answer new → CarriesOut action old answer new → Served answer old new
carries old new answer (disk.Write at bytes) working stands goes keeps is step does = acts old new working stands goes keeps answer (disk.Write at bytes) is tt step does
carries old new answer (disk.Gate at closed) working stands goes keeps is step does = acts old new working stands goes keeps answer (disk.Gate at closed) is tt step does
carries old new answer disk.Sync working stands goes keeps is step does = acts old new working stands goes keeps answer disk.Sync is tt step does
carries old new answer disk.Idle working stands goes keeps is step n =
    subst (λ (a : Answer). Served a old new) (sym n.answered) (subst (λ (s : Station). Served Idle old s) (sym n.same) (rests old working is))
carries old new answer disk.Stop working stands goes keeps is step n = absurd (disk-goes old.book working.recovering working.sound is)

pub disk-serves : (old new : Station) (answer : Answer) → IsWorking old → Stands new → GoesOn [] 1 old new → Keeps [] old new → StepsDisk old answer new → ServesDisk (reported answer) old new
disk-serves old new answer working stands goes keeps (carried_out does) = carries old new answer (disk_next old.book).0 working stands goes keeps refl (carried_out does) does
disk-serves old new answer working stands goes keeps (out_of_memory takes n) =
    subst (λ (a : Answer). Served a old new) (sym n.answered)
    (subst (λ (s : Station). Served NoMemory old s) (sym n.same) (record { goes = record { kept = kept-none old; breaks = record { leads = leads-none old; takes = takes } }; moves = tt }))
