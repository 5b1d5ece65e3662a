-- A recovery leads a site on by calls alone.
use Rattle.std.proofs.Common.{◌≡◌, ℕ, List, [], ◌∷◌, Result, Err, sym, ap, subst, inl, inr}
use Rattle.site_core.specs.declared.fault.DeviceFault.{DeviceFault}
use Rattle.site_core.specs.declared.fault.DeviceFault.TheVariants as device
use Rattle.site_core.specs.Line.{Line}
use Rattle.site_core.specs.State.{Seen}
use Rattle.site_core.specs.Times.{Follows}
use Rattle.site_core.proofs.Times.{Follows-same, Follows-then, Calls-follows}
use Rattle.book_model.specs.declared.fault.Fault.TheVariants as book_fault
use Rattle.book_model.specs.declared.next.DiskNext.{DiskNext}
use Rattle.book_model.specs.declared.next.DiskNext.TheVariants as disk
use Rattle.book_model.specs.declared.next.RomNext.{RomNext}
use Rattle.book_model.specs.declared.next.RomNext.TheVariants as rom
use Rattle.book_model.specs.DiskSteps.{disk_next}
use Rattle.book_model.specs.RomSteps.{rom_next}
use Rattle.esc_rom.specs.declared.fault.RomFault.TheVariants as rom_fault
use Rattle.site_journal.specs.declared.fault.ReadFault.TheVariants as read
use Rattle.site_journal.specs.Running.{CallsDisk}
use Rattle.station_alone.specs.declared.choice.Choice.{Choice}
use Rattle.station_alone.specs.declared.choice.Choice.TheVariants.{Submit, Disk, Rom, Migrate}
use Rattle.station_alone.specs.declared.choice.Answer.{Answer}
use Rattle.station_alone.specs.declared.choice.Answer.TheVariants.{Failed}
use Rattle.station_alone.specs.declared.fault.OpenFault.{OpenFault}
use Rattle.station_alone.specs.declared.fault.OpenFault.TheVariants as why
use Rattle.station_alone.specs.Station.{Station}
use Rattle.station_alone.specs.Steps as step
use Rattle.station_alone.specs.Steps.{Steps, StepsInOrder, StepsDisk, CarriesOut, Serves}
use Rattle.station_alone.specs.Recovery.{LeadsTo, RecoversBySteps, Breaks, FailsToRecover}

same_seen : (old new : Seen) → new ≡ old → Follows old new
same_seen old new same = subst (λ (s : Seen). Follows old s) (sym same) (Follows-same old)

disk_call : (action : DiskNext) (old : Seen) (result : Result (Unit {0}) DeviceFault) (new : Seen) → CallsDisk action old result new → Follows old new
disk_call (disk.Write at bytes) old result new calls = Calls-follows old calls.writes.middle result new calls.writes.call
disk_call (disk.Gate at closed) old result new calls = Calls-follows old calls.writes.middle result new calls.writes.call
disk_call disk.Sync old result new calls = Calls-follows old [] result new calls.call
disk_call disk.Idle old result new calls = absurd calls
disk_call disk.Stop old result new calls = absurd calls

same_station : (old new : Station) → new ≡ old → Follows old.seen new.seen
same_station old new same = same_seen old.seen new.seen (ap (λ (s : Station). s.seen) same)

carried_out : (action : DiskNext) (old : Station) (answer : Answer) (new : Station) → CarriesOut action old answer new → Follows old.seen new.seen
carried_out (disk.Write at bytes) old answer new does = disk_call (disk.Write at bytes) old.seen does.result new.seen does.calls
carried_out (disk.Gate at closed) old answer new does = disk_call (disk.Gate at closed) old.seen does.result new.seen does.calls
carried_out disk.Sync old answer new does = disk_call disk.Sync old.seen does.result new.seen does.calls
carried_out disk.Idle old answer new does = same_station old new does.same
carried_out disk.Stop old answer new does = same_station old new does.same

disk_step : (old : Station) (answer : Answer) (new : Station) → StepsDisk old answer new → Follows old.seen new.seen
disk_step old answer new (step.carried_out does) = carried_out (disk_next old.book).0 old answer new does
disk_step old answer new (step.out_of_memory takes nothing) = same_station old new nothing.same

pub slave_step : (next : RomNext) (slave : ℕ) (old : Station) (answer : Answer) (new : Station) → Serves next slave old answer new
    → Follows old.seen new.seen
slave_step (rom.Issue word value) slave old answer new does = does.issues.follows
slave_step (rom.Settle taken) slave old answer new does = does.settles.quiet.follows
slave_step rom.Idle slave old answer new does = same_station old new does.same
slave_step rom.Stop slave old answer new does = same_station old new does.same

pub one_step : (choice : Choice) (old : Station) (answer : Answer) (new : Station) → Steps choice old answer new → Follows old.seen new.seen
one_step (Submit command) old answer new steps = same_seen old.seen new.seen steps.seen
one_step Disk old answer new steps = disk_step old answer new steps
one_step (Rom slave) old answer new steps = slave_step (rom_next old.book slave).0 slave old answer new steps
one_step Migrate old answer new steps = same_seen old.seen new.seen steps.seen

steps_in_order : (choices : List Choice) (old : Station) (answers : List Answer) (new : Station) → StepsInOrder choices old answers new
    → Follows old.seen new.seen
steps_in_order [] old [] new same = same_station old new same
steps_in_order [] old (answer ∷ answers) new steps = absurd steps
steps_in_order (choice ∷ choices) old [] new steps = absurd steps
steps_in_order (choice ∷ choices) old (answer ∷ answers) new steps =
    Follows-then old.seen steps.0.seen new.seen (one_step choice old answer steps.0 steps.1)
    (steps_in_order choices steps.0 answers new steps.2)

leads : (old new : Station) → LeadsTo old new → Follows old.seen new.seen
leads old new to = steps_in_order to.choices old to.answers new to.steps

pub recovers_on : (line : Line) (old : Seen) (new : Station) → RecoversBySteps line old new → Follows old new.seen
recovers_on line old new by =
    Follows-then old by.opened.seen new.seen by.opens.1.quiet.follows (leads by.opened new by.leads)

breaks_on : (fault : OpenFault) (opened last : Station) → Breaks fault opened last → Follows opened.seen last.seen
breaks_on (why.Journal (read.Device device.Disk)) opened last breaks =
    Follows-then opened.seen breaks.mid.seen last.seen (leads opened breaks.mid breaks.leads)
    (disk_call (disk_next breaks.mid.book).0 breaks.mid.seen (Err device.Disk) last.seen breaks.fails)
breaks_on (why.Journal (read.Device device.Lost)) opened last breaks = absurd breaks
breaks_on (why.Journal (read.Device device.Stopped)) opened last breaks =
    Follows-then opened.seen breaks.mid.seen last.seen (leads opened breaks.mid breaks.leads)
    (one_step breaks.choice breaks.mid (Failed book_fault.Stopped) last breaks.steps)
breaks_on (why.Journal (read.Journal fault)) opened last breaks = absurd breaks
breaks_on (why.Slave (rom_fault.SlaveDead slave)) opened last breaks =
    Follows-then opened.seen breaks.mid.seen last.seen (leads opened breaks.mid breaks.leads) breaks.settles.settles.quiet.follows
breaks_on (why.Slave rom_fault.Stopped) opened last breaks = absurd breaks
breaks_on (why.Slave rom_fault.Memory) opened last breaks = absurd breaks
breaks_on why.Memory opened last breaks = leads opened last breaks.leads

pub fails_on : (line : Line) (old : Seen) (fault : OpenFault) (later : Line) (new : Seen) → FailsToRecover line old fault later new → Follows old new
fails_on line old fault later new (inl unopened) = unopened.quiet.follows
fails_on line old fault later new (inr cut) =
    let after : Follows old cut.last.seen =
    Follows-then old cut.opened.seen cut.last.seen cut.opens.1.quiet.follows (breaks_on fault cut.opened cut.last cut.breaks) in
    subst (λ (s : Seen). Follows old s) cut.is after
