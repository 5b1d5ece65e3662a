use Rattle.std.proofs.Common.{◌≡◌, ◌-◌, List, Some, length, ap, subst, sym}
use Rattle.std.specs.Prelude.{slice_get}
use Rattle.station_jobs.specs.declared.cycle.CycleNote.{CycleNote}
use Rattle.station_jobs.specs.declared.cycle_notes.Run.{Run}
use Rattle.station_jobs.specs.Runs.{CyclesNoted}
use Rattle.station_jobs.proofs.RunLaws.{last-expanded}
use Rattle.station_jobs.proofs.cycle_notes.CycleNotes.last.Goals as goal

pub returns : goal.returns
returns c =
    subst (λ (l : List CycleNote). Some c.in_ok-last.field-0.now.note ≡ slice_get l (length l - 1)) (ap (λ (n : CyclesNoted). n.entries) c.self.view_is)
    (sym (last-expanded c.self.inside.runs.items c.in_ok-last.field-0.now
    (sym (subst (λ (l : List Run). Some c.in_ok-last.field-0.now ≡ slice_get l (length l - 1)) c.deref.ensures.value c.in_ok-last.ensures.value))))
