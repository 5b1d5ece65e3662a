use Rattle.std.proofs.Common.{◌≡◌, ◌∙◌, sym, ap}
use Rattle.station_jobs.specs.Runs.{CyclesNoted, expanded}
use Rattle.station_jobs.proofs.RunLaws.{same-runs}
use Rattle.station_jobs.proofs.cycle_notes.CycleNotes.are_same.Goals as goal

pub returns : goal.returns
returns c =
    let ones = c.self.inside.runs.items in
    let others = c.others.inside.runs.items in
    let one : expanded ones ≡ c.args.self.now.entries = ap (λ (n : CyclesNoted). n.entries) c.self.view_is in
    let other : expanded others ≡ c.args.others.now.entries = ap (λ (n : CyclesNoted). n.entries) c.others.view_is in (
      λ are. sym one ∙ ap expanded (sym c.deref.ensures.value ∙ c.are_same_runs.ensures.0 are ∙ c.deref-2.ensures.value) ∙ other,
      λ same. c.are_same_runs.ensures.1
          (c.deref.ensures.value ∙ same-runs ones others c.self.invariant c.others.invariant (one ∙ same ∙ sym other) ∙ sym c.deref-2.ensures.value),
    )
