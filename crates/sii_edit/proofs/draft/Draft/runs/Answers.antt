use Rattle.std.proofs.Common.{List, ◌++◌, ap, subst, ◌∙◌}
use Rattle.sii_words.specs.declared.run.Run.{Run}
use Rattle.sii_image.specs.NewLayouts.{AreRising}
use Rattle.sii_edit.specs.declared.draft.Renewal.{Renewal}
use Rattle.sii_edit.specs.Draft.{renewed_slaves}
use Rattle.sii_edit.specs.steps.Draft.{drafted_runs}
use Rattle.sii_edit.proofs.DraftRuns.{drafted_runs-are}
use Rattle.sii_edit.proofs.draft.Draft.runs.Goals as goal

pub returns : goal.returns
returns c =
    let plant = c.args.plant.now in
    let rise = subst (λ (d : List Renewal). AreRising (renewed_slaves d)) c.self.view_is c.self.invariant in
    c.in_ok-push_all_runs.ensures
    ∙ ap (λ (runs : List Run). runs ++ drafted_runs plant c.deref.result.now) c.new-runs.ensures.items
    ∙ ap (λ (d : List Renewal). drafted_runs plant d) (c.deref.ensures.value ∙ c.self.view_is)
    ∙ drafted_runs-are plant c.args.self.now rise c.requires
