use Rattle.std.proofs.Common.{sym, ◌∙◌}
use Rattle.sii_edit.specs.Draft.{drafted}
use Rattle.sii_edit.proofs.CommandLaws.{accepted}
use Rattle.sii_edit.proofs.applying.changes.Goals as goal

pub returns : goal.returns
returns c =
    let plant = c.args.plant.now in
    let new = drafted plant c.carry_out.new.draft in
    let carried = rw c.new-draft.ensures at c.in_ok-carry_out.ensures.1 in
    let facts = accepted plant new c.args.command.now c.in_ok-runs.runs.items carried c.in_ok-layouts.ensures.accepted c.in_ok-runs.ensures in
    record {
      accepted = facts.validated;
      runs = facts.between;
      inside = facts.inside;
      layouts = c.in_ok-layouts.ensures.layouts ∙ sym facts.reached;
      refused = tt;
    }
