use Rattle.std.proofs.Common.{sym, ◌∙◌, inl}
use Rattle.sii_edit.specs.Draft.{drafted}
use Rattle.sii_edit.specs.Command.{grouped}
use Rattle.sii_edit.proofs.GroupLaws.{grouped-start, grouped-refused, edits-at, edits-step, edits-refused, edits-end, handed_on}
use Rattle.sii_edit.proofs.group.edit_guarded.Goals as goal

pub returns-in_err-validate_count : goal.returns-in_err-validate_count
returns-in_err-validate_count c =
    let start = drafted c.args.plant.now c.args.draft.now in
    let refusal = c.in_err-validate_count.field-0.0 in
    handed_on c.args.plant.now (grouped start c.args.edits.now) c.args.draft.now c.from_residual.result refusal c.from_residual.ensures.1
    (inl (grouped-refused start c.args.edits.now refusal (sym c.in_err-validate_count.ensures)))

pub loop-place-preserved : goal.loop-place-preserved
loop-place-preserved c =
    let plant = c.args.plant.now in
    let place = c.loop-place.place in
    let split = edits-at c.args.edits.now place c.index-edits-place.result c.loop-place-test.true c.index-edits-place.is in
    let made = c.in_ok-edit_at.ensures in
    record {
      fits = made.0;
      left = edits-step place (drafted plant c.loop-place.draft) (drafted plant c.edit_at.new.draft) c.index-edits-place.result _ _ split made.1 ∙ c.loop-place.invariant.left;
    }

pub returns : goal.returns
returns c =
    let plant = c.args.plant.now in
    let edits = c.args.edits.now in (
      c.loop-place.invariant.fits,
      grouped-start (drafted plant c.args.draft.now) edits (sym c.in_ok-validate_count.ensures) ∙ sym c.loop-place.invariant.left
          ∙ edits-end c.loop-place.place (drafted plant c.loop-place.draft) edits c.loop-place-test.false,
    )

pub returns-in_err-edit_at : goal.returns-in_err-edit_at
returns-in_err-edit_at c =
    let plant = c.args.plant.now in
    let start = drafted plant c.args.draft.now in
    let edits = c.args.edits.now in
    let place = c.loop-place.place in
    let refusal = c.in_err-edit_at.field-0.0 in
    let split = edits-at c.args.edits.now place c.index-edits-place.result c.loop-place-test.true c.index-edits-place.is in
    let refused = edits-refused place (drafted plant c.loop-place.draft) c.index-edits-place.result _ _ refusal split c.in_err-edit_at.ensures in
    let validated = grouped-start start edits (sym c.in_ok-validate_count.ensures) ∙ sym c.loop-place.invariant.left in
    handed_on plant (grouped start edits) c.edit_at.new.draft c.from_residual-in_err-edit_at.result refusal c.from_residual-in_err-edit_at.ensures.1
    (rw validated refused)
