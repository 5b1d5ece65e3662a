use Rattle.std.proofs.Common.{sym, ap, ◌∙◌, inl, arith, map}
use Rattle.std.proofs.lemmas.List.{length-map}
use Rattle.sii_edit.specs.Draft.{drafted}
use Rattle.sii_edit.specs.Command.{grouped, unguarded}
use Rattle.sii_edit.proofs.GroupLaws.{grouped-start, grouped-refused, unguarded-at, edits-step, edits-refused, edits-end, handed_on, validated_by}
use Rattle.sii_edit.proofs.group.edit_all.Goals as goal

pub returns-in_err-validate_count : goal.returns-in_err-validate_count
returns-in_err-validate_count c =
    let start = drafted c.args.plant.now c.args.draft.now in
    let refusal = c.in_err-validate_count.field-0.0 in
    handed_on c.args.plant.now (grouped start (map unguarded c.args.edits.now)) c.args.draft.now c.from_residual.result refusal c.from_residual.ensures.1
    (inl (grouped-refused start (map unguarded c.args.edits.now) refusal (ap validated_by (length-map c.args.edits.now unguarded) ∙ sym c.in_err-validate_count.ensures)))

pub loop-place-preserved : goal.loop-place-preserved
loop-place-preserved c =
    let plant = c.args.plant.now in
    let place = c.loop-place.place in
    let split = unguarded-at c.args.edits.now place c.index-edits-place.result c.loop-place-test.true c.index-edits-place.is in
    let made = c.in_ok-edit_at.ensures in
    record {
      fits = made.0;
      left = edits-step place (drafted plant c.loop-place.draft) (drafted plant c.edit_at.new.draft) (unguarded c.index-edits-place.result) _ _ split made.1 ∙ c.loop-place.invariant.left;
    }

pub returns : goal.returns
returns c =
    let plant = c.args.plant.now in
    let edits = map unguarded c.args.edits.now in (
      c.loop-place.invariant.fits,
      grouped-start (drafted plant c.args.draft.now) edits (ap validated_by (length-map c.args.edits.now unguarded) ∙ sym c.in_ok-validate_count.ensures) ∙ sym c.loop-place.invariant.left
          ∙ edits-end c.loop-place.place (drafted plant c.loop-place.draft) edits (omega (arith, length-map c.args.edits.now unguarded, c.loop-place-test.false)),
    )

pub returns-in_err-edit_at : goal.returns-in_err-edit_at
returns-in_err-edit_at c =
    let plant = c.args.plant.now in
    let start = drafted plant c.args.draft.now in
    let edits = map unguarded c.args.edits.now in
    let place = c.loop-place.place in
    let refusal = c.in_err-edit_at.field-0.0 in
    let split = unguarded-at c.args.edits.now place c.index-edits-place.result c.loop-place-test.true c.index-edits-place.is in
    let refused = edits-refused place (drafted plant c.loop-place.draft) (unguarded c.index-edits-place.result) _ _ refusal split c.in_err-edit_at.ensures in
    let validated = grouped-start start edits (ap validated_by (length-map c.args.edits.now unguarded) ∙ sym c.in_ok-validate_count.ensures) ∙ sym c.loop-place.invariant.left in
    handed_on plant (grouped start edits) c.edit_at.new.draft c.from_residual-in_err-edit_at.result refusal c.from_residual-in_err-edit_at.ensures.1
    (rw validated refused)
