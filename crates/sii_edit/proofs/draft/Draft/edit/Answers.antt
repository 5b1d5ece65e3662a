use Rattle.std.proofs.Common.{arith, inl, refl, List, ap, subst, ◌∙◌}
use Rattle.sii_image.specs.NewLayouts.{AreRising}
use Rattle.sii_edit.specs.declared.draft.Renewal.{Renewal}
use Rattle.sii_edit.specs.Draft.{drafted, renewed_slaves, with_renewal}
use Rattle.sii_edit.proofs.CommandLaws.{edited-missing}
use Rattle.sii_edit.proofs.DraftLaws.{length-drafted, refused_step, edited_step, rising_step}
use Rattle.sii_edit.proofs.draft.Draft.edit.Goals as goal

pub returns-then-from-len : goal.returns-then-from-len
returns-then-from-len c =
    let plant = c.args.plant.now in
    let draft = c.args.self.now in
    (inl (edited-missing (drafted plant draft) c.args.expect c.args.edit.now (omega (arith, length-drafted plant draft, c.slave-slave.ensures, c.from.ensures))), refl)

pub returns-in_err-new : goal.returns-in_err-new
returns-in_err-new c =
    refused_step c.args.plant.now c.args.self.now c.args.expect c.args.edit.now c.in_err-new.field-0.0 c.slave-slave.result c.words.result c.from_residual.result c.from_residual.ensures.1 c.slave-slave.ensures (omega (arith, c.from.ensures)) c.words.ensures c.in_err-new.ensures

pub invariant_of-self-2 : goal.invariant_of-self-2
invariant_of-self-2 c = rising_step c.self.inside.renewals.items c.put.new.renewals.items c.slave-slave.result c.in_ok-new.new c.self.invariant c.in_ok-put.ensures.put

pub returns : goal.returns
returns c =
    let plant = c.args.plant.now in
    let draft = c.args.self.now in
    let rise = subst (λ (d : List Renewal). AreRising (renewed_slaves d)) c.self.view_is c.self.invariant in
    let put = c.in_ok-put.ensures.put ∙ ap (λ (d : List Renewal). with_renewal d c.slave-slave.result c.in_ok-new.new) c.self.view_is in
    edited_step plant draft c.put.new.renewals.items c.args.expect c.args.edit.now c.slave-slave.result c.words.result c.in_ok-new.new rise c.requires c.slave-slave.ensures (omega (arith, c.from.ensures)) c.words.ensures c.in_ok-new.ensures put
