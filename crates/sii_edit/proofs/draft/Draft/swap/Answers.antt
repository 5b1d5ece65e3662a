use Rattle.std.proofs.Common.{List, subst, ap, ◌∙◌}
use Rattle.sii_image.specs.NewLayouts.{AreRising}
use Rattle.sii_edit.specs.declared.draft.NewWords.TheVariants.{Renamed}
use Rattle.sii_edit.specs.declared.draft.Renewal.{Renewal}
use Rattle.sii_edit.specs.Draft.{renewed_slaves, with_renewal}
use Rattle.sii_edit.proofs.DraftLaws.{swapped_step, rising_step}
use Rattle.sii_edit.proofs.draft.Draft.swap.Goals as goal

pub returns : goal.returns
returns c =
    let draft : List Renewal = c.args.self.now in
    let rise = subst (λ (d : List Renewal). AreRising (renewed_slaves d)) c.self.view_is c.self.invariant in
    let there = c.in_ok-new_a.ensures.there in
    swapped_step c.args.plant.now draft c.put.new.renewals.items c.put-2.new.renewals.items c.args.a c.args.b c.in_ok-new_a.new_a c.in_ok-new_a.new_b
    rise c.requires there.0 there.1 there.2 c.in_ok-new_a.ensures.names
    (c.in_ok-put.ensures.put ∙ ap (λ (d : List Renewal). with_renewal d c.args.a (Renamed c.in_ok-new_a.new_a)) (c.in_ok-reserve.ensures.items ∙ c.self.view_is))
    c.in_ok-put-2.ensures.put

pub invariant_of-self-2 : goal.invariant_of-self-2
invariant_of-self-2 c =
    let once = c.put.new.renewals.items in
    let name = Renamed c.in_ok-new_a.new_a in
    let first = c.in_ok-put.ensures.put ∙ ap (λ (d : List Renewal). with_renewal d c.args.a name) c.in_ok-reserve.ensures.items in
    rising_step once c.put-2.new.renewals.items c.args.b (Renamed c.in_ok-new_a.new_b) (rising_step c.self.inside.renewals.items once c.args.a name c.self.invariant first)
    c.in_ok-put-2.ensures.put
