use Rattle.std.proofs.Common.{◌≡◌, List, [], ◌∷◌, ◌++◌, ℕ, map, take, ap, sym, ◌∙◌, subst, arith, length}
use Rattle.std.proofs.lemmas.List.{take_all}
use Rattle.sii_image.specs.declared.new_layouts.NewLayout.{NewLayout}
use Rattle.sii_image.specs.NewLayouts.{with_each, slaves_of, AreRising}
use Rattle.sii_edit.specs.declared.draft.Renewal.{Renewal}
use Rattle.sii_edit.proofs.DraftLaws.{IsRenewal, renewal_at}
use Rattle.sii_edit.proofs.LayoutLaws.{layout_in, layouts-more, slaves_of-layouts, with_each-layouts}
use Rattle.sii_edit.proofs.layouts.new_layouts.Goals as goal

pub new_layout-requires-clause-slave : goal.new_layout-requires-clause-slave
new_layout-requires-clause-slave c =
    let plant : List (List ℕ) = c.args.plant.now in
    let draft : List Renewal = c.args.draft.now in
    let renewal = c.renewal-item.result in
    let within = rw c.renewals-renewals.ensures.renewals at c.loop-renewal-test.true in
    let is = rw c.renewals-renewals.ensures.renewals at c.renewal-item.is in
    let fact : IsRenewal plant renewal = subst (IsRenewal plant) (sym is) (renewal_at plant draft c.loop-renewal.renewal-index renewal c.requires.draft within) in
    fact.there

pub loop-renewal-preserved : goal.loop-renewal-preserved
loop-renewal-preserved c =
    let plant : List (List ℕ) = c.args.plant.now in
    let within = rw c.renewals-renewals.ensures.renewals at c.loop-renewal-test.true in
    let is = rw c.renewals-renewals.ensures.renewals at c.renewal-item.is in
    layouts-more plant c.args.draft.now c.loop-renewal.renewal-index c.renewal-item.result c.loop-renewal.layouts.items within is c.loop-renewal.invariant
    (c.in_ok-push.ensures.items ∙ ap (λ (new : NewLayout). c.loop-renewal.layouts.items ++ new ∷ []) c.in_ok-new.ensures)

pub of-requires : goal.of-requires
of-requires c =
    let plant : List (List ℕ) = c.args.plant.now in
    let draft : List Renewal = c.args.draft.now in
    let all : take c.loop-renewal.renewal-index draft ≡ draft = take_all c.loop-renewal.renewal-index draft (omega (arith, c.loop-renewal-test.false, ap length c.renewals-renewals.ensures.renewals)) in
    let is : c.loop-renewal.layouts.items ≡ map (layout_in plant) draft = c.loop-renewal.invariant ∙ ap (map (layout_in plant)) all in
    subst AreRising (sym (ap (λ (new : List NewLayout). slaves_of new) is ∙ slaves_of-layouts plant draft)) c.renewals-renewals.ensures.rising

pub returns : goal.returns
returns c =
    let plant : List (List ℕ) = c.args.plant.now in
    let draft : List Renewal = c.args.draft.now in
    let all : take c.loop-renewal.renewal-index draft ≡ draft = take_all c.loop-renewal.renewal-index draft (omega (arith, c.loop-renewal-test.false, ap length c.renewals-renewals.ensures.renewals)) in
    let is : c.of.result ≡ map (layout_in plant) draft = c.of.ensures ∙ c.loop-renewal.invariant ∙ ap (map (layout_in plant)) all in
    ap (with_each plant) is ∙ with_each-layouts plant draft
