use Rattle.std.proofs.Common.{◌≡◌, List, ℕ, IsSome, Err, inl, refl, sym, ap, subst, ◌∙◌}
use Rattle.sii_image.specs.NewLayouts.{with_each}
use Rattle.sii_image.specs.ProcessImage.{process_image}
use Rattle.sii_edit.specs.Draft.{drafted}
use Rattle.sii_edit.proofs.ProcessImageLaws.{has_process_image-some, has_process_image-none, with_process_image-has_none}
use Rattle.sii_edit.proofs.layouts.validated_layouts.Goals as goal

pub returns-clause-accepted : goal.returns-clause-accepted
returns-clause-accepted c =
    let new : List (List ℕ) = drafted c.args.plant.now c.args.draft.now in
    let is : with_each c.args.layout.now c.in_ok-new.new ≡ new = ap (λ (p : List (List ℕ)). with_each p c.in_ok-new.new) c.requires.layout ∙ c.in_ok-new.ensures in
    has_process_image-some new (subst (λ (p : List (List ℕ)). IsSome (process_image p)) is (c.if-not-has_process_image_with.ensures.0 refl))

pub returns-then-not-has_process_image_with : goal.returns-then-not-has_process_image_with
returns-then-not-has_process_image_with c =
    let new : List (List ℕ) = drafted c.args.plant.now c.args.draft.now in
    let is : with_each c.args.layout.now c.in_ok-new.new ≡ new = ap (λ (p : List (List ℕ)). with_each p c.in_ok-new.new) c.requires.layout ∙ c.in_ok-new.ensures in
    let none = has_process_image-none new c.has_process_image_with.result (λ some. c.has_process_image_with.ensures.1 (subst (λ (p : List (List ℕ)). IsSome (process_image p)) (sym is) some)) c.if-not-has_process_image_with.true in
    record { accepted = tt; layouts = tt; refused = inl (with_process_image-has_none new none ∙ ap Err (sym c.entire.ensures)) }
