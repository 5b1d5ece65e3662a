use Rattle.std.proofs.Common.{◌≡◌, ◌==◌, false, List, map, sym, ◌∙◌, arith}
use Rattle.sii_cats.specs.declared.categories.Category.{Category}
use Rattle.sii_cats.specs.Chain.{Member, member_of}
use Rattle.sii_cats.specs.Splice.{with_chain}
use Rattle.sii_edit.specs.declared.refusal.Cause.TheVariants.{BadCategory}
use Rattle.sii_edit.specs.Category.{exchanged, is_unfit}
use Rattle.sii_edit.proofs.CategoryLaws.{count-members, place-members, count-None, not_absent, not_repeated, none_left, validated_left, first_passed, answered, content_refused, splice_refused, splice_accepted}
use Rattle.sii_edit.proofs.category.exchanged.Goals as goal

pub returns-in_err-validate_content : goal.returns-in_err-validate_content
returns-in_err-validate_content c =
    let words = c.args.words in
    let kind = c.args.kind in
    let content = c.args.content.now in
    let ms : List Member = map (member_of words) c.args.categories.now in
    let count = c.count_of-count.ensures ∙ sym (count-members words kind c.args.categories.now) in
    let left = validated_left words kind content ms c.requires
    (not_absent content kind c.count_of-count.result ms c.is_empty.result c.is_empty.ensures c.else-is_empty.either count)
    (not_repeated kind c.count_of-count.result ms (omega arith) count) in
    let cause = c.in_err-validate_content.field-0.0 in
    answered _ c.from_residual.result cause c.from_residual.ensures.1 (content_refused _ words kind content ms (with_chain words (exchanged kind content ms)) cause left c.in_err-validate_content.ensures)

pub splice-requires-clause-content : goal.splice-requires-clause-content
splice-requires-clause-content c = λ nowhere empty.
    none_left c.args.content.now c.count_of-count.result c.is_empty.result c.is_empty.ensures c.else-is_empty.either empty
    (c.count_of-count.ensures ∙ count-None (λ (d : Category). d.kind == c.args.kind) c.args.categories.now (sym c.place_of-place.ensures ∙ nowhere))

pub returns-in_err-new : goal.returns-in_err-new
returns-in_err-new c =
    let words = c.args.words in
    let kind = c.args.kind in
    let content = c.args.content.now in
    let ms : List Member = map (member_of words) c.args.categories.now in
    let count = c.count_of-count.ensures ∙ sym (count-members words kind c.args.categories.now) in
    let left = validated_left words kind content ms c.requires
    (not_absent content kind c.count_of-count.result ms c.is_empty.result c.is_empty.ensures c.else-is_empty.either count)
    (not_repeated kind c.count_of-count.result ms (omega arith) count) in
    let place = c.place_of-place.ensures ∙ sym (place-members words kind c.args.categories.now) in
    let fit : is_unfit kind content ≡ false = first_passed (is_unfit kind content) (BadCategory kind) tt c.in_ok-validate_content.field-0 c.in_ok-validate_content.ensures in
    answered _ c.from_residual-in_err-new.result _ c.from_residual-in_err-new.ensures.1
    (splice_refused _ words kind content ms (with_chain words (exchanged kind content ms)) c.place_of-place.result c.in_err-new.field-0.0 left fit c.requires place (rw c.as_slice.ensures.words at c.in_err-new.ensures.exact))

pub returns : goal.returns
returns c =
    let words = c.args.words in
    let kind = c.args.kind in
    let content = c.args.content.now in
    let ms : List Member = map (member_of words) c.args.categories.now in
    let count = c.count_of-count.ensures ∙ sym (count-members words kind c.args.categories.now) in
    let left = validated_left words kind content ms c.requires
    (not_absent content kind c.count_of-count.result ms c.is_empty.result c.is_empty.ensures c.else-is_empty.either count)
    (not_repeated kind c.count_of-count.result ms (omega arith) count) in
    let place = c.place_of-place.ensures ∙ sym (place-members words kind c.args.categories.now) in
    let fit : is_unfit kind content ≡ false = first_passed (is_unfit kind content) (BadCategory kind) tt c.in_ok-validate_content.field-0 c.in_ok-validate_content.ensures in
    let new = c.deref.result.now in
    let gives = rw c.as_slice.ensures.words at c.in_ok-new.ensures.exact in
    splice_accepted _ words kind content ms gives.0 c.place_of-place.result new c.overwritten.result left fit c.requires place gives.1 gives.2 (c.deref.ensures.value ∙ gives.3) c.overwritten.ensures
