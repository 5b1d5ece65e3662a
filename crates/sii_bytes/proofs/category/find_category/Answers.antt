use Rattle.std.proofs.Common.{ℕ, List, refl, subst, ◌∙◌}
use Rattle.sii_bytes.specs.Bytes.Answers.{words_refused}
use Rattle.sii_bytes.specs.Category.{LacksCategory}
use Rattle.sii_bytes.proofs.category.find_category.Goals as goal

pub returns-in-Err-place_of : goal.returns-in-Err-place_of
returns-in-Err-place_of c =
    words_refused c.in-Ok.ensures.0
    (subst (λ (words : List ℕ). LacksCategory words c.args.number c.in-Err-place_of.code) (c.as_slice.ensures.words ∙ c.in-Ok.ensures.1) c.in-Err-place_of.ensures) refl
