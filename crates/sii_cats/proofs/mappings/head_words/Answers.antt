use Rattle.std.proofs.Common.{◌∷◌, [], length, ap, ◌∙◌}
use Rattle.sii_cats.specs.Pdos.{view}
use Rattle.sii_cats.proofs.Fields.{head_is}
use Rattle.sii_cats.proofs.mappings.head_words.Goals as goal

pub returns : goal.returns
returns c = head_is (view c.args.pdo.now) c.pair.result c.pair-2.result
    (c.pair.ensures ∙ ap (λ entries. length entries ∷ c.args.pdo.now.manager ∷ []) c.as_slice.ensures.value) c.pair-2.ensures
