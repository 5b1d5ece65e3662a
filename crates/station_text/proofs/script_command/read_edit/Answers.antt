use Rattle.std.proofs.Common.{sym, ◌∙◌, inl, inr, codes}
use Rattle.std.specs.Prelude.{IsSomeAnd}
use Rattle.toml.specs.View.{table_view}
use Rattle.station_text.specs.Document.{table_at}
use Rattle.station_text.specs.ScriptText.{SpellsAlias, SpellsCategory, SpellsImage, SpellsEdit}
use Rattle.station_text.proofs.Readings.{said_as}
use Rattle.station_text.proofs.ScriptRefusals.{alias_alone, category_alone, image_alone}
use Rattle.station_text.proofs.script_command.read_edit.Goals as goal

pub returns-then-has_only : goal.returns-then-has_only
returns-then-has_only c =
    let table = table_view c.args.table.now in
    let only = sym c.has_only.ensures ∙ c.if-has_only.true in
    said_as _ _ (λ edit. IsSomeAnd (table_at (codes "alias") table) (λ fields. SpellsAlias fields edit)) (SpellsEdit table) c.read_alias.result c.read_alias.ensures
    (λ edit at. inl (only, at)) (alias_alone table only)

pub returns-then-has_only-2 : goal.returns-then-has_only-2
returns-then-has_only-2 c =
    let table = table_view c.args.table.now in
    let only = sym c.has_only-2.ensures ∙ c.if-has_only-2.true in
    said_as _ _ (λ edit. IsSomeAnd (table_at (codes "category") table) (λ fields. SpellsCategory fields edit)) (SpellsEdit table) c.read_category.result c.read_category.ensures
    (λ edit at. inr (inl (only, at))) (category_alone table only)

pub returns-then-has_only-3 : goal.returns-then-has_only-3
returns-then-has_only-3 c =
    let table = table_view c.args.table.now in
    let only = sym c.has_only-3.ensures ∙ c.if-has_only-3.true in
    said_as _ _ (λ edit. IsSomeAnd (table_at (codes "image") table) (λ fields. SpellsImage fields edit)) (SpellsEdit table) c.read_image_edit.result c.read_image_edit.ensures
    (λ edit at. inr (inr (only, at))) (image_alone table only)
