use Rattle.std.proofs.Common.{Some, refl, sym, ap, ◌∙◌, arith}
use Rattle.std.proofs.lemmas.Option.{slice_get-get_or}
use Rattle.sii_bytes.specs.Category.LacksCategory.{fewer, runs_out}
use Rattle.sii_bytes.proofs.category.place_of.Goals as goal

pub returns-in-Err-RunsOut : goal.returns-in-Err-RunsOut
returns-in-Err-RunsOut c = runs_out c.in-Err-RunsOut.field-0-0 refl (rw c.in-Err-RunsOut.field-0-is at c.in-Err-RunsOut.ensures.grammar)

pub returns-then-number-len : goal.returns-then-number-len
returns-then-number-len c =
    fewer c.in-Ok.categories.items refl (record { chain = c.in-Ok.ensures.grammar; placed = c.in-Ok.ensures.placed }) (omega arith)

pub returns : goal.returns
returns c = record {
  categories = c.in-Ok.categories.items;
  all = record { chain = c.in-Ok.ensures.grammar; placed = c.in-Ok.ensures.placed };
  category = c.index-category.result.now;
  found = slice_get-get_or c.in-Ok.categories.items c.args.number c.index-category.result.now (omega arith) ∙ ap Some (sym c.index-category.ensures);
  kind = c.from.ensures;
  at = refl;
  count = refl;
}
