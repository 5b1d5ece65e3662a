use Rattle.std.proofs.lemmas.Result.{err_from_is_err_and}
use Rattle.sii_cats.proofs.Walk.{start, more, walked, header_fault}
use Rattle.sii_cats.proofs.categories.walk.Goals as goal

pub loop-categories-init : goal.loop-categories-init
loop-categories-init c = start c.args.words.now c.new-categories.result.items c.new-categories.ensures.items c.requires

pub loop-categories-preserved : goal.loop-categories-preserved
loop-categories-preserved c =
    let header = rw c.in-Some.is at c.in_ok-category.ensures in
    rw c.end-at.ensures (more c.args.words.now c.loop-categories.categories.items c.push.new.self.items c.loop-categories.at c.in-Some.category c.loop-categories.invariant
    c.in_ok-push.ensures.items header.0 header.1 header.2)

pub returns-in_err-category-clause-exact : goal.returns-in_err-category-clause-exact
returns-in_err-category-clause-exact c =
    let p = err_from_is_err_and c.from_residual.result c.from_residual.ensures.1 in
    rw (p.1, p.2) (header_fault c.args.words.now c.loop-categories.categories.items c.loop-categories.at c.in_err-category.field-0.0 c.loop-categories.invariant c.in_err-category.ensures)

pub returns-clause-exact : goal.returns-clause-exact
returns-clause-exact c = (walked c.args.words.now c.loop-categories.categories.items c.loop-categories.at c.loop-categories.invariant (rw c.in_default.is at c.in_ok-category.ensures)).read

pub returns-clause-walked : goal.returns-clause-walked
returns-clause-walked c = walked c.args.words.now c.loop-categories.categories.items c.loop-categories.at c.loop-categories.invariant (rw c.in_default.is at c.in_ok-category.ensures)
