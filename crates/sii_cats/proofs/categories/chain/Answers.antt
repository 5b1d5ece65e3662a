use Rattle.std.proofs.Common.{map}
use Rattle.std.proofs.lemmas.Result.{err_from_is_err_and}
use Rattle.sii_cats.specs.Chain.{member_of}
use Rattle.sii_cats.proofs.Walk.{chain_is, chain_fault}
use Rattle.sii_cats.proofs.categories.chain.Goals as goal

pub returns-in_err-categories-clause-grammar : goal.returns-in_err-categories-clause-grammar
returns-in_err-categories-clause-grammar c =
    let p = err_from_is_err_and c.from_residual.result c.from_residual.ensures.1 in
    rw (p.1, p.2) (chain_fault c.args.words.now c.in_err-categories.field-0.0 c.in_err-categories.ensures.exact)

pub returns-clause-grammar : goal.returns-clause-grammar
returns-clause-grammar c = chain_is c.args.words.now (map (member_of c.args.words.now) c.in_ok-categories.categories.items) c.in_ok-categories.ensures.exact
