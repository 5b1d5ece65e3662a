use Rattle.std.proofs.Common.{refl, arith}
use Rattle.book_parts.proofs.MapLaws.{mapped-more}
use Rattle.book_core.specs.Stands.{as_found}
use Rattle.book_core.proofs.taking.renumber.Goals as goal

pub loop-at-preserved : goal.loop-at-preserved
loop-at-preserved c = mapped-more as_found c.args.entries.now c.loop-at.entries c.loop-at.at c.index-entries-at.result _ c.loop-at.invariant (omega (arith, c.loop-at.invariant.same)) refl
