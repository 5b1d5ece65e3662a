use Rattle.std.proofs.Common.{ℕ, get_or, ap, arith}
use Rattle.book_parts.specs.declared.work.SlaveWork.{SlaveWork}
use Rattle.book_parts.specs.Works.{all_older}
use Rattle.book_parts.proofs.MapLaws.{mapped-more, mapped-all}
use Rattle.book_parts.proofs.retiring.make_older.Goals as goal

pub loop-at-preserved : goal.loop-at-preserved
loop-at-preserved c =
    let d = c.index-works-at.result in
    mapped-more all_older c.args.works.now c.loop-at.works c.loop-at.at d _ c.loop-at.invariant (omega (arith, c.loop-at.invariant.same))
    (let w : SlaveWork = get_or c.loop-at.works c.loop-at.at d in
    ap (λ (n : ℕ). let v : SlaveWork = record w { older = n } in v) c.len-work.ensures)

pub returns : goal.returns
returns c = mapped-all all_older c.args.works.now c.loop-at.works c.loop-at.at c.loop-at.invariant (omega (arith, c.loop-at.invariant.same))
