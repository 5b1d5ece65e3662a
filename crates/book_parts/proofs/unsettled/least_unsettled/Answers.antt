use Rattle.std.proofs.Common.{◌∙◌, ℕ, Option, map, take, sym, ap}
use Rattle.book_parts.specs.Works.{unsettled_of, smaller, least}
use Rattle.book_parts.proofs.LeastLaws.{least-taken, owe-more}
use Rattle.book_parts.proofs.unsettled.least_unsettled.Goals as goal

pub loop-work-preserved : goal.loop-work-preserved
loop-work-preserved c =
    let works = c.args.works.now in
    let i = c.loop-work.work-index in
    let w = c.work-item.result in
    record {
      number = c.smaller-least.ensures
          ∙ ap (λ (n : Option ℕ). smaller n c.unsettled.result) c.loop-work.invariant.number
          ∙ ap (smaller (least (map unsettled_of (take i works)))) c.unsettled.ensures.number
          ∙ sym (least-taken works i w c.loop-work-test.true c.work-item.is);
      owed = owe-more works i w c.loop-work-test.true c.work-item.is c.loop-work.invariant.owed c.unsettled.ensures.owed;
    }
