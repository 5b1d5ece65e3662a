use Rattle.std.proofs.Common.{length, arith, ap}
use Rattle.ecat_frame.proofs.Answered.{answer-within, length-overwritten, kept_answered}
use Rattle.ecat_frame.proofs.Spelled.{keeps_seen, kept_seen, pdus-kept}
use Rattle.ecat_frame.proofs.frame.Frame.answer.Goals as goal

pub overwrite-requires : goal.overwrite-requires
overwrite-requires c =
    let kept = keeps_seen _ _ _ _ c.self.invariant c.self.view_is in
    omega (arith, answer-within _ c.args.content.now _ _ _ c.args.k c.args.self.now kept c.requires.inside c.requires.equal c.content_at-at.ensures.place)

pub overflow_add-at : goal.overflow_add-at
overflow_add-at c = omega (arith, c.content_at-at.ensures.fits, c.ranges)

pub overwrite-requires-2 : goal.overwrite-requires-2
overwrite-requires-2 c =
    let kept = keeps_seen _ _ _ _ c.self.invariant c.self.view_is in
    let within = answer-within _ c.args.content.now _ _ _ c.args.k c.args.self.now kept c.requires.inside c.requires.equal c.content_at-at.ensures.place in
    omega (arith, ap length c.overwrite.ensures, length-overwritten c.self.inside.bytes.items c.args.content.now c.content_at-at.result (omega arith), ap length c.to_le_bytes.ensures)

pub invariant_of-self : goal.invariant_of-self
invariant_of-self c =
    let kept = keeps_seen _ _ _ _ c.self.invariant c.self.view_is in
    kept_seen _ _ _ _ (kept_answered _ _ _ c.args.content.now _ _ _ _ c.args.k c.args.counter c.args.self.now kept c.requires.inside c.requires.equal (omega arith)
    c.content_at-at.ensures.place c.overwrite.ensures c.to_le_bytes.ensures c.overwrite-2.ensures)

pub returns : goal.returns
returns c =
    let kept = keeps_seen _ _ _ _ c.self.invariant c.self.view_is in
    pdus-kept _ _ _ _ (kept_answered _ _ _ c.args.content.now _ _ _ _ c.args.k c.args.counter c.args.self.now kept c.requires.inside c.requires.equal (omega arith)
    c.content_at-at.ensures.place c.overwrite.ensures c.to_le_bytes.ensures c.overwrite-2.ensures)
