use Rattle.std.proofs.Common.{arith, ◌∙◌}
use Rattle.ecat_frame.proofs.Spelled.{keeps_seen, leaves_seen}
use Rattle.ecat_frame.proofs.Answered.{place_is, place-within, length-keeps}
use Rattle.ecat_frame.proofs.frame.Frame.content_at.Goals as goal

pub overflow_sub-result : goal.overflow_sub-result
overflow_sub-result c =
    let kept = keeps_seen _ _ _ _ c.self.invariant c.self.view_is in
    let rest = leaves_seen _ _ _ c.datagrams_from-2.invariant (c.datagrams_from-2.view_is ∙ c.datagrams_from.ensures) in
    omega (arith, place_is _ _ _ _ _ c.args.k c.args.self.now kept rest)

pub returns : goal.returns
returns c =
    let kept = keeps_seen _ _ _ _ c.self.invariant c.self.view_is in
    let rest = leaves_seen _ _ _ c.datagrams_from-2.invariant (c.datagrams_from-2.view_is ∙ c.datagrams_from.ensures) in
    let place = place_is _ _ _ _ _ c.args.k c.args.self.now kept rest in
    let within = place-within c.args.self.now c.args.k c.requires in
    record { place = omega arith; fits = omega (arith, length-keeps _ _ _ _ kept) }
