use Rattle.std.proofs.Common.{◌∙◌, ◌++◌, ◌∷◌, [], length, ap, arith}
use Rattle.ecat_frame.specs.Frame.{pdu, spelling}
use Rattle.ecat_frame.proofs.Spelled.{appended, kept_seen, pdus-kept, last-within, count-within}
use Rattle.ecat_frame.proofs.frame.Frame.append.Goals as goal

pub promise_more-requires : goal.promise_more-requires
promise_more-requires c =
    omega (arith, last-within _ _ _ _ c.self.invariant, ap length c.self.invariant.is_spelling, ap (λ ds. length (spelling ds)) c.self.view_is, c.requires)

pub overflow_add-self : goal.overflow_add-self
overflow_add-self c =
    omega (arith, count-within _ _ _ _ c.self.invariant, ap length c.self.invariant.is_spelling, ap (λ ds. length (spelling ds)) c.self.view_is, c.requires)

pub invariant_of-self : goal.invariant_of-self
invariant_of-self c =
    kept_seen _ _ _ _ (appended _ _ _ _ _ _ _ _ (pdu c.args.datagram) c.self.invariant c.put_datagram.ensures.fits c.promise_more.ensures c.put_datagram.ensures.written c.state_length.ensures c.len-self-inside.ensures.value)

pub returns : goal.returns
returns c =
    let kept = appended _ _ _ _ _ _ _ _ (pdu c.args.datagram) c.self.invariant c.put_datagram.ensures.fits c.promise_more.ensures c.put_datagram.ensures.written c.state_length.ensures c.len-self-inside.ensures.value in
    pdus-kept _ _ _ _ kept ∙ ap (λ ds. ds ++ pdu c.args.datagram ∷ []) c.self.view_is
