use Rattle.std.proofs.Common.{Some, sym, ap, ◌∙◌}
use Rattle.std.specs.Option.{option_map}
use Rattle.site_wire.specs.Answering.{marked}
use Rattle.site_wire.specs.Orders.{datagram_of}
use Rattle.site_wire.specs.declared.answers.Answer.{Answer}
use Rattle.site_wire.proofs.Asking.{may_ask, may_wait}
use Rattle.site_wire.proofs.sending.Sender.counted.Goals as goal

pub returns-in_err-next-in-AtOnce-clause-asks : goal.returns-in_err-next-in-AtOnce-clause-asks
returns-in_err-next-in-AtOnce-clause-asks g c =
    may_ask g.L.Reach.passes (datagram_of c.args.order.now) c.args.self.now.line c.pass.new.self c.args.answer
    c.from_residual-in_err-next-in-AtOnce.result c.in_ok-found.found c.pass.result c.in_ok-found.was (c.of.ensures.at_once c.in-AtOnce.is)
    c.pass.ensures (c.from_residual-in_err-next-in-AtOnce.ensures ∙ sym (ap (option_map marked) c.in_err-next-in-AtOnce.was))

pub returns-in-AtOnce-clause-asks : goal.returns-in-AtOnce-clause-asks
returns-in-AtOnce-clause-asks g c =
    may_ask g.L.Reach.passes (datagram_of c.args.order.now) c.args.self.now.line c.pass.new.self c.args.answer (Some c.marked.result)
    c.in_ok-found.found c.pass.result c.in_ok-found.was (c.of.ensures.at_once c.in-AtOnce.is) c.pass.ensures
    (ap (λ (a : Answer). Some a) c.marked.ensures ∙ sym (ap (option_map marked) c.in_ok-next-in-AtOnce.was))

pub returns-in-AfterPolls-clause-asks : goal.returns-in-AfterPolls-clause-asks
returns-in-AfterPolls-clause-asks g c =
    may_wait g.L.Reach.passes (datagram_of c.args.order.now) c.args.self.now.line c.args.answer (Some c.marked-in-AfterPolls.result)
    c.in_ok-found.found c.in_ok-found.was (c.of.ensures.polls c.in-AfterPolls.is) (ap (λ (a : Answer). Some a) c.marked-in-AfterPolls.ensures)
