use Rattle.std.proofs.Common.{List, ap, subst, ◌∙◌}
use Rattle.site_wire.specs.Orders.{datagram_of}
use Rattle.site_wire.specs.declared.sending.Exchange.{Exchange}
use Rattle.site_wire.specs.declared.sending.SentLog.{SentLog}
use Rattle.site_wire.specs.Sent.{Notes}
use Rattle.site_wire.proofs.Asking.{all_asked}
use Rattle.site_wire.proofs.Sends.{sent_once}
use Rattle.site_wire.proofs.sending.Sender.pass.Goals as goal

pub returns-clause-sends : goal.returns-clause-sends
returns-clause-sends g c =
    let same = c.counted-answer.ensures.log ∙ c.counted-second.ensures.log in
    let answer = c.counted-answer.result in
    sent_once c.args.self.now.log.all c.note.new.self.all c.args.order.now answer
    (subst (λ (all : List Exchange). Notes all c.args.order.now answer c.note.new.self.all) (ap (λ (log : SentLog). log.all) same) c.note.ensures)

pub returns-clause-asks : goal.returns-clause-asks
returns-clause-asks g c =
    all_asked g.L.Reach.passes (datagram_of c.args.order.now) c.args.self.now.line c.pass-first.new.self c.counted-second.new.self.line
    c.counted-answer.new.self.line c.pass-first.result c.counted-second.result c.counted-answer.result c.pass-first.ensures
    c.counted-second.ensures.asks c.counted-answer.ensures.asks
