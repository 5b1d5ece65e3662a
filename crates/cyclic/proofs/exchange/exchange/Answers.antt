use Rattle.std.proofs.Common.{◌≡◌, length, Ok, Err, refl, ap, arith, ◌∙◌}
use Rattle.cyclic.proofs.Exchanging.{exchange_lost, exchange_stopped, exchange_back, one_reply, compared_right, compared_wrong}
use Rattle.cyclic.proofs.exchange.exchange.Goals as goal

pub cycle-requires : goal.cycle-requires
cycle-requires g c = c.requires.process

pub returns-in-Err-Lost-clause-exchanges : goal.returns-in-Err-Lost-clause-exchanges
returns-in-Err-Lost-clause-exchanges g c =
    exchange_lost c.args.expected (g.S.Site.seen c.args.site.now) c.args.frame.now c.cycle.result c.cycle.new.frame (g.S.Site.seen c.cycle.new.self)
    (c.in-Err-Lost.is ∙ ap Err c.in-Err-Lost.field-0-is) c.cycle.ensures.cycles

pub returns-in-Err-Lost-clause-line : goal.returns-in-Err-Lost-clause-line
returns-in-Err-Lost-clause-line g c = c.cycle.ensures.line

pub returns-in-Err-Stopped-clause-exchanges : goal.returns-in-Err-Stopped-clause-exchanges
returns-in-Err-Stopped-clause-exchanges g c =
    exchange_stopped c.args.expected (g.S.Site.seen c.args.site.now) c.args.frame.now c.cycle.result c.cycle.new.frame (g.S.Site.seen c.cycle.new.self)
    (c.in-Err-Stopped.is ∙ ap Err c.in-Err-Stopped.field-0-is) c.cycle.ensures.cycles

pub datagram-seen-requires : goal.datagram-seen-requires
datagram-seen-requires g c =
    let reply = one_reply c.args.frame.now c.cycle.new.frame c.requires.one c.in-Ok.ensures.cycles.ok in
    let one : length c.cycle.new.frame ≡ 1 = ap length reply.1 in
    omega arith

pub returns-then-seen-expected-clause-exchanges : goal.returns-then-seen-expected-clause-exchanges
returns-then-seen-expected-clause-exchanges g c =
    exchange_back c.args.expected (g.S.Site.seen c.args.site.now) c.args.frame.now (Ok tt) c.cycle.new.frame (g.S.Site.seen c.cycle.new.self)
    refl c.requires.one c.in-Ok.ensures.cycles _ c.datagram-seen.ensures _ (compared_wrong c.args.expected c.datagram-seen.result.counter c.if-seen-expected.true)

pub returns-clause-exchanges : goal.returns-clause-exchanges
returns-clause-exchanges g c =
    exchange_back c.args.expected (g.S.Site.seen c.args.site.now) c.args.frame.now (Ok tt) c.cycle.new.frame (g.S.Site.seen c.cycle.new.self)
    refl c.requires.one c.in-Ok.ensures.cycles _ c.datagram-seen.ensures _ (compared_right c.args.expected c.datagram-seen.result.counter (omega arith))

pub returns-in-Err-Stopped-clause-line : goal.returns-in-Err-Stopped-clause-line
returns-in-Err-Stopped-clause-line g c = c.cycle.ensures.line

pub returns-then-seen-expected-clause-line : goal.returns-then-seen-expected-clause-line
returns-then-seen-expected-clause-line g c = c.cycle.ensures.line

pub returns-clause-line : goal.returns-clause-line
returns-clause-line g c = c.cycle.ensures.line
