use Rattle.script_session.proofs.DeskLaws.{servable}
use Rattle.script_session.proofs.separate.servable_sites.Goals as goal

pub returns-then-own_parts-clause-servable : goal.returns-then-own_parts-clause-servable
returns-then-own_parts-clause-servable c state bytes halves =
    let sites = c.in_ok-sites in
    servable sites.sites c.args.capacity state c.args.line.disk _ (c.reaches.ensures.0 c.if-not-reaches.false) bytes halves
    sites.ensures.disk sites.ensures.new sites.ensures.slaves (c.own_parts.ensures c.if-own_parts.true)
