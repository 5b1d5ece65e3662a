use Rattle.station_alone.proofs.EndLaws.{opened-works, opened-small, came-keeps, came-calls, came-counts, came-by_steps, came-recovered, came-begins}
use Rattle.station_alone.proofs.recovery.recover.Goals as goal

pub finish-requires-clause-working : goal.finish-requires-clause-working
finish-requires-clause-working g c =
    let o = c.in-Ok.ensures.opens in
    opened-works (g.S.Site.line c.args.site) (g.S.Site.seen c.args.site) o.0 c.in-Ok.station o.1 c.stand.ensures

pub finish-requires-clause-small : goal.finish-requires-clause-small
finish-requires-clause-small g c =
    let o = c.in-Ok.ensures.opens in
    opened-small (g.S.Site.line c.args.site) (g.S.Site.seen c.args.site) o.0 c.in-Ok.station o.1

pub returns-in-Ok-clause-keeps : goal.returns-in-Ok-clause-keeps
returns-in-Ok-clause-keeps g c =
    came-keeps g.S.Site.line g.S.Site.seen (g.S.Site.line c.args.site) (g.S.Site.seen c.args.site) c.in-Ok.station c.in-Ok.found c.in-Ok.ensures.opens c.finish.result c.in-Ok.ensures.keeps c.in-Ok.ensures.begins
    (c.finish.ensures.done, c.finish.ensures.left)

pub returns-in-Ok-clause-few_calls : goal.returns-in-Ok-clause-few_calls
returns-in-Ok-clause-few_calls g c =
    came-calls g.S.Site.line g.S.Site.seen (g.S.Site.line c.args.site) (g.S.Site.seen c.args.site) c.in-Ok.station c.in-Ok.found c.in-Ok.ensures.opens c.finish.result (c.finish.ensures.done, c.finish.ensures.left)

pub returns-in-Ok-clause-counts : goal.returns-in-Ok-clause-counts
returns-in-Ok-clause-counts g c =
    came-counts g.S.Site.line g.S.Site.seen (g.S.Site.line c.args.site) (g.S.Site.seen c.args.site) c.in-Ok.station c.in-Ok.found c.in-Ok.ensures.opens c.finish.result (c.finish.ensures.done, c.finish.ensures.left)

pub returns-in-Ok-clause-steps : goal.returns-in-Ok-clause-steps
returns-in-Ok-clause-steps g c =
    came-by_steps g.S.Site.line g.S.Site.seen (g.S.Site.line c.args.site) (g.S.Site.seen c.args.site) c.in-Ok.station c.in-Ok.found c.in-Ok.ensures.opens c.finish.result (c.finish.ensures.done, c.finish.ensures.left)

pub returns-in-Ok-clause-recovered : goal.returns-in-Ok-clause-recovered
returns-in-Ok-clause-recovered g c =
    came-recovered g.S.Site.line g.S.Site.seen (g.S.Site.line c.args.site) (g.S.Site.seen c.args.site) c.in-Ok.station c.in-Ok.found c.in-Ok.ensures.opens c.finish.result (c.finish.ensures.done, c.finish.ensures.left)

pub returns-in-Ok-clause-begins : goal.returns-in-Ok-clause-begins
returns-in-Ok-clause-begins g c =
    came-begins g.S.Site.line g.S.Site.seen (g.S.Site.line c.args.site) (g.S.Site.seen c.args.site) c.in-Ok.station c.in-Ok.found c.in-Ok.ensures.opens c.finish.result c.in-Ok.ensures.begins
    (c.finish.ensures.done, c.finish.ensures.left)
