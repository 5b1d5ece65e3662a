use Rattle.std.proofs.Common.{◌∙◌, IsTrue, sym}
use Rattle.station_threads.specs.Closing.{IsHandedIn}
use Rattle.desk_laws.proofs.SlaveLaws.{all-read}
use Rattle.desk_laws.proofs.TogetherLaws.{all-kept, all-left}
use Rattle.station_threads.proofs.Turns.{turns-of}
use Rattle.station_threads.proofs.closing.validate.Goals as goal

pub returns-then-not-all_match-clause-mismatch : goal.returns-then-not-all_match-clause-mismatch
returns-then-not-all_match-clause-mismatch g c =
    λ is all.
    let given : IsHandedIn g.T.Tickets.opened c.audit.new.self.calls c.audit.new.shares c.args.receipts.now c.args.ends.now = rw c.audit.ensures.shares all in
    let yes : IsTrue c.all_match.result = c.all_match.ensures.matches.1 given in
    let no = c.if-not-all_match.true in
    absurd cc

pub returns-clause-handed_in : goal.returns-clause-handed_in
returns-clause-handed_in g c = rw (sym c.audit.ensures.shares) (c.all_match.ensures.matches.0 c.if-not-all_match.false)

pub returns-clause-contents : goal.returns-clause-contents
returns-clause-contents g c =
    let all = c.all_match.ensures.matches.0 c.if-not-all_match.false in
    λ just.
    all-read g.T.Tickets.opened c.audit.new.self.calls g.S.Site.seen c.args.ends.now.workers.items just c.is_served.ensures.answered (sym c.is_served.ensures.served ∙ c.if-not-is_served.false) all.ended.workers (c.all_match.ensures.worked c.if-not-all_match.false)

pub returns-clause-left : goal.returns-clause-left
returns-clause-left g c =
    let all = c.all_match.ensures.matches.0 c.if-not-all_match.false in
    all-left g.T.Tickets.opened c.audit.new.self.calls g.S.Site.seen c.args.ends.now.flusher c.args.ends.now.workers.items (c.all_match.ensures.flushed c.if-not-all_match.false) all.ended.flusher all.ended.workers
    (c.all_match.ensures.worked c.if-not-all_match.false) c.is_served.ensures.answered (sym c.is_served.ensures.served ∙ c.if-not-is_served.false)

pub returns-clause-turns : goal.returns-clause-turns
returns-clause-turns g c =
    let all = c.all_match.ensures.matches.0 c.if-not-all_match.false in
    turns-of g.T.Tickets.opened c.audit.new.self.calls c.requires.next c.is_served.ensures.answered c.args.ends.now.cycle all.ended.cycle

pub returns-then-not-is_served-clause-kept : goal.returns-then-not-is_served-clause-kept
returns-then-not-is_served-clause-kept g c =
    let all = c.all_match.ensures.matches.0 c.if-not-all_match.false in
    λ unserved.
    all-kept g.T.Tickets.opened c.audit.new.self.calls g.S.Site.seen c.args.ends.now.flusher c.args.ends.now.workers.items (c.all_match.ensures.flushed c.if-not-all_match.false) all.ended.flusher all.ended.workers
    (c.all_match.ensures.worked c.if-not-all_match.false) c.is_served.ensures.answered

pub returns-then-not-is_served-clause-turns_kept : goal.returns-then-not-is_served-clause-turns_kept
returns-then-not-is_served-clause-turns_kept g c =
    let all = c.all_match.ensures.matches.0 c.if-not-all_match.false in
    λ unserved. turns-of g.T.Tickets.opened c.audit.new.self.calls c.requires.next c.is_served.ensures.answered c.args.ends.now.cycle all.ended.cycle
