use Rattle.std.proofs.Common.{◌≤◌, ℕ, length, subst, sym}
use denote.Param.Send.{sendable}
use Rattle.site_shadow.proofs.Sent.{site-send}
use Rattle.site_shadow.specs.Site.{SiteValue}
use Rattle.station_threads.specs.declared.closing.Ends.{Ends}
use Rattle.script_session.specs.AtDesk.{EndsSo}
use Rattle.script_session.specs.Parts.{AreEndsOfParts}
use Rattle.script_session.proofs.threads.serve_at_desk.Goals as goal

pub serve_line-requires-send-S : goal.serve_line-requires-send-S
serve_line-requires-send-S g c κs lives = search (site-send, sendable) depth 40

pub serve_line-requires-clause-long : goal.serve_line-requires-clause-long
serve_line-requires-clause-long g c κs lives =
    subst (λ (limit : ℕ). limit ≤ length c.args.sites.disk.seen.state.disk.bytes) (sym c.in-Ok.ensures.limit) c.requires.sites.long

pub returns-in-Ok-serve_line-clause-served : goal.returns-in-Ok-serve_line-clause-served
returns-in-Ok-serve_line-clause-served g c =
    let left = c.hand_in.result in
    let ends = c.in-Ok-serve_line.ensures in
    let same = sym c.hand_in.ensures.ends in
    record {
      of_sites = subst (λ (e : Ends SiteValue). AreEndsOfParts c.args.sites e) same (record { flusher = ends.flusher; workers = ends.workers; cycle = ends.cycle });
      ending = subst (λ (e : Ends SiteValue). EndsSo g.T.Tickets.opened g.C.NamesCommands.commands e left.ending) same c.hand_in.ensures.ending;
      unserved = c.hand_in.ensures.unserved;
    }
