use Rattle.std.proofs.Common.{ap}
use Rattle.site_core.specs.State.{Seen}
use Rattle.station_session.proofs.Ending.{saves-by}
use Rattle.station_session.proofs.fused.run_station.Goals as goal

pub returns-clause-saved : goal.returns-clause-saved
returns-clause-saved g c =
    saves-by (g.S.Store.files c.save_site-saved.new.store) c.args.line.now c.args.commands.items c.args.alone c.serve_commands-served.new.alone c.serve_commands-served.result c.save_site-saved.result
    c.into_parts-core.result.1.seen.state c.serve_commands-served.new.answered c.serve_commands-served.ensures (ap (λ (seen : Seen). seen.state) c.into_parts-core.ensures.seen) c.save_site-saved.ensures.saved
