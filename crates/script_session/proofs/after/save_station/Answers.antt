use Rattle.std.proofs.Common.{Result, subst}
use Rattle.std.specs.Prelude.{OnOk}
use Rattle.site_core.specs.State.{Seen}
use Rattle.station_files.specs.declared.faults.Fault.{Fault}
use Rattle.station_line.specs.Site.{HoldsSite}
use Rattle.script_session.proofs.after.save_station.Goals as goal

pub returns-in-Ok-clause-saved : goal.returns-in-Ok-clause-saved
returns-in-Ok-clause-saved g c =
    let held = subst (λ (r : Result (Unit {0}) Fault). OnOk r (HoldsSite (g.S.Store.files c.save_reported-saved.new.store) c.args.line.now c.into_parts-core.result.1.seen.state))
    c.in-Ok.is c.save_reported-saved.ensures.saved in
    subst (λ (seen : Seen). HoldsSite (g.S.Store.files c.save_reported-saved.new.store) c.args.line.now seen.state) c.into_parts-core.ensures.seen held
