use Rattle.std.proofs.Common.{length}
use Rattle.script_session.specs.After.{Tells}
use Rattle.script_session.proofs.AfterLaws.{goes_driven, goes_failed, goes_undriven, saves_driven, saves_led}
use Rattle.station_line.proofs.Extending.{recovers_on}
use Rattle.station_line.proofs.Going.{failure_goes, recovery_goes}
use Rattle.script_session.proofs.after.end_line.Goals as goal

pub returns-then-not-is_driven-clause-goes : goal.returns-then-not-is_driven-clause-goes
returns-then-not-is_driven-clause-goes g c =
    let left = c.args.left in
    let r = c.in-Ok in
    goes_undriven (Tells g.D.Device.follows g.D.Lends.tells c.serve_alone-end.result.reported) left.is_driven left.commands.items left.site.seen
    c.serve_alone-end.result.ended c.if-not-is_driven.true (record {
      r = r.alone;
      goes = recovery_goes left.site.line left.site.seen r.alone r.ensures.steps r.ensures.keeps;
      begins = r.ensures.begins;
      serves = c.serve_alone-end.ensures.serves;
    })

pub returns-else-not-is_driven-clause-saved : goal.returns-else-not-is_driven-clause-saved
returns-else-not-is_driven-clause-saved g c =
    let left = c.args.left in
    let r = c.in-Ok in
    saves_driven c.save_station-end.result.ended (g.S.Store.files c.save_station-end.new.store) c.args.line.now left.site.seen r.alone left.is_driven
    left.commands.items c.if-not-is_driven.false r.ensures.recovered r.ensures.begins c.save_station-end.ensures.saved

pub returns-else-not-is_driven-clause-goes : goal.returns-else-not-is_driven-clause-goes
returns-else-not-is_driven-clause-goes g c =
    let left = c.args.left in
    let r = c.in-Ok in
    goes_driven (Tells g.D.Device.follows g.D.Lends.tells c.save_station-end.result.reported) left.is_driven left.commands.items left.site.seen
    c.save_station-end.result.ended r.alone.seen c.if-not-is_driven.false (record {
      goes = recovery_goes left.site.line left.site.seen r.alone r.ensures.steps r.ensures.keeps;
      followed = c.save_station-end.ensures.followed;
    })

pub returns-else-not-is_driven-clause-held : goal.returns-else-not-is_driven-clause-held
returns-else-not-is_driven-clause-held g c =
    let left = c.args.left in
    let r = c.in-Ok in
    saves_led g.D.Device.follows g.D.Device.well g.D.Lends.tells c.save_station-end.result.reported c.save_station-end.result.ended
    (g.S.Store.files c.save_station-end.new.store) c.args.line.now (length c.args.line.now.images.items) left.site r.alone r.recovered left.is_driven
    r.ensures.recovered r.ensures.begins r.ensures.counts (recovers_on left.site.line left.site.seen r.alone r.ensures.steps) c.save_station-end.ensures.saved c.save_station-end.ensures.reported

pub returns-in-Err-clause-goes : goal.returns-in-Err-clause-goes
returns-in-Err-clause-goes g c =
    let left = c.args.left in
    let e = c.in-Err in
    goes_failed (Tells g.D.Device.follows g.D.Lends.tells c.reported_of.result) left.is_driven left.commands.items left.site.seen c.of_open.result
    e.back.seen (record {
      goes = failure_goes left.site.line left.site.seen e.fault e.back.line e.back.seen e.ensures.refused e.ensures.keeps;
      followed = c.reported_of.ensures;
    })
