use Rattle.std.proofs.Common.{◌∙◌}
use Rattle.station_files.proofs.Separate.{leads_one_more}
use Rattle.station_files.proofs.same_files.locate_all.Goals as goal

pub loop-one-preserved : goal.loop-one-preserved
loop-one-preserved g c = record {
  led =
      rw c.in_ok-push.ensures.items
      (leads_one_more g.S.Store.leads c.args.names.now c.loop-one.one-index c.one-item.result c.as_str.result.now c.loop-one.found.items c.in_ok-locate.field-0
      c.loop-one-test.true c.one-item.is c.as_str.ensures.value c.loop-one.invariant.led c.in_ok-locate.ensures.found);
  same = c.locate.ensures.same ∙ c.loop-one.invariant.same;
}
