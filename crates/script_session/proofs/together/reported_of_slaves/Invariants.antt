use Rattle.std.proofs.Common.{◌≡◌, ◌++◌}
use Rattle.std.specs.List.{AllZip}
use Rattle.std.specs.Prelude.{vec_capacity}
use Rattle.std.specs.Vec.Iter.{into_iter_items}
use Rattle.script_session.specs.Parts.{Telling}
use Rattle.site_shadow.specs.Site.{SiteValue}
use Rattle.station_line.specs.Site.{IsFollowed}
use Rattle.script_session.proofs.together.reported_of_slaves.Given as goal

abbrev pub invariant-loop-site : goal.invariant-loop-site
invariant-loop-site g l = record {
  over : l.yielded ++ into_iter_items l.site-iterator ≡ into_iter_items l.initial.site-iterator;
  reported : AllZip (λ (site : SiteValue) reported. IsFollowed (Telling g.D.Device.follows g.D.Device.well g.D.Lends.tells reported) site.seen) l.yielded l.reported.items;
  reserved : vec_capacity l.reported ≡ vec_capacity l.fn.room;
}
