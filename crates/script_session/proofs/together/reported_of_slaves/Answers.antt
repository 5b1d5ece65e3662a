use Rattle.std.proofs.Common.{◌≡◌, ◌∷◌, ◌∙◌, [], ap, arith, length, refl, subst, sym}
use Rattle.std.specs.List.{AllZip}
use Rattle.std.specs.Vec.Iter.{into_iter_items}
use Rattle.std.proofs.lemmas.List.{length-append}
use Rattle.std.proofs.lemmas.Slice.Zip.{AllZip-long}
use Rattle.station_threads.proofs.Zips.{gone-over}
use Rattle.site_shadow.specs.Site.{SiteValue}
use Rattle.station_line.specs.Site.{IsFollowed}
use Rattle.script_session.specs.Parts.{Telling}
use Rattle.script_session.proofs.SeparateLaws.{zip_more}
use Rattle.script_session.proofs.together.reported_of_slaves.Goals as goal

pub loop-site-init : goal.loop-site-init
loop-site-init g c = record {
  over = refl;
  reported = subst (AllZip (λ (site : SiteValue) reported. IsFollowed (Telling g.D.Device.follows g.D.Device.well g.D.Lends.tells reported) site.seen) []) (sym c.requires.empty) tt;
  reserved = refl;
}

pub push_reserved-requires : goal.push_reserved-requires
push_reserved-requires g c =
    let at = c.loop-site in
    let steps : into_iter_items at.site-iterator ≡ c.in-Some.site ∷ into_iter_items c.next.new.self = c.in-Some.ensures.steps.0 in
    let here = length-append at.yielded (into_iter_items at.site-iterator) in
    let long = AllZip-long (λ (site : SiteValue) reported. IsFollowed (Telling g.D.Device.follows g.D.Device.well g.D.Lends.tells reported) site.seen) at.yielded at.reported.items at.invariant.reported in
    omega (arith, here, ap length at.invariant.over, ap length steps, long, at.invariant.reserved, c.requires.room)

pub loop-site-preserved : goal.loop-site-preserved
loop-site-preserved g c =
    let at = c.loop-site in
    let site = c.in-Some.site in
    let steps : into_iter_items at.site-iterator ≡ site ∷ into_iter_items c.next.new.self = c.in-Some.ensures.steps.0 in
    record {
      over = gone-over at.yielded site (into_iter_items at.site-iterator) (into_iter_items c.next.new.self) (into_iter_items c.into_iter-site-iterator.result) steps at.invariant.over;
      reported = rw c.push_reserved.ensures.items (zip_more (λ (site : SiteValue) reported. IsFollowed (Telling g.D.Device.follows g.D.Device.well g.D.Lends.tells reported) site.seen)
          at.yielded at.reported.items site c.reported_of.result at.invariant.reported c.reported_of.ensures);
      reserved = c.push_reserved.ensures.capacity ∙ at.invariant.reserved;
    }
