-- The three devices behind which a slave's half goes on: the line's as the station is opened, its part's at the desk, and the line's after it.
use Rattle.std.proofs.Common.{Bool, ◌≡◌, ℕ, ◌+◌, ◌<◌, [], length, get_or, Some, IsTrue, slice_get, ap, subst, ◌∙◌, arith}
use Rattle.std.proofs.lemmas.Option.{slice_get-get_or}
use Rattle.esc_model.specs.SlaveHalf.{SlaveHalf, powered_up}
use Rattle.site_core.specs.State.{Seen}
use Rattle.site_core.specs.Times.{Follows}
use Rattle.site_shadow.specs.Site.{SiteValue}
use Rattle.kept_files.proofs.AtDeskOnFiles.{worked_follows}
use Rattle.station_jobs.specs.declared.log.SlaveLog.{SlaveLog}
use Rattle.station_jobs.specs.Ends.{Stay}
use Rattle.station_threads.specs.Parts.{IsEndOfSlave}
use Rattle.station_line.specs.Site.{IsFollowed}
use Rattle.script_session.specs.declared.logs.LineLog.{LineLog}
use Rattle.script_session.specs.declared.logs.PartLog.{PartLog}
use Rattle.script_session.specs.Parts.{BeginsWith, EndsWith}
use Rattle.script_session.specs.Running.{EndsReported}
use Rattle.script_session.specs.Saving.{KeepsReported}
use Rattle.script_session.proofs.ReportedLaws.{at-place, reported-work}
use Rattle.script_session.proofs.SavingLaws.{keeps_reported}
use Rattle.script_session.proofs.SlaveLaws.{placed-at}

module _ {D T : Type 0} (follows : D → Seen → Type 0) (well : D → Type 0) (tells : D → T → Type 0) where
  -- behind a device of which this is told a slave's half went on from one to the other
  pub record HasLed (slave : ℕ) (first half : SlaveHalf) (reported : T) : Type 0 where
    pub before : Seen
    pub now : Seen
    pub new : before.past ≡ []
    pub goes : Follows before now
    pub followed : IsFollowed (KeepsReported follows well tells reported) now
    pub at_first : slice_get before.state.halves slave ≡ Some first
    pub at_now : slice_get now.state.halves slave ≡ Some half

  -- behind three, one after the other
  pub record LedSlave (slave : ℕ) (first half : SlaveHalf) (whole : LineLog T) : Type 0 where
    pub mid : SlaveHalf
    pub back : SlaveHalf
    pub part : PartLog T
    pub here : slice_get whole.desk.slaves.items slave ≡ Some part
    pub opening : HasLed slave first mid whole.desk.line.reported
    pub desk : HasLed slave mid back part.reported
    pub after : HasLed slave back half whole.after

  module _ (turns : Bool) (site : SiteValue) (slaves : ℕ) (last : Seen) (whole : LineLog T) (new : site.seen.past ≡ [])
      (followed : EndsReported follows well tells turns site slaves whole last) where
    pub led_slave : (slave : ℕ) (first half : SlaveHalf) → slice_get site.seen.state.halves slave ≡ Some first → slice_get last.state.halves slave ≡ Some half
        → slave < length followed.opened.seen.state.halves → LedSlave slave first half whole
    led_slave slave first half at_first at_last inside =
        let opened = followed.opened in
        let left = followed.desk.left in
        let served = followed.desk.served in
        let parts = served.served in
        let mid = get_or opened.seen.state.halves slave (powered_up [] 0) in
        let at_opened = slice_get-get_or opened.seen.state.halves slave (powered_up [] 0) inside in
        let begun = placed-at BeginsWith 0 opened.seen.state.halves parts.sites.slaves.items slave mid parts.separate.slaves at_opened in
        let end = placed-at (λ place (x : SiteValue) (e : Stay SiteValue SlaveLog). IsEndOfSlave place x e) 0 parts.sites.slaves.items parts.ends.workers.items slave begun.0
        parts.of_sites.workers begun.1 in
        let back = placed-at EndsWith 0 parts.ends.workers.items left.seen.state.halves slave end.0 parts.together.halves end.1 in
        let work = reported-work follows well tells whole.desk.slaves.items parts.ends.workers.items served.devices.slaves slave end.0 end.1 in
        let sound = at-place (λ (part : PartLog T). IsTrue part.is_sound) whole.desk.slaves.items slave work.0 served.sound.slaves work.1 in
        let from_first : 0 + slave ≡ slave = omega arith in
        let start_is : end.0.start ≡ begun.0 = end.2.start in
        record {
          mid = mid;
          back = back.0;
          part = work.0;
          here = work.1;
          opening = record {
            before = site.seen;
            now = opened.seen;
            new = new;
            goes = followed.opens;
            followed = keeps_reported follows well tells whole.desk.line opened.seen served.sound.line served.devices.before;
            at_first = at_first;
            at_now = at_opened;
          };
          desk = record {
            before = end.0.start.seen;
            now = end.0.site.seen;
            new = ap (λ (x : SiteValue). x.seen.past) start_is ∙ begun.2.new;
            goes = worked_follows end.0.log.slave end.0.log.jobs end.0.start.seen end.0.site.seen work.2.worked;
            followed = keeps_reported follows well tells work.0 end.0.site.seen sound work.2.followed;
            at_first = ap (λ (x : SiteValue). slice_get x.seen.state.halves slave) start_is
                ∙ subst (λ (n : ℕ). slice_get begun.0.seen.state.halves n ≡ Some mid) from_first begun.2.has;
            at_now = subst (λ (n : ℕ). slice_get end.0.site.seen.state.halves n ≡ Some back.0) from_first back.2;
          };
          after = record {
            before = left.seen;
            now = last;
            new = parts.together.new;
            goes = followed.desk.after;
            followed = followed.desk.ends.ends;
            at_first = back.1;
            at_now = at_last;
          };
        }
