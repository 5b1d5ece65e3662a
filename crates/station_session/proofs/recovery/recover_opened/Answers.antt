use Rattle.std.proofs.Common.{◌∙◌, ap, length, subst, sym, true}
use Rattle.std.specs.Prelude.{◌≡◌, IsErr, IsTrue}
use denote.Param.Send.{sendable}
use Rattle.esc_rom.specs.Owned.{OwnsAll}
use Rattle.site_shadow.specs.Site.{SiteValue}
use Rattle.site_file.proofs.Sent.{device-send}
use Rattle.line_watch.proofs.Sent.{watched-send}
use Rattle.station_files.specs.Faults.{IsFaultless}
use Rattle.station_files.specs.declared.faults.ExitStatus.{ExitStatus}
use Rattle.station_files.specs.declared.faults.ExitStatus.TheVariants.{Done}
use Rattle.station_session.specs.Session.{EndsRecovery}
use Rattle.station_session.proofs.Ending.{ends-recovered, told}
use Rattle.station_session.proofs.Noting.{done_noted, stays, stays_good, then_noted}
use Rattle.station_session.proofs.Recovered.{saves_contents}
use Rattle.station_session.proofs.RunFiles.{recovery_on_files}
use Rattle.station_session.proofs.recovery.recover_opened.Goals as goal

pub recover_by_threads-ended-requires-send-D : goal.recover_by_threads-ended-requires-send-D
recover_by_threads-ended-requires-send-D g c κs lives = search (watched-send, device-send, sendable) depth 40

pub recover_by_threads-ended-requires-clause-disk : goal.recover_by_threads-ended-requires-clause-disk
recover_by_threads-ended-requires-clause-disk g c κs lives = subst (λ (s : SiteValue). IsTrue s.line.has_disk) (sym c.with_device-site.ensures) c.requires.fresh.has_disk

pub recover_by_threads-ended-requires-clause-owned : goal.recover_by_threads-ended-requires-clause-owned
recover_by_threads-ended-requires-clause-owned g c κs lives = subst (λ (s : SiteValue). OwnsAll s.line) (sym c.with_device-site.ensures) c.requires.fresh.owned

pub returns-clause-ends : goal.returns-clause-ends
returns-clause-ends g c =
    let files = g.S.Store.files in
    let line = c.args.session.line in
    let ran = c.recover_by_threads-ended in
    let site = c.with_device-site.result in
    let run = ran.result in
    let told_it = c.with_all_reported-told in
    let final = c.worse in
    let slaves = c.slaves-slaves.ensures in
    let is : site ≡ c.args.session.site = c.with_device-site.ensures in
    let new = ap (λ (s : SiteValue). s.seen.past) is ∙ c.requires.fresh.new in
    let last = stays c.note_ended.result told_it.result c.note_ended.new.failures told_it.new.failures told_it.ensures.noted in
    let good : IsFaultless final.result → IsFaultless c.note_ended.result =
    λ well. stays_good c.note_ended.result told_it.result last (final.ensures.faultless well).0 in
    subst (λ (s : SiteValue). EndsRecovery _ (files c.args.store.now) (files ran.new.store) line s.seen (record { is_begun = true; status = final.result; reported = run.reported })) is
    (ends-recovered _ _ (files c.args.store.now) (files ran.new.store) line site.seen run.ended c.note_ended.result final.result run.reported ran.ensures.others
    (recovery_on_files _ (λ device. device.device) run.reported (IsErr run.ended) (¬ IsFaultless final.result)
    (told run.ended c.note_ended.result final.result c.note_ended.ensures.fault good) site.seen new ran.ensures.goes)
    ran.ensures.saved
    (saves_contents _ (λ device. device.device) (files ran.new.store) line site (length line.images.items) run.recovered run.reported new
    (ap (λ (s : SiteValue). length s.line.sizes) is ∙ sym slaves.slaves ∙ slaves.halves ∙ ap (λ (s : SiteValue). length s.seen.state.halves) (sym is))
    (ap (λ (s : SiteValue). length s.line.sizes) is ∙ c.requires.fresh.count))
    c.note_ended.ensures.fault (λ well. (good well, told_it.ensures.all (final.ensures.faultless well).0)))

pub returns-clause-noted : goal.returns-clause-noted
returns-clause-noted g c =
    let old = c.args.failures.now in
    let ended = c.note_ended in
    let told_it = c.with_all_reported-told in
    let printed = c.print_recovered-printed in
    done_noted told_it.result printed.result c.worse.result old told_it.new.failures printed.new.failures
    (then_noted (λ (s : ExitStatus). s ≡ Done) ended.result told_it.result old ended.new.failures told_it.new.failures ended.ensures.noted told_it.ensures.noted)
    printed.ensures c.worse.ensures.one c.worse.ensures.faultless
