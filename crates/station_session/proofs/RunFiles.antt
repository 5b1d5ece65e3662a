-- What a power cut leaves in the files of a run.
use Rattle.std.proofs.Common.{◌≡◌, ◌∙◌, ℕ, ◌+◌, eq-eqb, Bool, true, false, List, [], Some, slice_get, IsTrue}
use Rattle.std.proofs.Common.{Result, Ok, Err, refl}
use Rattle.std.proofs.Common.{sym, ap, subst, arith}
use Rattle.std.proofs.lemmas.List.{append_cancel_left}
use Rattle.std.specs.Prelude.{IfSome, IsSomeAnd, None, OnOk, Option}
use Rattle.sii_edit.specs.declared.command.Command.{Command}
use Rattle.esc_model.specs.SlaveHalf.{SlaveHalf}
use Rattle.site_core.specs.Disk.{Disk}
use Rattle.site_core.specs.State.{State, Seen, Pair}
use Rattle.site_shadow.specs.Site.{SiteValue}
use Rattle.site_shadow.specs.Unsynced.{of_bytes}
use Rattle.site_file.specs.declared.asking.LineFile.{LineFile as FileName}
use Rattle.site_file.specs.declared.asking.LineFile.TheVariants.{Journal as JournalFile, Image}
use Rattle.site_file.specs.declared.files.FileDevice.{FileDevice}
use Rattle.site_file.specs.declared.asking.Asked.{Asked}
use Rattle.site_file.specs.declared.asking.FileLog.{FileLog}
use Rattle.site_file.specs.Asking.{HasLog, TellsFiles, TellsLog}
use Rattle.site_file.specs.Following as files
use Rattle.site_file.specs.Held.{is_same}
use Rattle.site_file.specs.Files.{File, image_of}
use Rattle.site_file.specs.AllFiles.{Holds, HoldsDisk, HoldsWords, Shows}
use Rattle.book_model.specs.Book.{Book, base_of}
use Rattle.book_model.specs.Machine.{Machine}
use Rattle.desk_book.specs.declared.call.Call.{Call}
use Rattle.desk_book.specs.Calls.{AreAnswered, replayed}
use Rattle.station_alone.specs.Station.{Station}
use Rattle.station_jobs.specs.declared.log.SlaveLog.{SlaveLog}
use Rattle.station_jobs.specs.Ends.{Stay}
use Rattle.kept_files.specs.KeptFiles.{has_file}
use Rattle.world_law.specs.Law.{blank}
use Rattle.kept_files.specs.Cuts.{IsKeptPair}
use Rattle.kept_files.specs.DeskFiles.{DeskOnFiles, PartOnFiles}
use Rattle.kept_files.proofs.OnFiles.{device_kept, device_served, site_keeps_on, site_keeps_serving}
use Rattle.kept_files.proofs.Extending.{first_stays}
use Rattle.kept_files.proofs.AtDeskOnFiles.{part_has_its_file, device_of_part, flushed_follows, worked_follows, cut_leaves_kept_parts}
use Rattle.station_threads.specs.Parts.{IsEndOfSlave}
use Rattle.station_text.specs.declared.line_file.LineFile.{LineFile}
use Rattle.station_files.specs.Files.{Known}
use Rattle.station_files.specs.ScriptFiles.{SpellsCommands}
use Rattle.station_files.specs.declared.faults.ExitStatus.{ExitStatus}
use Rattle.station_files.specs.declared.faults.Fault.{Fault}
use Rattle.script_session.specs.declared.closing.Ending.{Ending}
use Rattle.station_threads.specs.declared.closing.Ends.{Ends}
use Rattle.script_session.specs.AtDesk.{PartsEnd, ServesParts, seen_of}
use Rattle.script_session.specs.declared.logs.DeskLog.{DeskLog}
use Rattle.script_session.specs.declared.logs.PartLog.{PartLog}
use Rattle.script_session.specs.Parts.{AreSound, BeginsWith, EndsWith, IsDeskReported, IsSynced, IsTogether, IsWorkFollowed, Telling}
use Rattle.script_session.proofs.LeftLaws.{first, opened-on, placed-back}
use Rattle.script_session.proofs.SlaveLaws.{placed-at}
use Rattle.script_session.specs.After.{GoesFollowed}
use Rattle.script_session.specs.declared.logs.RunLog.{RunLog}
use Rattle.script_session.specs.Recovering.{BeginsSessions}
use Rattle.script_session.specs.Running.{DeskTells, OfDevices, OfRecovery, RunGoes, ServesOn, TellsOf, line_reported}
use Rattle.script_session.proofs.RecoveryLaws.{kept-each}
use Rattle.script_session.proofs.ReportedLaws.{at-place, reported-work}
use Rattle.script_session.proofs.SaysLaws.{parts_of, run_as}
use Rattle.script_session.specs.Running.{separate}
use Rattle.station_session.specs.RunFiles.{BeginsPart, HoldTogether, IsLeftBy, KeepsParts}
use Rattle.station_session.specs.RunFiles.{KeepsEach, KeepsRunFiles, OfFiles, OfRecovered, RunKeepsFiles}
use Rattle.station_session.specs.RunFiles.{HaveAsked, IsReported, KeepsAsReported, KeepsDeskAsReported, KeepsPartsAsReported, ServesAsReported}
use Rattle.station_line.specs.Opened.{Loads}

-- ---- on files

pub same-half : (halves : List SlaveHalf) (slave : ℕ) (one other : SlaveHalf) → slice_get halves slave ≡ Some one → slice_get halves slave ≡ Some other → one ≡ other
same-half halves slave one other here there = let same : Some one ≡ Some other = sym here ∙ there in cc

-- the calls of a device, by what is told of it
reported-calls : (F : Type 0) (device kept : FileDevice F) (calls : List Asked) (reported : Option (List Asked)) → kept ≡ device → HasLog kept.asking.calls calls
    → TellsLog device.asking.calls reported → IfSome reported (λ asked. asked ≡ calls)
reported-calls F device kept calls None same log tells = tt
reported-calls F device kept calls (Some asked) same log tells =
    append_cancel_left device.asking.calls.begun.value asked calls (sym tells ∙ subst (λ (d : FileDevice F). HasLog d.asking.calls calls) same log)

-- for each machine that was kept before
keeps_each : (F : Type 0) (before : Seen) (station : Station) (ends : Ends SiteValue) → BeginsSessions before station → (keeps : KeepsParts F station ends)
    → KeepsEach before station ends keeps.desk
keeps_each F before station ends sessions keeps machine calls begun images kept answered none sound bytes cut =
    let each = kept-each station sessions.here sessions.stands calls none sound before sessions.begins machine kept in
    let left = keeps.kept (blank (base_of station.book)) calls begun images each.0 answered bytes cut in
    (left.0, each.1 left.0 left.1, left.2)

-- devices that have a device of files inside
module _ (F : Type 0) {D : Type 0} (inner : D → FileDevice F) where
  abbrev pub follows : D → Seen → Type 0
  follows device seen = files.Follows (inner device) seen

  abbrev pub well : D → Type 0
  well device = (inner device).has_failed ≡ false

  abbrev pub tells : D → FileLog → Type 0
  tells device reported = TellsFiles (inner device).asking reported

  -- a desk of which this is told
  module _ (station : Station) (synced : station.seen.state.disk ≡ of_bytes station.seen.state.disk.bytes) (parts : PartsEnd station)
      (reported : DeskLog FileLog) (tellings : IsDeskReported follows well tells station.seen reported parts.ends) where
    journal_part : PartOnFiles F (is_same JournalFile) parts.ends.flusher.start.seen parts.ends.flusher.site.seen
    journal_part =
        let start = parts.ends.flusher.start.seen in
        let end = parts.ends.flusher.site.seen in
        part_has_its_file F (is_same JournalFile) start end (inner tellings.disk.0) (ap (λ (s : SiteValue). s.seen.past) parts.of_sites.flusher ∙ parts.separate.new)
        (flushed_follows parts.ends.flusher.log start end tellings.flushed) tellings.disk.1.0

    journal_device : journal_part.device ≡ inner tellings.disk.0
    unfolding journal_part
    journal_device =
        let start = parts.ends.flusher.start.seen in
        let end = parts.ends.flusher.site.seen in
        device_of_part F (is_same JournalFile) start end (inner tellings.disk.0) (ap (λ (s : SiteValue). s.seen.past) parts.of_sites.flusher ∙ parts.separate.new)
        (flushed_follows parts.ends.flusher.log start end tellings.flushed) tellings.disk.1.0

    -- the worker of this slave
    module _ (slave : ℕ) (end : Stay SiteValue SlaveLog) (here : slice_get parts.ends.workers.items slave ≡ Some end) where
      work : (part : PartLog FileLog) × (slice_get reported.slaves.items slave ≡ Some part) × IsWorkFollowed (Telling follows well tells part) end
      work = reported-work follows well tells reported.slaves.items parts.ends.workers.items tellings.slaves slave end here

      work_new : end.start.seen.past ≡ []
      work_new =
          let worker = placed-back (λ place (x : SiteValue) (e : Stay SiteValue SlaveLog). IsEndOfSlave place x e) 0 parts.sites.slaves.items parts.ends.workers.items slave end parts.of_sites.workers here in
          let half = placed-back BeginsWith 0 station.seen.state.halves parts.sites.slaves.items slave worker.0 parts.separate.slaves worker.1 in
          ap (λ (s : SiteValue). s.seen.past) worker.2.start ∙ half.2.new

      image_part : PartOnFiles F (is_same (Image slave)) end.start.seen end.site.seen
      image_part =
          part_has_its_file F (is_same (Image slave)) end.start.seen end.site.seen (inner work.2.followed.0) work_new
          (worked_follows end.log.slave end.log.jobs end.start.seen end.site.seen work.2.worked) work.2.followed.1.0

      image_device : image_part.device ≡ inner work.2.followed.0
      unfolding image_part
      image_device =
          device_of_part F (is_same (Image slave)) end.start.seen end.site.seen (inner work.2.followed.0) work_new
          (worked_follows end.log.slave end.log.jobs end.start.seen end.site.seen work.2.worked) work.2.followed.1.0

    desk : DeskOnFiles F seen_of parts.ends.flusher parts.ends.workers.items
    desk = record { journal = journal_part; images = image_part }

    abbrev old : State
    old = record station.seen.state { disk = of_bytes station.seen.state.disk.bytes }

    abbrev LeftKept : Machine → List Call → (FileName → List ℕ) → Book → Type 0
    LeftKept machine calls images book =
        (pair : Pair) × IsKeptPair machine (replayed book calls) pair × ((name : FileName) → IsTrue (has_file station.seen.state name) → Shows pair name (images name))

    begins : (name : FileName) (file : File) → Holds station.seen.state name file → BeginsPart parts.ends name file
    begins JournalFile file holds =
        let same : station.seen.state.disk ≡ parts.ends.flusher.start.seen.state.disk =
        synced ∙ sym parts.separate.disk ∙ sym (ap (λ (s : SiteValue). s.seen.state.disk) parts.of_sites.flusher) in
        subst (λ (d : Disk). HoldsDisk d file) same holds
    begins (Image slave) file holds = λ end here.
        let worker = placed-back (λ place (x : SiteValue) (e : Stay SiteValue SlaveLog). IsEndOfSlave place x e) 0 parts.sites.slaves.items parts.ends.workers.items slave end parts.of_sites.workers here in
        let half = placed-back BeginsWith 0 station.seen.state.halves parts.sites.slaves.items slave worker.0 parts.separate.slaves worker.1 in
        let same_place : 0 + slave ≡ slave = omega arith in
        record {
          half = half.0;
          here = ap (λ (s : SiteValue). slice_get s.seen.state.halves slave) worker.2.start ∙ subst (λ (k : ℕ). slice_get worker.0.seen.state.halves k ≡ Some half.0) same_place half.2.has;
          file_is = holds.file_is ∙ ap (λ (h : SlaveHalf). image_of h.words) (same-half station.seen.state.halves slave holds.half half.0 holds.here half.1);
        }

    keeps_parts : KeepsParts F station parts.ends
    keeps_parts = record {
      desk = desk;
      begins = begins;
      kept = λ machine calls begun images begins answered bytes cut.
          subst (LeftKept machine calls images) (sym begins.book)
          (cut_leaves_kept_parts F SiteValue seen_of parts.ends.flusher parts.ends.workers.items desk machine begins.journal old calls begun images
          (opened-on station calls parts.sites parts.ends parts.separate parts.of_sites machine begins)
          (subst (λ (b : Book). AreAnswered b calls) begins.book answered)
          (first station calls parts.sites parts.ends parts.separate parts.of_sites) bytes cut);
    }

    have_asked : HaveAsked reported parts.ends keeps_parts.desk
    unfolding keeps_parts desk
    have_asked = record {
      journal = subst (λ (d : FileDevice F). TellsLog d.asking.calls reported.disk.reported.calls) (sym journal_device) tellings.disk.1.1.calls;
      images = λ slave end is.
          let w = work slave end is in
          (w.0, w.1, subst (λ (d : FileDevice F). TellsLog d.asking.calls w.0.reported.calls) (sym (image_device slave end is)) w.2.followed.1.1.calls);
    }

    -- where the parts ended soundly, and the disk is synced, the files hold what is put together
    module _ (site : SiteValue) (together : IsTogether parts.ends site) (sound : AreSound reported) (all_synced : IsSynced parts.ends) where
      going : (stopped : Bool) → stopped ≡ false → ¬ IsTrue stopped
      going stopped is stops = let never : false ≡ true = sym is ∙ stops in absurd cc

      journal_together : (file : File) → IsLeftBy journal_part JournalFile file → Holds site.seen.state JournalFile file
      journal_together file left =
          let end = parts.ends.flusher.site.seen in
          let fine = tellings.disk.1.2 sound.disk in
          let held : HoldsDisk end.state.disk file =
          (journal_part.follow left.begun left.held).holds (ap (λ (d : FileDevice F). d.has_failed) journal_device ∙ fine.0) (going end.is_stopped fine.1) JournalFile file refl left.became in
          subst (λ (d : Disk). HoldsDisk d file) (all_synced ∙ sym together.disk) held

      image_together : (slave : ℕ) (end : Stay SiteValue SlaveLog) (is : slice_get parts.ends.workers.items slave ≡ Some end) (file : File) → IsLeftBy (image_part slave end is) (Image slave) file → Holds site.seen.state (Image slave) file
      image_together slave end is file left =
          let w = work slave end is in
          let fine = w.2.followed.1.2 (at-place (λ (part : PartLog FileLog). IsTrue part.is_sound) reported.slaves.items slave w.0 sound.slaves w.1) in
          let held : HoldsWords end.site.seen.state.halves slave file =
          ((image_part slave end is).follow left.begun left.held).holds (ap (λ (d : FileDevice F). d.has_failed) (image_device slave end is) ∙ fine.0) (going end.site.seen.is_stopped fine.1) (Image slave) file (eq-eqb slave slave refl) left.became in
          let back = placed-at EndsWith 0 parts.ends.workers.items site.seen.state.halves slave end together.halves is in
          let same_place : 0 + slave ≡ slave = omega arith in
          let half_is = same-half end.site.seen.state.halves slave held.half back.0 held.here (subst (λ (k : ℕ). slice_get end.site.seen.state.halves k ≡ Some back.0) same_place back.2) in
          record { half = back.0; here = back.1; file_is = held.file_is ∙ ap (λ (h : SlaveHalf). image_of h.words) half_is }

      hold_together : HoldTogether parts.ends keeps_parts.desk site
      unfolding keeps_parts desk
      hold_together = record { journal = journal_together; images = image_together }

    keeps_as_reported : (site : SiteValue) → IsTogether parts.ends site → (sound : Result (Unit {0}) Fault) → OnOk sound (AreSound reported × IsSynced parts.ends)
        → KeepsDeskAsReported F (Some reported) station sound parts.ends site
    keeps_as_reported site together (Ok done) are =
        record { keeps = record { parts = keeps_parts; together = hold_together site together are.0 are.1 }; asked = have_asked }
    keeps_as_reported site together (Err fault) are = record { keeps = record { parts = keeps_parts; together = tt }; asked = have_asked }

  -- the calls of a device on one thread, by what is told of it
  is-reported : (device : D) (kept : FileDevice F) (calls : List Asked) (reported : Option FileLog) → kept ≡ inner device → HasLog kept.asking.calls calls
      → IsSomeAnd reported (tells device) → IsReported reported (λ asked. asked ≡ calls)
  is-reported device kept calls None same log none = absurd none
  is-reported device kept calls (Some reported) same log tell = reported-calls F (inner device) kept calls reported.calls same log tell.calls

  goes_on_files : (reported : Option FileLog) (before now : Seen) → before.past ≡ [] → GoesFollowed (TellsOf follows tells reported) before now
      → KeepsAsReported F reported before now
  goes_on_files reported before now new stage =
      let device = inner stage.followed.0 in
      let first = first_stays before now new stage.goes.goes_on in
      let keeps = site_keeps_on F device before now stage.followed.1.0 new first stage.goes.keeps in
      record {
        keeps = keeps;
        asked = is-reported stage.followed.0 keeps.device keeps.calls reported (device_kept F device before now stage.followed.1.0 new first stage.goes.keeps) keeps.log stage.followed.1.1;
      }

  serves_on_files : (reported : Option FileLog) (commands : List Command) (before now : Seen) → before.past ≡ []
      → ServesOn (TellsOf follows tells reported) commands before now → ServesAsReported F reported commands before now
  serves_on_files reported commands before now new serves =
      let device = inner serves.followed.0 in
      let first = first_stays before now new serves.goes_on in
      let keeps = site_keeps_serving F device commands before now serves.followed.1.0 new first serves.keeps in
      record {
        keeps = keeps;
        asked = is-reported serves.followed.0 keeps.device keeps.calls reported (device_served F device commands before now serves.followed.1.0 new first serves.keeps) keeps.log serves.followed.1.1;
      }

  -- where the line wasn't put together
  parts_as_reported : (reported : Option (DeskLog FileLog)) (station : Station) → station.seen.state.disk ≡ of_bytes station.seen.state.disk.bytes
      → (parts : PartsEnd station) → IsSomeAnd reported (λ one. IsDeskReported follows well tells station.seen one parts.ends)
      → KeepsPartsAsReported F reported station parts.ends
  parts_as_reported None station synced parts tellings = absurd tellings
  parts_as_reported (Some reported) station synced parts tellings =
      record { keeps = keeps_parts station synced parts reported tellings; asked = have_asked station synced parts reported tellings }

  desk_as_reported : (reported : Option (DeskLog FileLog)) (station : Station) → station.seen.state.disk ≡ of_bytes station.seen.state.disk.bytes → (commands : List Command) (ending : Ending) (site : SiteValue)
      (sound : Result (Unit {0}) Fault) (parts : ServesParts station commands ending site) → DeskTells follows well tells reported station sound parts.desk.ends
      → KeepsDeskAsReported F reported station sound parts.desk.ends site
  desk_as_reported None station synced commands ending site sound parts tell = absurd tell
  desk_as_reported (Some reported) station synced commands ending site sound parts tell =
      keeps_as_reported station synced (parts_of station commands ending parts.desk) reported tell.0 site parts.together sound tell.1

  module _ (reported : RunLog FileLog) (Failed Told : Type 0) (tells_it : Failed → Told) (before : Seen) (began : before.past ≡ []) where
    opening_on_files : (now : Seen) → GoesFollowed (TellsOf follows tells (line_reported reported.desk reported.opening)) before now
        → KeepsAsReported F (line_reported reported.desk reported.opening) before now
    opening_on_files now stage = goes_on_files (line_reported reported.desk reported.opening) before now began stage

    pub run_on_files : (commands : List Command) → RunGoes (OfDevices follows well tells reported) before commands Failed
        → RunGoes (OfFiles F reported) before commands Told
    run_on_files =
        run_as (OfDevices follows well tells reported) (OfFiles F reported) Failed Told tells_it (λ none. none) before began opening_on_files
        (goes_on_files reported.after) (serves_on_files reported.after) (λ station stage. parts_as_reported reported.desk station)
        (λ station stage. desk_as_reported reported.desk station)

    -- of a recovery
    pub recovery_on_files : RunGoes (OfRecovery before (OfDevices follows well tells reported)) before [] Failed
        → RunGoes (OfRecovered F before reported) before [] Told
    recovery_on_files =
        run_as (OfRecovery before (OfDevices follows well tells reported)) (OfRecovered F before reported) Failed Told tells_it (λ none. none) before began opening_on_files
        (λ left last new goes. (goes.0, goes_on_files reported.after left last new goes.1)) (serves_on_files reported.after)
        (λ station stage synced parts tell.
        let so = parts_as_reported reported.desk station synced parts tell.1 in
        (so, keeps_each F before station parts.ends tell.0 so.keeps))
        (λ station stage synced commands ending site sound parts tell.
        let so = desk_as_reported reported.desk station synced commands ending site sound parts tell.1 in
        (so, keeps_each F before station parts.desk.ends tell.0 so.keeps.parts)) []

-- ---- the run

pub runs_kept : (F : Type 0) (old : Known) (name script : List ℕ) (line : LineFile) (site : SiteValue) (commands : List Command) (status : ExitStatus) (reported : RunLog FileLog) → Loads old name line site
    → SpellsCommands old script commands → RunKeepsFiles F site.seen commands status reported → KeepsRunFiles F old name script status reported
runs_kept F known name script line site commands status reported loaded spelt kept = record { line = line; site = site; loaded = loaded; commands = commands; spelt = spelt; kept = kept }
