-- What a run or a recovery on a wire keeps, by what its devices keep.
use Rattle.std.proofs.Common.{◌≡◌, ◌∙◌, ℕ, ◌+◌, false, List, [], Option, Some, None, slice_get, Result, Ok, Err, IsTrue, refl, sym, ap, subst, arith}
use Rattle.std.proofs.lemmas.List.{append_cancel_left}
use Rattle.std.specs.Prelude.{IfSome, IsSomeAnd}
use Rattle.sii_edit.specs.declared.command.Command.{Command}
use Rattle.esc_model.specs.Orders.{station as address}
use Rattle.esc_model.specs.SlaveHalf.{SlaveHalf}
use Rattle.site_core.specs.Disk.{Disk}
use Rattle.site_core.specs.State.{State, Seen}
use Rattle.site_shadow.specs.Following.{first_of}
use Rattle.site_shadow.specs.Site.{SiteValue}
use Rattle.site_shadow.specs.Unsynced.{of_bytes}
use Rattle.site_file.specs.declared.asking.LineFile.TheVariants.{Journal as JournalFile}
use Rattle.site_file.specs.declared.asking.Log.{Log}
use Rattle.site_file.specs.declared.asking.Asked.{Asked}
use Rattle.site_file.specs.AllFiles.{HoldsDisk}
use Rattle.site_file.specs.Asking.{HasLog, TellsLog}
use Rattle.site_file.specs.Files.{BecomesBy, File}
use Rattle.site_file.specs.Held.{is_same, of_file}
use Rattle.site_wire.specs.After.{IsAfter}
use Rattle.site_wire.specs.RealSlaves.{Lives}
use Rattle.site_wire.specs.Sent.{Exchanged, HasSent, exchanges}
use Rattle.site_wire.specs.Moments.{Doing, HasDone, asked_by, sent_by}
use Rattle.site_wire.specs.declared.device.WireDevice.{WireDevice}
use Rattle.site_wire.specs.declared.device.WireLog.{WireLog}
use Rattle.site_wire.proofs.Doings.{leaves_together}
use Rattle.book_model.specs.Book.{Book, base_of}
use Rattle.world_law.specs.Law.{blank}
use Rattle.desk_book.specs.Calls.{AreAnswered, replayed}
use Rattle.station_alone.specs.Station.{Station}
use Rattle.station_jobs.specs.declared.log.SlaveLog.{SlaveLog}
use Rattle.station_jobs.specs.Ends.{Stay}
use Rattle.kept_files.specs.Cuts.{IsKeptPair}
use Rattle.kept_files.specs.DeskFiles.{PartOnFiles}
use Rattle.kept_files.proofs.Extending.{first_stays}
use Rattle.kept_files.proofs.AtDeskOnFiles.{flushed_follows, worked_follows}
use Rattle.kept_wire.specs.Keeping.{HoldsAfter, SlaveOnWire, DeskOnWire, CutLeavesKeptOnWire}
use Rattle.kept_wire.proofs.Keeping.{site_keeps_on_wire, site_serves_on_wire, part_is_on_wire, disk_is_on_file, holds_after}
use Rattle.station_threads.specs.Parts.{IsEndOfSlave}
use Rattle.station_threads.specs.declared.closing.Ends.{Ends}
use Rattle.station_files.specs.declared.faults.Fault.{Fault}
use Rattle.script_session.specs.After.{GoesFollowed}
use Rattle.script_session.specs.AtDesk.{PartsEnd, ServesParts, seen_of}
use Rattle.script_session.specs.Parts.{AreSound, BeginsWith, EndsWith, IsDeskReported, IsTogether, IsWorkFollowed, Telling}
use Rattle.script_session.specs.declared.closing.Ending.{Ending}
use Rattle.script_session.specs.declared.logs.DeskLog.{DeskLog}
use Rattle.script_session.specs.declared.logs.PartLog.{PartLog}
use Rattle.script_session.specs.declared.logs.RunLog.{RunLog}
use Rattle.script_session.specs.Recovering.{BeginsSessions}
use Rattle.script_session.specs.Running.{DeskTells, OfDevices, OfRecovery, RunGoes, Says, ServesOn, TellsOf, line_reported}
use Rattle.script_session.proofs.RecoveryLaws.{kept-each}
use Rattle.script_session.proofs.RunLaws.{some_weaker}
use Rattle.script_session.proofs.SlaveLaws.{placed-at}
use Rattle.script_session.proofs.LeftLaws.{first, opened-on, placed-back}
use Rattle.script_session.proofs.ReportedLaws.{at-place, reported-work}
use Rattle.script_session.proofs.SaysLaws.{parts_of, run_as}
use Rattle.wire_session.specs.Keeping.{TellsDone, KeepsAsReported, ServesAsReported, HasOpened, BeginParts, TellsDesk, KeepsParts, HoldTogether, KeepsAtDesk}
use Rattle.wire_session.specs.Keeping.{KeepsEach, OfRecovered, OfWire}
use Rattle.wire_session.proofs.SlavesHeld.{follows, well, tells}

told_calls : (calls : Log) (reported : Option (List Asked)) (all : List Asked) → HasLog calls all → TellsLog calls reported → IfSome reported (λ told. told ≡ all)
told_calls calls None all has says = tt
told_calls calls (Some told) all has says = append_cancel_left calls.begun.value told all (sym says ∙ has)

-- for each machine that was kept before
keeps_each : (F : Type 0) (before : Seen) (station : Station) (ends : Ends SiteValue) (reported : DeskLog WireLog) → BeginsSessions before station
    → (keeps : KeepsParts F before.state station ends reported) → KeepsEach before.state station ends keeps.desk
keeps_each F before station ends reported sessions keeps machine calls begun pair kept answered none sound cut =
    let each = kept-each station sessions.here sessions.stands calls none sound before sessions.begins machine kept in
    each.1 pair (keeps.kept (blank (base_of station.book)) calls begun pair each.0 answered cut)

-- devices that have a device on a wire inside
module _ {L F C D : Type 0} (within : D → WireDevice L F C) where
  told_done : (device : D) (all : List Doing) → HasLog (within device).journal.asking.calls (asked_by all) → HasSent (within device).sender.log.all (sent_by all)
      → (reported : WireLog) → tells within device reported → TellsDone all reported
  told_done device all asked sent reported told = record {
    asked = told_calls (within device).journal.asking.calls reported.journal.calls (asked_by all) asked told.journal.calls;
    sent = ap exchanges told.sent ∙ sent;
  }

  -- ON ONE THREAD

  goes_on_wire : (reported : Option WireLog) (before now : Seen) → before.past ≡ [] → GoesFollowed (TellsOf (follows within) (tells within) reported) before now
      → IsSomeAnd reported (KeepsAsReported before now)
  goes_on_wire None before now new stage = absurd stage.followed.1.1
  goes_on_wire (Some reported) before now new stage =
      let device = stage.followed.0 in
      let kept = site_keeps_on_wire L F C (within device) before now stage.followed.1.0 new (first_stays before now new stage.goes.goes_on) stage.goes.keeps in
      record { keeps = kept.0; told = told_done device kept.0.all kept.1 kept.2 reported stage.followed.1.1 }

  serves_on_wire : (reported : Option WireLog) (commands : List Command) (before now : Seen) → before.past ≡ []
      → ServesOn (TellsOf (follows within) (tells within) reported) commands before now → IsSomeAnd reported (ServesAsReported commands before now)
  serves_on_wire None commands before now new serves = absurd serves.followed.1.1
  serves_on_wire (Some reported) commands before now new serves =
      let device = serves.followed.0 in
      let kept = site_serves_on_wire L F C (within device) commands before now serves.followed.1.0 new (first_stays before now new serves.goes_on) serves.keeps in
      record { keeps = kept.0; told = told_done device kept.0.all kept.1 kept.2 reported serves.followed.1.1 }

  -- WHAT FILE AND SLAVES ARE AFTER A DEVICE

  module _ (device : D) (now : Seen) (kept : follows within device now) (begun : State) (begins : first_of now ≡ begun) where
    done : HasDone (within device) now
    done = (leaves_together L F C (within device) now kept).0

    holds : well within device → now.is_stopped ≡ false → HoldsAfter done.all begun now.state
    holds = holds_after (within device) now kept begun begins done

    journal_holds : well within device → now.is_stopped ≡ false → (calls : List Asked) (file later : File) → HasLog (within device).journal.asking.calls calls
        → HoldsDisk begun.disk file → BecomesBy (of_file JournalFile calls) file later → HoldsDisk now.state.disk later
    journal_holds sound running calls file later has held became =
        let same : calls ≡ asked_by done.all =
        append_cancel_left (within device).journal.asking.calls.begun.value calls (asked_by done.all) (sym has ∙ done.asked) in
        (holds sound running).journal file later held (subst (λ (l : List Asked). BecomesBy (of_file JournalFile l) file later) same became)

    slave_follows : well within device → now.is_stopped ≡ false → (all : List Doing) → HasSent (within device).sender.log.all (sent_by all)
        → (slave : ℕ) (old half real later : SlaveHalf) → slice_get begun.halves slave ≡ Some old → slice_get now.state.halves slave ≡ Some half
        → old.station ≡ address slave → IsAfter old real → Lives (sent_by all) real later → IsAfter half later
    slave_follows sound running all has slave old half real later at_first at_now at after lives =
        let same : sent_by all ≡ sent_by done.all = sym has ∙ done.sent in
        (holds sound running).slaves slave old half real later at_first at_now at after (subst (λ (l : List Exchanged). Lives l real later) same lives)

  -- A DESK

  module _ (law : CutLeavesKeptOnWire F SiteValue) (before : Seen) (began : before.past ≡ []) (station : Station) (led : first_of station.seen ≡ before.state)
      (synced : station.seen.state.disk ≡ of_bytes station.seen.state.disk.bytes) (parts : PartsEnd station) (reported : DeskLog WireLog)
      (tellings : IsDeskReported (follows within) (well within) (tells within) station.seen reported parts.ends) where
    line_opened : HasOpened before.state station.seen.state reported.line
    line_opened =
        let line = tellings.before in
        let all = done line.0 station.seen line.1.0 before.state led in
        record {
          all = all.all;
          told = told_done line.0 all.all all.asked all.sent reported.line.reported line.1.1;
          hold = λ sound. let so = line.1.2 sound in holds line.0 station.seen line.1.0 before.state led so.0 so.1;
        }

    disk_begins : first_of parts.ends.flusher.site.seen ≡ parts.ends.flusher.start.seen.state
    disk_begins =
        first_stays parts.ends.flusher.start.seen parts.ends.flusher.site.seen (ap (λ (s : SiteValue). s.seen.past) parts.of_sites.flusher ∙ parts.separate.new)
        (flushed_follows parts.ends.flusher.log parts.ends.flusher.start.seen parts.ends.flusher.site.seen tellings.flushed)

    journal_part : PartOnFiles F (is_same JournalFile) parts.ends.flusher.start.seen parts.ends.flusher.site.seen
    journal_part = record {
      device = (within tellings.disk.0).journal;
      follow = λ begun held.
          disk_is_on_file L F C (within tellings.disk.0) parts.ends.flusher.start.seen parts.ends.flusher.site.seen tellings.disk.1.0 disk_begins begun (held JournalFile refl);
    }

    module _ (slave : ℕ) (end : Stay SiteValue SlaveLog) (here : slice_get parts.ends.workers.items slave ≡ Some end) where
      abbrev work : (part : PartLog WireLog) × (slice_get reported.slaves.items slave ≡ Some part)
          × IsWorkFollowed (Telling (follows within) (well within) (tells within) part) end
      work = reported-work (follows within) (well within) (tells within) reported.slaves.items parts.ends.workers.items tellings.slaves slave end here

      -- the part's site, and the half that it began with
      abbrev worker : (site : SiteValue) × (slice_get parts.sites.slaves.items slave ≡ Some site) × IsEndOfSlave (0 + slave) site end
      worker =
          placed-back (λ place (x : SiteValue) (e : Stay SiteValue SlaveLog). IsEndOfSlave place x e) 0 parts.sites.slaves.items parts.ends.workers.items slave end
          parts.of_sites.workers here

      abbrev began_with : (half : SlaveHalf) × (slice_get station.seen.state.halves slave ≡ Some half) × BeginsWith (0 + slave) half worker.0
      began_with = placed-back BeginsWith 0 station.seen.state.halves parts.sites.slaves.items slave worker.0 parts.separate.slaves worker.1

      slave_begins : first_of end.site.seen ≡ end.start.seen.state
      slave_begins =
          first_stays end.start.seen end.site.seen (ap (λ (s : SiteValue). s.seen.past) worker.2.start ∙ began_with.2.new)
          (worked_follows end.log.slave end.log.jobs end.start.seen end.site.seen work.2.worked)

      slave_part : (part : SlaveOnWire end.start.seen end.site.seen) × HasLog (within work.2.followed.0).journal.asking.calls (asked_by part.all)
          × HasSent (within work.2.followed.0).sender.log.all (sent_by part.all)
      slave_part = part_is_on_wire L F C (within work.2.followed.0) end.start.seen end.site.seen work.2.followed.1.0 slave_begins

      same_half : slice_get end.start.seen.state.halves slave ≡ slice_get station.seen.state.halves slave
      same_half =
          let same_place : 0 + slave ≡ slave = omega arith in
          ap (λ (s : SiteValue). slice_get s.seen.state.halves slave) worker.2.start
          ∙ subst (λ (k : ℕ). slice_get worker.0.seen.state.halves k ≡ Some began_with.0) same_place began_with.2.has ∙ sym began_with.1

    begin_parts : BeginParts station.seen.state parts.ends
    begin_parts = record {
      disk = ap (λ (s : SiteValue). s.seen.state.disk) parts.of_sites.flusher ∙ parts.separate.disk ∙ sym synced;
      slaves = same_half;
    }

    desk : DeskOnWire F seen_of parts.ends.flusher parts.ends.workers.items
    desk = record { journal = journal_part; slaves = λ slave end here. (slave_part slave end here).0 }

    tells_desk : TellsDesk parts.ends desk reported
    unfolding desk journal_part
    tells_desk = record {
      journal = tellings.disk.1.1.journal.calls;
      slaves = λ slave end is.
          let part = slave_part slave end is in
          let w = work slave end is in
          (w.0, w.1, told_done w.2.followed.0 part.0.all part.1 part.2 w.0.reported w.2.followed.1.1);
    }

    abbrev old : State
    old = record station.seen.state { disk = of_bytes station.seen.state.disk.bytes }

    keeps_parts : KeepsParts F before.state station parts.ends reported
    keeps_parts = record {
      opened = line_opened;
      begin = begin_parts;
      desk = desk;
      kept = λ machine calls begun pair begins answered cut.
          subst (λ (b : Book). IsKeptPair machine (replayed b calls) pair) (sym begins.book)
          (law seen_of parts.ends.flusher parts.ends.workers.items desk machine begins.journal old calls begun pair
          (opened-on station calls parts.sites parts.ends parts.separate parts.of_sites machine begins)
          (subst (λ (b : Book). AreAnswered b calls) begins.book answered)
          (first station calls parts.sites parts.ends parts.separate parts.of_sites) cut);
      told = tells_desk;
    }

    -- where the parts ended soundly
    module _ (site : SiteValue) (together : IsTogether parts.ends site) (sound : AreSound reported)
        (all_synced : parts.ends.flusher.site.seen.state.disk ≡ of_bytes parts.ends.flusher.site.seen.state.disk.bytes) where
      slave_together : (slave : ℕ) (end : Stay SiteValue SlaveLog) (is : slice_get parts.ends.workers.items slave ≡ Some end) (old half real later : SlaveHalf)
          → slice_get end.start.seen.state.halves slave ≡ Some old → slice_get site.seen.state.halves slave ≡ Some half
          → old.station ≡ address slave → IsAfter old real → Lives (sent_by (slave_part slave end is).0.all) real later → IsAfter half later
      slave_together slave end is old half real later at_first at_site at after lives =
          let w = work slave end is in
          let well_so = w.2.followed.1.2 (at-place (λ (part : PartLog _). IsTrue part.is_sound) reported.slaves.items slave w.0 sound.slaves w.1) in
          let back = placed-at EndsWith 0 parts.ends.workers.items site.seen.state.halves slave end together.halves is in
          let same_place : 0 + slave ≡ slave = omega arith in
          let at_end : slice_get end.site.seen.state.halves slave ≡ Some half =
          subst (λ (k : ℕ). slice_get end.site.seen.state.halves k ≡ Some back.0) same_place back.2 ∙ sym back.1 ∙ at_site in
          slave_follows w.2.followed.0 end.site.seen w.2.followed.1.0 end.start.seen.state (slave_begins slave end is) well_so.0 well_so.1
          (slave_part slave end is).0.all (slave_part slave end is).2 slave old half real later at_first at_end at after lives

      hold_together : HoldTogether parts.ends keeps_parts.desk site
      unfolding keeps_parts desk journal_part
      hold_together = record {
        journal = λ calls file later has held became.
            let well_so = tellings.disk.1.2 sound.disk in
            let end = parts.ends.flusher.site.seen in
            subst (λ (d : Disk). HoldsDisk d later) (all_synced ∙ sym together.disk)
            (journal_holds tellings.disk.0 end tellings.disk.1.0 parts.ends.flusher.start.seen.state disk_begins well_so.0 well_so.1 calls file later has held became);
        slaves = slave_together;
      }

  module _ (law : CutLeavesKeptOnWire F SiteValue) (before : Seen) (began : before.past ≡ []) where
    abbrev Opens : RunLog WireLog → Station → Type 0
    Opens reported station = GoesFollowed (TellsOf (follows within) (tells within) (line_reported reported.desk reported.opening)) before station.seen

    led_by : (reported : RunLog WireLog) (station : Station) → Opens reported station → first_of station.seen ≡ before.state
    led_by reported station stage = first_stays before station.seen began stage.goes.goes_on

    parts_on_wire : (desk : Option (DeskLog WireLog)) (station : Station) → first_of station.seen ≡ before.state
        → station.seen.state.disk ≡ of_bytes station.seen.state.disk.bytes → (parts : PartsEnd station)
        → IsSomeAnd desk (λ one. IsDeskReported (follows within) (well within) (tells within) station.seen one parts.ends)
        → IsSomeAnd desk (KeepsParts F before.state station parts.ends)
    parts_on_wire None station led synced parts tellings = absurd tellings
    parts_on_wire (Some reported) station led synced parts tellings = keeps_parts law before began station led synced parts reported tellings

    desk_on_wire : (desk : Option (DeskLog WireLog)) (station : Station) → first_of station.seen ≡ before.state
        → station.seen.state.disk ≡ of_bytes station.seen.state.disk.bytes → (commands : List Command) (ending : Ending) (site : SiteValue)
        (sound : Result (Unit {0}) Fault) (ended : ServesParts station commands ending site)
        → DeskTells (follows within) (well within) (tells within) desk station sound ended.desk.ends
        → IsSomeAnd desk (KeepsAtDesk F before.state station sound ended.desk.ends site)
    desk_on_wire None station led synced commands ending site sound ended tell = absurd tell
    desk_on_wire (Some reported) station led synced commands ending site (Ok _) ended tell =
        let parts = parts_of station commands ending ended.desk in
        record {
          parts = keeps_parts law before began station led synced parts reported tell.0;
          together = hold_together law before began station led synced parts reported tell.0 site ended.together tell.1.0 tell.1.1;
        }
    desk_on_wire (Some reported) station led synced commands ending site (Err fault) ended tell =
        record { parts = keeps_parts law before began station led synced (parts_of station commands ending ended.desk) reported tell.0; together = tt }

    abbrev Before : RunLog WireLog → Says
    Before reported = OfDevices (follows within) (well within) (tells within) reported

    module _ (reported : RunLog WireLog) (Failed Told : Type 0) (tells_it : Failed → Told) where
      pub run_on_wire : (commands : List Command) → RunGoes (Before reported) before commands Failed
          → RunGoes (OfWire F before.state reported) before commands Told
      run_on_wire =
          run_as (Before reported) (OfWire F before.state reported) Failed Told tells_it (λ none. none) before began
          (λ now stage. goes_on_wire (line_reported reported.desk reported.opening) before now began stage) (goes_on_wire reported.after)
          (serves_on_wire reported.after)
          (λ station stage. parts_on_wire reported.desk station (led_by reported station stage))
          (λ station stage. desk_on_wire reported.desk station (led_by reported station stage))

      -- of a recovery
      pub recovery_on_wire : RunGoes (OfRecovery before (Before reported)) before [] Failed → RunGoes (OfRecovered F before reported) before [] Told
      recovery_on_wire =
          run_as (OfRecovery before (Before reported)) (OfRecovered F before reported) Failed Told tells_it (λ none. none) before began
          (λ now stage. goes_on_wire (line_reported reported.desk reported.opening) before now began stage)
          (λ left now new goes. (goes.0, goes_on_wire reported.after left now new goes.1)) (serves_on_wire reported.after)
          (λ station stage synced ended tell.
          some_weaker reported.desk (λ desk so. (so, keeps_each F before station ended.ends desk tell.0 so))
          (parts_on_wire reported.desk station (led_by reported station stage) synced ended tell.1))
          (λ station stage synced commands ending site sound ended tell.
          some_weaker reported.desk (λ desk so. (so, keeps_each F before station ended.desk.ends desk tell.0 so.parts))
          (desk_on_wire reported.desk station (led_by reported station stage) synced commands ending site sound ended tell.1)) []
