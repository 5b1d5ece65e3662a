-- What the files of a line hold after a run or a recovery.
use Rattle.std.proofs.Common.{◌≡◌, ℕ, Bool, true, false, List, refl, sym, ◌∙◌, subst, inl, inr, Result, Ok, Err}
use Rattle.std.specs.Prelude.{◌⊎◌, IfOk, IsErr, IsOkAnd, IsSomeAnd, OnErr, OnOk}
use Rattle.std.proofs.lemmas.Result.{IfOk-weaker}
use Rattle.sii_edit.specs.declared.command.Command.{Command}
use Rattle.site_core.specs.State.{State, Seen}
use Rattle.site_shadow.specs.Site.{SiteValue}
use Rattle.station_alone.specs.Station.{Station}
use Rattle.station_text.specs.declared.line_file.LineFile.{LineFile}
use Rattle.station_files.specs.Faults.{IsFaultless}
use Rattle.station_files.specs.Files.{Known, ChangesAmong}
use Rattle.station_files.specs.FileNames.{IsLineSeparate}
use Rattle.station_files.specs.Locations.{Leads}
use Rattle.station_files.specs.ScriptFiles.{SpellsCommands}
use Rattle.station_files.specs.declared.faults.Fault.{Fault}
use Rattle.station_files.specs.declared.faults.ExitStatus.{ExitStatus}
use Rattle.station_files.specs.declared.faults.ExitStatus.TheVariants.{Done, Refused}
use Rattle.station_files.specs.declared.faults.ExitStatus.TheVariants as ends
use Rattle.station_line.specs.Validating.{HasJournal, IsRunSeparate}
use Rattle.station_line.specs.Site.{files_of, HoldsSite}
use Rattle.station_line.specs.Rounds.{ServesSo}
use Rattle.station_line.specs.declared.answered.Answered.{Answered}
use Rattle.station_line.specs.declared.answered.Answered.TheVariants.{AllAccepted, OutOfMemory, SomeRefused}
use Rattle.station_line.specs.Answers.{AnswersGive, exit_status}
use Rattle.station_line.proofs.Answering.{all_accepted}
use Rattle.station_line.specs.Opened.{is_old, Loads, StartsFrom}
use Rattle.station_session.specs.RunFiles.{IsAllReported, RecoveryKeepsFiles}
use Rattle.station_session.specs.declared.run.Ran.{Ran}
use Rattle.station_session.specs.Session.{EndsRecovery, EndsRun, HaveContents, RecoversFiles, RunsFiles}
use Rattle.script_session.specs.After.{SavesRecovered}
use Rattle.script_session.specs.Saving.{SavesRun, SavesServed}
use Rattle.site_file.specs.declared.asking.FileLog.{FileLog}
use Rattle.script_session.specs.declared.logs.RunLog.{RunLog}
use Rattle.script_session.specs.declared.running.LineRun.{LineRun}
use Rattle.script_session.specs.Running.{HasEnded, IsNoneReported, SavesSite, whole_of}

-- ---- a station that was opened

done-faultless : (status : ExitStatus) → status ≡ Done → IsFaultless status
done-faultless status done = subst IsFaultless (sym done) tt

-- the answers that give a status
abbrev pub answers_of : ExitStatus → Answered
answers_of Done = AllAccepted
answers_of Refused = SomeRefused
answers_of status = OutOfMemory

of_faultless : (status : ExitStatus) → IsFaultless status → status ≡ exit_status (answers_of status)
of_faultless Done well = refl
of_faultless Refused well = refl
of_faultless ends.Usage well = absurd well
of_faultless ends.File well = absurd well
of_faultless ends.Device well = absurd well
of_faultless ends.Memory well = absurd well

all_of : (status : ExitStatus) → answers_of status ≡ AllAccepted → status ≡ Done
all_of Done all = refl
all_of Refused all = absurd cc
all_of ends.Usage all = absurd cc
all_of ends.File all = absurd cc
all_of ends.Device all = absurd cc
all_of ends.Memory all = absurd cc

-- what the files hold after a station on one thread, if neither its work nor saving failed
pub saves-by : (new : Known) (line : LineFile) (commands : List Command) (opened left : Station) (served saved : Result (Unit {0}) Fault) (state : State) (answered : Answered) → ServesSo commands served AllAccepted answered opened left
    → state ≡ left.seen.state → OnOk saved (HoldsSite new line state) → OnOk served (OnOk saved (SavesServed new line opened commands answered))
saves-by new line commands opened left (Ok done) (Ok kept) state answered so is held = record {
  s = left;
  accepted = so.submits.accepted;
  goes = so.submits.goes;
  among = so.submits.among;
  all = λ all. (so.submits.all all).1;
  served = so.served;
  held = subst (λ (s : State). HoldsSite new line s) is held;
}
saves-by new line commands opened left (Ok done) (Err fault) state answered so is held = tt
saves-by new line commands opened left (Err fault) saved state answered so is held = tt

-- what holds where neither failed
on_both : (P : Type 0) (served saved : Result (Unit {0}) Fault) (one other : ExitStatus) → OnOk served (OnOk saved P) → OnErr served (¬ IsFaultless one) → OnErr saved (¬ IsFaultless other)
    → IsFaultless one × IsFaultless other → P
on_both P (Ok done) (Ok kept) one other holds bad worse good = holds
on_both P (Ok done) (Err fault) one other holds bad worse good = absurd (worse good.1)
on_both P (Err fault) saved one other holds bad worse good = absurd (bad good.0)

pub ends-station : (old new : Known) (line : LineFile) (site : SiteValue) (was_old : Bool) (opened : Station) (commands : List Command) (answered : Answered) (served saved : Result (Unit {0}) Fault) (answers one other ended final : ExitStatus)
    → was_old ≡ is_old site.seen.state.disk.bytes → StartsFrom was_old site opened → ChangesAmong old new (files_of line) → OnOk served (OnOk saved (SavesServed new line opened commands answered)) → answers ≡ exit_status answered
    → OnErr served (¬ IsFaultless one) → OnErr saved (¬ IsFaultless other) → (IsFaultless ended → IsFaultless one × IsFaultless other) → (final ≡ Done → (answers ≡ Done) × (ended ≡ Done)) → (IsFaultless final → IsFaultless answers × IsFaultless ended)
    → EndsRun true old new line site commands final
ends-station old new line site was_old opened commands answered served saved answers one other ended final by_version starts others saves is no_fault no_other each done_too faultless_too = record {
  others = others;
  saved = λ good.
      let held = on_both (SavesServed new line opened commands answered) served saved one other saves no_fault no_other (each (faultless_too good).1) in
      record {
        answered = answers_of final;
        is = of_faultless final good;
        so = record {
          opened = opened;
          starts = subst (λ (b : Bool). StartsFrom b site opened) by_version starts;
          serves = record {
            s = held.s;
            accepted = held.accepted;
            goes = held.goes;
            among = held.among;
            all = λ all. held.all (all_accepted answered (sym is ∙ (done_too (all_of final all)).0));
            served = held.served;
            held = held.held;
          };
        };
      };
}

-- ---- a run by threads

-- where a status is without a fault, so is what it came from
ok_of : {A : Type 0} (result : Result A Fault) (P : A → Type 0) (one : ExitStatus) → OnErr result (¬ IsFaultless one) → IfOk result P → IsFaultless one → IsOkAnd result P
ok_of (Ok value) P one bad holds good = holds
ok_of (Err fault) P one bad holds good = absurd (bad good)

closed_ok : (closed : Result (Unit {0}) Fault) (one : ExitStatus) → OnErr closed (¬ IsFaultless one) → IsFaultless one → closed ≡ Ok tt
closed_ok (Ok done) one bad good = refl
closed_ok (Err fault) one bad good = absurd (bad good)

-- The status of the answers at the desk, that of its fault and that of the rest are at most that of the run.
pub has_ended : {T : Type 0} (run : LineRun T) (answers one other both final : ExitStatus) → answers ≡ exit_status run.answers → OnErr run.closed (¬ IsFaultless one) → OnErr run.ended (¬ IsFaultless other)
    → IfOk run.ended (λ given. other ≡ exit_status given) → (both ≡ Done → (one ≡ Done) × (other ≡ Done)) → (IsFaultless both → IsFaultless one × IsFaultless other)
    → (final ≡ Done → (answers ≡ Done) × (both ≡ Done)) → (IsFaultless final → IsFaultless answers × IsFaultless both) → IsFaultless final
    → HasEnded run (answers_of final)
has_ended run answers one other both final by_answers no_fault no_other is both_done both_good final_done final_good good =
    let each = both_good (final_good good).1 in
    let Ends : Answered → Type 0 = λ given. answers_of final ≡ AllAccepted → (run.answers ≡ AllAccepted) × (given ≡ AllAccepted) in
    let done_by : (given : Answered) → other ≡ exit_status given → Ends given =
    λ given same all.
    let done = final_done (all_of final all) in (
      all_accepted run.answers (sym by_answers ∙ done.0),
      all_accepted given (sym same ∙ (both_done done.1).1),
    ) in
    record {
      closed = closed_ok run.closed one no_fault each.0;
      ended = ok_of run.ended Ends other no_other (IfOk-weaker run.ended (λ given. other ≡ exit_status given) Ends done_by is) each.1;
    }

-- a failure is told
pub told : {A : Type 0} (ended : Result A Fault) (other final : ExitStatus) → OnErr ended (¬ IsFaultless other) → (IsFaultless final → IsFaultless other)
    → IsErr ended → ¬ IsFaultless final
told (Ok value) other final bad good is = absurd cc
told (Err fault) other final bad good is = λ well. bad (good well)

-- a fault that is told after it ends the run as a fault, or the status stays
pub ends_run : {T : Type 0} (Way : Station → Type 0) (run : LineRun T) (old new : Known) (line : LineFile) (site : SiteValue) (commands : List Command)
    (status final : ExitStatus) → ChangesAmong old new (files_of line) → ((answered : Answered) → HasEnded run answered → SavesSite Way new line site commands answered)
    → (IsFaultless status → HasEnded run (answers_of status)) → (final ≡ status) ⊎ (¬ IsFaultless final) → EndsRun false old new line site commands final
ends_run Way run old new line site commands status final others saves ended (inl same) =
    subst (λ (s : ExitStatus). EndsRun false old new line site commands s) (sym same)
    (record { others = others; saved = λ good. record { answered = answers_of status; is = of_faultless status good; so = (saves (answers_of status) (ended good)).saves } })
ends_run Way run old new line site commands status final others saves ended (inr bad) = record { others = others; saved = λ good. absurd (bad good) }

-- ---- on files that were opened

-- a run ends so, also if the line's files were opened before and the site got another device
pub ends-run-opened : (old mid new : Known) (line : LineFile) (site on_files : SiteValue) (commands : List Command) (status : ExitStatus) → ChangesAmong old mid (files_of line) → on_files ≡ site
    → EndsRun false mid new line on_files commands status → EndsRun false old new line site commands status
ends-run-opened old mid new line site on_files commands status opened same ends = record {
  others = λ other out. ends.others other out ∙ opened other out;
  saved = λ good. subst (λ (s : SiteValue). AnswersGive (SavesRun false new line s commands) status) same (ends.saved good);
}

-- the other way of running isn't taken
pub run-cut : (is_cut way : Bool) (old new : Known) (line : LineFile) (site : SiteValue) (commands : List Command) (status : ExitStatus) → is_cut ≡ way → EndsRun way old new line site commands status → EndsRun is_cut old new line site commands status
run-cut is_cut way old new line site commands status is ends = subst (λ (b : Bool). EndsRun b old new line site commands status) (sym is) ends

-- ---- a station that couldn't be opened

pub ends-unopened : (is_cut : Bool) (old new : Known) (line : LineFile) (site : SiteValue) (commands : List Command) (status : ExitStatus) → ChangesAmong old new (files_of line) → ¬ IsFaultless status → EndsRun is_cut old new line site commands status
ends-unopened is_cut old new line site commands status others bad = record { others = others; saved = λ good. absurd (bad good) }

-- ---- a station that was recovered

-- the files of the line couldn't be opened
pub ends-unrecovered : (F : Type 0) (old new : Known) (line : LineFile) (before : Seen) (ran : Ran) → ran.is_begun ≡ false → IsNoneReported ran.reported
    → ChangesAmong old new (files_of line) → ¬ IsFaultless ran.status → EndsRecovery F old new line before ran
ends-unrecovered F old new line before ran never none others bad = record {
  others = others;
  kept = λ begun. absurd cc;
  unbegun = λ is. none;
  saved = λ done. absurd (bad (done-faultless ran.status done));
}

-- they could, with no other file changed
pub ends-recovery-opened : (F : Type 0) (old mid new : Known) (line : LineFile) (before : Seen) (ran : Ran) → ChangesAmong old mid (files_of line)
    → EndsRecovery F mid new line before ran → EndsRecovery F old new line before ran
ends-recovery-opened F old mid new line before ran opened ends =
    record { others = λ other out. ends.others other out ∙ opened other out; kept = ends.kept; unbegun = ends.unbegun; saved = ends.saved }

-- what holds where there is no fault
on-saved : {A : Type 0} (P : Type 0) (saved : Result A Fault) (one : ExitStatus) → OnOk saved P → OnErr saved (¬ IsFaultless one) → IsFaultless one → P
on-saved P (Ok kept) one holds bad good = holds
on-saved P (Err fault) one holds bad good = absurd (bad good)

-- `Saved` is said of what was saved, and the end has this status
pub ends-recovered : (F : Type 0) (Saved : Type 0) (old new : Known) (line : LineFile) (before : Seen) (ended : Result Answered Fault) (other final : ExitStatus)
    (reported : RunLog FileLog) → ChangesAmong old new (files_of line) → RecoveryKeepsFiles F before final reported → OnOk ended Saved
    → (IsAllReported reported → Saved → SavesRecovered (λ s. IsSomeAnd (whole_of reported.desk reported.after) (HaveContents before.state s.book)) new line before)
    → OnErr ended (¬ IsFaultless other) → (IsFaultless final → IsFaultless other × IsAllReported reported)
    → EndsRecovery F old new line before (record { is_begun = true; status = final; reported = reported })
ends-recovered F Saved old new line before ended other final reported others keeps saves says bad good = record {
  others = others;
  kept = λ begun. keeps;
  unbegun = λ never. absurd cc;
  saved = λ done. let well = good (done-faultless final done) in (well.1, says well.1 (on-saved Saved ended other saves bad well.0));
}

-- ---- the whole

pub runs : (leads : Leads) (is_cut : Bool) (old loaded new : Known) (name script : List ℕ) (line : LineFile) (site : SiteValue) (commands : List Command) (status : ExitStatus) → Loads old name line site → IsRunSeparate leads line name script
    → HasJournal site.line.sizes site.seen.state.disk.bytes → SpellsCommands old script commands → loaded ≡ old → EndsRun is_cut loaded new line site commands status → RunsFiles leads is_cut old new name script status
runs leads is_cut old loaded new name script line site commands status given separate journal spelt same ends =
    let P : Known → Type 0 = λ files. EndsRun is_cut files new line site commands status in
    record { line = line; site = site; loaded = given; separate = separate; journal = journal; commands = commands; spelt = spelt; ends = subst P same ends }

pub recovers : (F : Type 0) (leads : Leads) (old loaded new : Known) (name : List ℕ) (line : LineFile) (site : SiteValue) (ran : Ran) → Loads old name line site → IsLineSeparate leads line name
    → HasJournal site.line.sizes site.seen.state.disk.bytes → loaded ≡ old → EndsRecovery F loaded new line site.seen ran → RecoversFiles F leads old new name ran
recovers F leads old loaded new name line site ran given separate journal same ends =
    let P : Known → Type 0 = λ files. EndsRecovery F files new line site.seen ran in
    record { line = line; site = site; loaded = given; separate = separate; journal = journal; ends = subst P same ends }
