-- What the files hold after a run on a wire.
use Rattle.std.proofs.Common.{◌≡◌, ◌⊎◌, ℕ, List, [], ◌++◌, length, map, None, Option, Some, Result, Ok, Err, inl, inr, refl, sym}
use Rattle.std.proofs.Common.{subst}
use Rattle.std.specs.Prelude.{IfOk, IfSome, IsErr, IsErrAnd, IsOkAnd, IsSomeAnd, OnOk, Vec}
use Rattle.std.specs.Global.{Global}
use Rattle.sii_edit.specs.declared.command.Command.{Command}
use Rattle.site_core.specs.State.{Seen}
use Rattle.site_shadow.specs.Site.{SiteValue}
use Rattle.station_alone.specs.Station.{Station}
use Rattle.station_alone.specs.Recovery.{HasRecovered}
use Rattle.station_text.specs.declared.line_file.LineFile.{LineFile}
use Rattle.station_files.specs.Files.{Known, ChangesAmong}
use Rattle.station_files.specs.Locations.{Leads}
use Rattle.station_files.specs.FileNames.{IsLineSeparate}
use Rattle.station_files.specs.ScriptFiles.{SpellsCommands}
use Rattle.station_files.specs.declared.faults.ExitStatus.{ExitStatus}
use Rattle.station_line.specs.declared.answered.Answered.{Answered}
use Rattle.station_line.specs.declared.answered.Answered.TheVariants.{AllAccepted}
use Rattle.station_line.specs.Answers.{AnswersGive}
use Rattle.station_line.specs.Site.{IsSiteOf, files_of}
use Rattle.station_line.specs.Validating.{HasJournal, IsRunSeparate}
use Rattle.wire_faults.specs.declared.faults.WireFault.{WireFault}
use Rattle.wire_faults.specs.Faults.{IsOfStream}
use Rattle.wire_scan.specs.Keeping.{AreMends, AreOfImages, MendsFiles}
use Rattle.wire_scan.specs.Opening.{IsFound}
use Rattle.wire_scan.specs.declared.asked.Mend.{Mend}
use Rattle.wire_scan.specs.declared.opening.FoundWire.{FoundWire}
use Rattle.wire_session.specs.declared.running.RunInputs.{RunInputs}
use Rattle.wire_session.specs.Running.{BeginsWithMends, EndsFound, MendsLine, RunsScript, SavesFound}
use Rattle.site_wire.specs.declared.device.WireLog.{WireLog}
use Rattle.script_session.specs.declared.logs.DeskLog.{DeskLog}
use Rattle.script_session.specs.declared.logs.LineLog.{LineLog}
use Rattle.script_session.specs.declared.running.LineRun.{LineRun}
use Rattle.script_session.specs.Running.{HasEnded, IsNoneReported, RunGoes, SavesSite, Says, whole_of}
use Rattle.script_session.proofs.SaysLaws.{fails_as}
use Rattle.wire_session.specs.declared.logs.Worked.{Worked}
use Rattle.wire_session.specs.Keeping.{IsUnbegun, KeepsFound}
use Rattle.wire_session.specs.Reporting.{IsExplained, IsReported}
use Rattle.wire_session.specs.Slaves.{AllHold}
use Rattle.wire_session.proofs.Endings.{ends_after_open, fault_stays, stream_stays}

-- ---- the line was run

-- a run has ended with this status
abbrev pub EndsWith : {T : Type 0} → LineRun T → ExitStatus → Type 0
EndsWith run = AnswersGive (λ answered. IsOkAnd run.ended (λ given. answered ≡ AllAccepted → (run.answers ≡ AllAccepted) × (given ≡ AllAccepted)))

pub saves_run : {T : Type 0} (Own : Type 0) (Way : Station → Type 0) (run : LineRun T) (given ended : Result ExitStatus WireFault) (new : Known) (line : LineFile)
    (site : SiteValue) (commands : List Command) → OnOk given (run.closed ≡ Ok tt) → IfOk given (EndsWith run)
    → IfOk ended (λ status. (given ≡ Ok status) × Own)
    → ((answered : Answered) → HasEnded run answered → SavesSite Way new line site commands answered)
    → IfOk ended (AnswersGive (SavesSite Way new line site commands))
saves_run Own Way run given (Ok status) new line site commands closed has is saves =
    let ends : EndsWith run status = subst (λ (r : Result ExitStatus WireFault). IfOk r (EndsWith run)) is.0 has in
    record {
      answered = ends.answered;
      is = ends.is;
      so = saves ends.answered (record {
        closed = subst (λ (r : Result ExitStatus WireFault). OnOk r (run.closed ≡ Ok tt)) is.0 closed;
        ended = ends.so;
      });
    }
saves_run Own Way run given (Err fault) new line site commands closed has is saves = tt

-- a run that failed is told so
pub run_fails : {T : Type 0} (run : LineRun T) (given : Result ExitStatus WireFault) → IfOk given (EndsWith run) → IsErr run.ended → IsErr given
run_fails run (Ok status) has failed = never _ run.ended has.so failed
  where
    never : {A E : Type 0} {Q : Type 0} (P : A → Type 0) (ended : Result A E) → IsOkAnd ended P → IsErr ended → Q
    never P (Ok given) was failed = absurd cc
    never P (Err fault) was failed = absurd was
run_fails run (Err fault) has failed = refl

-- what is said of all that is told, where more is known of the desk
pub hold_whole : {T : Type 0} {P Q : LineLog T → Type 0} (R : DeskLog T → Type 0) (desk : Option (DeskLog T)) (after : Option T) → IfSome desk R
    → ((whole : LineLog T) → R whole.desk → P whole → Q whole) → IsSomeAnd (whole_of desk after) P → IsSomeAnd (whole_of desk after) Q
hold_whole R None after own says holds = absurd holds
hold_whole R (Some desk) None own says holds = absurd holds
hold_whole R (Some desk) (Some after) own says holds = says (record { desk = desk; after = after }) own holds

-- ---- the files of the line are opened

-- what holds of a value, and what else does
pub both_ok : {V E : Type 0} (P Q : V → Type 0) (result : Result V E) → IfOk result P → IfOk result Q → IfOk result (λ value. P value × Q value)
both_ok P Q (Ok value) one other = (one, other)
both_ok P Q (Err fault) one other = tt

pub ends_found : {Own : Type 0} (Way : Station → Type 0) (worked : Worked ExitStatus WireLog) (old mid new : Known) (line : LineFile) (plant : List (List ℕ))
    (bytes : List ℕ) (site : SiteValue) (commands : List Command) → ChangesAmong old mid (files_of line) → IsSiteOf plant bytes site
    → ((s : Station) → HasRecovered s → Own → Way s → AllHold plant worked.reported s)
    → ChangesAmong mid new (files_of line) → IfOk worked.ended (λ status. Own) → IfOk worked.ended (AnswersGive (SavesSite Way new line site commands))
    → EndsFound worked old new line plant bytes commands
ends_found {Own} Way worked old mid new line plant bytes site commands opened made hold others own saved =
    ends_after_open (λ status. Own × AnswersGive (SavesSite Way new line site commands) status) (λ status. SavesFound new line plant bytes commands worked.reported status)
    worked.ended old mid new line opened
    (λ status saves. record {
      site = site;
      made = made;
      saves = record { answered = saves.1.answered; is = saves.1.is; so = saves.1.so.saves };
      slaves = λ driven. let led = saves.1.so.followed driven in (led.s, led.recovered, led.held, hold led.s led.recovered saves.0 led.way);
    }) others (both_ok (λ status. Own) (AnswersGive (SavesSite Way new line site commands)) worked.ended own saved)

-- what is told after the work changes nothing of what was kept
pub keeps_as_reported : {T : Type 0} (says : Says) (worked : Worked T WireLog) (explained result : Result T WireFault) (before : Seen) (commands : List Command)
    → before.past ≡ [] → IsExplained worked.ended explained → IsReported explained result → IsUnbegun worked ⊎ RunGoes says before commands (IsErr worked.ended)
    → IsUnbegun (record { ended = result; reported = worked.reported }) ⊎ RunGoes says before commands (IsErr result)
keeps_as_reported says worked explained result before commands began explains reports (inl unbegun) =
    inl (record { failed = stream_stays worked.ended explained result explains reports unbegun.failed; none = unbegun.none })
keeps_as_reported says worked explained result before commands began explains reports (inr kept) =
    inr (fails_as says (IsErr worked.ended) (IsErr result) (fault_stays worked.ended explained result explains reports) before commands began kept)

-- no device has had the line
pub unbegun : {T : Type 0} (worked : Worked T WireLog) (fault : WireFault) → worked.ended ≡ Err fault → IsOfStream fault → IsNoneReported worked.reported
    → IsUnbegun worked
unbegun {T} worked fault is stream none =
    record { failed = subst (λ (r : Result T WireFault). IsErrAnd r IsOfStream) (sym is) stream; none = none }

-- ---- the whole

-- nothing was written before the line was looked for
pub found_after : (old mid : Known) (name : List ℕ) (line : LineFile) (plant : List (List ℕ)) (bytes : List ℕ) → mid ≡ old
    → IsFound mid name line plant bytes → IsFound old name line plant bytes
found_after old mid name line plant bytes same found = subst (λ (files : Known). IsFound files name line plant bytes) same found

pub runs : (F : Type 0) (worked : Worked ExitStatus WireLog) (said : List Mend) (leads : Leads) (old found new : Known) (name script : List ℕ) (line : LineFile)
    (plant : List (List ℕ)) (bytes : List ℕ) (commands : List Command) → IsFound old name line plant bytes
    → HasJournal (map length plant) bytes → AreOfImages old line said bytes plant → BeginsWithMends old line said bytes plant script commands → IsRunSeparate leads line name script
    → found ≡ old → EndsFound worked found new line plant bytes commands → KeepsFound F worked plant bytes commands
    → RunsScript F worked said leads old new name script
runs F worked said leads old found new name script line plant bytes commands given validated kept spelt separate same ends keeps =
    let P : Known → Type 0 = λ files. EndsFound worked files new line plant bytes commands in
    inr (record {
      line = line;
      plant = plant;
      bytes = bytes;
      found = given;
      validated = validated;
      kept = kept;
      commands = commands;
      spelt = spelt;
      separate = separate;
      ends = subst P same ends;
      keeps = keeps;
    })

-- the same where image files were to be written to their slaves
pub mends : (F : Type 0) (worked : Worked ExitStatus WireLog) (said : List Mend) (leads : Leads) (old found new : Known) (name : List ℕ) (line : LineFile)
    (plant begun : List (List ℕ)) (bytes : List ℕ) (commands : List Command) → IsFound old name line plant bytes
    → HasJournal (map length plant) bytes → AreOfImages old line said bytes plant → AreMends said commands
    → MendsFiles old line said bytes plant begun commands → IsLineSeparate leads line name → found ≡ old → EndsFound worked found new line plant bytes commands → KeepsFound F worked plant bytes commands
    → MendsLine F worked said leads old new name
mends F worked said leads old found new name line plant begun bytes commands given validated kept said_so mended separate same ends keeps =
    let P : Known → Type 0 = λ files. EndsFound worked files new line plant bytes commands in
    inr (record {
      line = line;
      plant = plant;
      bytes = bytes;
      found = given;
      validated = validated;
      kept = kept;
      begun = begun;
      mends = commands;
      said_so = said_so;
      mended = mended;
      separate = separate;
      ends = subst P same ends;
      keeps = keeps;
    })

-- the image files were loaded after the script
pub kept_after : (old mid : Known) (line : LineFile) (said : List Mend) (bytes : List ℕ) (plant : List (List ℕ)) → mid ≡ old
    → AreOfImages mid line said bytes plant → AreOfImages old line said bytes plant
kept_after old mid line said bytes plant same kept = subst (λ (files : Known). AreOfImages files line said bytes plant) same kept

-- what is said of a line that was found, where its commands were taken out
pub for_given : {L E : Type 0} (result : Result (RunInputs L) E) (found : FoundWire L) (P : FoundWire L → Type 0)
    → IfOk result (λ given. given.found ≡ record found { mends = given.found.mends }) → ((mends : Vec Command Global) → P (record found { mends = mends }))
    → IfOk result (λ given. P given.found)
for_given (Ok given) found P same holds = subst P (sym same) (holds given.found.mends)
for_given (Err fault) found P same holds = tt

-- the commands that are said, and those of the script after them
pub with_script : {L E : Type 0} (result : Result (RunInputs L) E) (found : FoundWire L) (old mid : Known) (said : List Mend) (script : List ℕ)
    (after : List Command) → mid ≡ old → IfOk result (λ given. given.found ≡ record found { mends = given.found.mends })
    → IfOk result (λ given. given.commands.items ≡ found.mends.items ++ after) → AreMends said found.mends.items
    → MendsFiles mid found.line said found.journal.items found.slaves.items found.images.items found.mends.items → SpellsCommands old script after
    → IfOk result (λ given. BeginsWithMends old given.found.line said given.found.journal.items given.found.slaves.items script given.commands.items)
with_script {L} {E} (Ok given) found old mid said script after same is all said_so mended spelt =
    subst (λ (f : FoundWire L). BeginsWithMends old f.line said f.journal.items f.slaves.items script given.commands.items) (sym is) (record {
      begun = found.images.items;
      mends = found.mends.items;
      after = after;
      said_so = said_so;
      mended = subst (λ (files : Known). MendsFiles files found.line said found.journal.items found.slaves.items found.images.items found.mends.items)
          same mended;
      spelt = spelt;
      all = all;
    })
with_script (Err fault) found old mid said script after same is all said_so mended spelt = tt
