-- What the files hold after a recovery on a wire.
use Rattle.std.proofs.Common.{◌≡◌, ℕ, List, length, map, Result, Ok, Err, inl, inr, refl, sym, subst, ◌∙◌}
use Rattle.std.specs.Prelude.{⊤, IfErr, IfOk, IsErr, IsSomeAnd, OnOk, string_bytes}
use Rattle.site_core.specs.State.{Seen}
use Rattle.site_shadow.specs.Site.{SiteValue}
use Rattle.station_alone.specs.Station.{Station}
use Rattle.station_alone.specs.Recovery.{HasRecovered}
use Rattle.station_text.specs.declared.line_file.LineFile.{LineFile}
use Rattle.station_files.specs.Files.{Known, HasBytes, ChangesAmong}
use Rattle.station_files.specs.FileNames.{IsLineSeparate}
use Rattle.station_files.specs.LineFiles.{SpellsLine, SpellsSlaves}
use Rattle.station_files.proofs.Loaded.{of_held}
use Rattle.station_files.specs.Locations.{Leads}
use Rattle.station_line.specs.Site.{IsSiteOf, files_of, switched_on}
use Rattle.wire_faults.specs.declared.faults.WireFault.{WireFault}
use Rattle.wire_faults.specs.declared.faults.WireFault.TheVariants as wire
use Rattle.station_line.specs.Init as bench
use Rattle.station_line.specs.Validating.{HasJournal}
use Rattle.station_line.specs.Init.{Formats}
use Rattle.station_files.specs.declared.faults.Fault.TheVariants.{Exists}
use Rattle.site_wire.specs.declared.device.WireLog.{WireLog}
use Rattle.wire_scan.specs.Backup.{IsWithoutPast}
use Rattle.wire_scan.specs.Keeping.{AreOfImages}
use Rattle.wire_scan.specs.Opening.{IsFound}
use Rattle.wire_scan.specs.declared.asked.Mend.{Mend}
use Rattle.wire_session.specs.declared.logs.Worked.{Worked}
use Rattle.wire_session.specs.Keeping.{KeepsRecovered}
use Rattle.wire_session.specs.Recovery.{BeginsJournal, IsBegun, RefusesInit, EndsOpenedRecovery, Recovers}
use Rattle.wire_session.specs.Slaves.{AllHold}
use Rattle.wire_session.specs.Reporting.{IsPrinted}
use Rattle.station_files.specs.declared.faults.ExitStatus.{ExitStatus}
use Rattle.script_session.specs.declared.logs.LineLog.{LineLog}
use Rattle.script_session.specs.declared.running.LineRun.{LineRun}
use Rattle.script_session.specs.After.{SavesRecovered}
use Rattle.script_session.specs.Running.{whole_of}
use Rattle.script_session.proofs.AfterLaws.{saves_weaker}
use Rattle.script_session.proofs.RunLaws.{of_ended, some_weaker}
use Rattle.wire_session.proofs.Endings.{ends_after_open}
use Rattle.wire_session.proofs.RunEnds.{EndsWith, both_ok}

-- ---- the line is recovered

-- what was recovered is printed, or a fault is told
pub saves_recovery : {T : Type 0} (Own : Type 0) (Counted : Station → Type 0) (Way : LineLog T → Station → Type 0) (run : LineRun T) (given ended : Result ExitStatus WireFault)
    (result : Result (Unit {0}) WireFault) (new : Known) (line : LineFile) (before : Seen) → IfOk given (EndsWith run)
    → IfOk ended (λ status. (given ≡ Ok status) × Own) → IsPrinted ended result
    → OnOk run.ended (SavesRecovered (λ s. IsSomeAnd (whole_of run.reported.desk run.reported.after) (λ whole. Counted s × Way whole s)) new line before)
    → IfOk result (λ done. SavesRecovered (λ s. IsSomeAnd (whole_of run.reported.desk run.reported.after) (λ whole. Way whole s)) new line before)
saves_recovery Own Counted Way run given (Ok status) (Ok done) new line before has is printed saves =
    let ends : EndsWith run status = subst (λ (r : Result ExitStatus WireFault). IfOk r (EndsWith run)) is.0 has in
    saves_weaker (λ s recovered way. some_weaker (whole_of run.reported.desk run.reported.after) (λ whole both. both.1) way) (λ s begins. begins)
    (of_ended _ run.ended ends.so saves)
saves_recovery Own Counted Way run given (Ok status) (Err fault) new line before has is printed saves = tt
saves_recovery Own Counted Way run given (Err fault) result new line before has is printed saves =
    subst (λ (r : Result (Unit {0}) WireFault). IfOk r (λ done. SavesRecovered (λ s. IsSomeAnd (whole_of run.reported.desk run.reported.after)
    (λ whole. Way whole s)) new line before)) (sym printed) tt

-- what is known where it ended without a fault is so after that
pub own_printed : (Own : Type 0) (given ended : Result ExitStatus WireFault) (result : Result (Unit {0}) WireFault)
    → IfOk ended (λ status. (given ≡ Ok status) × Own) → IsPrinted ended result → IfOk result (λ done. Own)
own_printed Own given (Ok status) (Ok done) own printed = own.1
own_printed Own given (Ok status) (Err fault) own printed = tt
own_printed Own given (Err fault) result own printed = subst (λ (r : Result (Unit {0}) WireFault). IfOk r (λ done. Own)) (sym printed) tt

pub fails_printed : (ended : Result ExitStatus WireFault) (result : Result (Unit {0}) WireFault) → IsPrinted ended result → IsErr ended → IsErr result
fails_printed (Ok status) result printed failed = absurd cc
fails_printed (Err fault) result printed failed = subst (λ (r : Result (Unit {0}) WireFault). IsErr r) (sym printed) refl

-- ---- the files of the line are opened

pub recovers_opened : {Own : Type 0} (Before After : Station → Type 0) (result : Result (Unit {0}) WireFault) (old mid new : Known) (line : LineFile)
    (plant : List (List ℕ)) (bytes : List ℕ) (site : SiteValue) → ChangesAmong old mid (files_of line) → IsSiteOf plant bytes site
    → ((s : Station) → HasRecovered s → Own → Before s → After s) → ChangesAmong mid new (files_of line) → IfOk result (λ done. Own)
    → IfOk result (λ done. SavesRecovered Before new line site.seen) → EndsOpenedRecovery After result old new line (switched_on plant bytes)
recovers_opened {Own} Before After result old mid new line plant bytes site opened made says others own saved =
    ends_after_open (λ done. Own × SavesRecovered Before new line site.seen) (λ done. SavesRecovered After new line (switched_on plant bytes)) result old mid
    new line opened
    (λ done saves. subst (λ (seen : Seen). SavesRecovered After new line seen) made.seen
    (saves_weaker (λ s recovered way. says s recovered saves.0 way) (λ s begins. begins) saves.1)) others (both_ok (λ done. Own) (λ done. SavesRecovered Before new line site.seen) result own saved)

-- ---- the whole

pub recovers : (F : Type 0) (worked : Worked (Unit {0}) WireLog) (said : List Mend) (leads : Leads) (old found new : Known) (name : List ℕ) (line : LineFile) (plant : List (List ℕ)) (bytes : List ℕ) → IsFound old name line plant bytes
    → HasJournal (map length plant) bytes → AreOfImages old line said bytes plant → IsLineSeparate leads line name → found ≡ old
    → EndsOpenedRecovery (AllHold plant worked.reported) worked.ended found new line (switched_on plant bytes) → KeepsRecovered F worked plant bytes → Recovers F worked said leads old new name
recovers F worked said leads old found new name line plant bytes given validated kept separate same ends keeps =
    let P : Known → Type 0 = λ files. EndsOpenedRecovery (AllHold plant worked.reported) worked.ended files new line (switched_on plant bytes) in
    inr (record { line = line; plant = plant; bytes = bytes; found = given; validated = validated; kept = kept; separate = separate; ends = subst P same ends; keeps = keeps })

-- ---- init

-- nothing was written before
pub formats_after : (result : Result (Unit {0}) WireFault) (old mid new : Known) (name : List ℕ) → mid ≡ old → OnOk result (Formats ⊤ mid new name) → OnOk result (Formats ⊤ old new name)
formats_after result old mid new name same formats = let P : Known → Type 0 = λ files. OnOk result (Formats ⊤ files new name) in subst P same formats

pub refuses_after : (result : Result (Unit {0}) WireFault) (old mid new : Known) (leads : Leads) (name : List ℕ) → mid ≡ old → IfErr result (RefusesInit mid new leads name) → IfErr result (RefusesInit old new leads name)
refuses_after result old mid new leads name same refuses = let P : Known → Type 0 = λ files. IfErr result (RefusesInit files new leads name) in subst P same refuses

-- nothing was written
pub refuses_early : (fault : WireFault) (old new : Known) (leads : Leads) (name : List ℕ) → new ≡ old → RefusesInit old new leads name fault
refuses_early (wire.Station fault) old new leads name same = inl same
refuses_early (wire.Line fault) old new leads name same = same
refuses_early (wire.OtherCount slaves) old new leads name same = same
refuses_early (wire.Stopped reason seen word) old new leads name same = same
refuses_early (wire.Unwritten slave word) old new leads name same = same
refuses_early (wire.UnknownSize slave says) old new leads name same = same
refuses_early (wire.Running slave) old new leads name same = same
refuses_early (wire.Held slave) old new leads name same = same
refuses_early (wire.OtherSize command slave words) old new leads name same = same
refuses_early (wire.NotOne found slaves) old new leads name same = same
refuses_early (wire.OtherDevice slave why) old new leads name same = same
refuses_early (wire.OtherWords slave difference reason) old new leads name same = same
refuses_early (wire.NothingPending slave) old new leads name same = same

-- the line, the words and the journal were read one after the other
pub begun_by : (old first second : Known) (name : List ℕ) (line : LineFile) (plant : List (List ℕ)) (bytes : List ℕ) → SpellsLine old name line → first ≡ old → SpellsSlaves first line plant → second ≡ first
    → HasBytes second (string_bytes line.journal) bytes → IsWithoutPast bytes (map length plant) → IsBegun old name
begun_by old first second name line plant bytes described same slaves still held empty =
    let P : Known → Type 0 = λ files. SpellsSlaves files line plant in
    let Q : Known → Type 0 = λ files. HasBytes files (string_bytes line.journal) bytes in
    record {
      line = line;
      plant = plant;
      described = described;
      slaves = subst P same slaves;
      journal = of_held (λ b. IsWithoutPast b (map length plant)) old (string_bytes line.journal) bytes (subst Q (still ∙ same) held) empty;
    }

-- the journal was there, so none was made
pub unformatted : (old new : Known) (leads : Leads) (name : List ℕ) → bench.RefusesInit old new leads name Exists → new ≡ old
unformatted old new leads name (inl refused) = refused.0
unformatted old new leads name (inr (formats, never)) = absurd never

pub begun_before : (old mid new : Known) (leads : Leads) (name : List ℕ) (result : Result (Unit {0}) WireFault) → bench.RefusesInit old mid leads name Exists → new ≡ mid → OnOk result (IsBegun mid name)
    → OnOk result (BeginsJournal old new name)
begun_before old mid new leads name (Ok done) refused same begun =
    let unchanged : mid ≡ old = unformatted old mid leads name refused in
    let P : Known → Type 0 = λ files. IsBegun files name in
    inr (same ∙ unchanged, subst P unchanged begun)
begun_before old mid new leads name (Err fault) refused same begun = tt

pub refused_before : (old mid new : Known) (leads : Leads) (name : List ℕ) (result : Result (Unit {0}) WireFault) → bench.RefusesInit old mid leads name Exists → new ≡ mid
    → IfErr result (RefusesInit old new leads name)
refused_before old mid new leads name (Ok done) refused same = tt
refused_before old mid new leads name (Err fault) refused same = refuses_early fault old new leads name (same ∙ unformatted old mid leads name refused)
