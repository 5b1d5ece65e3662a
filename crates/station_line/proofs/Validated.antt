-- What was judged of a line's journal and of its files.
use Rattle.std.proofs.Common.{◌≡◌, ℕ, Bool, List, [], ◌∷◌, ◌++◌, Option, Some, None, length, map, false, sym, subst, inl, inr}
use Rattle.std.specs.Prelude.{MatchOption}
use Rattle.site_core.specs.State.{Seen}
use Rattle.site_shadow.specs.Site.{SiteValue}
use Rattle.jrn_format.specs.declared.fault.JournalFault.{JournalFault}
use Rattle.jrn_format.specs.Fault.{IsFaultOf}
use Rattle.station_text.specs.declared.line_file.LineFile.{LineFile}
use Rattle.station_files.specs.Files.{Known}
use Rattle.station_files.specs.FileNames.{files_with, written_of, RefusesNames}
use Rattle.station_files.specs.Locations.{AreSeparate, Leads}
use Rattle.station_files.specs.declared.faults.Fault.{Fault}
use Rattle.station_line.specs.Faults.{of_journal}
use Rattle.station_line.specs.Validating.{HasJournal, IsValidated, IsRunSeparate}
use Rattle.station_line.specs.Refusals.{RefusesCommandFiles, RefusesJournal, RefusesRun}
use Rattle.station_line.specs.Opened.{Loads}
use Rattle.station_line.specs.Site.{IsSiteOf}

-- the bytes that were judged are those of the site
pub validated_by : (slaves : List (List ℕ)) (bytes : List ℕ) (site : SiteValue) (refusal : Option JournalFault) → IsSiteOf slaves bytes site
    → MatchOption refusal (HasJournal (map length slaves) bytes) (IsFaultOf bytes (map length slaves)) → IsValidated site refusal
validated_by slaves bytes site refusal made validated =
    let P : List ℕ → Type 0 = λ sizes. MatchOption refusal (HasJournal sizes bytes) (IsFaultOf bytes sizes) in
    let Q : Seen → Type 0 = λ seen. MatchOption refusal (HasJournal site.line.sizes seen.state.disk.bytes) (IsFaultOf seen.state.disk.bytes site.line.sizes) in
    subst Q (sym made.seen) (subst P (sym made.sizes) validated)

pub has_journal : (site : SiteValue) (refusal : Option JournalFault) → IsValidated site refusal → refusal ≡ None → HasJournal site.line.sizes site.seen.state.disk.bytes
has_journal site refusal validated none = subst (λ (found : Option JournalFault). IsValidated site found) none validated

pub journal_refused : (files : Known) (name : List ℕ) (line : LineFile) (site : SiteValue) (refusal : Option JournalFault) (why : JournalFault) (fault : Fault) → Loads files name line site → IsValidated site refusal → refusal ≡ Some why → fault ≡ of_journal why
    → RefusesJournal files name fault
journal_refused files name line site refusal why fault given validated some is =
    let P : List ℕ → Type 0 = λ sizes. IsFaultOf site.seen.state.disk.bytes sizes why in
    let Q : Seen → Type 0 = λ seen. IsFaultOf seen.state.disk.bytes (map length given.plant) why in
    record {
      line = line;
      plant = given.plant;
      bytes = given.bytes;
      given = given.given;
      why = why;
      refused = subst Q given.made.seen (subst P given.made.sizes (subst (λ (found : Option JournalFault). IsValidated site found) some validated));
      is = is;
    }

-- ---- the files of a run

-- the script was listed after the others
pub joined_separate : (leads : Leads) (count counted : ℕ) (names all : List (List ℕ)) → counted ≡ count → all ≡ names → AreSeparate leads counted all → AreSeparate leads count names
joined_separate leads count counted names all same listed separate = subst (λ n. AreSeparate leads n names) same (subst (λ l. AreSeparate leads counted l) listed separate)

pub joined_refused : (leads : Leads) (captures has_capture : Bool) (count counted : ℕ) (names all : List (List ℕ)) (fault : Fault) → has_capture ≡ captures → counted ≡ count → all ≡ names
    → RefusesNames leads has_capture counted all fault → RefusesNames leads captures count names fault
joined_refused leads captures has_capture count counted names all fault kept same listed refused =
    subst (λ n. RefusesNames leads captures n names fault) same (subst (λ l. RefusesNames leads captures counted l fault) listed (subst (λ b. RefusesNames leads b counted all fault) kept refused))

-- the names that were listed are those of the line
pub run_separate : (leads : Leads) (line : LineFile) (name script : List ℕ) (count : ℕ) (names : List (List ℕ)) → count ≡ length (written_of None line) → names ≡ files_with None line name
    → AreSeparate leads count (names ++ script ∷ []) → IsRunSeparate leads line name script
run_separate leads line name script count names counted listed separate =
    let Q : ℕ → Type 0 = λ n. AreSeparate leads n (files_with None line name ++ script ∷ []) in
    let R : List (List ℕ) → Type 0 = λ l. AreSeparate leads count (l ++ script ∷ []) in
    subst Q counted (subst R listed separate)

pub script_refused : (old new : Known) (leads : Leads) (line : LineFile) (name script : List ℕ) (site : SiteValue) (has_capture : Bool) (count : ℕ) (names : List (List ℕ)) (fault : Fault) → Loads old name line site → new ≡ old → has_capture ≡ false
    → count ≡ length (written_of None line) → names ≡ files_with None line name → RefusesCommandFiles new leads has_capture count names script fault → RefusesRun old leads name script fault
script_refused old new leads line name script site has_capture count names fault given same captures counted listed refused =
    let P : Known → Type 0 = λ files. RefusesCommandFiles files leads false (length (written_of None line)) (files_with None line name) script fault in
    let Q : ℕ → Type 0 = λ n. RefusesCommandFiles new leads false n (files_with None line name) script fault in
    let R : List (List ℕ) → Type 0 = λ l. RefusesCommandFiles new leads false count l script fault in
    let S : Bool → Type 0 = λ b. RefusesCommandFiles new leads b count names script fault in
    inr (inl (record { line = line; described = given.given.described; refused = subst P same (subst Q counted (subst R listed (subst S captures refused))) }))
