-- What the files of a line hold once its journal was formatted.
use Rattle.std.proofs.Common.{◌≡◌, ℕ, List, [], ◌∷◌, Result, Ok, Err, OnOk, IfErr, length, map, sym, ap, ◌∙◌, subst, inl, inr}
use Rattle.std.proofs.lemmas.List.{length-map}
use Rattle.sii_words.specs.Words.{bytes_of}
use Rattle.esc_model.specs.SlaveHalf.{SlaveHalf}
use Rattle.site_core.specs.State.{Seen}
use Rattle.site_journal.specs.Formatting.{formatted}
use Rattle.station_text.specs.declared.line_file.LineFile.{LineFile}
use Rattle.station_files.specs.Faults.{IsOfStream}
use Rattle.station_files.specs.Files.{Known, ChangesAmong, HoldsAll}
use Rattle.station_files.specs.Locations.{Leads}
use Rattle.station_files.specs.declared.faults.Fault.{Fault}
use Rattle.station_line.specs.Init.{Formats, HoldsEmpty, IsOfFormatting, IsUnformatted, RefusesInit}
use Rattle.station_line.specs.Site.{files_of, switched_on, HoldsSite}
use Rattle.station_line.proofs.SwitchedOn.{with_words}

-- the saved files are an empty journal, and the words as they were
pub saves_empty : {T E : Type 0} (result : Result T E) (files : Known) (line : LineFile) (slaves : List (List ℕ)) (disk : List ℕ) (old new : Seen) (sizes : List ℕ) → sizes ≡ map length slaves → old ≡ switched_on slaves disk → disk ≡ []
    → new.state.disk.bytes ≡ formatted (length sizes) line.area old.state.disk.bytes → new.state.halves ≡ old.state.halves → OnOk result (HoldsSite files line new.state) → OnOk result (HoldsEmpty files line slaves)
saves_empty (Err fault) files line slaves disk old new sizes sized made none bytes same held = tt
saves_empty (Ok done) files line slaves disk old new sizes sized made none bytes same held =
    let on : old ≡ switched_on slaves [] = subst (λ (d : List ℕ). old ≡ switched_on slaves d) none made in
    let spell : SlaveHalf → List ℕ = λ half. bytes_of half.words in
    let many : length sizes ≡ length slaves = ap length sized ∙ length-map slaves length in
    let written : new.state.disk.bytes ≡ formatted (length slaves) line.area [] =
    bytes ∙ ap (λ n. formatted n line.area old.state.disk.bytes) many ∙ ap (λ (s : Seen). formatted (length slaves) line.area s.state.disk.bytes) on in
    let kept : map spell new.state.halves ≡ map bytes_of slaves = ap (map spell) (same ∙ ap (λ (s : Seen). s.state.halves) on) ∙ with_words 4097 slaves in
    let P : List ℕ → Type 0 = λ journal. HoldsAll files (files_of line) (journal ∷ map spell new.state.halves) in
    let Q : List (List ℕ) → Type 0 = λ words. HoldsAll files (files_of line) (formatted (length slaves) line.area [] ∷ words) in
    subst Q kept (subst P written held)

-- how the files changed
pub formats : (done : Type 0) (old mid new : Known) (name : List ℕ) (line : LineFile) (plant : List (List ℕ)) → IsUnformatted old name line plant → mid ≡ old → ChangesAmong mid new (files_of line) → (done → HoldsEmpty new line plant) → Formats done old new name
formats done old mid new name line plant given same changes saved =
    let P : Known → Type 0 = λ files. ChangesAmong files new (files_of line) in
    record { line = line; plant = plant; given = given; others = subst P same changes; saved = saved }

of_stream : (fault : Fault) → IsOfStream fault → IsOfFormatting fault
of_stream fault (inl is) = subst IsOfFormatting (sym is) tt
of_stream fault (inr is) = subst IsOfFormatting (sym is) tt

-- the answer couldn't be printed
pub unprinted : {T : Type 0} (result : Result T Fault) (old new : Known) (leads : Leads) (name : List ℕ) → Formats ⊥ old new name → IfErr result IsOfStream → IfErr result (RefusesInit old new leads name)
unprinted (Ok done) old new leads name formatted failed = tt
unprinted (Err fault) old new leads name formatted failed = inr (formatted, of_stream fault failed)

pub at_ok : {T E : Type 0} {P : Type 0} (result : Result T E) → P → OnOk result P
at_ok (Ok done) holds = holds
at_ok (Err fault) holds = tt
