-- A slave that is given up: its image file and the journal's were written.
use Rattle.std.proofs.Common.{◌≡◌, ℕ, ◌<◌, List, Option, Some, None, IfSome, IsSomeAnd, length, map, get_or, String, Global, string_bytes, sym, ap, ◌∙◌, subst, arith}
use Rattle.std.specs.List.{slice_get}
use Rattle.std.specs.Option.{option_map}
use Rattle.std.proofs.lemmas.Option.{slice_get-map, slice_get-get_or}
use Rattle.sii_words.specs.Plant.{words_of}
use Rattle.sii_words.specs.Words.{bytes_of}
use Rattle.jrn_release.specs.Without.{IsWithout}
use Rattle.station_text.specs.declared.line_file.LineFile.{LineFile}
use Rattle.station_files.specs.Files.{Known, HasBytes, ChangesOnly}
use Rattle.station_files.specs.FileNames.{spelt}
use Rattle.std.proofs.lemmas.Result.{on_ok_weaker}
use Rattle.std.specs.Prelude.{Result, Ok, Err, IfErr, OnOk}
use Rattle.wire_faults.specs.Faults.{IsOfStream}
use Rattle.line_changes.specs.declared.changes.ChangedWord.{ChangedWord}
use Rattle.wire_faults.specs.declared.faults.WireFault.{WireFault}
use Rattle.wire_scan.specs.Opening.{IsFound}
use Rattle.wire_scan.specs.declared.asked.Mend.{Mend}
use Rattle.wire_scan.specs.Keeping.{AreOfImages}
use Rattle.wire_scan.specs.Pending.{GivesUp, GivesUpFound, GivesUpPending, IsPending, PendsNothing, WritesImageFirst, WritesInOrder, let_pass}
use Rattle.wire_scan.specs.Pending.WritesInOrder.{keeps, writes}

-- the name at a place of a list
pub named_at : (images : List (String Global)) (slave : ℕ) (image : String Global) → slave < length images → image ≡ get_or images slave image
    → slice_get (spelt images) slave ≡ Some (string_bytes image)
named_at images slave image lt is =
    slice_get-map (λ (name : String Global). string_bytes name) images slave
    ∙ ap (λ (o : Option (String Global)). option_map (λ (name : String Global). string_bytes name) o) (slice_get-get_or images slave image lt)
    ∙ ap (λ (name : String Global). Some (string_bytes name)) (sym is)

-- what holds of the bytes of a file
weaker : (P Q : List ℕ → Type 0) → ((bytes : List ℕ) → P bytes → Q bytes) → (found : Option (Option (List ℕ))) → IfSome found (λ held. IsSomeAnd held P) → IfSome found (λ held. IsSomeAnd held Q)
weaker P Q f None holds = tt
weaker P Q f (Some None) holds = absurd holds
weaker P Q f (Some (Some bytes)) holds = f bytes holds

-- the image file was written, and then the journal's
pub given_up : (old mid new : Known) (line : LineFile) (plant : List (List ℕ)) (bytes : List ℕ) (slave : ℕ) (image journal : List ℕ)
    → slice_get (spelt line.images.items) slave ≡ Some image → HasBytes mid image (bytes_of (words_of plant slave)) → ChangesOnly old mid image
    → HasBytes new (string_bytes line.journal) journal → ChangesOnly mid new (string_bytes line.journal)
    → IsWithout slave (map length plant) bytes journal → GivesUpFound old new line plant bytes slave
given_up old mid new line plant bytes slave image journal named has first held last without = record {
  image = image;
  named = named;
  others = λ other none. last other (λ e. none (0, omega arith, sym e)) ∙ first other (λ e. none (1, omega arith, sym e));
  journal = weaker (λ found. journal ≡ found) (IsWithout slave (map length plant) bytes) (λ found e. subst (IsWithout slave (map length plant) bytes) e without)
      (new (string_bytes line.journal)) held;
  kept = λ separate. subst (λ (found : Option (Option (List ℕ))). IfSome found (λ held. IsSomeAnd held (λ there. bytes_of (words_of plant slave) ≡ there))) (sym (last image separate)) has;
}

-- the image file was written first, and no file was changed before
pub first_after : (said : Option ℕ) (slave : ℕ) (old mid new : Known) (line : LineFile) (plant : List (List ℕ)) → said ≡ Some slave → mid ≡ old
    → WritesImageFirst mid new line plant slave → IfSome said (WritesImageFirst old new line plant)
first_after said slave old mid new line plant is same first =
    subst (λ (o : Option ℕ). IfSome o (WritesImageFirst old new line plant)) (sym is) (subst (λ (files : Known). WritesImageFirst files new line plant slave) same first)

-- the same of a line that was found
pub first_found : (said : Option ℕ) (old mid new : Known) (name : List ℕ) (line : LineFile) (plant : List (List ℕ)) (bytes : List ℕ) → mid ≡ old → IsFound old name line plant bytes
    → IfSome said (WritesImageFirst mid new line plant) → IfSome said (WritesInOrder old new name)
first_found None old mid new name line plant bytes same found first = tt
first_found (Some slave) old mid new name line plant bytes same found first =
    writes line plant bytes found (subst (λ (files : Known). WritesImageFirst files new line plant slave) same first)

-- no file was changed
pub none_written : (said : Option ℕ) (old new : Known) (name : List ℕ) → new ≡ old → IfSome said (WritesInOrder old new name)
none_written None old new name same = tt
none_written (Some slave) old new name same = keeps same

-- a word of the slave was pending
pub given_pending : (said : Option ℕ) (slave : ℕ) (result : Result (Unit {0}) WireFault) (old mid new : Known) (line : LineFile) (plant : List (List ℕ)) (bytes : List ℕ) (words : List ChangedWord)
    → said ≡ Some slave → mid ≡ old → IsPending plant bytes words → ¬ PendsNothing words slave → OnOk result (GivesUpFound mid new line plant bytes slave)
    → IfSome said (λ one. OnOk result (GivesUpPending old new line plant bytes one))
given_pending said slave result old mid new line plant bytes words is same pending some given =
    subst (λ (o : Option ℕ). IfSome o (λ one. OnOk result (GivesUpPending old new line plant bytes one))) (sym is)
    (on_ok_weaker result (λ gives. record { gives = subst (λ (files : Known). GivesUpFound files new line plant bytes slave) same gives; words = words; pending = pending; some = some }) given)

-- the line was found
pub given_found : (said : Option ℕ) (result : Result (Unit {0}) WireFault) (old mid new : Known) (name : List ℕ) (mends passing : List Mend) (line : LineFile) (plant : List (List ℕ)) (bytes : List ℕ)
    → mid ≡ old → IsFound old name line plant bytes → passing ≡ let_pass said mends → AreOfImages old line passing bytes plant
    → IfSome said (λ one. OnOk result (GivesUpPending mid new line plant bytes one)) → IfSome said (λ one. OnOk result (GivesUp old new name mends one))
given_found None result old mid new name mends passing line plant bytes same found pass kept given = tt
given_found (Some slave) result old mid new name mends passing line plant bytes same found pass kept given =
    on_ok_weaker result
    (λ gives. record { line = line; plant = plant; bytes = bytes; found = found; kept = subst (λ (said : List Mend). AreOfImages old line said bytes plant) pass kept; gives = subst (λ (files : Known). GivesUpPending files new line plant bytes slave) same gives }) given

-- where a fault comes that isn't of a file or memory, nothing is written
pub refused_after : (result : Result (Unit {0}) WireFault) (old mid new : Known) → mid ≡ old → IfErr result (λ fault. ¬ IsOfStream fault → new ≡ mid) → IfErr result (λ fault. ¬ IsOfStream fault → new ≡ old)
refused_after (Ok done) old mid new same refused = tt
refused_after (Err fault) old mid new same refused = λ other. refused other ∙ same
