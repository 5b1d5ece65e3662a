-- What a backup does to files, as they are judged and written.
use Rattle.std.proofs.Common.{◌≡◌, ◌≢◌, ◌⊎◌, ℕ, ◌+◌, ◌<◌, List, Option, Some, None, Result, Ok, Err, IfNone, IfSome, IsSome, IsSomeAnd, length, map, take}
use Rattle.std.proofs.Common.{get_or, String, Global, string_bytes, refl, sym, ap, subst, ◌∙◌, inl, inr}
use Rattle.std.specs.List.{AllZip}
use Rattle.std.specs.Prelude.{IsErrAnd}
use Rattle.std.proofs.lemmas.List.{map_more, take_more}
use Rattle.sii_words.proofs.Quantifiers.{zip_snoc}
use Rattle.station_files.specs.FileNames.{IsLineSeparate, spelt}
use Rattle.station_files.specs.Files.{Known, HasBytes, IsAbsent, ChangesAmong, ChangesOnly}
use Rattle.station_files.specs.LineFiles.{DescribesLine, SpellsLine, SpellsWords, names_of}
use Rattle.station_files.specs.Locations.{Leads}
use Rattle.station_files.proofs.Loaded.{of_held}
use Rattle.station_text.specs.declared.line_file.LineFile.{LineFile}
use Rattle.wire_faults.specs.declared.faults.WireFault.{WireFault}
use Rattle.wire_scan.specs.Backup.{Backs, HasNoPast, IsBackedUp, IsPlanned, IsWithoutPast, KeepsAll, MayStay}
use Rattle.wire_scan.proofs.Writing.{journal_is_other, line_file_is_other, not_named, stays, words_stay}

-- ---- files that are there keep their bytes

-- a file that is there isn't absent
not_absent : (held : Option (Option (List ℕ))) (bytes : List ℕ) → held ≡ Some (Some bytes) → IfSome held (λ h. h ≡ None) → ⊥
not_absent held bytes is absent =
    let P : Option (Option (List ℕ)) → Type 0 = λ x. IfSome x (λ h. h ≡ None) in
    let none : Some bytes ≡ None = subst P is absent in absurd cc

-- a file that wasn't there is written
pub kept_by_one : (old new : Known) (name : List ℕ) → IsAbsent old name → ChangesOnly old new name → KeepsAll old new
kept_by_one old new name absent changes = λ other bytes is.
    let P : List ℕ → Type 0 = λ n. IsAbsent old n in
    let separate : other ≢ name = λ same. not_absent (old other) bytes is (subst P (sym same) absent) in
    changes other separate ∙ is

-- a file that is there has the bytes that it may stay with
pub held_there : (files : Known) (name bytes : List ℕ) → IfSome (files name) (λ held. IsSome held) → IsAbsent files name ⊎ HasBytes files name bytes → HasBytes files name bytes
held_there files name bytes there may = of_found (files name) there may where
  of_found : (found : Option (Option (List ℕ))) → IfSome found (λ held. IsSome held) → IfSome found (λ held. held ≡ None) ⊎ IfSome found (λ held. IsSomeAnd held (λ there. bytes ≡ there))
      → IfSome found (λ held. IsSomeAnd held (λ there. bytes ≡ there))
  of_found None there may = tt
  of_found (Some None) there may = absurd cc
  of_found (Some (Some held)) there (inl none) = absurd cc
  of_found (Some (Some held)) there (inr has) = has

-- nothing is written
pub kept_same : (files : Known) → KeepsAll files files
kept_same files = λ name bytes is. is

-- ---- how a backup ends

-- nothing is written
pub unchanged : (fault : WireFault) (old new : Known) (name : List ℕ) → new ≡ old → Backs (Err fault) old new name
unchanged fault old new name same =
    let P : Known → Type 0 = λ files. Backs (Err fault) old files name in
    subst P (sym same) (record { kept = λ n bytes is. is; unwritten = λ early. refl; done = tt })

-- the same, where the fault of a call is handed on
pub unchanged_at : (result : Result (Unit {0}) WireFault) (P : WireFault → Type 0) (old new : Known) (name : List ℕ) → IsErrAnd result P → new ≡ old → Backs result old new name
unchanged_at (Ok done) P old new name gave same = absurd gave
unchanged_at (Err fault) P old new name gave same = unchanged fault old new name same

-- ---- what is judged

-- one more image file may stay
pub one_more_stays : (old now : Known) (names : List (String Global)) (plant : List (List ℕ)) (i : ℕ) (image : String Global) (name words : List ℕ) → i < length names → i < length plant → now ≡ old
    → image ≡ get_or names i image → name ≡ string_bytes image → words ≡ get_or plant i words
    → AllZip (MayStay old) (spelt (take i names)) (take i plant) → MayStay now name words → AllZip (MayStay old) (spelt (take (i + 1) names)) (take (i + 1) plant)
one_more_stays old now names plant i image name words in_names in_plant same is_image named is_words before stays_here =
    let P : List ℕ → Type 0 = λ n. MayStay old n words in
    let Q : List ℕ → Type 0 = λ w. MayStay old (string_bytes (get_or names i image)) w in
    let R : Known → Type 0 = λ files. MayStay files name words in
    rw (map_more (λ (n : String Global). string_bytes n) names i image in_names, take_more plant i words in_plant)
    (zip_snoc (MayStay old) (spelt (take i names)) (take i plant) (string_bytes (get_or names i image)) (get_or plant i words) before
    (subst Q is_words (subst P (named ∙ ap (λ (n : String Global). string_bytes n) is_image) (subst R same stays_here))))

-- ---- what is written

-- the line file is as planned
describes : (old mid new : Known) (name : List ℕ) (line : LineFile) (text : Option (String Global)) → mid name ≡ old name → IsPlanned old name line text
    → IfSome text (λ text. IsAbsent mid name → HasBytes new name (string_bytes text)) → IfNone text (new ≡ mid) → SpellsLine new name line
describes old mid new name line None still planned text_written same =
    let P : Option (Option (List ℕ)) → Type 0 = λ found. IfSome found (λ held. IsSomeAnd held (λ bytes. DescribesLine bytes line)) in
    let Q : Known → Type 0 = λ files. SpellsLine files name line in
    subst Q (sym same) (subst P (sym still) planned)
describes old mid new name line (Some text) still planned text_written same =
    let P : Option (Option (List ℕ)) → Type 0 = λ found. IfSome found (λ held. held ≡ None) in
    of_held (λ bytes. DescribesLine bytes line) new name (string_bytes text) (text_written (subst P (sym still) planned.0)) planned.1

-- the files after the images and the text
pub backed_up : (leads : Leads) (old mid new : Known) (name : List ℕ) (line : LineFile) (text : Option (String Global)) (plant : List (List ℕ)) → IsLineSeparate leads line name → IsPlanned old name line text
    → HasNoPast old (string_bytes line.journal) (map length plant) → ChangesAmong old mid (names_of line) → AllZip (SpellsWords mid) (names_of line) plant → ChangesOnly mid new name
    → IfSome text (λ text. IsAbsent mid name → HasBytes new name (string_bytes text)) → IfNone text (new ≡ mid) → IsBackedUp new name
backed_up leads old mid new name line text plant separate planned past among written only text_written same =
    let images : List (String Global) = line.images.items in
    let journal : List ℕ = string_bytes line.journal in
    let other = line_file_is_other leads line name separate in
    let of_journal = journal_is_other leads line name separate in
    let P : Option (Option (List ℕ)) → Type 0 = λ found. IfSome found (λ held. held ≡ None) ⊎ IfSome found (λ held. IsSomeAnd held (λ bytes. IsWithoutPast bytes (map length plant))) in
    record {
      line = line;
      plant = plant;
      described = describes old mid new name line text (among name (not_named images name other)) planned text_written same;
      slaves = words_stay mid new images plant name only other written;
      journal = stays P mid new name journal only of_journal.1 (subst P (sym (among journal (not_named images journal of_journal.0))) past);
    }
