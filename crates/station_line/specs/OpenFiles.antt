-- The open files of a line, each under its own name, with what was read of it.
use Rattle.std.specs.Prelude.{ℕ, List, [], ◌∷◌, Option, IsSomeAnd, map, string_bytes, ⊤}
use Rattle.sii_words.specs.Words.{bytes_of}
use Rattle.esc_model.specs.SlaveHalf.{SlaveHalf}
use Rattle.site_core.specs.State.{State}
use Rattle.site_file.specs.declared.owned.OpenFiles.{OpenFiles}
use Rattle.station_text.specs.declared.line_file.LineFile.{LineFile}
use Rattle.station_files.specs.LineFiles.{names_of}

-- There is an open file for each of these names, in order, and it was opened under that name with these contents.
abbrev pub AreOpenedAs : {F : Type 0} → (opened : F → List ℕ → List ℕ → Type 0) → (names contents : List (List ℕ)) → List (Option F) → Type 0
AreOpenedAs opened [] [] [] = ⊤
AreOpenedAs opened (name ∷ names) (bytes ∷ contents) (file ∷ files) =
    IsSomeAnd file (λ one. opened one name bytes) × AreOpenedAs opened names contents files
AreOpenedAs opened _ _ _ = ⊥

-- The journal was opened under the line's name for it, with the bytes of the disk, and each slave's image under its own, with the slave's words.
pub record AreOpened {F : Type 0} (opened : F → List ℕ → List ℕ → Type 0) (line : LineFile) (state : State) (files : OpenFiles F) : Type 0 where
  pub journal : opened files.journal (string_bytes line.journal) state.disk.bytes
  pub images : AreOpenedAs opened (names_of line) (map (λ (half : SlaveHalf). bytes_of half.words) state.halves) files.images.items
