-- Which files change where the files of a line are opened.
use Rattle.std.proofs.Common.{[], ◌∷◌, string_bytes, ◌∙◌}
use Rattle.std.proofs.lemmas.List.Elements.{Contains-append_right}
use Rattle.station_text.specs.declared.line_file.LineFile.{LineFile}
use Rattle.station_files.specs.Files.{Known, ChangesAmong, ChangesOnly}
use Rattle.station_files.specs.LineFiles.{names_of}
use Rattle.station_line.specs.Site.{files_of}
use Rattle.station_line.proofs.Saved.{changes_line}

-- the files of a line, of which images were made first
pub made : (old mid : Known) (line : LineFile) → ChangesAmong old mid (names_of line) → ChangesAmong old mid (files_of line)
made old mid line changes = λ other absent. changes other (λ there. absent (Contains-append_right (string_bytes line.journal ∷ []) (names_of line) other there))

pub opened_after : (old made_by mid new : Known) (line : LineFile) → ChangesAmong old made_by (names_of line) → ChangesOnly made_by mid (string_bytes line.journal)
    → ChangesAmong mid new (names_of line) → ChangesAmong old new (files_of line)
opened_after old made_by mid new line first journal images = λ other absent.
    changes_line made_by mid new (string_bytes line.journal) (names_of line) journal images other absent ∙ made old made_by line first other absent
