-- The files of a subcommand on a line, by their names, and when they are refused.
use Rattle.std.specs.Prelude.{◌≡◌, ◌⊎◌, ℕ, Bool, false, ◌&&◌, nat_eq, if◌then◌else◌, List, [], ◌∷◌, ◌++◌, length}
use Rattle.std.specs.Prelude.{map, Option, None, Some, String}
use Rattle.std.specs.Prelude.{string_bytes}
use Rattle.std.specs.declared.alloc.Global.{Global}
use Rattle.station_text.specs.declared.line_file.LineFile.{LineFile}
use Rattle.station_files.specs.Faults.{IsOfStream}
use Rattle.station_files.specs.LineFiles.{names_of}
use Rattle.station_files.specs.Locations.{AreSeparate, IsClash, Leads}
use Rattle.station_files.specs.declared.faults.Fault.{Fault}
use Rattle.station_files.specs.declared.faults.Fault.TheVariants.{Exists, SameFile}
use Rattle.station_files.specs.declared.same_files.Clash.{Clash}

-- the names, as bytes
abbrev pub spelt : List (String Global) → List (List ℕ)
spelt names = map (λ (name : String Global). string_bytes name) names

-- the name of a file that may be there, in a list
abbrev pub listed : Option (List ℕ) → List (List ℕ)
listed None = []
listed (Some name) = name ∷ []

-- the names of the files that a subcommand on a line may write: the capture, if there is one, the journal, and the slaves' image files in order
abbrev pub written_of : (capture : Option (List ℕ)) → LineFile → List (List ℕ)
written_of capture line = listed capture ++ string_bytes line.journal ∷ names_of line

-- the same, and after them the line file
abbrev pub files_with : (capture : Option (List ℕ)) → LineFile → (line_file : List ℕ) → List (List ℕ)
files_with capture line line_file = written_of capture line ++ line_file ∷ []

-- The journal and the image files stand apart from each other and from the line file.
abbrev pub IsLineSeparate : Leads → LineFile → (line_file : List ℕ) → Type 0
IsLineSeparate leads line line_file = AreSeparate leads (length (written_of None line)) (files_with None line line_file)

-- the fault for two files of which one would be lost with the other: the first is a capture, which must not take the place of what is there,
-- or any two
abbrev pub fault_for : (has_capture : Bool) → (one : ℕ) → Fault
fault_for has_capture one = if has_capture && nat_eq one 0 then Exists else SameFile

-- Two files of these names, of which the first `count` may be written, clash.
pub record RefusesClash (leads : Leads) (has_capture : Bool) (count : ℕ) (names : List (List ℕ)) (fault : Fault) : Type 0 where
  pub clash : Clash
  pub clashes : IsClash leads count names clash
  pub is : fault ≡ fault_for has_capture clash.one

-- the fault for files of these names: two of them clash, or a name can't be followed, or memory was refused
abbrev pub RefusesNames : Leads → (has_capture : Bool) → (count : ℕ) → List (List ℕ) → Fault → Type 0
RefusesNames leads has_capture count names fault = RefusesClash leads has_capture count names fault ⊎ IsOfStream fault

-- the fault for the files of a line and its line file
abbrev pub RefusesLineNames : Leads → LineFile → (line_file : List ℕ) → Fault → Type 0
RefusesLineNames leads line line_file fault = RefusesNames leads false (length (written_of None line)) (files_with None line line_file) fault
