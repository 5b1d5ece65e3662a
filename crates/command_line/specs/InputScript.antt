-- A script that is no file, among the files.
use Rattle.std.specs.Prelude.{ℕ, List, [], ◌∷◌, Bool, true, false, bytes_eq, Option, Some, None, Result, Ok, Err, Vec}
use Rattle.std.specs.declared.alloc.Global.{Global}
use Rattle.command_line.specs.declared.input_script.Script.{Script}
use Rattle.station_files.specs.Files.{Known}
use Rattle.station_files.specs.Locations.{Leads}

-- what is known of this file: the first where the test is true
abbrev pub chosen : {A : Type 0} → Bool → Option A → Option A → Option A
chosen true one other = one
chosen false one other = other

-- what is known of the script: nothing where it couldn't be read
abbrev pub known_of : {E : Type 0} → Result (Vec ℕ Global) E → Option (Option (List ℕ))
known_of (Ok bytes) = Some (Some bytes.items)
known_of (Err error) = None

-- the files, and under its name the script, if there is one
abbrev pub with_script : Option Script → Known → Known
with_script None files name = files name
with_script (Some script) files name = chosen (bytes_eq name script.name.now) (known_of script.text) (files name)

-- where the names lead; nothing is known of the names of scripts that are no files: a zero byte, and that with -e behind
abbrev pub but_scripts : Leads → Leads
but_scripts leads name = chosen (bytes_eq name (0 ∷ [])) None (chosen (bytes_eq name (0 ∷ 45 ∷ 101 ∷ [])) None (leads name))
