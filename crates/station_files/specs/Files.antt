-- What contracts know of the files of a store.
use Rattle.std.specs.Prelude.{◌≡◌, ◌≢◌, ℕ, ◌<◌, ◌^◌, ◌%◌, List, [], ◌∷◌, Option, Some, None, IfSome, IsSomeAnd, Contains, length, ⊤}
use Rattle.station_files.specs.declared.faults.Fault.{Fault}
use Rattle.station_files.specs.declared.faults.Fault.TheVariants.{OddLength, BadSize, Memory, NotAFile, TooLong}
use Rattle.station_files.specs.declared.faults.Fault.TheVariants as faults
use Rattle.station_files.specs.declared.store.Entry.{Entry}
use Rattle.station_files.specs.declared.store.Entry.TheVariants as entries

-- The contents of each file, by its name. None: nothing is known. Some None: there is no such file.
abbrev pub Known : Type 0
Known = List ℕ → Option (Option (List ℕ))

-- where anything is known of this file, it exists and its bytes have the property P
abbrev pub Holds : Known → List ℕ → (List ℕ → Type 0) → Type 0
Holds files name P = IfSome (files name) (λ held. IsSomeAnd held P)

-- the file has these bytes
abbrev pub HasBytes : Known → List ℕ → List ℕ → Type 0
HasBytes files name bytes = Holds files name (λ held. bytes ≡ held)

-- the file doesn't exist
abbrev pub IsAbsent : Known → List ℕ → Type 0
IsAbsent files name = IfSome (files name) (λ held. held ≡ None)

-- a name with these contents leads to this: nothing, or a file of so many bytes
abbrev pub IsEntryOf : Option (List ℕ) → Entry → Type 0
IsEntryOf None entries.Absent = ⊤
IsEntryOf (Some bytes) (entries.File count) = count ≡ length bytes
IsEntryOf held entry = ⊥

-- the fault for a name that leads to a pipe, a device or a socket, of which nothing is known
pub record IsNoFile (files : Known) (name : List ℕ) (fault : Fault) : Type 0 where
  pub is : fault ≡ NotAFile
  pub unknown : files name ≡ None

-- the fault for a file that has to be there, with so many bytes at most: it can't be read, memory was refused, or it is no file or longer
abbrev pub RefusesFile : (most : ℕ) → Known → List ℕ → Fault → Type 0
RefusesFile most files name faults.File = ⊤
RefusesFile most files name Memory = ⊤
RefusesFile most files name NotAFile = files name ≡ None
RefusesFile most files name TooLong = Holds files name (λ bytes. most < length bytes)
RefusesFile most files name _ = ⊥

-- the same for an image file, before its words are looked at: it has 2^17 bytes at most
abbrev pub RefusesImageFile : Known → List ℕ → Fault → Type 0
RefusesImageFile files name OddLength = Holds files name (λ bytes. length bytes % 2 ≡ 1)
RefusesImageFile files name BadSize = Holds files name (λ bytes. (length bytes % 2 ≡ 0) × (2 ^ 17 < length bytes))
RefusesImageFile files name TooLong = ⊥
RefusesImageFile files name fault = RefusesFile (2 ^ 17) files name fault

-- no file changes but the one of this name
abbrev pub ChangesOnly : Known → Known → List ℕ → Type 0
ChangesOnly old new name = (other : List ℕ) → other ≢ name → new other ≡ old other

-- no files change but those of these names
abbrev pub ChangesAmong : Known → Known → List (List ℕ) → Type 0
ChangesAmong old new names = (other : List ℕ) → ¬ Contains names other → new other ≡ old other

-- the files of these names have these contents; of a name that is listed several times the last contents count
abbrev pub HoldsAll : Known → List (List ℕ) → List (List ℕ) → Type 0
HoldsAll files [] [] = ⊤
HoldsAll files (name ∷ names) (bytes ∷ contents) = (¬ Contains names name → HasBytes files name bytes) × HoldsAll files names contents
HoldsAll files _ _ = ⊥
