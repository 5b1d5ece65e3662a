-- Laws of the grammars of chains and contents.
use Rattle.std.specs.Prelude.{◌≡◌, ℕ, ◌<◌, ◌^◌, ◌↔◌, List, All, Ok}
use Rattle.sii_cats.specs.Bytes.{bytes_of}
use Rattle.sii_cats.specs.Contents.{AreUnits, AreManagers}
use Rattle.sii_cats.specs.steps.Contents.{managers_of}
use Rattle.sii_cats.specs.Pdos.{Mapping, ArePdos}
use Rattle.sii_cats.specs.steps.Pdos.{pdos_of}
use Rattle.sii_cats.specs.Strings.{AreStrings}
use Rattle.sii_cats.specs.steps.Strings.{strings_of}
use Rattle.sii_cats.specs.Chain.{Member, IsChain, IsCutAt}
use Rattle.sii_cats.specs.steps.Chain.{members_of}
use Rattle.sii_cats.specs.declared.units.FmmuUnit.{FmmuUnit}
use Rattle.sii_cats.specs.declared.managers.Manager.{Manager}

-- a relation gives at most one value
abbrev pub IsUnique : {X : Type 0} → (List ℕ → X → Type 0) → Type 0
IsUnique {X} R = (cells : List ℕ) (x y : X) → R cells x → R cells y → x ≡ y

-- bytes are the content of at most one list of units, of sync managers, of PDOs, and of strings
pub record UniqueContents : Type 0 where
  pub units : IsUnique {X = List FmmuUnit} AreUnits
  pub managers : IsUnique {X = List Manager} AreManagers
  pub pdos : IsUnique {X = List Mapping} ArePdos
  pub strings : IsUnique {X = List (List ℕ)} AreStrings

-- words have at most one chain
abbrev pub UniqueChain : Type 0
UniqueChain = IsUnique {X = List Member} IsChain

-- words are cut off at one header at most, and have no chain then
pub record CutsAreUnique : Type 0 where
  pub one : IsUnique {X = ℕ} IsCutAt
  pub no_chain : (words : List ℕ) (at : ℕ) (ms : List Member) → IsCutAt words at → IsChain words ms → ⊥

-- each word fits 16 bits
abbrev pub AreWords : List ℕ → Type 0
AreWords words = All (λ word. word < 2 ^ 16) words

-- what reading step by step gives is exactly what the grammar relates to the words
pub record ReadingsAgree : Type 0 where
  pub managers : (words : List ℕ) (managers : List Manager) → AreWords words
      → (managers_of words ≡ Ok managers) ↔ AreManagers (bytes_of words) managers
  pub pdos : (words : List ℕ) (pdos : List Mapping) → AreWords words → (pdos_of words ≡ Ok pdos) ↔ ArePdos (bytes_of words) pdos
  pub strings : (words : List ℕ) (strings : List (List ℕ)) → (strings_of words ≡ Ok strings) ↔ AreStrings (bytes_of words) strings
  pub chain : (words : List ℕ) (ms : List Member) → (members_of words ≡ Ok ms) ↔ IsChain words ms
