-- Where names of files lead, and which files would be lost with one another.
use Rattle.std.specs.Prelude.{◌≡◌, ◌≢◌, ◌⊎◌, ◌<◌, ℕ, zero, suc, List, [], ◌∷◌, Option, Some, IfSome, IsSome, codes, length}
use Rattle.std.specs.Prelude.{string_bytes, ⊤}
use Rattle.std.specs.List.{AllByRecursion, HoldsAt}
use Rattle.station_files.specs.Files.{Known}
use Rattle.station_files.specs.declared.location.FileId.{FileId}
use Rattle.station_files.specs.declared.location.Location.{Location}
use Rattle.station_files.specs.declared.same_files.Clash.{Clash}

-- where a name leads: the file's whole name, that of the new file while it is replaced, and what tells the files there now from others
pub record Place : Type 0 where
  pub name : List ℕ
  pub path : List ℕ
  pub beside : List ℕ
  pub id : Option FileId
  pub beside_id : Option FileId

abbrev pub place_of : Location → Place
place_of found = record {
  name = string_bytes found.name;
  path = string_bytes found.path;
  beside = string_bytes found.beside;
  id = found.id;
  beside_id = found.beside_id;
}

-- where each name leads, as far as it is known
abbrev pub Leads : Type 0
Leads = List ℕ → Option Place

-- these are the same file, which is there
abbrev pub AreOne : Option FileId → Option FileId → Type 0
AreOne (Some one) (Some other) = one ≡ other
AreOne _ _ = ⊥

-- the names are the same, or lead to the same file
abbrev pub IsSame : Place → Place → Type 0
IsSame one other = (one.name ≡ other.name) ⊎ (one.path ≡ other.path) ⊎ AreOne one.id other.id

-- the other file has the name that this one takes while it is replaced
abbrev pub IsBeside : Place → Place → Type 0
IsBeside one other = (one.beside ≡ other.path) ⊎ AreOne one.beside_id other.id

-- one of the two files would be lost where the other is written or replaced
abbrev pub Meets : Place → Place → Type 0
Meets one other = IsSame one other ⊎ IsBeside one other ⊎ IsBeside other one

-- None of the first `count` meets one after it.
abbrev pub NoneMeet : (count : ℕ) → List Location → Type 0
NoneMeet zero found = ⊤
NoneMeet (suc count) [] = ⊤
NoneMeet (suc count) (one ∷ rest) = AllByRecursion (λ (other : Location). ¬ Meets (place_of one) (place_of other)) rest × NoneMeet count rest

-- These two meet, and the first one is one of the first `count`.
pub record MeetAt (count : ℕ) (found : List Location) (clash : Clash) : Type 0 where
  pub written : clash.one < count
  pub in_order : clash.one < clash.other
  pub inside : clash.other < length found
  pub meet : HoldsAt (λ (one : Location). HoldsAt (λ (other : Location). Meets (place_of one) (place_of other)) found clash.other) found clash.one

-- ---- what is known of names

-- Where it is known of both names where they lead, P holds of these places.
abbrev pub OfBoth : Leads → (Place → Place → Type 0) → List ℕ → List ℕ → Type 0
OfBoth leads P one other = IfSome (leads one) (λ a. IfSome (leads other) (λ b. P a b))

-- The names are not the same, and as far as it is known where they lead neither file would be lost with the other.
pub record StandSeparate (leads : Leads) (one other : List ℕ) : Type 0 where
  pub names : one ≢ other
  pub places : OfBoth leads (λ a b. ¬ Meets a b) one other

-- The files of the first `count` names, which may be written, stand apart from each other and from the files of all names after them.
abbrev pub AreSeparate : Leads → (count : ℕ) → List (List ℕ) → Type 0
AreSeparate leads zero names = ⊤
AreSeparate leads (suc count) [] = ⊤
AreSeparate leads (suc count) (one ∷ rest) = AllByRecursion (StandSeparate leads one) rest × AreSeparate leads count rest

-- Of these two names the first may be written, and as far as it is known where they lead one of the files would be lost with the other.
pub record IsClash (leads : Leads) (count : ℕ) (names : List (List ℕ)) (clash : Clash) : Type 0 where
  pub written : clash.one < count
  pub in_order : clash.one < clash.other
  pub inside : clash.other < length names
  pub meet : HoldsAt (λ (one : List ℕ). HoldsAt (OfBoth leads Meets one) names clash.other) names clash.one

-- the file that standard output goes to
abbrev pub standard_output : List ℕ
standard_output = codes "/dev/fd/1"

-- Where there is a file of this name, standard output doesn't go to it, as far as it is known where both lead.
abbrev pub OutputIsSeparate : Known → Leads → List ℕ → Type 0
OutputIsSeparate files leads name =
    IfSome (files name) (λ held. IsSome held → OfBoth leads (λ a b. ¬ IsSame a b) standard_output name)

-- a name leads there
pub record LeadsTo (leads : Leads) (name : List ℕ) (found : Location) : Type 0 where
  pub name_is : string_bytes found.name ≡ name
  pub known : IfSome (leads name) (λ place. place_of found ≡ place)
