-- FMMU and SyncM categories (types 40 and 41): a byte for each unit, eight bytes for each sync manager.
use Rattle.std.specs.Prelude.{◌≡◌, ℕ, ◌<◌, List, [], ◌∷◌, ◌++◌, length, map, ◌==◌, if◌then◌else◌}
use Rattle.sii_cats.specs.Bytes.{low_first}
use Rattle.sii_cats.specs.Items.{AreItems}
use Rattle.sii_cats.specs.declared.units.FmmuUnit.{FmmuUnit}
use Rattle.sii_cats.specs.declared.units.FmmuUse.{FmmuUse}
use Rattle.sii_cats.specs.declared.units.FmmuUse.TheVariants.{Unused, Outputs, Inputs, SyncManagerStatus, Other}
use Rattle.sii_cats.specs.declared.managers.Manager.{Manager}

-- the bytes of units, one each
abbrev pub unit_bytes : List FmmuUnit → List ℕ
unit_bytes units = map (λ unit. unit.byte) units

-- what a unit's byte says of the use of its FMMU
abbrev pub use_of : ℕ → FmmuUse
use_of byte =
    if byte == 0 then Unused else if byte == 255 then Unused else if byte == 1 then Outputs else if byte == 2 then Inputs
    else if byte == 3 then SyncManagerStatus else Other

-- the bytes are those of the units
abbrev pub AreUnits : List ℕ → List FmmuUnit → Type 0
AreUnits bytes units = bytes ≡ unit_bytes units

-- units padded to an even number with an unused one
abbrev pub in_pairs : List FmmuUnit → List FmmuUnit
in_pairs [] = []
in_pairs (unit ∷ []) = unit ∷ record { byte = 0 } ∷ []
in_pairs (unit ∷ other ∷ units) = unit ∷ other ∷ in_pairs units

-- the eight bytes of a sync manager: physical start, length, control, status, enable, type
abbrev pub manager_bytes : Manager → List ℕ
manager_bytes m = low_first m.start ++ low_first m.length ++ (m.control ∷ m.status ∷ m.enable ∷ m.kind ∷ [])

-- The bytes are these sync managers one after another; fewer than eight bytes at the end are ignored.
abbrev pub AreManagers : List ℕ → List Manager → Type 0
AreManagers bytes managers = AreItems (λ cells m rest. cells ≡ manager_bytes m ++ rest) (λ rest. length rest < 8) bytes managers
