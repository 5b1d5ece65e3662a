-- What is written is read back.
use Rattle.std.proofs.Common.{◌≡◌, ℕ, List, [], ◌∷◌, ◌++◌, length, refl, ap, arith}
use Rattle.std.specs.List.{flat_map}
use Rattle.sii_cats.specs.Bytes.{padded}
use Rattle.sii_cats.specs.Contents.{AreManagers, manager_bytes, unit_bytes, in_pairs}
use Rattle.sii_cats.specs.Pdos.{ArePdos, Mapping, pdo_bytes}
use Rattle.sii_cats.specs.Strings.{AreStrings, all_bytes, string_bytes}
use Rattle.sii_cats.specs.declared.units.FmmuUnit.{FmmuUnit}
use Rattle.sii_cats.specs.declared.managers.Manager.{Manager}

pub units_back : (units : List FmmuUnit) → padded (unit_bytes units) ≡ unit_bytes (in_pairs units)
units_back [] = refl
units_back (unit ∷ []) = refl
units_back (unit ∷ other ∷ units) = ap (λ (bytes : List ℕ). unit.byte ∷ other.byte ∷ bytes) (units_back units)

pub managers_back : (managers : List Manager) → AreManagers (flat_map manager_bytes managers) managers
managers_back [] = omega arith
managers_back (m ∷ managers) = (flat_map manager_bytes managers, refl, managers_back managers)

pub pdos_back : (pdos : List Mapping) → ArePdos (flat_map pdo_bytes pdos) pdos
pdos_back [] = omega arith
pdos_back (p ∷ pdos) = (flat_map pdo_bytes pdos, refl, pdos_back pdos)

-- padding stands behind the bytes
padding : (bytes : List ℕ) → (pad : List ℕ) × (padded bytes ≡ bytes ++ pad)
padding [] = ([], refl)
padding (low ∷ []) = (0 ∷ [], refl)
padding (low ∷ high ∷ bytes) = let p = padding bytes in (p.0, ap (λ (t : List ℕ). low ∷ high ∷ t) p.1)

strings_before : (strings : List (List ℕ)) (bytes pad : List ℕ) → bytes ≡ all_bytes strings ++ pad → AreStrings bytes strings
strings_before strings [] pad e = absurd cc
strings_before strings (count ∷ bytes) pad e =
    let first : count ≡ length strings = cc in
    let rest : bytes ≡ flat_map string_bytes strings ++ pad = cc in
    (first, pad, rest)

pub strings_back : (strings : List (List ℕ)) → AreStrings (padded (all_bytes strings)) strings
strings_back strings = let p = padding (all_bytes strings) in strings_before strings (padded (all_bytes strings)) p.0 p.1
