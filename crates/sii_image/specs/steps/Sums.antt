-- What the running code keeps of the description of a slave: its sync managers, and for each of the numbers 0 to 15 the bits of
-- the PDOs that are assigned to it.
use Rattle.std.specs.Prelude.{◌≡◌, ℕ, ◌+◌, ◌<◌, ◌≤◌, List, [], ◌∷◌, length, map, filter, replicate, slice_index, slice_set, nat_lt, Result, Ok, Err, IsErr, ◌==◌, if◌then◌else◌}
use Rattle.std.specs.List.{enumerate_from}
use Rattle.sii_cats.specs.Pdos.{Mapping}
use Rattle.sii_cats.specs.Reading.{Refuses}
use Rattle.sii_cats.specs.steps.Items.{◌>>=◌}
use Rattle.sii_cats.specs.declared.fault.CatFault.{CatFault}
use Rattle.sii_cats.specs.declared.managers.Manager.{Manager}
use Rattle.sii_image.specs.ProcessData.{Description, pdo_bits}
use Rattle.sii_image.specs.declared.rows.Row.{Row}

-- the sums with the bits of a PDO added to that of its sync manager, if there is one
abbrev pub with_pdo : List ℕ → Mapping → List ℕ
with_pdo sums pdo = slice_set sums pdo.manager (slice_index sums pdo.manager + pdo_bits pdo)

-- the sums with the bits of these PDOs added
abbrev pub with_pdos : List ℕ → List Mapping → List ℕ
with_pdos sums [] = sums
with_pdos sums (pdo ∷ pdos) = with_pdos (with_pdo sums pdo) pdos

-- the sums of PDOs, one for each of 16 sync managers
abbrev pub sums_of : List Mapping → List ℕ
sums_of pdos = with_pdos (replicate 16 0) pdos

-- the sums of PDOs that were read
abbrev pub sums_read : Result (List Mapping) (List ℕ) → Result (List ℕ) (List ℕ)
sums_read read = read >>= λ pdos. Ok (sums_of pdos)

-- each sum is at most this
abbrev pub AreWithin : List ℕ → ℕ → Type 0
AreWithin sums most = (n : ℕ) → n < length sums → slice_index sums n ≤ most

-- What adding the PDOs of a content answers: their bits are added, or BadCategory only where they can't be read.
abbrev pub AddsPdos : ℕ → List ℕ → List ℕ → Result (List Mapping) (List ℕ) → Result (Unit {0}) CatFault → Type 0
AddsPdos kind old new read (Ok done) = (pdos : List Mapping) × (read ≡ Ok pdos) × (new ≡ with_pdos old pdos)
AddsPdos kind old new read (Err fault) = Refuses kind fault (IsErr read)

-- what is kept of a description
pub record Summed : Type 0 where
  pub managers : List Manager
  pub outputs : List ℕ
  pub inputs : List ℕ

abbrev pub summed : Description → Summed
summed d = record { managers = d.managers; outputs = sums_of d.outputs; inputs = sums_of d.inputs }

-- what is kept of a description that was read
abbrev pub summed_read : Result Description (List ℕ) → Result Summed (List ℕ)
summed_read read = read >>= λ d. Ok (summed d)

-- the length in bits of a sync manager's data
abbrev pub manager_sum : Summed → ℕ → Manager → ℕ
manager_sum s number manager =
    if manager.kind == 3 then slice_index s.outputs number else if manager.kind == 4 then slice_index s.inputs number else 0

-- a sync manager with its number, as a row
abbrev pub row_summed : Summed → ℕ × Manager → Row
row_summed s m = record { manager = m.0; output = (m.1.kind == 3); bits = manager_sum s m.0 m.1; start = m.1.start; control = m.1.control }

-- the sync managers that have bits, as rows
abbrev pub rows_summed : Summed → List Row
rows_summed s = filter (λ r. nat_lt 0 r.bits) (map (row_summed s) (enumerate_from 0 s.managers))
