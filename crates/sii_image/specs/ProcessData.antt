-- What the categories of a slave say of its process data (ETG.1000.6 and ETG.2010, SyncM, TXPDO and RXPDO categories).
use Rattle.std.specs.Prelude.{ℕ, List, [], ◌∷◌, ◌++◌, Result, Ok, Err, map, filter, sum_by, take, nat_lt, ◌==◌, if◌then◌else◌}
use Rattle.std.specs.List.{enumerate_from}
use Rattle.sii_cats.specs.Chain.{Member}
use Rattle.sii_cats.specs.steps.Chain.{members_of}
use Rattle.sii_cats.specs.steps.Contents.{managers_of}
use Rattle.sii_cats.specs.steps.Items.{◌>>=◌}
use Rattle.sii_cats.specs.Pdos.{Mapping}
use Rattle.sii_cats.specs.steps.Pdos.{pdos_of}
use Rattle.sii_cats.specs.declared.managers.Manager.{Manager}
use Rattle.sii_image.specs.declared.rows.Row.{Row}

-- the sync managers of a slave, its RXPDOs (outputs of the master) and its TXPDOs (inputs of the master)
pub record Description : Type 0 where
  pub managers : List Manager
  pub outputs : List Mapping
  pub inputs : List Mapping

-- the contents of all categories of a type
abbrev pub contents_of_kind : ℕ → List Member → List (List ℕ)
contents_of_kind kind members = map (λ m. m.content) (filter (λ m. m.kind == kind) members)

-- The sync managers of the first SyncM category, or none without such a category. Its content can always be read.
abbrev pub managers_in : List (List ℕ) → Result (List Manager) (List ℕ)
managers_in [] = Ok []
managers_in (first ∷ others) = managers_of first

-- the PDOs of all these contents; none can be read if one of them can't
abbrev pub pdos_in : List (List ℕ) → Result (List Mapping) (List ℕ)
pdos_in [] = Ok []
pdos_in (content ∷ contents) = pdos_of content >>= λ pdos. pdos_in contents >>= λ others. Ok (pdos ++ others)

-- The first 16 sync managers of the first category of type 41, and the PDOs of all categories of types 51 (RXPDO) and 50
-- (TXPDO). There is no description if the chain, or one of these categories, can't be read.
abbrev pub described : List ℕ → Result Description (List ℕ)
described words = do
  members ← members_of words
  managers ← managers_in (contents_of_kind 41 members)
  outputs ← pdos_in (contents_of_kind 51 members)
  inputs ← pdos_in (contents_of_kind 50 members)
  Ok (record { managers = take 16 managers; outputs = outputs; inputs = inputs })

-- the length of a PDO in bits: the sum of the bit lengths of its entries
abbrev pub pdo_bits : Mapping → ℕ
pdo_bits pdo = sum_by (λ entry. entry.bit_length) pdo.entries

-- the length in bits of all PDOs that are assigned to a sync manager
abbrev pub bits_for : List Mapping → ℕ → ℕ
bits_for pdos number = sum_by pdo_bits (filter (λ pdo. pdo.manager == number) pdos)

-- The length in bits of a sync manager's data: RXPDOs give bits to type 3 (process data out), TXPDOs to type 4 (process data
-- in).
abbrev pub manager_bits : Description → ℕ → Manager → ℕ
manager_bits d number manager =
    if manager.kind == 3 then bits_for d.outputs number else if manager.kind == 4 then bits_for d.inputs number else 0

-- a sync manager with its number, as a row
abbrev pub row : Description → ℕ × Manager → Row
row d m = record { manager = m.0; output = (m.1.kind == 3); bits = manager_bits d m.0 m.1; start = m.1.start; control = m.1.control }

-- the rows of a slave: its sync managers that have bits, numbered from 0
abbrev pub rows_described : Description → List Row
rows_described d = filter (λ r. nat_lt 0 r.bits) (map (row d) (enumerate_from 0 d.managers))

-- the rows that were read; none where the categories can't be read
abbrev pub rows_read : Result Description (List ℕ) → List Row
rows_read (Ok d) = rows_described d
rows_read (Err words) = []

-- the rows of a slave with these words; none where its categories can't be read
unfoldable pub rows_of : List ℕ → List Row
rows_of words = rows_read (described words)
