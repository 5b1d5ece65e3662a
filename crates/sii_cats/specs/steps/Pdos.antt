-- TXPDO and RXPDO categories as they are read, one PDO after the other.
use Rattle.std.specs.Prelude.{ℕ, List, ◌∷◌, Result, Ok, Err}
use Rattle.sii_cats.specs.Bytes.{number, bytes_of}
use Rattle.sii_cats.specs.Pdos.{Mapping}
use Rattle.sii_cats.specs.steps.Items.{Front, items_of, counted}
use Rattle.sii_cats.specs.steps.Items.Front.{Ended, Item, Broken}
use Rattle.sii_cats.specs.declared.mappings.PdoEntry.{PdoEntry}

-- the entry in front and what is left behind it, or what is left where none can be read
abbrev pub entry_at : List ℕ → Result (PdoEntry × List ℕ) (List ℕ)
entry_at (i0 ∷ i1 ∷ subindex ∷ name ∷ data_type ∷ bit_length ∷ f0 ∷ f1 ∷ rest) =
    Ok (record { index = number i0 i1; subindex = subindex; name = name; data_type = data_type; bit_length = bit_length; flags = number f0 f1 }, rest)
entry_at short = Err short

-- a PDO with the entries that were read
abbrev pub with_entries : (List PdoEntry → Mapping) → Result (List PdoEntry × List ℕ) (List ℕ) → Front Mapping
with_entries pdo (Ok x) = Item (pdo x.0) x.1
with_entries pdo (Err rest) = Broken

-- the PDO in front, or an end
abbrev pub pdo_at : List ℕ → Front Mapping
pdo_at (i0 ∷ i1 ∷ count ∷ manager ∷ synchronization ∷ name ∷ f0 ∷ f1 ∷ rest) = with_entries
    (λ entries.
    record { index = number i0 i1; entries = entries; manager = manager; synchronization = synchronization; name = name; flags = number f0 f1 })
    (counted entry_at count rest)
pdo_at short = Ended

-- the PDOs of a content
abbrev pub pdos_of : List ℕ → Result (List Mapping) (List ℕ)
pdos_of words = items_of pdo_at (bytes_of words)
