-- TXPDO and RXPDO categories (types 50 and 51): a head of eight bytes for each PDO, and eight bytes for each of its entries.
use Rattle.std.specs.Prelude.{◌≡◌, ℕ, ◌/◌, ◌%◌, ◌<◌, List, [], ◌∷◌, ◌++◌, length, map}
use Rattle.std.specs.List.{flat_map}
use Rattle.sii_cats.specs.Bytes.{low_first}
use Rattle.sii_cats.specs.Items.{AreItems}
use Rattle.sii_cats.specs.declared.mappings.PdoEntry.{PdoEntry}
use Rattle.sii_cats.specs.declared.mappings.Pdo.{Pdo}
use Rattle.sii_cats.specs.declared.mappings.PdoHead.{PdoHead}

-- a PDO as contracts compare it: its head, and the list of its entries
pub record Mapping : Type 0 where
  pub index : ℕ
  pub entries : List PdoEntry
  pub manager : ℕ
  pub synchronization : ℕ
  pub name : ℕ
  pub flags : ℕ

-- the value in contracts of a PDO of the running code
abbrev pub view : Pdo → Mapping
view p =
    record { index = p.index; entries = p.entries.items; manager = p.manager; synchronization = p.synchronization; name = p.name; flags = p.flags }

-- the values of several PDOs
abbrev pub views : List Pdo → List Mapping
views ps = map view ps

-- the entries that words spell, four words each; fewer than four words at the end are ignored
abbrev pub entries_in : List ℕ → List PdoEntry
entries_in (index ∷ named ∷ typed ∷ flags ∷ words) =
    record { index = index; subindex = named % 256; name = named / 256; data_type = typed % 256; bit_length = typed / 256; flags = flags }
    ∷ entries_in words
entries_in short = []

-- the value in contracts of a PDO where it lies: its head, and the words of its entries
abbrev pub in_place : PdoHead → List ℕ → Mapping
in_place head words = record {
  index = head.index;
  entries = entries_in words;
  manager = head.manager;
  synchronization = head.synchronization;
  name = head.name;
  flags = head.flags;
}

-- the eight bytes of an entry: index, subindex, name index, data type, bit length, flags
abbrev pub entry_bytes : PdoEntry → List ℕ
entry_bytes e = low_first e.index ++ (e.subindex ∷ e.name ∷ e.data_type ∷ e.bit_length ∷ []) ++ low_first e.flags

-- the eight bytes of a head: index, number of entries, SyncM, synchronization, name index, flags
abbrev pub head_bytes : Mapping → List ℕ
head_bytes p = low_first p.index ++ (length p.entries ∷ p.manager ∷ p.synchronization ∷ p.name ∷ []) ++ low_first p.flags

-- the bytes of a PDO: its head, and its entries
abbrev pub pdo_bytes : Mapping → List ℕ
pdo_bytes p = head_bytes p ++ flat_map entry_bytes p.entries

-- The bytes are these PDOs one after another; fewer than eight bytes at the end are ignored.
abbrev pub ArePdos : List ℕ → List Mapping → Type 0
ArePdos bytes pdos = AreItems (λ cells p rest. cells ≡ pdo_bytes p ++ rest) (λ rest. length rest < 8) bytes pdos

-- a PDO can be written if its number of entries fits one byte
abbrev pub IsWritable : Mapping → Type 0
IsWritable p = length p.entries < 256
