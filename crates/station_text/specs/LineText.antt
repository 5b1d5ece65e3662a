-- The content of a line file, by the values at its keys.
use Rattle.std.specs.Prelude.{◌≡◌, ◌≤◌, ℕ, List, [], ◌∷◌, length, Option, Some, None, IsSomeAnd, codes, pos, String, string_bytes}
use Rattle.std.specs.List.{AllZip}
use Rattle.std.specs.declared.alloc.Global.{Global}
use Rattle.toml.specs.Data.{Data, Members, get_member, as_integer, as_table}
use Rattle.station_text.specs.Document.{HasOnly, text_at, values_at}

-- the area is the integer at its key, 4096 to 4194304, or 65536 if there is no such key
abbrev pub IsArea : Option Data → ℕ → Type 0
IsArea None area = area ≡ 65536
IsArea (Some value) area = (as_integer value ≡ Some (pos area)) × (4096 ≤ area) × (area ≤ 4194304)

-- the table of a slave names this image file
abbrev pub NamesImage : Data → String Global → Type 0
NamesImage slave name = IsSomeAnd (as_table slave) (λ table.
    HasOnly (codes "image" ∷ []) table × (text_at (codes "image") table ≡ Some (string_bytes name)))

-- these are the image files of 1 to 64 slaves, in order
pub record AreImages (slaves : List Data) (images : List (String Global)) : Type 0 where
  pub each : AllZip NamesImage slaves images
  pub some : 1 ≤ length images
  pub most : length images ≤ 64

-- the document describes this line: the journal's file, the size of its area in bytes, and the image file of each slave
pub record Describes (document : Members) (journal : String Global) (area : ℕ) (images : List (String Global)) : Type 0 where
  pub only_keys : HasOnly (codes "journal" ∷ codes "area" ∷ codes "slave" ∷ []) document
  pub journal_file : text_at (codes "journal") document ≡ Some (string_bytes journal)
  pub area_bytes : IsArea (get_member (codes "area") document) area
  pub image_files : IsSomeAnd (values_at (codes "slave") document) (λ slaves. AreImages slaves images)
