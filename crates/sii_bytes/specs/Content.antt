-- The items of a category's content.
use Rattle.std.specs.Prelude.{◌≡◌, ◌⊎◌, ℕ, ◌+◌, ◌<◌, ◌≤◌, ◌%◌, List, ◌++◌, length, drop, Some, slice_get, Result, Ok, Err}
use Rattle.sii_cats.specs.declared.managers.Manager.{Manager}
use Rattle.sii_cats.specs.declared.mappings.PdoEntry.{PdoEntry}
use Rattle.sii_cats.specs.Pdos.{ArePdos, Mapping}
use Rattle.sii_cats.specs.Strings.{AreStrings}
use Rattle.sii_bytes.specs.declared.content.EntryRow.{EntryRow}
use Rattle.sii_bytes.specs.declared.content.PdoRow.{PdoRow}
use Rattle.sii_bytes.specs.declared.content.SyncManager.{SyncManager}

-- why bytes aren't read as words: 1, their number is odd; or 20, memory was refused
abbrev pub IsUnspelt : List ℕ → ℕ → Type 0
IsUnspelt content code = ((code ≡ 1) × (length content % 2 ≡ 1)) ⊎ (code ≡ 20)

-- Why the items of a content aren't read: its bytes aren't; or 4, it has no such items.
pub data IsUnread {X : Type 0} (Are : List ℕ → List X → Type 0) (content : List ℕ) (code : ℕ) : Type 0 where
  unspelt : IsUnspelt content code → IsUnread Are content code
  unreadable : code ≡ 4 → ((items : List X) → Are content items → ⊥) → IsUnread Are content code

-- the items of the content, or why they aren't read
abbrev pub FindsList : {V X : Type 0} → (V → List X) → (List ℕ → List X → Type 0) → List ℕ → Result V ℕ → Type 0
FindsList items Are content (Ok v) = Are content (items v)
FindsList items Are content (Err code) = IsUnread Are content code

-- The content has these items, and this is the one of this number, from 0.
pub record HasItem {X : Type 0} (Are : List ℕ → List X → Type 0) (content : List ℕ) (number : ℕ) (item : X) : Type 0 where
  pub items : List X
  pub all : Are content items
  pub found : slice_get items number ≡ Some item

-- Why there is no item of this number: the items aren't read; or 214, there are fewer.
pub data LacksItem {X : Type 0} (Are : List ℕ → List X → Type 0) (content : List ℕ) (number code : ℕ) : Type 0 where
  unread : IsUnread Are content code → LacksItem Are content number code
  fewer : (items : List X) → code ≡ 214 → Are content items → length items ≤ number → LacksItem Are content number code

-- What reading an item answers: 0, it is this one; or a code, and nothing was changed.
pub data ReadsItem {X : Type 0} (Are : List ℕ → List X → Type 0) (content : List ℕ) (number code : ℕ) (Is : X → Type 0)
    (Unchanged : Type 0) : Type 0 where
  done : (item : X) → code ≡ 0 → HasItem Are content number item → Is item → ReadsItem Are content number code Is Unchanged
  lacks : LacksItem Are content number code → Unchanged → ReadsItem Are content number code Is Unchanged

-- The row has the values of the sync manager.
pub record IsManager (manager : Manager) (row : SyncManager) : Type 0 where
  pub start : row.start ≡ manager.start
  pub length : row.length ≡ manager.length
  pub control : row.control ≡ manager.control
  pub status : row.status ≡ manager.status
  pub enable : row.enable ≡ manager.enable
  pub kind : row.kind ≡ manager.kind

-- The row has the values of the PDO's head.
pub record IsPdo (pdo : Mapping) (row : PdoRow) : Type 0 where
  pub index : row.index ≡ pdo.index
  pub entries : row.entries ≡ length pdo.entries
  pub manager : row.manager ≡ pdo.manager
  pub synchronization : row.synchronization ≡ pdo.synchronization
  pub name : row.name ≡ pdo.name
  pub flags : row.flags ≡ pdo.flags

-- The row has the values of the entry.
pub record IsEntry (entry : PdoEntry) (row : EntryRow) : Type 0 where
  pub index : row.index ≡ entry.index
  pub subindex : row.subindex ≡ entry.subindex
  pub name : row.name ≡ entry.name
  pub data_type : row.data_type ≡ entry.data_type
  pub bits : row.bits ≡ entry.bit_length
  pub flags : row.flags ≡ entry.flags

-- What reading an entry of a PDO answers: 0, it is this one; or a code, and nothing was changed: that of the PDO; or 214, it has fewer.
pub data ReadsEntry (content : List ℕ) (place number code : ℕ) (row : EntryRow) (Unchanged : Type 0) : Type 0 where
  done : (pdo : Mapping) (entry : PdoEntry) → code ≡ 0 → HasItem ArePdos content place pdo → slice_get pdo.entries number ≡ Some entry
      → IsEntry entry row → ReadsEntry content place number code row Unchanged
  lacks : LacksItem ArePdos content place code → Unchanged → ReadsEntry content place number code row Unchanged
  fewer : (pdo : Mapping) → code ≡ 214 → HasItem ArePdos content place pdo → length pdo.entries ≤ number → Unchanged
      → ReadsEntry content place number code row Unchanged

-- What reading a string answers: 0, its bytes stand first and this is their number; or a code, and nothing was changed: 214, the number is
-- 0; that of the string before this number; or 213, there is no room for it.
pub data ReadsString (content : List ℕ) (number : ℕ) (old : List ℕ) (code : ℕ) (new : List ℕ) (size : ℕ) (Unchanged : Type 0) : Type 0 where
  done : (before : ℕ) (string : List ℕ) → code ≡ 0 → number ≡ before + 1 → HasItem AreStrings content before string
      → new ≡ string ++ drop (length string) old → size ≡ length string → ReadsString content number old code new size Unchanged
  unread : IsUnread AreStrings content code → Unchanged → ReadsString content number old code new size Unchanged
  zero_is_none : code ≡ 214 → number ≡ 0 → Unchanged → ReadsString content number old code new size Unchanged
  fewer : (strings : List (List ℕ)) → code ≡ 214 → AreStrings content strings → length strings < number → Unchanged
      → ReadsString content number old code new size Unchanged
  no_room : (before : ℕ) (string : List ℕ) → code ≡ 213 → number ≡ before + 1 → HasItem AreStrings content before string
      → length old < length string → Unchanged → ReadsString content number old code new size Unchanged
