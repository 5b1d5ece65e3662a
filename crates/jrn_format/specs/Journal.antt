-- The live batches of a journal. Version 1 has one area. In version 2 the area has two halves, and each is read within its own bytes.
use Rattle.std.specs.Prelude.{◌≡◌, ℕ, ◌+◌, ◌%◌, ◌<◌, ◌⊎◌, List, [], ◌++◌, length}
use Rattle.std.specs.List.{AllByRecursion}
use Rattle.jrn_format.specs.declared.journal.Batch.{Batch}
use Rattle.jrn_format.specs.declared.journal.Journal.{Journal}
use Rattle.jrn_format.specs.declared.journal.Form.{Form}
use Rattle.jrn_format.specs.declared.journal.Form.TheVariants.{One, Two, Moving}
use Rattle.jrn_format.specs.declared.journal.Spelling.TheVariants.{Plain, WithGeneration}
use Rattle.jrn_format.specs.Batch.{IsWithin}
use Rattle.jrn_format.specs.Area.{IsLive}
use Rattle.jrn_format.specs.Header.{HasArea}

-- The two halves of an area, of equal length. In an area of odd length the last byte belongs to neither.
pub record AreHalves (area first second : List ℕ) : Type 0 where
  pub equal : length first ≡ length second
  pub last : List ℕ
  pub odd : length last < 2
  pub entire : area ≡ first ++ (second ++ last)

-- All these batches have this generation.
abbrev pub AreOf : ℕ → List Batch → Type 0
AreOf generation batches = AllByRecursion (λ batch. batch.generation ≡ generation) batches

-- All batches of the older half have one generation, and all of the newer half the next one, modulo 256.
abbrev pub IsFollowedBy : List Batch → List Batch → Type 0
IsFollowedBy older newer = (generation : ℕ) × AreOf generation older × AreOf ((generation + 1) % 256) newer

-- The batches of both halves, those of the older half first.
abbrev pub IsInOrder : List Batch → List Batch → List Batch → Type 0
IsInOrder firsts seconds batches =
    (IsFollowedBy firsts seconds × (batches ≡ firsts ++ seconds)) ⊎ (IsFollowedBy seconds firsts × (batches ≡ seconds ++ firsts))

-- These batches are live in an area of two halves.
pub record AreLive (area : List ℕ) (batches : List Batch) : Type 0 where
  pub first : List ℕ
  pub second : List ℕ
  pub halves : AreHalves area first second
  pub firsts : List Batch
  pub seconds : List Batch
  pub first_live : IsLive WithGeneration 0 first firsts
  pub second_live : IsLive WithGeneration 1 second seconds
  pub in_order : IsInOrder firsts seconds batches

-- These batches are live in an area of this form. In an interrupted migration nothing is live.
abbrev pub HasLive : Form → List ℕ → List Batch → Type 0
HasLive One area batches = IsLive Plain 0 area batches
HasLive Two area batches = AreLive area batches
HasLive Moving area batches = batches ≡ []

-- The file is this journal, of a line whose slaves have `sizes` words each.
pub record IsJournal (file sizes : List ℕ) (journal : Journal) : Type 0 where
  pub area : List ℕ
  pub has_area : HasArea file (length sizes) journal.form area
  pub live : HasLive journal.form area journal.batches
  pub within : AllByRecursion (IsWithin sizes) journal.batches
