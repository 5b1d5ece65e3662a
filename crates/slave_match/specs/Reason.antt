-- What it usually is where a slave has other words than its image file.
use Rattle.std.specs.Prelude.{◌≡◌, ◌≢◌, ◌⊎◌, ℕ, ◌+◌, ◌/◌, ◌<◌, ◌≤◌, List, length, Option, Some, Any, IsSomeAnd, slice_get, slice_index}
use Rattle.sii_words.specs.declared.run.Run.{Run}
use Rattle.sii_words.specs.declared.identity.Identity.{Identity}
use Rattle.sii_words.specs.Identity.{identity_of}
use Rattle.jrn_format.specs.declared.journal.Entry.{Entry}
use Rattle.jrn_format.specs.declared.journal.Batch.{Batch}
use Rattle.slave_match.specs.declared.reason.Reason.{Reason}
use Rattle.slave_match.specs.declared.reason.Reason.TheVariants.{Elsewhere, SameType, OtherType, Torn, Changed}

-- one vendor and product
abbrev pub AreSameType : Identity → Identity → Type 0
AreSameType one other = (one.vendor ≡ other.vendor) × (one.product ≡ other.product)

-- a place other than the slave's, whose image file is there and is such a one
abbrev pub IsOther : (IsSuch : List ℕ → Type 0) → (slave : ℕ) → List (Option (List ℕ)) → (place : ℕ) → Type 0
IsOther IsSuch slave images place = (place ≢ slave) × IsSomeAnd (slice_get images place) (λ image. IsSomeAnd image IsSuch)

-- the first such place
abbrev pub IsFirstOther : (IsSuch : List ℕ → Type 0) → (slave : ℕ) → List (Option (List ℕ)) → (place : ℕ) → Type 0
IsFirstOther IsSuch slave images place = IsOther IsSuch slave images place × ((before : ℕ) → before < place → ¬ IsOther IsSuch slave images before)

-- no such place
abbrev pub HasNoOther : (IsSuch : List ℕ → Type 0) → (slave : ℕ) → List (Option (List ℕ)) → Type 0
HasNoOther IsSuch slave images = (place : ℕ) → ¬ IsOther IsSuch slave images place

-- an image file with all words of a slave
abbrev pub HasWords : (words image : List ℕ) → Type 0
HasWords words image = image ≡ words

-- an image file with the identity of a slave
unfoldable pub HasIdentity : (words image : List ℕ) → Type 0
HasIdentity words image = identity_of image ≡ identity_of words

-- The place of the image file that was written of a slave: the first other one that has all its words; else, where the slave's own image file has not its
-- identity, the first that has it.
abbrev pub IsPlaceOf : (slave : ℕ) → (words image : List ℕ) → List (Option (List ℕ)) → (place : ℕ) → Type 0
IsPlaceOf slave words image images place = IsFirstOther (HasWords words) slave images place
    ⊎ (HasNoOther (HasWords words) slave images × ¬ HasIdentity words image × IsFirstOther (HasIdentity words) slave images place)

-- there is no such place
abbrev pub IsOfNoOther : (slave : ℕ) → (words image : List ℕ) → List (Option (List ℕ)) → Type 0
IsOfNoOther slave words image images = HasNoOther (HasWords words) slave images × (¬ HasIdentity words image → HasNoOther (HasIdentity words) slave images)

-- the run names a word of the slave in the page of word `at`
abbrev pub NamesPage : (slave at : ℕ) → Run → Type 0
NamesPage slave at run = (run.slave ≡ slave) × (named : ℕ) × (run.first ≤ named) × (named < run.first + length run.words) × (named / 64 ≡ at / 64)

-- a live batch does
abbrev pub IsBeside : (slave at : ℕ) → List Batch → Type 0
IsBeside slave at batches = Any (λ (batch : Batch). Any (λ (entry : Entry). Any (NamesPage slave at) entry.runs) batch.entries) batches

-- Slave and image file have as many words, and each that differs lies in a page of which a live batch names a word.
pub record AreTorn (slave : ℕ) (words image : List ℕ) (batches : List Batch) : Type 0 where
  pub size : length words ≡ length image
  pub each : (at : ℕ) → slice_index words at ≢ slice_index image at → IsBeside slave at batches

-- What it usually is that a slave with `words` has others than its image file.
abbrev pub IsReason : (slave : ℕ) → (words image : List ℕ) → List (Option (List ℕ)) → List Batch → Reason → Type 0
IsReason slave words image images batches (Elsewhere place) = IsPlaceOf slave words image images place
IsReason slave words image images batches OtherType = IsOfNoOther slave words image images × ¬ AreSameType (identity_of words) (identity_of image)
IsReason slave words image images batches SameType =
    IsOfNoOther slave words image images × AreSameType (identity_of words) (identity_of image) × ¬ HasIdentity words image
IsReason slave words image images batches Torn = IsOfNoOther slave words image images × HasIdentity words image × AreTorn slave words image batches
IsReason slave words image images batches Changed = IsOfNoOther slave words image images × HasIdentity words image × ¬ AreTorn slave words image batches

-- The same where slave and image file are there.
abbrev pub IsReasonAt : (slave : ℕ) → Option (List ℕ) → Option (Option (List ℕ)) → List (Option (List ℕ)) → List Batch → Reason → Type 0
IsReasonAt slave (Some words) (Some (Some image)) images batches reason = IsReason slave words image images batches reason
IsReasonAt slave words image images batches reason = reason ≡ Changed
