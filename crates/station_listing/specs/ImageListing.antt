-- The listing of an EEPROM image: whether its check byte is right, and the categories of its chain with their items.
use Rattle.std.specs.Prelude.{◌≡◌, ◌≢◌, ◌%◌, ◌⊎◌, ◌<◌, ◌≤◌, ℕ, List, length, slice_index, All}
use Rattle.std.specs.List.{AllZip}
use Rattle.sii_words.specs.CheckByte.{IsChecked, check_byte_of}
use Rattle.sii_words.specs.Identity.{identity_of}
use Rattle.sii_words.specs.Words.{alias_of}
use Rattle.sii_cats.specs.Bytes.{bytes_of}
use Rattle.sii_cats.specs.Chain.{IsChain, IsCutAt, Member}
use Rattle.sii_cats.specs.Contents.{AreManagers, AreUnits}
use Rattle.sii_cats.specs.Pdos.{ArePdos, views}
use Rattle.sii_cats.specs.Strings.{AreStrings, texts}
use Rattle.station_listing.specs.declared.items.Items.{Items}
use Rattle.station_listing.specs.declared.items.Items.TheVariants as items
use Rattle.station_listing.specs.declared.listing.CheckByte.{CheckByte}
use Rattle.station_listing.specs.declared.listing.CheckByte.TheVariants.{Right, Wrong}
use Rattle.station_listing.specs.declared.listing.ListedCategory.{ListedCategory}
use Rattle.station_listing.specs.declared.listing.ListedChain.{ListedChain}
use Rattle.station_listing.specs.declared.listing.ListedChain.TheVariants.{Complete, RunsOut}
use Rattle.station_listing.specs.declared.listing.Listing.{Listing}

-- the bytes of these words spell no list of items
abbrev pub SpellsNone : {X : Type 0} → (List ℕ → List X → Type 0) → List ℕ → Type 0
SpellsNone {X} Spell words = (items : List X) → Spell (bytes_of words) items → ⊥

-- the types of TXPDO and RXPDO categories
abbrev pub IsPdoType : ℕ → Type 0
IsPdoType kind = (kind ≡ 50) ⊎ (kind ≡ 51)

-- this content should be readable, and isn't
abbrev pub IsMalformed : ℕ → List ℕ → Type 0
IsMalformed kind words = ((kind ≡ 10) × SpellsNone AreStrings words) ⊎ (IsPdoType kind × SpellsNone ArePdos words)

-- the content of a category of this type isn't read
abbrev pub IsOpaque : ℕ → List ℕ → Type 0
IsOpaque kind words =
    ((kind ≡ 30) × (length words < 7)) ⊎ ((kind ≢ 10) × (kind ≢ 30) × (kind ≢ 40) × (kind ≢ 41) × (kind ≢ 50) × (kind ≢ 51))

-- these are the items of a content of this type
abbrev pub SaysItems : ℕ → List ℕ → Items → Type 0
SaysItems kind words (items.Strings strings) = (kind ≡ 10) × AreStrings (bytes_of words) (texts strings.items)
SaysItems kind words items.General = (kind ≡ 30) × (7 ≤ length words)
SaysItems kind words (items.Units units) = (kind ≡ 40) × AreUnits (bytes_of words) units.items
SaysItems kind words (items.Managers managers) = (kind ≡ 41) × AreManagers (bytes_of words) managers.items
SaysItems kind words (items.Pdos pdos) = IsPdoType kind × ArePdos (bytes_of words) (views pdos.items)
SaysItems kind words items.Malformed = IsMalformed kind words
SaysItems kind words items.Words = IsOpaque kind words

-- this is the listing of a category: its type, the words of its content, and the items in it
pub record SaysMember (member : Member) (listed : ListedCategory) : Type 0 where
  pub kind : listed.kind ≡ member.kind
  pub words : listed.words.items ≡ member.content
  pub items : SaysItems member.kind member.content listed.items

-- this is the listing of the chain: its categories, or the header from which on it can't be read
abbrev pub SaysChain : List ℕ → ListedChain → Type 0
SaysChain words (Complete listed) = (members : List Member) × IsChain words members × AllZip SaysMember members listed.items
SaysChain words (RunsOut at) = IsCutAt words at

-- this is the listing of the check byte: the low byte of word 7 is right, or differs from the check byte of the words
abbrev pub SaysCheck : List ℕ → CheckByte → Type 0
SaysCheck words Right = IsChecked words
SaysCheck words (Wrong found expected) = (found ≡ slice_index words 7 % 256) × (expected ≡ check_byte_of words) × (found ≢ expected)

-- this is the listing of an image
pub record SaysImage (words : List ℕ) (listing : Listing) : Type 0 where
  pub count : listing.count ≡ length words
  pub alias : listing.alias ≡ alias_of words
  pub check : SaysCheck words listing.check
  pub identity : listing.identity ≡ identity_of words
  pub chain : SaysChain words listing.chain

-- the chain and all contents can be read
abbrev pub IsReadable : ListedChain → Type 0
IsReadable (Complete listed) = All (λ category. category.items ≢ items.Malformed) listed.items
IsReadable (RunsOut at) = ⊥

-- the check byte is right, and the chain and all contents can be read
abbrev pub IsSound : Listing → Type 0
IsSound listing = (listing.check ≡ Right) × IsReadable listing.chain
