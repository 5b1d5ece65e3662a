-- Whether an image is good, and if not, what is found first.
use Rattle.std.specs.Prelude.{◌≡◌, ◌≢◌, ℕ, List, Some, slice_get, take, All}
use Rattle.std.specs.Global.{Vec}
use Rattle.sii_words.specs.Words.{IsImageSize}
use Rattle.station_listing.specs.declared.items.Items.TheVariants.{Malformed}
use Rattle.station_listing.specs.declared.listing.CheckByte.TheVariants.{Right, Wrong}
use Rattle.station_listing.specs.declared.listing.ListedCategory.{ListedCategory}
use Rattle.station_listing.specs.declared.listing.ListedChain.TheVariants.{Complete, RunsOut}
use Rattle.station_listing.specs.declared.listing.Listing.{Listing}
use Rattle.station_listing.specs.ImageListing.{IsSound, SaysImage}
use Rattle.sii_bytes.specs.Bytes.{AreRefused, AreWords, words_in}

-- This is the type of the first of the categories whose content can't be read.
pub record IsFirstMalformed (listed : List ListedCategory) (kind : ℕ) : Type 0 where
  pub place : ℕ
  pub category : ListedCategory
  pub here : slice_get listed place ≡ Some category
  pub kind_is : kind ≡ category.kind
  pub malformed : category.items ≡ Malformed
  pub first : All (λ earlier. earlier.items ≢ Malformed) (take place listed)

-- What a listing says of its image, with a number beside the code: 0, it is good; 15, the check byte is wrong, and this is the right one;
-- 3, the category with its header at this word is cut off; 4, the content of a category of this type can't be read. The first that
-- applies.
pub data ValidatesListing (listing : Listing) (code detail : ℕ) : Type 0 where
  good : code ≡ 0 → detail ≡ 0 → IsSound listing → ValidatesListing listing code detail
  bad_check : (found expected : ℕ) → code ≡ 15 → detail ≡ expected → listing.check ≡ Wrong found expected
      → ValidatesListing listing code detail
  runs_out : (at : ℕ) → code ≡ 3 → detail ≡ at → listing.check ≡ Right → listing.chain ≡ RunsOut at
      → ValidatesListing listing code detail
  bad_category : (listed : Vec ListedCategory) → code ≡ 4 → listing.check ≡ Right → listing.chain ≡ Complete listed
      → IsFirstMalformed listed.items detail → ValidatesListing listing code detail

-- What judging an image answers: the bytes are refused, or there is no memory; else what the image's listing says.
pub data Validates (bytes : List ℕ) (code detail : ℕ) : Type 0 where
  bytes_refused : detail ≡ 0 → AreRefused IsImageSize bytes code → Validates bytes code detail
  validated : (listing : Listing) → AreWords IsImageSize bytes → SaysImage (words_in bytes) listing → ValidatesListing listing code detail
      → Validates bytes code detail
