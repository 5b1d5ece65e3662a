-- One edit of a device.
use Rattle.std.specs.Prelude.{◌≡◌, ℕ, ◌%◌, List, [], ◌∷◌, length, Ok, Err}
use Rattle.sii_words.specs.Words.{IsImageSize, bytes_of}
use Rattle.sii_edit.specs.declared.command.Command.TheVariants.{One}
use Rattle.sii_edit.specs.declared.command.Edit.{Edit}
use Rattle.sii_edit.specs.declared.command.Edit.TheVariants.{Category, Image}
use Rattle.sii_edit.specs.declared.refusal.Refusal.{Refusal}
use Rattle.sii_edit.specs.Command.{outcome}
use Rattle.sii_bytes.specs.Codes.{code_of_cause}
use Rattle.sii_bytes.specs.Bytes.{AreRefused, words_in}

-- The edit is accepted on a line of this device alone, and these are the bytes that it leaves.
pub record Edits (words : List ℕ) (edit : Edit) (new : List ℕ) : Type 0 where
  pub made : List ℕ
  pub accepted : outcome (words ∷ []) (One edit) ≡ Ok (made ∷ [])
  pub bytes : new ≡ bytes_of made

-- The edit is refused for the cause with this code; or 20, memory was refused.
pub data RefusesEdit (words : List ℕ) (edit : Edit) (code : ℕ) : Type 0 where
  cause : (refusal : Refusal) → code ≡ code_of_cause refusal.cause → outcome (words ∷ []) (One edit) ≡ Err refusal
      → RefusesEdit words edit code
  memory : code ≡ 20 → RefusesEdit words edit code

-- the edit that gives the device the category with this content, as bytes
abbrev pub category_edit : ℕ → List ℕ → Edit
category_edit kind content = Category 0 kind (words_in content)

-- the edit that writes this image, as bytes, over the device
abbrev pub image_edit : List ℕ → Edit
image_edit image = Image 0 (words_in image)

-- Why a category edit is refused: 1, the content isn't whole words; else as the edit is.
pub data RefusesCategory (words : List ℕ) (kind : ℕ) (content : List ℕ) (code : ℕ) : Type 0 where
  odd : code ≡ 1 → length content % 2 ≡ 1 → RefusesCategory words kind content code
  edit : length content % 2 ≡ 0 → RefusesEdit words (category_edit kind content) code → RefusesCategory words kind content code

-- Why an image is refused: its bytes are, or the edit is.
pub data RefusesImage (words image : List ℕ) (code : ℕ) : Type 0 where
  bytes : AreRefused IsImageSize image code → RefusesImage words image code
  edit : RefusesEdit words (image_edit image) code → RefusesImage words image code
