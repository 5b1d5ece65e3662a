-- Edits of a device that was read, and their refusals.
use Rattle.std.proofs.Common.{◌≡◌, ℕ, ◌*◌, ◌%◌, List, length, Result, Ok, Err, IfErr, sym, ap, subst, ◌∙◌, arith}
use Rattle.sii_edit.specs.declared.command.Edit.TheVariants.{Category, Image}
use Rattle.sii_bytes.specs.Bytes.{AreWords, words_in}
use Rattle.sii_bytes.specs.Editing.{RefusesCategory, RefusesEdit, RefusesImage}
use Rattle.sii_bytes.specs.Editing.RefusesCategory.{edit as category_so}
use Rattle.sii_bytes.specs.Editing.RefusesImage.{edit as image_so}
use Rattle.sii_bytes.proofs.BytesLaws.{length-words_in}

pub image_refused : {T : Type 0} (words bytes image : List ℕ) → image ≡ words_in bytes → (result : Result T ℕ) → IfErr result (RefusesEdit words (Image 0 image))
    → IfErr result (RefusesImage words bytes)
image_refused words bytes image is (Ok value) refuses = tt
image_refused words bytes image is (Err code) refuses = image_so (subst (λ (w : List ℕ). RefusesEdit words (Image 0 w) code) is refuses)

pub category_refused : {T : Type 0} (words content read : List ℕ) (kind : ℕ) → read ≡ words_in content → length content % 2 ≡ 0 → (result : Result T ℕ)
    → IfErr result (RefusesEdit words (Category 0 kind read)) → IfErr result (RefusesCategory words kind content)
category_refused words content read kind is even (Ok value) refuses = tt
category_refused words content read kind is even (Err code) refuses = category_so even (subst (λ (w : List ℕ). RefusesEdit words (Category 0 kind w) code) is refuses)

pub same_length : (Size : ℕ → Type 0) (device words bytes source : List ℕ) → AreWords Size device → words ≡ words_in device → length bytes ≡ 2 * length words → source ≡ bytes
    → length device ≡ length source
same_length Size device words bytes source read is long same =
    let all : length device ≡ 2 * length words = length-words_in device read.0 ∙ ap (λ (w : List ℕ). 2 * length w) (sym is) in
    let end : length source ≡ length bytes = ap length same in
    omega arith
