-- A line of one device.
use Rattle.std.proofs.Common.{◌≡◌, ℕ, ◌*◌, List, [], ◌∷◌, length, Ok, Err, refl, ap, subst, ◌∙◌, inl, inr, arith}
use Rattle.sii_words.specs.Words.{bytes_of}
use Rattle.sii_words.specs.Plant.{words_of}
use Rattle.sii_words.specs.Redo.{redone, SameShape}
use Rattle.sii_words.specs.declared.run.Run.{Run}
use Rattle.sii_words.proofs.RedoLaws.{SameShape-redone}
use Rattle.sii_words.proofs.WordBytes.{length-bytes_of}
use Rattle.sii_edit.specs.declared.command.Command.TheVariants.{One}
use Rattle.sii_edit.specs.declared.command.Edit.{Edit}
use Rattle.sii_edit.specs.declared.refusal.Refusal.{Refusal}
use Rattle.sii_edit.specs.Command.{outcome}
use Rattle.sii_edit.specs.Refusal.{IsRefusalOf}
use Rattle.sii_bytes.specs.Codes.{code_of_cause}
use Rattle.sii_bytes.specs.Editing.{Edits, RefusesEdit}
use Rattle.sii_bytes.specs.Editing.RefusesEdit.{cause, memory}

-- a line of as many devices as one is of its first
only_one : (new : List (List ℕ)) → length new ≡ 1 → new ≡ words_of new 0 ∷ []
only_one [] one = absurd (omega arith)
only_one (words ∷ []) one = refl
only_one (words ∷ other ∷ others) one = absurd (omega arith)

shape : (plant new : List (List ℕ)) (words : List ℕ) (runs : List Run) → plant ≡ words ∷ [] → redone plant runs ≡ new → SameShape (words ∷ []) new
shape plant new words runs line is = subst (λ (p : List (List ℕ)). SameShape (words ∷ []) p) is (subst (λ (p : List (List ℕ)). SameShape p (redone plant runs)) line (SameShape-redone plant runs))

pub edited_length : (plant new : List (List ℕ)) (words : List ℕ) (runs : List Run) (bytes : List ℕ) → plant ≡ words ∷ [] → redone plant runs ≡ new
    → bytes ≡ bytes_of (words_of new 0) → length bytes ≡ 2 * length words
edited_length plant new words runs bytes line is spelt =
    let same : length (words_of new 0) ≡ length words = (shape plant new words runs line is).words 0 in
    let all : length bytes ≡ 2 * length (words_of new 0) = ap length spelt ∙ length-bytes_of (words_of new 0) in
    omega arith

pub edited_so : (plant new : List (List ℕ)) (words : List ℕ) (runs : List Run) (edit : Edit) (bytes : List ℕ) → plant ≡ words ∷ [] → redone plant runs ≡ new
    → outcome plant (One edit) ≡ Ok new → bytes ≡ bytes_of (words_of new 0) → Edits words edit bytes
edited_so plant new words runs edit bytes line is accepted spelt =
    let count : length new ≡ 1 = (shape plant new words runs line is).slaves in
    record {
      made = words_of new 0;
      accepted = subst (λ (p : List (List ℕ)). outcome p (One edit) ≡ Ok (words_of new 0 ∷ [])) line (accepted ∙ ap Ok (only_one new count));
      bytes = spelt;
    }

pub refused_so : (plant : List (List ℕ)) (words : List ℕ) (edit : Edit) (refusal : Refusal) (code : ℕ) → plant ≡ words ∷ []
    → IsRefusalOf (outcome plant (One edit)) refusal → code ≡ code_of_cause refusal.cause → RefusesEdit words edit code
refused_so plant words edit refusal code line (inl validated) is = cause refusal is (subst (λ (p : List (List ℕ)). outcome p (One edit) ≡ Err refusal) line validated)
refused_so plant words edit refusal code line (inr none_left) is = memory (is ∙ ap (λ (r : Refusal). code_of_cause r.cause) none_left)
