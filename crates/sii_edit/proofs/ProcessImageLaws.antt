-- The process image of the new plant, judged last.
use Rattle.std.proofs.Common.{◌≡◌, ◌⊎◌, ℕ, Bool, true, false, List, is_some, IsSome, Option, Some, None, Result, Ok, Err, refl, sym, subst, ◌∙◌, inl, inr}
use Rattle.sii_image.specs.ProcessImage.{process_image}
use Rattle.sii_edit.specs.declared.refusal.Cause.TheVariants.{ImageOverLimit}
use Rattle.sii_edit.specs.declared.refusal.Refusal.{Refusal}
use Rattle.sii_edit.specs.Refusal.{entire}
use Rattle.sii_edit.specs.Command.{has_process_image, with_process_image}

-- the test of a process image decides
none_false : {A : Type 0} (found : Option A) (test : Bool) → (IsSome found → test ≡ true) → test ≡ false → is_some found ≡ false
none_false None test reported fails = refl
none_false (Some image) test reported fails = let holds : test ≡ true = reported refl in cc

pub has_process_image-some : (plant : List (List ℕ)) → IsSome (process_image plant) → has_process_image plant ≡ true
unfolding has_process_image
has_process_image-some plant is = is

pub has_process_image-none : (plant : List (List ℕ)) (test : Bool) → (IsSome (process_image plant) → test ≡ true) → test ≡ false → has_process_image plant ≡ false
unfolding has_process_image
has_process_image-none plant test reported fails = none_false (process_image plant) test reported fails

pub with_process_image-has : (new : List (List ℕ)) → has_process_image new ≡ true → with_process_image (Ok new) ≡ Ok new
with_process_image-has new has = rw has refl

pub with_process_image-has_none : (new : List (List ℕ)) → has_process_image new ≡ false → with_process_image (Ok new) ≡ Err (entire ImageOverLimit)
with_process_image-has_none new none = rw none refl

true_or_false : (b : Bool) → (b ≡ true) ⊎ (b ≡ false)
true_or_false true = inl refl
true_or_false false = inr refl

-- what is accepted with its image was accepted before, and a refusal is the one from before or that of the image
pub with_process_image_accepts : (validated : Result (List (List ℕ)) Refusal) (new : List (List ℕ)) → with_process_image validated ≡ Ok new → validated ≡ Ok new
with_process_image_accepts (Ok given) new is =
    elim (true_or_false (has_process_image given)) [
      | inl has ↦ sym (with_process_image-has given has) ∙ is
      | inr none ↦ let never : Err (entire ImageOverLimit) ≡ Ok new = sym (with_process_image-has_none given none) ∙ is in cc
    ]
with_process_image_accepts (Err refusal) new is = is

pub with_process_image_refuses : (validated : Result (List (List ℕ)) Refusal) (refusal : Refusal) → with_process_image validated ≡ Err refusal
    → (validated ≡ Err refusal) ⊎ (refusal ≡ entire ImageOverLimit)
with_process_image_refuses (Ok given) refusal is =
    elim (true_or_false (has_process_image given)) [
      | inl has ↦ let never : Ok given ≡ Err refusal = sym (with_process_image-has given has) ∙ is in cc
      | inr none ↦ let same : Err (entire ImageOverLimit) ≡ Err refusal = sym (with_process_image-has_none given none) ∙ is in inr cc
    ]
with_process_image_refuses (Err first) refusal is = inl is

has_process_image-reported : (plant : List (List ℕ)) → has_process_image plant ≡ true → IsSome (process_image plant)
unfolding has_process_image
has_process_image-reported plant has = has

-- what is accepted has a process image
pub with_process_image_has : (validated : Result (List (List ℕ)) Refusal) (new : List (List ℕ)) → with_process_image validated ≡ Ok new → IsSome (process_image new)
with_process_image_has (Ok given) new is =
    elim (true_or_false (has_process_image given)) [
      | inl has ↦
          let same : Ok given ≡ Ok new = sym (with_process_image-has given has) ∙ is in
          let e : given ≡ new = cc in
          subst (λ (plant : List (List ℕ)). IsSome (process_image plant)) e (has_process_image-reported given has)
      | inr none ↦ let never : Err (entire ImageOverLimit) ≡ Ok new = sym (with_process_image-has_none given none) ∙ is in absurd cc
    ]
with_process_image_has (Err refusal) new is = absurd cc
