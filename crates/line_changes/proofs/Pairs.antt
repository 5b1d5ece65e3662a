-- Two images that are read one after the other, and what is known of their texts.
use Rattle.std.proofs.Common.{◌≡◌, ◌↔◌, ℕ, Bool, List, Option, Some, None, IfSome, IsSome, option_map, inl, inr, refl, subst, sym}
use Rattle.sii_words.specs.Words.{bytes_of}
use Rattle.line_changes.specs.Difference.{NothingDiffers}
use Rattle.line_changes.specs.declared.difference.Difference.{Difference}
use Rattle.line_changes.specs.Diff.{IsStatusOf, IsStatusOfPair, RefusesPair, TellsDifference, second_text}
use Rattle.station_files.specs.Faults.{IsOfStream}
use Rattle.station_files.specs.Files.{Known}
use Rattle.station_files.specs.ImageText.{Spells, held_of, text_of}
use Rattle.station_files.specs.declared.faults.ExitStatus.{ExitStatus}
use Rattle.station_files.specs.declared.faults.Fault.{Fault}

-- what follows for each two values follows for those that are there
pub both : (P Q : List ℕ → Type 0) (R : List ℕ → List ℕ → Type 0) (first second : Option (List ℕ)) → ((a b : List ℕ) → P a → Q b → R a b)
    → IfSome first P → IfSome second Q → IfSome first (λ a. IfSome second (λ b. R a b))
both P Q R (Some a) (Some b) follows one other = follows a b one other
both P Q R (Some a) None follows one other = tt
both P Q R None second follows one other = tt

-- the first image was read from a file and left the input alone, or the second one is: what is known of the second text was known before
pub second_known : {X : Type 0} (f : X → List ℕ) (first second : Option X) (before after : Option (List ℕ)) (old new : Known) (Q : List ℕ → Type 0)
    → (IsSome first → after ≡ before) → new ≡ old → IfSome (text_of (option_map f second) after new) Q
    → IfSome (second_text (option_map f first) (option_map f second) before old) Q
second_known f None None before after old new Q unread same known = tt
second_known f None (Some x) before after old new Q unread same known =
    let P : Known → Type 0 = λ files. IfSome (held_of (files (f x))) Q in
    subst P same known
second_known f (Some x) second before after old new Q unread same known =
    let P : Known → Type 0 = λ files. IfSome (text_of (option_map f second) after files) Q in
    let R : Option (List ℕ) → Type 0 = λ rest. IfSome (text_of (option_map f second) rest old) Q in
    subst R (unread refl) (subst P same known)

-- the status tells whether two images have the same words
pub reported : (old new : List ℕ) (difference : Difference) (status : ExitStatus) → NothingDiffers difference ↔ (old ≡ new) → IsStatusOf difference status → IsStatusOfPair old new status
reported old new difference status same (inl (none, done)) = inl (same.0 none, done)
reported old new difference status same (inr (some, refused)) = inr ((λ equal. some (same.1 equal)), refused)

-- the same of the images that two texts spell
pub tells : (hex : Bool) (old new : List ℕ) (status : ExitStatus) → IsStatusOfPair old new status → (a b : List ℕ) → Spells hex a (bytes_of old) → Spells hex b (bytes_of new) → TellsDifference hex a b status
tells hex old new status is a b one other = record { old = old; new = new; read_first = one; read_second = other; reported = is }

-- a stream's fault may be one of two texts
pub stream_refuses : (hex : Bool) (first second : Option (List ℕ)) (fault : Fault) → IsOfStream fault → IfSome first (λ a. IfSome second (λ b. RefusesPair hex a b fault))
stream_refuses hex None second fault failed = tt
stream_refuses hex (Some a) None fault failed = tt
stream_refuses hex (Some a) (Some b) fault (inl file) = let P : Fault → Type 0 = λ f. RefusesPair hex a b f in subst P (sym file) (inl tt)
stream_refuses hex (Some a) (Some b) fault (inr memory) = let P : Fault → Type 0 = λ f. RefusesPair hex a b f in subst P (sym memory) (inl tt)
