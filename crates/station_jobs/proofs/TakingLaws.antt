-- A process data cycle with a buffer for its inputs.
use Rattle.std.proofs.Common.{◌≡◌, ℕ, ◌+◌, List, [], ◌∷◌, ◌++◌, length, take, drop, replicate, Result, Ok, Err, refl, sym, ap, subst, ◌∙◌, arith}
use Rattle.std.specs.List.{refill}
use Rattle.std.proofs.lemmas.List.{length-replicate}
use Rattle.std.proofs.Math.Seq.{take-append_seam}
use Rattle.sii_image.specs.ProcessImage.{ProcessImageParts}
use Rattle.site_core.specs.State.{Seen}
use Rattle.cyclic.specs.declared.fault.CycleFault.{CycleFault}
use Rattle.cyclic.specs.Turn.{TakesTurn}

-- a result that is no error
pub ok-of : {E : Type 0} (result : Result (Unit {0}) E) → ((fault : E) → result ≡ Err fault → ⊥) → result ≡ Ok tt
ok-of (Ok done) not = refl
ok-of (Err fault) not = absurd (not fault refl)

-- a buffer that was written from end to end holds what was written
refill-all : (bytes written : List ℕ) → length written ≡ length bytes → refill (length bytes) bytes written ≡ written
refill-all bytes written same = ap (λ (n : ℕ). take n (written ++ drop (length written) bytes)) (sym same) ∙ take-append_seam written (drop (length written) bytes)

-- a buffer without bytes holds none
take-none : (bytes : List ℕ) → take 0 bytes ≡ []
take-none [] = refl
take-none (byte ∷ bytes) = refl

pub no-bytes : (buffer written : List ℕ) (outputs inputs : ℕ) → buffer ≡ replicate inputs 0 → outputs + inputs ≡ 0 → refill (length buffer) buffer written ≡ []
no-bytes buffer written outputs inputs is none =
    let empty : length buffer ≡ 0 = ap length is ∙ length-replicate inputs 0 ∙ omega arith in
    ap (λ (n : ℕ). take n (written ++ drop (length written) buffer)) empty ∙ take-none (written ++ drop (length written) buffer)

-- the same cycle, stated of the buffer itself
pub turn-in : (image : ProcessImageParts) (lent outputs inputs zeros buffer written : List ℕ) (old new : Seen) (result : Result ℕ CycleFault) → lent ≡ outputs → inputs ≡ buffer → buffer ≡ zeros → length written ≡ length inputs
    → TakesTurn image lent inputs old result written new → TakesTurn image outputs zeros old result (refill (length buffer) buffer written) new
turn-in image lent outputs inputs zeros buffer written old new result sent same filled long takes =
    let left : written ≡ refill (length buffer) buffer written = sym (refill-all buffer written (long ∙ ap (λ (l : List ℕ). length l) same)) in
    subst (λ (l : List ℕ). TakesTurn image outputs zeros old result l new) left
    (subst (λ (l : List ℕ). TakesTurn image outputs l old result written new) (same ∙ filled)
    (subst (λ (l : List ℕ). TakesTurn image l inputs old result written new) sent takes))
