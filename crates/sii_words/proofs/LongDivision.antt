-- Long division by a register: subtracting one number after the other is subtracting them at once.
use Rattle.std.proofs.Common.{◌≡◌, ℕ, suc, ◌+◌, Bool, true, false, not, List, [], ◌∷◌, ◌++◌, length, refl, ap, ◌∙◌, append_assoc, length-append, arith}
use Rattle.sii_words.specs.CheckByte.{minus, divisor, divided}
use Rattle.sii_words.specs.steps.ShiftRegister.{ShiftsThrough}

pub minus-twice : (bits more less : List Bool) → length more ≡ length less → minus (minus bits more) less ≡ minus bits (minus more less)
unfolding minus
minus-twice bits [] [] same = refl
minus-twice bits [] (d ∷ less) same = absurd (omega arith)
minus-twice bits (m ∷ more) [] same = absurd (omega arith)
minus-twice [] (true ∷ more) (d ∷ less) same = refl
minus-twice [] (false ∷ more) (d ∷ less) same = refl
minus-twice (false ∷ bits) (false ∷ more) (d ∷ less) same = ap (λ (tail : List Bool). d ∷ tail) (minus-twice bits more less (omega arith))
minus-twice (false ∷ bits) (true ∷ more) (d ∷ less) same = ap (λ (tail : List Bool). not d ∷ tail) (minus-twice bits more less (omega arith))
minus-twice (true ∷ bits) (false ∷ more) (d ∷ less) same = ap (λ (tail : List Bool). not d ∷ tail) (minus-twice bits more less (omega arith))
minus-twice (true ∷ bits) (true ∷ more) (false ∷ less) same = ap (λ (tail : List Bool). false ∷ tail) (minus-twice bits more less (omega arith))
minus-twice (true ∷ bits) (true ∷ more) (true ∷ less) same = ap (λ (tail : List Bool). true ∷ tail) (minus-twice bits more less (omega arith))

-- a zero at the end takes nothing away
pub minus-zero : (bits less : List Bool) → minus bits (less ++ false ∷ []) ≡ minus bits less
unfolding minus
minus-zero [] [] = refl
minus-zero (true ∷ bits) [] = refl
minus-zero (false ∷ bits) [] = refl
minus-zero [] (d ∷ less) = refl
minus-zero (true ∷ bits) (d ∷ less) = ap (λ (tail : List Bool). not d ∷ tail) (minus-zero bits less)
minus-zero (false ∷ bits) (d ∷ less) = ap (λ (tail : List Bool). d ∷ tail) (minus-zero bits less)

-- a digit 0 of the quotient
pub digit_zero : (digits : ℕ) (rest low : List Bool) → divided (1 + digits) (minus (false ∷ rest) (false ∷ low)) ≡ divided digits (minus rest (low ++ false ∷ []))
unfolding minus divided
digit_zero digits rest low =
    let count : 1 + digits ≡ suc digits = omega arith in
    rw (count, minus-zero rest low) refl

-- a digit 1 of the quotient
pub digit_one : (digits : ℕ) (rest low : List Bool) → length low ≡ 7
    → divided (1 + digits) (minus (false ∷ rest) (true ∷ low)) ≡ divided digits (minus rest (minus (low ++ false ∷ []) divisor))
unfolding minus divided
digit_one digits rest low seven =
    let count : 1 + digits ≡ suc digits = omega arith in
    let eight : length (low ++ false ∷ []) ≡ length divisor = omega (arith, length-append low (false ∷ []), seven) in
    rw (count, ← minus-zero rest low, minus-twice rest (low ++ false ∷ []) divisor eight) refl

-- bits on bits
pub shifts_on : (bits more : List Bool) (before between after : ℕ) → ShiftsThrough bits before between → ShiftsThrough more between after → ShiftsThrough (bits ++ more) before after
shifts_on bits more before between after first second digits rest =
    let count : length (bits ++ more) + digits ≡ length bits + (length more + digits) = omega (arith, length-append bits more) in
    rw (count, append_assoc bits more rest) (first (length more + digits) (more ++ rest) ∙ second digits rest)
