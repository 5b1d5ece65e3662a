-- How many device calls it takes at most to read the first slaves of a line.
use Rattle.std.proofs.Common.{◌≡◌, ℕ, ◌+◌, ◌<◌, ◌≤◌, List, [], ◌∷◌, length, take, slice_index, ap, ◌∙◌, arith}
use Rattle.std.proofs.lemmas.List.{take_more}
use Rattle.std.proofs.lemmas.List.Sums.{sum_by-append, sum_by-take-le}
use Rattle.esc_rom.specs.Reading.{calls_for, most_calls}

-- one slave more
pub calls_more : (sizes : List ℕ) (i : ℕ) → i < length sizes → most_calls (take (i + 1) sizes) ≡ most_calls (take i sizes) + calls_for (slice_index sizes i)
calls_more sizes i inside =
    let one : most_calls (take (i + 1) sizes) ≡ most_calls (take i sizes) + most_calls (slice_index sizes i ∷ []) = ap most_calls (take_more sizes i 0 inside) ∙ sum_by-append calls_for (take i sizes) (slice_index sizes i ∷ []) in
    omega arith

-- it is within what all of them take
pub calls_within : (sizes : List ℕ) (i : ℕ) → i < length sizes → most_calls (take i sizes) + calls_for (slice_index sizes i) ≤ most_calls sizes
calls_within sizes i inside = omega (arith, calls_more sizes i inside, sum_by-take-le calls_for sizes (i + 1))
