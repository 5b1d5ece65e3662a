-- The digits that `hex` writes have no whitespace among them.
use Rattle.std.proofs.Common.{◌≡◌, ℕ, zero, suc, ◌/◌, ◌%◌, Bool, true, not, List, [], ◌∷◌, slice_index, refl}
use Rattle.std.proofs.lemmas.Bool.{and_parts}
use Rattle.std.specs.Char.{is_ascii_whitespace}
use Rattle.std.specs.List.{list_all}
use Rattle.hex.specs.Hex.{encode_lower, encode_with, lower_digits}
use Rattle.station_text.specs.Hexadecimal.{without_whitespace}

abbrev is_kept : ℕ → Bool
is_kept byte = not (is_ascii_whitespace byte)

-- a byte at any index of a table of kept bytes is kept, also past its end
kept_at : (table : List ℕ) → list_all is_kept table ≡ true → (k : ℕ) → is_kept (slice_index table k) ≡ true
kept_at [] all k = refl
kept_at (c ∷ cs) all zero = (and_parts (is_kept c) (list_all is_kept cs) all).0
kept_at (c ∷ cs) all (suc k) = kept_at cs (and_parts (is_kept c) (list_all is_kept cs) all).1 k

digit_kept : (k : ℕ) → is_kept (slice_index lower_digits k) ≡ true
digit_kept k = kept_at lower_digits refl k

pub without_whitespace-encode_lower : (bytes : List ℕ) → without_whitespace (encode_lower bytes) ≡ encode_lower bytes
unfolding encode_with
without_whitespace-encode_lower [] = refl
without_whitespace-encode_lower (b ∷ rest) = rw (digit_kept (b / 16), digit_kept (b % 16), without_whitespace-encode_lower rest) refl
