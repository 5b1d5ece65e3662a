-- How the bytes of a `Frame` in memory are read as datagrams.
use Rattle.std.specs.Prelude.{◌≡◌, ℕ, false, zero, suc, ◌+◌, ◌%◌, ◌^◌, List, [], ◌∷◌, length, take, drop, slice_index}
use Rattle.std.specs.Int.{w16, w32, from_le_bytes}
use Rattle.std.specs.List.{AllByRecursion}
use Rattle.ecat_frame.specs.Frame.{Pdu, Fits, spelled, spelling}

-- the content's length, from the length word of the datagram at the front
abbrev pub first_length : List ℕ → ℕ
first_length bytes = from_le_bytes w16 (take 2 (drop 6 bytes)) % 2 ^ 11

-- the datagram at the front
unfoldable pub first_pdu : List ℕ → Pdu
first_pdu bytes = record {
  command = slice_index bytes 0;
  index = slice_index bytes 1;
  address = from_le_bytes w32 (take 4 (drop 2 bytes));
  content = take (first_length bytes) (drop 10 bytes);
  counter = from_le_bytes w16 (take 2 (drop (10 + first_length bytes) bytes));
}

-- this number of datagrams, one after the other
unfoldable pub pdus : ℕ → List ℕ → List Pdu
pdus zero bytes = []
pdus (suc n) bytes = first_pdu bytes ∷ pdus n (drop (12 + first_length bytes) bytes)

-- where the last of the datagrams begins, in bytes from the first one
unfoldable pub last_at : List Pdu → ℕ
last_at [] = 0
last_at (d ∷ []) = 0
last_at (d ∷ e ∷ ds) = 12 + length d.content + last_at (e ∷ ds)

-- The bytes are the canonical encoding of these `count` datagrams, and the last of them begins at byte `last`.
pub record Keeps (bytes : List ℕ) (count last : ℕ) (ds : List Pdu) : Type 0 where
  pub is_spelling : bytes ≡ spelling ds
  pub fits : AllByRecursion Fits ds
  pub counted : count ≡ length ds
  pub last_begins : last ≡ 2 + last_at ds

-- The bytes are the canonical encoding of these `count` datagrams, without a header.
pub record IsRest (bytes : List ℕ) (count : ℕ) (ds : List Pdu) : Type 0 where
  pub is_spelling : bytes ≡ spelled ds false
  pub fits : AllByRecursion Fits ds
  pub counted : count ≡ length ds
