-- Where a batch goes, as the journal's laws name it.
use Rattle.std.specs.Prelude.{ℕ, ◌-◌, ◌^◌, min}
use Rattle.jrn_format.specs.Halves as halves
use Rattle.book_parts.specs.declared.spot.Spot.{Spot}
use Rattle.book_parts.specs.declared.spot.Spot.TheVariants.{InOlder, InNewer}

-- The place of the journal's laws for a spot of the running code.
abbrev pub as_place : Spot → halves.Place
as_place InOlder = halves.InOlder
as_place InNewer = halves.InNewer

-- A number, or 2⁶⁴ - 1 if it is larger.
abbrev pub saturated : ℕ → ℕ
saturated n = min n (2 ^ 64 - 1)
