-- The room for further namings.
use Rattle.std.proofs.Common.{◌≡◌, ℕ, ◌+◌, ◌-◌, ◌<◌, ◌≤◌, arith}
use Rattle.std.proofs.Math.Nat.{min-le_left, min-le_right, le-min}
use Rattle.book_model.specs.Queue.{most_namings, room_in}

pub room-less : (capacity named : ℕ) → room_in capacity (named + 1) ≡ room_in capacity named - 1
room-less capacity named = omega arith

pub room-more : (capacity named count : ℕ) → named ≤ capacity → named ≤ most_namings → count ≤ named → room_in capacity (named - count) ≡ room_in capacity named + count
room-more capacity named count held reach few = let both = le-min held reach in omega arith

pub room-some : (capacity named : ℕ) → 0 < room_in capacity named → (named < capacity) × (named + 1 ≤ most_namings)
room-some capacity named some = (omega (arith, min-le_left capacity most_namings), omega (arith, min-le_right capacity most_namings))

pub room-enough : (capacity named count : ℕ) → named + count ≤ capacity → named + count ≤ most_namings → count ≤ room_in capacity named
room-enough capacity named count held reach = let both = le-min held reach in omega arith
