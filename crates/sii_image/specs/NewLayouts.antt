-- New words of some slaves of a line.
use Rattle.std.specs.Prelude.{ℕ, suc, ◌≤◌, List, [], ◌∷◌, map, slice_set}
use Rattle.sii_image.specs.declared.new_layouts.NewLayout.{NewLayout}

-- the plant with the new words of these slaves
abbrev pub with_each : List (List ℕ) → List NewLayout → List (List ℕ)
with_each plant [] = plant
with_each plant (new ∷ others) = slice_set (with_each plant others) new.slave new.layout

-- the numbers rise, and the first is no less than this one
abbrev pub RiseFrom : ℕ → List ℕ → Type 0
RiseFrom least [] = Unit {0}
RiseFrom least (first ∷ others) = (least ≤ first) × RiseFrom (suc first) others

-- each number is greater than the one before it
abbrev pub AreRising : List ℕ → Type 0
AreRising numbers = RiseFrom 0 numbers

-- the slaves that have new words
abbrev pub slaves_of : List NewLayout → List ℕ
slaves_of new = map (λ n. n.slave) new
