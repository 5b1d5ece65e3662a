-- What slaves are in, as they are looked at.
use Rattle.std.proofs.Common.{◌≡◌, ◌≢◌, ℕ, ◌+◌, ◌<◌, List, length, slice_index_or, slice_set, get_or-set_other, get_or-set_same, below_more, Bool}
use Rattle.std.proofs.Common.{sym, subst, arith}
use Rattle.wire_frames.specs.declared.stations.Stations.{Stations}
use Rattle.wire_bringup.specs.States.{StateLooked, nothing_known, AllLooked}
use Rattle.wire_bringup.specs.declared.found.SlaveState.{SlaveState}

module _ (Gives : List ℕ → Type 0) where
  -- one more slave that was looked at
  pub looked_more : (stations : List ℕ) (lent : Bool) (slave : ℕ) (states : List SlaveState) (state : SlaveState) (at : ℕ) → at ≡ slave
      → slave < length states → AllLooked Gives stations lent slave states → StateLooked Gives stations lent slave state
      → AllLooked Gives stations lent (slave + 1) (slice_set states at state)
  looked_more stations lent slave states state at is near all here =
      subst (λ (n : ℕ). AllLooked Gives stations lent (slave + 1) (slice_set states n state)) (sym is)
      (below_more (λ (k : ℕ). StateLooked Gives stations lent k (slice_index_or (slice_set states slave state) k nothing_known)) slave
      (λ k less. let ne : k ≢ slave = omega arith in rw get_or-set_other (all k less))
      (let lt : slave < length states = near in rw get_or-set_same here))

  pub state_at : (a b : Stations) (l m : Bool) (slave : ℕ) (state : SlaveState) → a ≡ b → l ≡ m
      → StateLooked Gives a.by_slave l slave state → StateLooked Gives b.by_slave m slave state
  state_at a b l m slave state same lent so =
      subst (λ (s : Stations). StateLooked Gives s.by_slave m slave state) same
      (subst (λ (n : Bool). StateLooked Gives a.by_slave n slave state) lent so)
