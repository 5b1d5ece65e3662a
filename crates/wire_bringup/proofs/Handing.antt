-- Access that is put back, slave by slave.
use Rattle.std.proofs.Common.{◌≡◌, ◌≢◌, ℕ, ◌+◌, ◌<◌, List, length, slice_index_or, slice_set, get_or-set_other, get_or-set_same, below_more, sym, subst, arith}
use Rattle.wire_bringup.specs.declared.found.SlaveState.{SlaveState}
use Rattle.wire_frames.specs.declared.handed.Handed.{Handed}
use Rattle.wire_frames.specs.declared.handed.Handed.TheVariants as handed
use Rattle.wire_frames.specs.declared.stations.Stations.{Stations}
use Rattle.wire_bringup.specs.States.{nothing_known}
use Rattle.wire_bringup.specs.Handing.{IsHanded, IsWritten, AllHanded}

module _ (Gives : List ℕ → Type 0) where
  -- the same by the addresses that a wire had before
  pub written_at : (a b : Stations) (slave access : ℕ) (one : Handed) → a ≡ b → IsWritten Gives a.by_slave slave access one
      → IsWritten Gives b.by_slave slave access one
  written_at a b slave access one same = subst (λ (s : Stations). IsWritten Gives s.by_slave slave access one) same

  pub handed_at : (a b : Stations) (slave : ℕ) (state : SlaveState) (one : Handed) → a ≡ b → IsHanded Gives a.by_slave slave state one
      → IsHanded Gives b.by_slave slave state one
  handed_at a b slave state one same = subst (λ (s : Stations). IsHanded Gives s.by_slave slave state one) same

  -- one more slave
  pub handed_more : (stations : List ℕ) (slave : ℕ) (states : List SlaveState) (all : List Handed) (one : Handed) (at : ℕ) → at ≡ slave
      → slave < length all → AllHanded Gives stations slave states all
      → IsHanded Gives stations slave (slice_index_or states slave nothing_known) one
      → AllHanded Gives stations (slave + 1) states (slice_set all at one)
  handed_more stations slave states all one at is near before here =
      subst (λ (n : ℕ). AllHanded Gives stations (slave + 1) states (slice_set all n one)) (sym is)
      (below_more
      (λ (k : ℕ). IsHanded Gives stations k (slice_index_or states k nothing_known) (slice_index_or (slice_set all slave one) k handed.Nothing)) slave
      (λ k less. let ne : k ≢ slave = omega arith in rw get_or-set_other (before k less))
      (let lt : slave < length all = near in rw get_or-set_same here))
