-- Device calls that write at most 4,096 bytes each.
use Rattle.std.proofs.Common.{◌≡◌, ◌≤◌, ℕ, List, [], ◌∷◌, ◌++◌, length, drop, replicate, Result, refl, sym, ap, subst, ◌∙◌, inl, inr, arith, append_assoc}
use Rattle.std.specs.List.{AllByRecursion}
use Rattle.std.proofs.lemmas.List.{append-nil, length-replicate}
use Rattle.jrn_format.specs.Header.{header_bytes}
use Rattle.site_core.specs.declared.fault.DeviceFault.{DeviceFault}
use Rattle.site_core.specs.State.{State, Moment, Seen}
use Rattle.site_core.specs.Calls.{WritesDisk, SyncsDisk}
use Rattle.site_core.proofs.DeviceCalls.{is_true_or}
use Rattle.site_journal.specs.Formatting.{BeginsPiece, IsPiece, WritesPieces}
use Rattle.sii_words.proofs.Quantifiers.{all_append}

pub pieces-none : (seen : Seen) → WritesPieces seen seen
pieces-none seen = record { calls = []; past = sym (append-nil seen.past); pieces = tt }

pub pieces-then : (a b c : Seen) → WritesPieces a b → WritesPieces b c → WritesPieces a c
pieces-then a b c first second = record {
  calls = first.calls ++ second.calls;
  past = second.past ∙ ap (λ (p : List Moment). p ++ second.calls) first.past ∙ append_assoc a.past first.calls second.calls;
  pieces = all_append IsPiece first.calls second.calls first.pieces second.pieces;
}

-- what is in the middle of a write; nothing, if the site had stopped
middle-short : (a b : Seen) (at : ℕ) (bytes : List ℕ) (result : Result (Unit {0}) DeviceFault) → length bytes ≤ 4096 → (writes : WritesDisk a at bytes result b)
    → AllByRecursion (BeginsPiece a.state) writes.middle
middle-short a b at bytes result few writes = elim (is_true_or a.is_stopped) [
  | inl stopped ↦ subst (λ (l : List State). AllByRecursion (BeginsPiece a.state) l) (sym (writes.call.stays_stopped stopped).1) tt
  | inr going ↦ subst (λ (l : List State). AllByRecursion (BeginsPiece a.state) l) (sym (writes.begun going)) (record { at = at; count = length bytes; few = few; begun = refl }, tt)
]

pub piece-written : (a b : Seen) (at : ℕ) (bytes : List ℕ) (result : Result (Unit {0}) DeviceFault) → length bytes ≤ 4096 → WritesDisk a at bytes result b → WritesPieces a b
piece-written a b at bytes result few writes = record {
  calls = record { before = a.state; faults = a.faults; middle = writes.middle } ∷ [];
  past = writes.call.past;
  pieces = (middle-short a b at bytes result few writes, tt);
}

pub pieces-synced : (a b : Seen) (result : Result (Unit {0}) DeviceFault) → SyncsDisk a result b → WritesPieces a b
pieces-synced a b result syncs = record {
  calls = record { before = a.state; faults = a.faults; middle = [] } ∷ [];
  past = syncs.call.past;
  pieces = (tt, tt);
}

-- one piece of zeros more
pub zeros-more : (a b c : Seen) (at size : ℕ) (bytes : List ℕ) (result : Result (Unit {0}) DeviceFault) → bytes ≡ replicate size 0 → size ≤ 4096
    → WritesPieces a b → WritesDisk b at bytes result c → WritesPieces a c
zeros-more a b c at size bytes result is few sofar writes =
    pieces-then a b c sofar (piece-written b c at bytes result (omega (arith, few, ap (λ (l : List ℕ). length l) is, length-replicate {A = ℕ} size 0)) writes)

-- the header after its gate is shorter than a piece
pub header-short : (slaves capacity : ℕ) → length (drop 1 (header_bytes 2 slaves capacity)) ≤ 4096
header-short slaves capacity =
    let seven : length (drop 1 (header_bytes 2 slaves capacity)) ≡ 7 = refl in
    omega (arith, seven)
