-- The words of a line's slaves, as they are found.
use Rattle.std.proofs.Common.{◌≡◌, ℕ, ◌+◌, ◌*◌, List, [], ◌∷◌, ◌++◌, length, length-append, slice_index, sym, ap, ◌∙◌, subst, arith}
use Rattle.wire_frames.specs.declared.stations.Stations.{Stations}
use Rattle.wire_words.specs.Words.{PairCame}
use Rattle.wire_bringup.specs.Lines.{PairsCame, no_pair, one_more, FoundCame, AllCame}
use Rattle.wire_bringup.specs.declared.found.FoundSlave.{FoundSlave}

module _ (Gives : List ℕ → Type 0) where
  pub found_at : (a b : Stations) (slave : ℕ) (found : FoundSlave) → a ≡ b
      → FoundCame Gives (slice_index a.by_slave slave) found → FoundCame Gives (slice_index b.by_slave slave) found
  found_at a b slave found same = subst (λ (s : Stations). FoundCame Gives (slice_index s.by_slave slave) found) same

  -- one more slave
  all_more : (stations : List ℕ) (slave : ℕ) (found : List FoundSlave) (one : FoundSlave) → AllCame Gives stations slave found
      → FoundCame Gives (slice_index stations (slave + length found)) one → AllCame Gives stations slave (found ++ one ∷ [])
  all_more stations slave [] one all here = (subst (λ (n : ℕ). FoundCame Gives (slice_index stations n) one) (omega arith) here, tt)
  all_more stations slave (first ∷ others) one all here = (
    all.0,
    all_more stations (slave + 1) others one all.1
        (subst (λ (n : ℕ). FoundCame Gives (slice_index stations n) one) (omega arith) here),
  )

  pub all_pushed : (stations : List ℕ) (found after : List FoundSlave) (one : FoundSlave) (slave : ℕ)
      → after ≡ found ++ one ∷ [] → length found ≡ slave → AllCame Gives stations 0 found → FoundCame Gives (slice_index stations slave) one → AllCame Gives stations 0 after
  all_pushed stations found after one slave is count all here =
      subst (λ (s : List FoundSlave). AllCame Gives stations 0 s) (sym is)
      (all_more stations 0 found one all (subst (λ (n : ℕ). FoundCame Gives (slice_index stations n) one) (omega (arith, count)) here))

  pub all_at : (a b : Stations) (found : List FoundSlave) → a ≡ b → AllCame Gives a.by_slave 0 found → AllCame Gives b.by_slave 0 found
  all_at a b found same = subst (λ (s : Stations). AllCame Gives s.by_slave 0 found) same

  pub no_pairs : (from : ℕ) (bytes : List ℕ) → bytes ≡ [] → PairsCame Gives from 0 bytes
  no_pairs from bytes is = subst (λ (s : List ℕ). PairsCame Gives from 0 s) (sym is) no_pair

  pub pair_pushed : (from pairs : ℕ) (bytes after pair : List ℕ) → after ≡ bytes ++ pair → PairsCame Gives from pairs bytes
      → PairCame Gives from (2 * pairs) pair → PairsCame Gives from (pairs + 1) after
  pair_pushed from pairs bytes after pair is some more = subst (λ (s : List ℕ). PairsCame Gives from (pairs + 1) s) (sym is) (one_more some more)

pub count_pushed : (found after : List FoundSlave) (one : FoundSlave) (slave : ℕ) → after ≡ found ++ one ∷ [] → length found ≡ slave
    → length after ≡ slave + 1
count_pushed found after one slave is count = ap length is ∙ omega (arith, length-append found (one ∷ []), count)
