-- Zeros are written piece by piece, and so is an area after the rest of a header.
use Rattle.std.proofs.Common.{◌≡◌, ℕ, ◌+◌, ◌*◌, ◌-◌, ◌<◌, ◌≤◌, min, List, ◌++◌, length, replicate, Result, Ok, IsTrue, sym, ap, subst, ◌∙◌, inl, inr, arith, length-append}
use Rattle.std.proofs.lemmas.List.{length-replicate, replicate-append-replicate}
use Rattle.site_core.specs.declared.fault.DeviceFault.{DeviceFault}
use Rattle.site_core.specs.Disk.{IsOutside, write_begun, written}
use Rattle.site_core.specs.State.{State, Pair, Seen, Leaves}
use Rattle.site_core.specs.Calls.{WritesDisk, begin_write}
use Rattle.site_journal.specs.Runs.{MakesCalls}
use Rattle.site_journal.specs.Formatting.{LiesOver, LaysDown, PutsDown}
use Rattle.site_journal.proofs.CallRuns.{runs_weaker, runs_then}
use Rattle.site_journal.proofs.Laying.{Laid, lies_written, lies_then, leaves_within, laid_none, one_write, write_runs, laid_more, laid_all}

-- ---- zeros

-- the zeros in the first `pieces` pieces of 4,096, at most `total`
abbrev pub zeros_in : (pieces total : ℕ) → List ℕ
zeros_in pieces total = replicate (min (4096 * pieces) total) 0

zeros_long : (n total : ℕ) → length (zeros_in n total) ≡ min (4096 * n) total
zeros_long n total = length-replicate {A = ℕ} (min (4096 * n) total) 0

pub zeros_none : (a : Seen) (at total : ℕ) → at ≤ length a.state.disk.bytes → ¬ IsTrue a.is_stopped → Laid a at (replicate (min 0 total) 0) total 0 a
zeros_none a at total within going =
    let none : 0 ≡ min 0 total = omega arith in
    subst (λ (n : ℕ). Laid a at (replicate n 0) total 0 a) none (laid_none a at total within going)

-- one piece more, which is written or not
pub zeros_runs : (a b c : Seen) (at total n place size : ℕ) (bytes : List ℕ) (result : Result (Unit {0}) DeviceFault) → at ≤ length a.state.disk.bytes
    → place ≡ at + 4096 * n → bytes ≡ replicate size 0 → size ≡ min 4096 (total - 4096 * n) → 4096 * n < total → Laid a at (zeros_in n total) total n b
    → WritesDisk b place bytes result c → MakesCalls (Leaves (begin_write a.state at total)) a (n + 1) result c
zeros_runs a b c at total n place size bytes result within place_is bytes_are size_is below laid writes =
    let here : place ≡ at + length (zeros_in n total) = omega (arith, place_is, zeros_long n total, below) in
    let size_more : length (replicate {A = ℕ} size 0) ≡ size = length-replicate {A = ℕ} size 0 in
    let fits : length (zeros_in n total) + length (replicate {A = ℕ} size 0) ≤ total = omega (arith, zeros_long n total, size_more, size_is, below) in
    write_runs a b c at (zeros_in n total) (replicate size 0) total n result within fits laid
    (subst (λ (p : ℕ). WritesDisk b p (replicate size 0) result c) here (subst (λ (l : List ℕ). WritesDisk b place l result c) bytes_are writes))

pub zeros_more : (a b c : Seen) (at total n place size : ℕ) (bytes : List ℕ) → at ≤ length a.state.disk.bytes
    → place ≡ at + 4096 * n → bytes ≡ replicate size 0 → size ≡ min 4096 (total - 4096 * n) → 4096 * n < total → Laid a at (zeros_in n total) total n b
    → WritesDisk b place bytes (Ok tt) c → Laid a at (zeros_in (n + 1) total) total (n + 1) c
zeros_more a b c at total n place size bytes within place_is bytes_are size_is below laid writes =
    let here : place ≡ at + length (zeros_in n total) = omega (arith, place_is, zeros_long n total, below) in
    let size_more : length (replicate {A = ℕ} size 0) ≡ size = length-replicate {A = ℕ} size 0 in
    let fits : length (zeros_in n total) + length (replicate {A = ℕ} size 0) ≤ total = omega (arith, zeros_long n total, size_more, size_is, below) in
    let sum : min (4096 * n) total + size ≡ min (4096 * (n + 1)) total = omega (arith, size_is, below) in
    let joined : zeros_in n total ++ replicate size 0 ≡ zeros_in (n + 1) total =
    replicate-append-replicate (min (4096 * n) total) size 0 ∙ ap (λ (k : ℕ). replicate {A = ℕ} k 0) sum in
    subst (λ (l : List ℕ). Laid a at l total (n + 1) c) joined
    (laid_more a b c at (zeros_in n total) (replicate size 0) total n within fits laid
    (subst (λ (p : ℕ). WritesDisk b p (replicate size 0) (Ok tt) c) here (subst (λ (l : List ℕ). WritesDisk b place l (Ok tt) c) bytes_are writes)))

pub zeros_all : (a b : Seen) (at total n most : ℕ) → total ≤ 4096 * n → n ≤ most → Laid a at (zeros_in n total) total n b → LaysDown a at (replicate total 0) most (Ok tt) b
zeros_all a b at total n most all few laid =
    let full : min (4096 * n) total ≡ total = omega (arith, all) in
    let Q : Pair → Type 0 = Leaves (begin_write a.state at total) in
    laid_all a b at (zeros_in n total) (replicate total 0) total most (ap (λ (k : ℕ). replicate {A = ℕ} k 0) full) (sym (length-replicate {A = ℕ} total 0))
    (record { runs = runs_weaker {T = Unit {0}} Q Q a n most (Ok tt) b few (λ pair leaves. leaves) laid.runs; lies = laid.lies; halves = laid.halves })

-- ---- an area after the rest of a header

-- a longer write leaves more
leaves_longer : (state : State) (at few many : ℕ) (pair : Pair) → few ≤ many → Leaves (begin_write state at few) pair → Leaves (begin_write state at many) pair
leaves_longer state at few many pair more leaves = record {
  disk = record { bytes = λ place is. leaves.disk.bytes place (narrow place is.0, is.1); no_shorter = leaves.disk.no_shorter };
  words = leaves.words;
}
  where
    narrow : (place : ℕ) → IsOutside place (record { start = at; count = many }) → IsOutside place (record { start = at; count = few })
    narrow place (inl below) = inl below
    narrow place (inr after) = inr (omega arith)

pub area_first : (a b : Seen) (front zeros : List ℕ) (result : Result (Unit {0}) DeviceFault) → 1 ≤ length a.state.disk.bytes → WritesDisk a 1 front result b
    → MakesCalls (Leaves (begin_write a.state 1 (length (front ++ zeros)))) a 1 result b
area_first a b front zeros result within writes =
    let more : length front ≤ length (front ++ zeros) = omega (arith, length-append front zeros) in
    runs_weaker (Leaves (begin_write a.state 1 (length front))) (Leaves (begin_write a.state 1 (length (front ++ zeros)))) a 1 1 result b (omega arith)
    (λ pair leaves. leaves_longer a.state 1 (length front) (length (front ++ zeros)) pair more leaves) (one_write a b 1 front result within writes)

front_laid : (a b : Seen) (front zeros : List ℕ) → 1 ≤ length a.state.disk.bytes → WritesDisk a 1 front (Ok tt) b → Laid a 1 front (length (front ++ zeros)) 1 b
front_laid a b front zeros within writes =
    let is : b.state ≡ record a.state { disk = written (write_begun a.state.disk 1 (length front)) 1 front } = writes.ok in
    record {
      runs = area_first a b front zeros (Ok tt) within writes;
      lies = subst (λ (s : State). LiesOver a.state.disk 1 front s.disk) (sym is) (lies_written a.state.disk 1 front);
      halves = ap (λ (s : State). s.halves) is;
    }

pub area_runs : (a b c : Seen) (front zeros : List ℕ) (m : ℕ) (result : Result (Unit {0}) DeviceFault) → 1 ≤ length a.state.disk.bytes → WritesDisk a 1 front (Ok tt) b
    → LaysDown b (1 + length front) zeros m result c → MakesCalls (Leaves (begin_write a.state 1 (length (front ++ zeros)))) a (1 + m) result c
area_runs a b c front zeros m result within writes lays =
    let Q : Pair → Type 0 = Leaves (begin_write a.state 1 (length (front ++ zeros))) in
    let fits : length front + length zeros ≤ length (front ++ zeros) = omega (arith, length-append front zeros) in
    runs_then {A = Unit {0}} Q a b c 1 m (1 + m) tt result (omega arith) (area_first a b front zeros (Ok tt) within writes)
    (runs_weaker (Leaves (begin_write b.state (1 + length front) (length zeros))) Q b m m result c (omega arith)
    (λ pair leaves. leaves_within a b 1 front (length zeros) (length (front ++ zeros)) 1 pair within fits (front_laid a b front zeros within writes) leaves) lays.runs)

pub area_laid : (a b c : Seen) (front zeros : List ℕ) (m : ℕ) → 1 ≤ length a.state.disk.bytes → WritesDisk a 1 front (Ok tt) b
    → LaysDown b (1 + length front) zeros m (Ok tt) c → LaysDown a 1 (front ++ zeros) (1 + m) (Ok tt) c
area_laid a b c front zeros m within writes lays =
    let laid = front_laid a b front zeros within writes in
    record {
      runs = area_runs a b c front zeros m (Ok tt) within writes lays;
      lies = lies_then a.state.disk b.state.disk c.state.disk 1 front zeros within laid.lies lays.lies;
      halves = lays.halves ∙ laid.halves;
    }

pub put_weaker : (a b : Seen) (at : ℕ) (over : List ℕ) (n most : ℕ) (result : Result (Unit {0}) DeviceFault) → n ≤ most → PutsDown a at over n result b → PutsDown a at over most result b
put_weaker a b at over n most result few puts =
    let Q : Pair → Type 0 = Leaves (begin_write a.state at (length over)) in
    record { runs = runs_weaker Q Q a n most result b few (λ pair leaves. leaves) puts.runs; put = puts.put }
