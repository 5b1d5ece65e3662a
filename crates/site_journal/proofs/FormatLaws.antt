-- The file gate is closed, an area is written after it, and the gate is opened: what a stop leaves on the way, and in the end.
use Rattle.std.proofs.Common.{◌≡◌, ℕ, ◌+◌, ◌≤◌, suc, List, [], ◌∷◌, ◌++◌, length, drop, replicate, slice_get, Some, Result, Ok, Err, refl, sym, ap, subst, ◌∙◌, inl, inr, arith, append_assoc, length-append}
use Rattle.std.proofs.lemmas.List.{drop-drop, length-replicate}
use Rattle.esc_model.specs.SlaveHalf.{SlaveHalf}
use Rattle.jrn_format.specs.Area.{IsClosed}
use Rattle.jrn_format.specs.Header.{header_bytes}
use Rattle.site_core.specs.declared.fault.DeviceFault.{DeviceFault}
use Rattle.site_core.specs.Disk.{StopImage, overlaid, write_begun, written}
use Rattle.site_core.specs.State.{State, Pair, Seen, Leaves}
use Rattle.site_core.specs.Calls.{begin_write}
use Rattle.site_core.proofs.StopImages.{StopImage-synced, equal_by_elements}
use Rattle.world_law.specs.Happenings.{with_synced}
use Rattle.site_journal.specs.Runs.{MakesCalls}
use Rattle.site_journal.specs.Formatting.{formatted, after_gate, pieces, PutsDown, IsPairOnTheWay, Formats}
use Rattle.site_journal.proofs.Laying.{made}
use Rattle.site_journal.proofs.CallRuns.{runs_weaker, runs_then}

after_long : (slaves capacity : ℕ) → length (after_gate slaves capacity) ≡ 7 + capacity
after_long slaves capacity = omega (arith, length-append (drop 1 (header_bytes 2 slaves capacity)) (replicate capacity 0), length-replicate {A = ℕ} capacity 0, seven)
  where
    seven : length (drop 1 (header_bytes 2 slaves capacity)) ≡ 7
    seven = refl

-- and with the area laid
second_bytes : (slaves capacity gate : ℕ) (bytes : List ℕ) → overlaid (gate ∷ drop 1 bytes) 1 (after_gate slaves capacity) ≡ gate ∷ drop 1 (formatted slaves capacity bytes)
second_bytes slaves capacity gate bytes =
    let rest = drop 1 (header_bytes 2 slaves capacity) in
    let long : 1 + length (after_gate slaves capacity) ≡ suc (7 + capacity) = omega (arith, after_long slaves capacity) in
    let e : drop (1 + length (after_gate slaves capacity)) (gate ∷ drop 1 bytes) ≡ drop (8 + capacity) bytes =
    ap (λ (n : ℕ). drop n (gate ∷ drop 1 bytes)) long ∙ further in
    ap (λ (l : List ℕ). gate ∷ (after_gate slaves capacity ++ l)) e
    ∙ ap (λ (l : List ℕ). gate ∷ l) (append_assoc rest (replicate capacity 0) (drop (8 + capacity) bytes))
  where
    further : drop (suc (7 + capacity)) (gate ∷ drop 1 bytes) ≡ drop (8 + capacity) bytes
    further =
        let sum : 1 + (7 + capacity) ≡ 8 + capacity = omega arith in
        drop-drop (7 + capacity) 1 bytes ∙ ap (λ (n : ℕ). drop n bytes) sum

-- the state after bytes are put down
put_state : (x y : State) (at : ℕ) (over bytes : List ℕ) (halves : List SlaveHalf) → y ≡ made bytes halves → x ≡ with_synced (record y { disk = written y.disk at over })
    → x ≡ made (overlaid bytes at over) halves
put_state x y at over bytes halves is put = put ∙ ap (λ (s : State). with_synced (record s { disk = written s.disk at over })) is

-- ---- what a stop leaves meanwhile

closed_of : (image : List ℕ) → slice_get image 0 ≡ Some 0 → IsClosed image
closed_of [] is = absurd cc
closed_of (x ∷ xs) is = (x, xs, (λ e. absurd (let zero_is : x ≡ 0 = cc in omega arith)), refl)

-- of a disk that begins with a 0, while what is after it is written
closed_meanwhile : (bytes : List ℕ) (halves : List SlaveHalf) (count : ℕ) (pair : Pair) → Leaves (begin_write (made (0 ∷ bytes) halves) 1 count) pair → IsClosed pair.disk
closed_meanwhile bytes halves count pair leaves = closed_of pair.disk (leaves.disk.bytes 0 (inl (omega arith), tt))

-- of a disk while its first byte is written
but_first : (gate : ℕ) (bytes image : List ℕ) → StopImage (write_begun (record { bytes = gate ∷ bytes; unsynced = []; synced_length = length (gate ∷ bytes) }) 0 1) image
    → (torn : ℕ) × (image ≡ torn ∷ bytes)
but_first gate bytes [] stop = absurd (let e = stop.no_shorter in omega arith)
but_first gate bytes (x ∷ xs) stop = (x, ap (λ (l : List ℕ). x ∷ l) (equal_by_elements xs bytes (λ at. stop.bytes (suc at) (inr (omega arith), tt))))

-- ---- the whole

-- the states after each of the three parts
pub record Parts (slaves capacity : ℕ) (a b c : State) : Type 0 where
  pub second : b ≡ made (0 ∷ drop 1 a.disk.bytes) a.halves
  pub third : c ≡ made (0 ∷ drop 1 (formatted slaves capacity a.disk.bytes)) a.halves

parts : (slaves capacity : ℕ) (a b c : State) → b ≡ with_synced (record a { disk = written a.disk 0 (0 ∷ []) })
    → c ≡ with_synced (record b { disk = written b.disk 1 (after_gate slaves capacity) }) → Parts slaves capacity a b c
parts slaves capacity a b c first next = record {
  second = first;
  third = put_state c b 1 (after_gate slaves capacity) (0 ∷ drop 1 a.disk.bytes) a.halves first next
      ∙ ap (λ (l : List ℕ). made l a.halves) (second_bytes slaves capacity 0 a.disk.bytes);
}

first_on_the_way : (slaves capacity : ℕ) (a : State) (pair : Pair) → Leaves (begin_write a 0 1) pair → IsPairOnTheWay slaves capacity a pair
first_on_the_way slaves capacity a pair leaves = (inl leaves.disk, leaves.words)

second_on_the_way : (slaves capacity count : ℕ) (a b : State) (pair : Pair) → b ≡ made (0 ∷ drop 1 a.disk.bytes) a.halves → Leaves (begin_write b 1 count) pair → IsPairOnTheWay slaves capacity a pair
second_on_the_way slaves capacity count a b pair is leaves =
    let there : Leaves (begin_write (made (0 ∷ drop 1 a.disk.bytes) a.halves) 1 count) pair = subst (λ (s : State). Leaves (begin_write s 1 count) pair) is leaves in
    (inr (inl (closed_meanwhile (drop 1 a.disk.bytes) a.halves count pair there)), there.words)

third_on_the_way : (slaves capacity : ℕ) (a c : State) (pair : Pair) → c ≡ made (0 ∷ drop 1 (formatted slaves capacity a.disk.bytes)) a.halves → Leaves (begin_write c 0 1) pair
    → IsPairOnTheWay slaves capacity a pair
third_on_the_way slaves capacity a c pair is leaves =
    let tail : List ℕ = drop 1 (formatted slaves capacity a.disk.bytes) in
    let there : Leaves (begin_write (made (0 ∷ tail) a.halves) 0 1) pair = subst (λ (s : State). Leaves (begin_write s 0 1) pair) is leaves in
    (inr (inr (but_first 0 tail pair.disk there.disk)), there.words)

-- the gate is closed, or not
pub first_runs : (slaves capacity most : ℕ) (a b : Seen) (result : Result (Unit {0}) DeviceFault) → 2 ≤ most → PutsDown a 0 (0 ∷ []) 2 result b
    → MakesCalls (IsPairOnTheWay slaves capacity a.state) a most result b
first_runs slaves capacity most a b result few puts =
    runs_weaker (Leaves (begin_write a.state 0 1)) (IsPairOnTheWay slaves capacity a.state) a 2 most result b few (λ pair leaves. first_on_the_way slaves capacity a.state pair leaves) puts.runs

-- the area is laid after it, or not
pub second_runs : (slaves capacity most : ℕ) (a b c : Seen) (result : Result (Unit {0}) DeviceFault) → 4 + pieces capacity ≤ most → PutsDown a 0 (0 ∷ []) 2 (Ok tt) b
    → PutsDown b 1 (after_gate slaves capacity) (2 + pieces capacity) result c → MakesCalls (IsPairOnTheWay slaves capacity a.state) a most result c
second_runs slaves capacity most a b c result few first second =
    let n : ℕ = 2 + pieces capacity in
    let count : ℕ = length (after_gate slaves capacity) in
    let Q : Pair → Type 0 = IsPairOnTheWay slaves capacity a.state in
    runs_then Q a b c 2 n most tt result (omega arith) (first_runs slaves capacity 2 a b (Ok tt) (omega arith) first)
    (runs_weaker (Leaves (begin_write b.state 1 count)) Q b n n result c (omega arith) (λ pair leaves. second_on_the_way slaves capacity count a.state b.state pair first.put leaves) second.runs)

-- the gate is opened, or not
pub third_runs : (slaves capacity : ℕ) (a b c d : Seen) (result : Result (Unit {0}) DeviceFault) → PutsDown a 0 (0 ∷ []) 2 (Ok tt) b
    → PutsDown b 1 (after_gate slaves capacity) (2 + pieces capacity) (Ok tt) c → PutsDown c 0 (0xA5 ∷ []) 2 result d
    → MakesCalls (IsPairOnTheWay slaves capacity a.state) a (6 + pieces capacity) result d
third_runs slaves capacity a b c d result first second third =
    let m : ℕ = 4 + pieces capacity in
    let Q : Pair → Type 0 = IsPairOnTheWay slaves capacity a.state in
    let all = parts slaves capacity a.state b.state c.state first.put second.put in
    runs_then Q a c d m 2 (6 + pieces capacity) tt result (omega arith) (second_runs slaves capacity m a b c (Ok tt) (omega arith) first second)
    (runs_weaker (Leaves (begin_write c.state 0 1)) Q c 2 2 result d (omega arith) (λ pair leaves. third_on_the_way slaves capacity a.state c.state pair all.third leaves) third.runs)

pub formats_cut : (slaves capacity : ℕ) (a b : Seen) (fault : DeviceFault) (result : Result (Unit {0}) DeviceFault) → result ≡ Err fault
    → MakesCalls {T = Unit {0}} (IsPairOnTheWay slaves capacity a.state) a (6 + pieces capacity) (Err fault) b → Formats slaves capacity a result b
formats_cut slaves capacity a b fault result is runs =
    subst (λ (r : Result (Unit {0}) DeviceFault). Formats slaves capacity a r b) (sym is) (record { runs = runs; bytes = tt; only = tt; halves = tt })

formats_so : (slaves capacity : ℕ) (a c d : Seen) (result : Result (Unit {0}) DeviceFault) → c.state ≡ made (0 ∷ drop 1 (formatted slaves capacity a.state.disk.bytes)) a.state.halves
    → PutsDown c 0 (0xA5 ∷ []) 2 result d → MakesCalls (IsPairOnTheWay slaves capacity a.state) a (6 + pieces capacity) result d → Formats slaves capacity a result d
formats_so slaves capacity a c d (Ok done) is third runs =
    let bytes : List ℕ = formatted slaves capacity a.state.disk.bytes in
    let end : d.state ≡ made bytes a.state.halves = put_state d.state c.state 0 (0xA5 ∷ []) (0 ∷ drop 1 bytes) a.state.halves is third.put in
    record {
      runs = runs;
      bytes = ap (λ (s : State). s.disk.bytes) end;
      only = λ image stop. StopImage-synced (made bytes a.state.halves).disk image (subst (λ (s : State). StopImage s.disk image) end stop);
      halves = ap (λ (s : State). s.halves) end;
    }
formats_so slaves capacity a c d (Err fault) is third runs = record { runs = runs; bytes = tt; only = tt; halves = tt }

pub formats : (slaves capacity : ℕ) (a b c d : Seen) (result : Result (Unit {0}) DeviceFault) → PutsDown a 0 (0 ∷ []) 2 (Ok tt) b
    → PutsDown b 1 (after_gate slaves capacity) (2 + pieces capacity) (Ok tt) c → PutsDown c 0 (0xA5 ∷ []) 2 result d → Formats slaves capacity a result d
formats slaves capacity a b c d result first second third =
    formats_so slaves capacity a c d result (parts slaves capacity a.state b.state c.state first.put second.put).third third
    (third_runs slaves capacity a b c d result first second third)
