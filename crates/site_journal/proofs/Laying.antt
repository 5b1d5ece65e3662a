-- Bytes are written to a disk in one write after another.
use Rattle.std.proofs.Common.{◌≡◌, IsTrue, OnOk, ℕ, ◌+◌, ◌≤◌, min, List, [], ◌++◌, length, take, drop, slice_get, Result, Ok, Err, refl, sym, ap, subst, ◌∙◌, inl, inr, arith, append_assoc, length-append, length-take}
use Rattle.std.proofs.lemmas.List.{append-nil, take-append-drop, drop-drop}
use Rattle.std.proofs.Math.Seq.{take-append_seam, drop-append-add}
use Rattle.esc_model.specs.SlaveHalf.{SlaveHalf}
use Rattle.site_core.specs.declared.fault.DeviceFault.{DeviceFault}
use Rattle.site_core.specs.Disk.{Disk, StopImage, IsOutside, overlaid, write_begun, written}
use Rattle.site_core.specs.State.{State, Pair, Seen, Leaves, EachMayLeave}
use Rattle.site_core.specs.Calls.{WritesDisk, SyncsDisk, begin_write}
use Rattle.site_core.proofs.DeviceCalls.{WritesDisk-left, Leaves-begun}
use Rattle.site_core.proofs.Overlays.{overlaid-outside, length-overlaid}
use Rattle.world_law.specs.Happenings.{with_synced}
use Rattle.site_journal.specs.Runs.{MakesCalls}
use Rattle.site_journal.specs.Formatting.{LiesOver, LaysDown, PutsDown}
use Rattle.site_journal.proofs.CallRuns.{runs_none, runs_one, runs_weaker, runs_then}
use Rattle.site_journal.proofs.ReadLaws.{sync_runs}

-- ---- the bytes

length-laid : (bytes over : List ℕ) (at : ℕ) → at ≤ length bytes → length (take at bytes ++ over) ≡ at + length over
length-laid bytes over at within = omega (arith, length-append (take at bytes) over, length-take at bytes)

-- one part after the other
pub overlaid-then : (bytes over more : List ℕ) (at : ℕ) → at ≤ length bytes → overlaid (overlaid bytes at over) (at + length over) more ≡ overlaid bytes at (over ++ more)
overlaid-then bytes over more at within =
    let front : List ℕ = take at bytes ++ over in
    let rest : List ℕ = drop (at + length over) bytes in
    let k : ℕ = at + length over in
    let long : length front ≡ k = length-laid bytes over at within in
    let fore : take k (front ++ rest) ≡ front = ap (λ (n : ℕ). take n (front ++ rest)) (sym long) ∙ take-append_seam front rest in
    let aft : drop (k + length more) (front ++ rest) ≡ drop (at + length (over ++ more)) bytes =
    ap (λ (n : ℕ). drop (n + length more) (front ++ rest)) (sym long) ∙ drop-append-add front rest (length more) ∙ drop-drop (length more) k bytes
    ∙ ap (λ (n : ℕ). drop n bytes) (omega (arith, length-append over more)) in
    ap (λ (l : List ℕ). l ++ more ++ drop (k + length more) (front ++ rest)) fore
    ∙ ap (λ (l : List ℕ). front ++ more ++ l) aft
    ∙ ap (λ (l : List ℕ). l ++ drop (at + length (over ++ more)) bytes) (append_assoc (take at bytes) over more)

long_enough : (bytes over : List ℕ) (at : ℕ) → at ≤ length bytes → at + length over ≤ length (overlaid bytes at over)
long_enough bytes over at within =
    omega (arith, length-append (take at bytes ++ over) (drop (at + length over) bytes), length-laid bytes over at within)

-- ---- the disk

-- nothing is laid yet
pub lies_none : (disk : Disk) (at : ℕ) → at ≤ length disk.bytes → LiesOver disk at [] disk
lies_none disk at within = record {
  bytes = sym (overlaid-nothing disk.bytes at);
  synced = λ place outside is. is;
  synced_length = refl;
}
  where
    overlaid-nothing : (bytes : List ℕ) (n : ℕ) → overlaid bytes n [] ≡ bytes
    overlaid-nothing bytes n =
        let e : n + 0 ≡ n = omega arith in
        ap (λ (l : List ℕ). l ++ drop (n + 0) bytes) (append-nil (take n bytes)) ∙ ap (λ (m : ℕ). take n bytes ++ drop m bytes) e ∙ take-append-drop n bytes

-- one write
pub lies_written : (disk : Disk) (at : ℕ) (over : List ℕ) → LiesOver disk at over (written (write_begun disk at (length over)) at over)
lies_written disk at over = record { bytes = refl; synced = λ place outside is. (outside, is); synced_length = refl }

-- some, and then some more
pub lies_then : (old mid new : Disk) (at : ℕ) (over more : List ℕ) → at ≤ length old.bytes → LiesOver old at over mid → LiesOver mid (at + length over) more new
    → LiesOver old at (over ++ more) new
lies_then old mid new at over more within first second = record {
  bytes = second.bytes ∙ ap (λ (b : List ℕ). overlaid b (at + length over) more) first.bytes ∙ overlaid-then old.bytes over more at within;
  synced = λ place outside is. second.synced place (outside_last place outside) (first.synced place (outside_first place outside) is);
  synced_length = second.synced_length ∙ first.synced_length;
}
  where
    outside_last : (place : ℕ) → IsOutside place (record { start = at; count = length (over ++ more) }) → IsOutside place (record { start = at + length over; count = length more })
    outside_last place (inl below) = inl (omega arith)
    outside_last place (inr after) = inr (omega (arith, length-append over more))

    outside_first : (place : ℕ) → IsOutside place (record { start = at; count = length (over ++ more) }) → IsOutside place (record { start = at; count = length over })
    outside_first place (inl below) = inl below
    outside_first place (inr after) = inr (omega (arith, length-append over more))

-- What a stop leaves as a further write begins is what it leaves as one write of all begins.
pub begun_within : (old mid : Disk) (at : ℕ) (over : List ℕ) (more count : ℕ) (image : List ℕ) → at ≤ length old.bytes → length over + more ≤ count → LiesOver old at over mid
    → StopImage (write_begun mid (at + length over) more) image → StopImage (write_begun old at count) image
begun_within old mid at over more count image within fits lies stop = record {
  bytes = λ place is. stop.bytes place (outside_last place is.0, lies.synced place (outside_first place is.0) is.1)
      ∙ ap (λ (b : List ℕ). slice_get b place) lies.bytes ∙ overlaid-outside old.bytes over at place within (outside_first place is.0);
  no_shorter =
      let longer : length old.bytes ≤ length (overlaid old.bytes at over) = length-overlaid old.bytes over at within in
      let same : length mid.bytes ≡ length (overlaid old.bytes at over) = ap (λ (b : List ℕ). length b) lies.bytes in
      let short : min mid.synced_length (length mid.bytes) ≤ length image = stop.no_shorter in
      let length_same : mid.synced_length ≡ old.synced_length = lies.synced_length in
      omega arith;
}
  where
    outside_last : (place : ℕ) → IsOutside place (record { start = at; count = count }) → IsOutside place (record { start = at + length over; count = more })
    outside_last place (inl below) = inl (omega arith)
    outside_last place (inr after) = inr (omega arith)

    outside_first : (place : ℕ) → IsOutside place (record { start = at; count = count }) → IsOutside place (record { start = at; count = length over })
    outside_first place (inl below) = inl below
    outside_first place (inr after) = inr (omega arith)

-- ---- the calls

-- one write
pub one_write : (a b : Seen) (at : ℕ) (over : List ℕ) (result : Result (Unit {0}) DeviceFault) → at ≤ length a.state.disk.bytes → WritesDisk a at over result b
    → MakesCalls (Leaves (begin_write a.state at (length over))) a 1 result b
one_write a b at over result within writes =
    runs_one (Leaves (begin_write a.state at (length over))) a writes.middle result b writes.call (WritesDisk-left a at over result b within writes) writes.not_lost writes.turns

-- `over` was written, and a stop leaves only what it may leave in one write of `count` bytes
pub record Laid (a : Seen) (at : ℕ) (over : List ℕ) (count most : ℕ) (b : Seen) : Type 0 where
  pub runs : MakesCalls {T = Unit {0}} (Leaves (begin_write a.state at count)) a most (Ok tt) b
  pub lies : LiesOver a.state.disk at over b.state.disk
  pub halves : b.state.halves ≡ a.state.halves

pub leaves_within : (a b : Seen) (at : ℕ) (over : List ℕ) (more count m : ℕ) (pair : Pair) → at ≤ length a.state.disk.bytes → length over + more ≤ count → Laid a at over count m b
    → Leaves (begin_write b.state (at + length over) more) pair → Leaves (begin_write a.state at count) pair
leaves_within a b at over more count m pair within fits laid leaves = record {
  disk = begun_within a.state.disk b.state.disk at over more count pair.disk within fits laid.lies leaves.disk;
  words = subst (λ (hs : List SlaveHalf). EachMayLeave hs pair.words) laid.halves leaves.words;
}

-- nothing is laid yet
pub laid_none : (a : Seen) (at count : ℕ) → at ≤ length a.state.disk.bytes → ¬ IsTrue a.is_stopped → Laid a at [] count 0 a
laid_none a at count within going = record {
  runs = runs_none (Leaves (begin_write a.state at count)) a going (λ pair leaves. Leaves-begun a.state at count pair leaves);
  lies = lies_none a.state.disk at within;
  halves = refl;
}

-- one write more
pub write_runs : (a b c : Seen) (at : ℕ) (over more : List ℕ) (count m : ℕ) (result : Result (Unit {0}) DeviceFault) → at ≤ length a.state.disk.bytes → length over + length more ≤ count
    → Laid a at over count m b → WritesDisk b (at + length over) more result c → MakesCalls (Leaves (begin_write a.state at count)) a (m + 1) result c
write_runs a b c at over more count m result within fits laid writes =
    let there : at + length over ≤ length b.state.disk.bytes = subst (λ (l : List ℕ). at + length over ≤ length l) (sym laid.lies.bytes) (long_enough a.state.disk.bytes over at within) in
    runs_then (Leaves (begin_write a.state at count)) a b c m 1 (m + 1) tt result (omega arith) laid.runs
    (runs_weaker (Leaves (begin_write b.state (at + length over) (length more))) (Leaves (begin_write a.state at count)) b 1 1 result c (omega arith)
    (λ pair leaves. leaves_within a b at over (length more) count m pair within fits laid leaves)
    (one_write b c (at + length over) more result there writes))

pub laid_more : (a b c : Seen) (at : ℕ) (over more : List ℕ) (count m : ℕ) → at ≤ length a.state.disk.bytes → length over + length more ≤ count
    → Laid a at over count m b → WritesDisk b (at + length over) more (Ok tt) c → Laid a at (over ++ more) count (m + 1) c
laid_more a b c at over more count m within fits laid writes =
    let is : c.state ≡ record b.state { disk = written (write_begun b.state.disk (at + length over) (length more)) (at + length over) more } = writes.ok in
    record {
      runs = write_runs a b c at over more count m (Ok tt) within fits laid writes;
      lies = lies_then a.state.disk b.state.disk c.state.disk at over more within laid.lies
          (subst (λ (s : State). LiesOver b.state.disk (at + length over) more s.disk) (sym is) (lies_written b.state.disk (at + length over) more));
      halves = ap (λ (s : State). s.halves) is ∙ laid.halves;
    }

pub laid_one : (a b : Seen) (at : ℕ) (over : List ℕ) → at ≤ length a.state.disk.bytes → WritesDisk a at over (Ok tt) b → LaysDown a at over 1 (Ok tt) b
laid_one a b at over within writes =
    let is : b.state ≡ record a.state { disk = written (write_begun a.state.disk at (length over)) at over } = writes.ok in
    record {
      runs = one_write a b at over (Ok tt) within writes;
      lies = subst (λ (s : State). LiesOver a.state.disk at over s.disk) (sym is) (lies_written a.state.disk at over);
      halves = ap (λ (s : State). s.halves) is;
    }

-- the whole is laid
pub laid_all : (a b : Seen) (at : ℕ) (over bytes : List ℕ) (count most : ℕ) → over ≡ bytes → count ≡ length bytes → Laid a at over count most b → LaysDown a at bytes most (Ok tt) b
laid_all a b at over bytes count most is long laid = record {
  runs = subst (λ (n : ℕ). MakesCalls {T = Unit {0}} (Leaves (begin_write a.state at n)) a most (Ok tt) b) long laid.runs;
  lies = subst (λ (l : List ℕ). LiesOver a.state.disk at l b.state.disk) is laid.lies;
  halves = laid.halves;
}

-- or a write failed
pub laid_cut : (a b : Seen) (at : ℕ) (bytes : List ℕ) (count n most : ℕ) (fault : DeviceFault) (result : Result (Unit {0}) DeviceFault) → result ≡ Err fault → count ≡ length bytes → n ≤ most
    → MakesCalls {T = Unit {0}} (Leaves (begin_write a.state at count)) a n (Err fault) b → LaysDown a at bytes most result b
laid_cut a b at bytes count n most fault result is long few runs =
    let Q : Pair → Type 0 = Leaves (begin_write a.state at (length bytes)) in
    subst (λ (r : Result (Unit {0}) DeviceFault). LaysDown a at bytes most r b) (sym is) (record {
      runs = runs_weaker Q Q a n most (Err fault) b few (λ pair leaves. leaves)
          (subst (λ (k : ℕ). MakesCalls {T = Unit {0}} (Leaves (begin_write a.state at k)) a n (Err fault) b) long runs);
      lies = tt;
      halves = tt;
    })

-- ---- and synced

-- a disk of these bytes, all synced
abbrev pub made : List ℕ → List SlaveHalf → State
made bytes halves = record { disk = record { bytes = bytes; unsynced = []; synced_length = length bytes }; halves = halves }

synced_alike : (old mid : State) (at : ℕ) (over : List ℕ) → mid.disk.bytes ≡ overlaid old.disk.bytes at over → mid.halves ≡ old.halves
    → with_synced mid ≡ with_synced (record old { disk = written old.disk at over })
synced_alike old mid at over bytes halves =
    ap (λ (b : List ℕ). made b mid.halves) bytes ∙ ap (λ (h : List SlaveHalf). made (overlaid old.disk.bytes at over) h) halves

pub put_down : (a b c : Seen) (at : ℕ) (over : List ℕ) (n : ℕ) (result : Result (Unit {0}) DeviceFault) → LaysDown a at over n (Ok tt) b → SyncsDisk b result c
    → PutsDown a at over (n + 1) result c
put_down a b c at over n result laid syncs = record {
  runs = runs_then Q a b c n 1 (n + 1) tt result (omega arith) laid.runs
      (runs_weaker (Leaves b.state) Q b 1 1 result c (omega arith) laid.runs.stays.passes.now (sync_runs b c result syncs));
  put = put_so result syncs;
}
  where
    Q : Pair → Type 0
    Q = Leaves (begin_write a.state at (length over))

    put_so : (r : Result (Unit {0}) DeviceFault) → SyncsDisk b r c → OnOk r (c.state ≡ with_synced (record a.state { disk = written a.state.disk at over }))
    put_so (Ok done) s = s.ok ∙ synced_alike a.state b.state at over laid.lies.bytes laid.halves
    put_so (Err fault) s = tt

pub put_cut : (a b : Seen) (at : ℕ) (over : List ℕ) (n most : ℕ) (fault : DeviceFault) (result : Result (Unit {0}) DeviceFault) → result ≡ Err fault → n ≤ most
    → MakesCalls {T = Unit {0}} (Leaves (begin_write a.state at (length over))) a n (Err fault) b → PutsDown a at over most result b
put_cut a b at over n most fault result is few runs =
    let Q : Pair → Type 0 = Leaves (begin_write a.state at (length over)) in
    subst (λ (r : Result (Unit {0}) DeviceFault). PutsDown a at over most r b) (sym is)
    (record { runs = runs_weaker Q Q a n most (Err fault) b few (λ pair leaves. leaves) runs; put = tt })
