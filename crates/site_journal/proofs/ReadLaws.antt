-- A disk is synced, and all its bytes are read.
use Rattle.std.proofs.Common.{◌≡◌, ◌≢◌, ℕ, ◌+◌, ◌≤◌, List, [], ◌∷◌, ◌++◌, length, slice_range, Result, Ok, Err, IsErrAnd, refl, sym, ap, subst, ◌∙◌, inl, inr, arith, append_assoc}
use Rattle.std.proofs.lemmas.List.{take_rest}
use Rattle.sii_words.proofs.Quantifiers.{all_append}
use Rattle.jrn_format.specs.declared.fault.JournalFault.TheVariants as journal
use Rattle.site_core.specs.declared.fault.DeviceFault.{DeviceFault}
use Rattle.site_core.specs.declared.fault.DeviceFault.TheVariants as faults
use Rattle.site_core.specs.State.{State, Moment, Seen, Leaves}
use Rattle.site_core.specs.Calls.{Calls, Reads, GivesLength, ReadsDisk, SyncsDisk}
use Rattle.site_core.proofs.DeviceCalls.{SyncsDisk-adds_nothing, Reads-adds_nothing}
use Rattle.site_journal.specs.declared.fault.ReadFault.{ReadFault}
use Rattle.site_journal.specs.declared.fault.ReadFault.TheVariants as read
use Rattle.world_law.specs.Happenings.{with_synced}
use Rattle.site_journal.specs.Runs.{MakesCalls}
use Rattle.site_journal.specs.Reading.{SyncsFirst, OnlyReadsAndSyncs, ReadsAll}
use Rattle.site_journal.proofs.CallRuns.{runs_one, runs_weaker, runs_then, runs_ok, runs_err}

-- the fault that is handed on
pub handed_on : {T : Type 0} (result : Result T ReadFault) (fault : ReadFault) → IsErrAnd result (λ other. other ≡ fault) → result ≡ Err fault
handed_on (Ok value) fault is = absurd is
handed_on (Err other) fault is = ap Err is

-- ---- the calls

pub sync_runs : (a b : Seen) (result : Result (Unit {0}) DeviceFault) → SyncsDisk a result b → MakesCalls (Leaves a.state) a 1 result b
sync_runs a b result syncs = runs_one (Leaves a.state) a [] result b syncs.call (SyncsDisk-adds_nothing a result b syncs) syncs.not_lost syncs.turns

reading_runs : {T : Type 0} (a b : Seen) (result : Result T DeviceFault) → Reads a result b → result ≢ Err faults.Lost → MakesCalls (Leaves a.state) a 1 result b
reading_runs a b result reads not_lost = runs_one (Leaves a.state) a [] result b reads.call (Reads-adds_nothing a result b reads) not_lost reads.turns

-- none of them has a state in its middle
bare_one : {T : Type 0} (a b : Seen) (result : Result T DeviceFault) → Calls a [] result b → OnlyReadsAndSyncs a b
bare_one a b result call = record { calls = record { before = a.state; faults = a.faults; middle = [] } ∷ []; past = call.past; bare = (refl, tt) }

bare_then : (a b c : Seen) → OnlyReadsAndSyncs a b → OnlyReadsAndSyncs b c → OnlyReadsAndSyncs a c
bare_then a b c first second = record {
  calls = first.calls ++ second.calls;
  past = second.past ∙ ap (λ (p : List Moment). p ++ second.calls) first.past ∙ append_assoc a.past first.calls second.calls;
  bare = all_append (λ (m : Moment). m.middle ≡ []) first.calls second.calls first.bare second.bare;
}

-- behind calls that added nothing
quiet_then : {A B : Type 0} (a b c : Seen) (m : ℕ) (value : A) (result : Result B DeviceFault)
    → MakesCalls {T = A} (Leaves a.state) a m (Ok value) b → MakesCalls {T = B} (Leaves b.state) b 1 result c → MakesCalls {T = B} (Leaves a.state) a (m + 1) result c
quiet_then {A} {B} a b c m value result first second =
    runs_then {A = A} {B = B} (Leaves a.state) a b c m 1 (m + 1) value result (omega arith) first
    (runs_weaker (Leaves b.state) (Leaves a.state) b 1 1 result c (omega arith) first.stays.passes.now second)

bare_length : (a b c : Seen) (result : Result ℕ DeviceFault) → SyncsDisk a (Ok tt) b → GivesLength b result c → OnlyReadsAndSyncs a c
bare_length a b c result syncs gives = bare_then a b c (bare_one a b (Ok tt) syncs.call) (bare_one b c result gives.reads.call)

bare_read : (a b c d : Seen) (count n : ℕ) (result : Result (Unit {0}) DeviceFault) (bytes : List ℕ) → SyncsDisk a (Ok tt) b → GivesLength b (Ok count) c → ReadsDisk c 0 n result bytes d → OnlyReadsAndSyncs a d
bare_read a b c d count n result bytes syncs gives reads = bare_then a c d (bare_length a b c (Ok count) syncs gives) (bare_one c d result reads.reads.call)

-- ---- the first of them fails

first_of_sync : (a b : Seen) (fault : DeviceFault) → SyncsDisk a (Err fault) b → SyncsFirst a.state (Err fault) b.state
first_of_sync a b faults.Disk syncs = inl (syncs.failed refl)
first_of_sync a b faults.Lost syncs = syncs.not_lost refl
first_of_sync a b faults.Stopped syncs = tt

-- or a later one
first_of_reading : {T : Type 0} (a b c : Seen) (fault : DeviceFault) → b.state ≡ with_synced a.state → Reads {T = T} b (Err fault) c → (fault ≡ faults.Lost → ⊥) → SyncsFirst a.state (Err fault) c.state
first_of_reading a b c faults.Disk is reads not_lost = inr (reads.same (λ e. absurd cc) ∙ is)
first_of_reading a b c faults.Lost is reads not_lost = not_lost refl
first_of_reading a b c faults.Stopped is reads not_lost = tt

-- the whole with a fault of the disk
fails : {T : Type 0} (bytes_of : T → List ℕ) (a b : Seen) (most : ℕ) (fault : DeviceFault) (result : Result T ReadFault) → most ≤ 3 → result ≡ Err (read.Device fault)
    → MakesCalls {T = Unit {0}} (Leaves a.state) a most (Err fault) b → OnlyReadsAndSyncs a b → SyncsFirst a.state (Err fault) b.state → ReadsAll bytes_of a result b
fails {T} bytes_of a b most fault result few is runs bare first =
    subst (λ (r : Result T ReadFault). ReadsAll bytes_of a r b) (sym is)
    (record { syncs = record { runs = runs_weaker (Leaves a.state) (Leaves a.state) a most 3 (Err fault) b few (λ pair leaves. leaves) runs; no_exchange = bare; first = first }; gives = tt })

pub sync_fails : {T : Type 0} (bytes_of : T → List ℕ) (a b : Seen) (fault : DeviceFault) (result : Result T ReadFault) → result ≡ Err (read.Device fault)
    → SyncsDisk a (Err fault) b → ReadsAll bytes_of a result b
sync_fails bytes_of a b fault result is syncs =
    fails bytes_of a b 1 fault result (omega arith) is (sync_runs a b (Err fault) syncs) (bare_one a b (Err fault) syncs.call) (first_of_sync a b fault syncs)

pub length_fails : {T : Type 0} (bytes_of : T → List ℕ) (a b c : Seen) (fault : DeviceFault) (result : Result T ReadFault) → result ≡ Err (read.Device fault)
    → SyncsDisk a (Ok tt) b → GivesLength b (Err fault) c → ReadsAll bytes_of a result c
length_fails bytes_of a b c fault result is syncs gives =
    fails bytes_of a c (1 + 1) fault result (omega arith) is
    (runs_err {A = ℕ} {B = Unit {0}} (Leaves a.state) a (1 + 1) fault c
    (quiet_then {A = Unit {0}} {B = ℕ} a b c 1 tt (Err fault) (sync_runs a b (Ok tt) syncs) (reading_runs b c (Err fault) gives.reads gives.not_lost)))
    (bare_length a b c (Err fault) syncs gives) (first_of_reading a b c fault syncs.ok gives.reads (λ e. gives.not_lost (ap Err e)))

-- ---- the length is known

length_runs : (a b c : Seen) (count : ℕ) → SyncsDisk a (Ok tt) b → GivesLength b (Ok count) c → MakesCalls {T = ℕ} (Leaves a.state) a (1 + 1) (Ok count) c
length_runs a b c count syncs gives =
    quiet_then {A = Unit {0}} {B = ℕ} a b c 1 tt (Ok count) (sync_runs a b (Ok tt) syncs) (reading_runs b c (Ok count) gives.reads gives.not_lost)

is_synced : (a b c : Seen) (count : ℕ) → SyncsDisk a (Ok tt) b → GivesLength b (Ok count) c → c.state ≡ with_synced a.state
is_synced a b c count syncs gives = gives.reads.same (λ e. absurd cc) ∙ syncs.ok

pub memory_fails : {T : Type 0} (bytes_of : T → List ℕ) (a b c : Seen) (count : ℕ) (result : Result T ReadFault) → result ≡ Err (read.Journal journal.Memory)
    → SyncsDisk a (Ok tt) b → GivesLength b (Ok count) c → ReadsAll bytes_of a result c
memory_fails {T} bytes_of a b c count result is syncs gives =
    subst (λ (r : Result T ReadFault). ReadsAll bytes_of a r c) (sym is) (record {
      syncs = record {
        runs = runs_weaker (Leaves a.state) (Leaves a.state) a (1 + 1) 3 (Ok tt) c (omega arith) (λ pair leaves. leaves)
            (runs_ok {A = ℕ} {B = Unit {0}} (Leaves a.state) a (1 + 1) count tt c (length_runs a b c count syncs gives));
        no_exchange = bare_length a b c (Ok count) syncs gives;
        first = is_synced a b c count syncs gives;
      };
      gives = refl;
    })

pub read_fails : {T : Type 0} (bytes_of : T → List ℕ) (a b c d : Seen) (count n : ℕ) (bytes : List ℕ) (fault : DeviceFault) (result : Result T ReadFault) → result ≡ Err (read.Device fault)
    → SyncsDisk a (Ok tt) b → GivesLength b (Ok count) c → ReadsDisk c 0 n (Err fault) bytes d → ReadsAll bytes_of a result d
read_fails bytes_of a b c d count n bytes fault result is syncs gives reads =
    fails bytes_of a d (1 + 1 + 1) fault result (omega arith) is
    (quiet_then {A = ℕ} {B = Unit {0}} a c d (1 + 1) count (Err fault) (length_runs a b c count syncs gives) (reading_runs c d (Err fault) reads.reads reads.not_lost))
    (bare_read a b c d count n (Err fault) bytes syncs gives reads) (first_of_reading a c d fault (is_synced a b c count syncs gives) reads.reads (λ e. reads.not_lost (ap Err e)))

all_of : (xs : List ℕ) (n : ℕ) → n ≡ length xs → slice_range xs 0 n ≡ xs
all_of xs n is = ap (λ (m : ℕ). slice_range xs 0 m) is ∙ take_rest xs 0

pub reads_all : {T : Type 0} (bytes_of : T → List ℕ) (a b c d : Seen) (count n : ℕ) (value : T) (bytes : List ℕ) → n ≡ count → (length bytes ≡ count → bytes_of value ≡ bytes)
    → SyncsDisk a (Ok tt) b → GivesLength b (Ok count) c → ReadsDisk c 0 n (Ok tt) bytes d → ReadsAll bytes_of a (Ok value) d
reads_all bytes_of a b c d count n value bytes same is syncs gives reads = record {
  syncs = record {
    runs = runs_weaker (Leaves a.state) (Leaves a.state) a (1 + 1 + 1) 3 (Ok tt) d (omega arith) (λ pair leaves. leaves)
        (quiet_then {A = ℕ} {B = Unit {0}} a c d (1 + 1) count (Ok tt) (length_runs a b c count syncs gives) (reading_runs c d (Ok tt) reads.reads reads.not_lost));
    no_exchange = bare_read a b c d count n (Ok tt) bytes syncs gives reads;
    first = reads.reads.same (λ e. absurd cc) ∙ is_synced a b c count syncs gives;
  };
  gives =
      let bytes_are : c.state.disk.bytes ≡ a.state.disk.bytes = ap (λ (s : State). s.disk.bytes) (is_synced a b c count syncs gives) in
      let before : b.state.disk.bytes ≡ a.state.disk.bytes = ap (λ (s : State). s.disk.bytes) syncs.ok in
      let long : count ≡ length b.state.disk.bytes = gives.length in
      let entire : 0 + n ≡ length c.state.disk.bytes = omega (arith, same, long, ap (λ (l : List ℕ). length l) before, ap (λ (l : List ℕ). length l) bytes_are) in
      let read_is : bytes ≡ c.state.disk.bytes = reads.bytes_read ∙ all_of c.state.disk.bytes (0 + n) entire in
      let full : length bytes ≡ count = omega (arith, same, entire, ap (λ (l : List ℕ). length l) read_is) in
      is full ∙ read_is ∙ bytes_are;
}
