-- Laws that hold for every site: what device calls add to what a power cut may leave, and what calls and a power cut keep.
use Rattle.std.specs.Prelude.{◌≡◌, ◌⊎◌, ◌↔◌, ℕ, ◌≤◌, List, length, map, Result, Ok}
use Rattle.std.specs.List.{AllByRecursion}
use Rattle.ecat_frame.specs.Frame.{Pdu}
use Rattle.esc_model.specs.WordAccess.{IsIdle}
use Rattle.site_core.specs.declared.fault.DeviceFault.{DeviceFault}
use Rattle.site_core.specs.Disk.{StopImage}
use Rattle.site_core.specs.State.{State, Pair, Leaves, Stopped, Seen, clock, LeftSince, word_counts}
use Rattle.site_core.specs.Times.{Follows}
use Rattle.site_core.specs.Calls.{GivesLength, ReadsDisk, WritesDisk, SyncsDisk, ExchangesFrame, CyclesFrame, begin_write}
use Rattle.site_core.specs.Passes.{StaysWithin, AddsNothing}

-- WHAT IS ADDED

-- A call for the length, a read, a sync and a cycle add nothing to what a power cut may leave.
abbrev pub LengthAddsNothing : Type 0
LengthAddsNothing = (old : Seen) (result : Result ℕ DeviceFault) (new : Seen) → GivesLength old result new → AddsNothing old new

abbrev pub ReadAddsNothing : Type 0
ReadAddsNothing = (old : Seen) (at count : ℕ) (result : Result (Unit {0}) DeviceFault) (bytes : List ℕ) (new : Seen)
    → ReadsDisk old at count result bytes new → AddsNothing old new

abbrev pub SyncAddsNothing : Type 0
SyncAddsNothing = (old : Seen) (result : Result (Unit {0}) DeviceFault) (new : Seen) → SyncsDisk old result new → AddsNothing old new

abbrev pub CycleAddsNothing : Type 0
CycleAddsNothing = (old : Seen) (sent : List Pdu) (result : Result (Unit {0}) DeviceFault) (answer : List Pdu) (new : Seen)
    → CyclesFrame old sent result answer new → AddsNothing old new

-- Before, in and after a write, a power cut leaves only what one in its middle may leave.
abbrev pub WriteLeavesBegun : Type 0
WriteLeavesBegun = (old : Seen) (at : ℕ) (bytes : List ℕ) (result : Result (Unit {0}) DeviceFault) (new : Seen)
    → at ≤ length old.state.disk.bytes → WritesDisk old at bytes result new
    → StaysWithin (Leaves (begin_write old.state at (length bytes))) old new

-- What a power cut may leave before a write, it may also leave once the write has begun.
abbrev pub BegunLeavesMore : Type 0
BegunLeavesMore = (state : State) (at count : ℕ) (pair : Pair) → Leaves state pair → Leaves (begin_write state at count) pair

-- A power cut adds nothing to what a later one may leave.
abbrev pub StopAddsNothing : Type 0
StopAddsNothing = (state later : State) (pair : Pair) → Stopped state later → Leaves later pair → Leaves state pair

-- Over two sequences of calls, one after the other, what could have been left is what could have been left over either of them.
abbrev pub SinceIsUnion : Type 0
SinceIsUnion = (a b c : Seen) (pair : Pair) → Follows a b → Follows b c
    → (LeftSince c (clock a) pair ↔ (LeftSince b (clock a) pair ⊎ LeftSince c (clock b) pair))

-- WHAT IS LEFT

-- After a successful sync a power cut leaves of the disk exactly the bytes that a read gives.
abbrev pub SyncLeavesBytes : Type 0
SyncLeavesBytes = (old new : Seen) (image : List ℕ) → SyncsDisk old (Ok tt) new → StopImage new.state.disk image
    → image ≡ new.state.disk.bytes

-- If all halves are idle, a power cut leaves exactly their words.
abbrev pub IdleLeavesWords : Type 0
IdleLeavesWords = (state : State) (pair : Pair) → AllByRecursion IsIdle state.halves → Leaves state pair
    → pair.words ≡ map (λ half. half.words) state.halves

-- WHAT IS KEPT

-- A power cut leaves as many lists of words as there are halves, each as long as its half has words.
abbrev pub LeavesCounts : Type 0
LeavesCounts = (state : State) (pair : Pair) → Leaves state pair → map length pair.words ≡ word_counts state.halves

-- The state after a power cut has as many halves, each with as many words.
abbrev pub StopKeepsCounts : Type 0
StopKeepsCounts = (old new : State) → Stopped old new → word_counts new.halves ≡ word_counts old.halves

-- The number of halves is kept, and the number of words of each.
abbrev pub KeepsCounts : Seen → Seen → Type 0
KeepsCounts old new = word_counts new.state.halves ≡ word_counts old.state.halves

-- Each device call keeps them.
abbrev pub LengthKeepsCounts : Type 0
LengthKeepsCounts = (old : Seen) (result : Result ℕ DeviceFault) (new : Seen) → GivesLength old result new → KeepsCounts old new

abbrev pub ReadKeepsCounts : Type 0
ReadKeepsCounts = (old : Seen) (at count : ℕ) (result : Result (Unit {0}) DeviceFault) (bytes : List ℕ) (new : Seen)
    → ReadsDisk old at count result bytes new → KeepsCounts old new

abbrev pub WriteKeepsCounts : Type 0
WriteKeepsCounts = (old : Seen) (at : ℕ) (bytes : List ℕ) (result : Result (Unit {0}) DeviceFault) (new : Seen)
    → WritesDisk old at bytes result new → KeepsCounts old new

abbrev pub SyncKeepsCounts : Type 0
SyncKeepsCounts = (old : Seen) (result : Result (Unit {0}) DeviceFault) (new : Seen) → SyncsDisk old result new → KeepsCounts old new

abbrev pub ExchangeKeepsCounts : Type 0
ExchangeKeepsCounts = (old : Seen) (slave : ℕ) (sent : List Pdu) (result : Result (Unit {0}) DeviceFault) (answer : List Pdu) (new : Seen)
    → ExchangesFrame old slave sent result answer new → KeepsCounts old new

abbrev pub CycleKeepsCounts : Type 0
CycleKeepsCounts = (old : Seen) (sent : List Pdu) (result : Result (Unit {0}) DeviceFault) (answer : List Pdu) (new : Seen)
    → CyclesFrame old sent result answer new → KeepsCounts old new
