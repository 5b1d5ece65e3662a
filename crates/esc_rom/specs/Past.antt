-- Why a word is issued again, or a slave is given up, in terms of the past: the EEPROM half of the slave at each time of the clock, and
-- which calls lost their frame.
use Rattle.std.specs.Prelude.{◌≡◌, ◌⊎◌, ℕ, ◌+◌, ◌%◌, ◌<◌, ◌≤◌, Some, IsTrue, slice_get}
use Rattle.esc_model.specs.Registers.{access_byte}
use Rattle.esc_model.specs.SlaveHalf.{SlaveHalf, MayRest}
use Rattle.ecat_frame.specs.Frame.{Pdu}
use Rattle.esc_model.specs.Datagrams.{served_datagram, Receives, CountsDatagram}
use Rattle.esc_model.specs.Orders.{access_order, clear_order, read_order}
use Rattle.esc_model.specs.WordAccess.{IsAt, IsIdle, HasError, IsWell}
use Rattle.site_core.specs.State.{Seen, clock}
use Rattle.site_core.specs.Times.{instant_at, FailsAt}

-- The half of this slave at this time.
abbrev pub HalfAt : Seen → (slave time : ℕ) → SlaveHalf → Type 0
HalfAt seen slave time half = slice_get (instant_at seen time).state.halves slave ≡ Some half

-- The half of this slave at time `from` and at time `end` are related by `R`.
pub record HalfWent (R : SlaveHalf → SlaveHalf → Type 0) (seen : Seen) (slave from end : ℕ) : Type 0 where
  pub half : SlaveHalf
  pub later : SlaveHalf
  pub first : HalfAt seen slave from half
  pub last : HalfAt seen slave end later
  pub goes : R half later

-- This number of calls in a row lost their frame.
abbrev pub AreLost : Seen → (from times : ℕ) → Type 0
AreLost seen from times = (k : ℕ) → k < times → FailsAt seen (from + k)

-- The call at this time lost its frame, with this datagram in it, and the half took the datagram or not.
abbrev pub LosesDatagram : Pdu → Seen → (time : ℕ) → SlaveHalf → SlaveHalf → Type 0
LosesDatagram order seen time half later = FailsAt seen time × ((later ≡ half) ⊎ Receives order half later)

-- The half, perhaps after it became idle, adds 0 to the working counter of the datagram.
pub record Refuses (order : Pdu) (half later : SlaveHalf) : Type 0 where
  pub rested : SlaveHalf
  pub rests : MayRest half rested
  pub refused : (served_datagram rested order).added ≡ 0
  pub is : later ≡ (served_datagram rested order).half

-- A WORD THAT ISN'T WRITTEN

-- Before the last call the half had become idle, with bit 13 or 14 set.
pub record RestsInError (old : Seen) (slave : ℕ) (new : Seen) (half : SlaveHalf) : Type 0 where
  pub time : ℕ
  pub after : clock old ≤ time
  pub last : clock new ≡ time + 1
  pub rested : SlaveHalf
  pub here : HalfAt new slave time rested
  pub rests : MayRest half rested
  pub idle : IsIdle rested
  pub error : HasError rested

-- The last call sent an idle half the datagram that clears errors. The half took it, and is without an error unless its EEPROM is
-- offered to the PDI; or the frame was lost.
pub record ClearsErrors (old : Seen) (slave : ℕ) (new : Seen) (later : SlaveHalf) : Type 0 where
  pub time : ℕ
  pub after : clock old ≤ time
  pub last : clock new ≡ time + 1
  pub rested : SlaveHalf
  pub here : HalfAt new slave time rested
  pub idle : IsIdle rested
  pub cleared : LosesDatagram (clear_order slave) new time rested later
      ⊎ (CountsDatagram (clear_order slave) rested later × (IsWell later ⊎ IsTrue later.registers.offered))

-- A SLAVE THAT ISN'T IDLE

-- A poll that didn't see the half idle: its frame was lost, or the half is busy after it, or is at another station address.
abbrev pub MissesIdle : Seen → (slave time : ℕ) → Type 0
MissesIdle seen slave time =
    HalfWent (λ half later. MayRest half later × (FailsAt seen time ⊎ ((¬ IsIdle later) ⊎ (¬ IsAt slave half))))
    seen slave time (time + 1)

-- this number of such polls in a row
abbrev pub PollsInVain : Seen → (slave from times : ℕ) → Type 0
PollsInVain seen slave from times = (k : ℕ) → k < times → MissesIdle seen slave (from + k)

-- The calls were 10,000 such polls.
pub record WaitsInVain (old : Seen) (slave : ℕ) (new : Seen) : Type 0 where
  pub polls : PollsInVain new slave (clock old) 10000
  pub clock : clock new ≡ clock old + 10000

-- The last 10,000 calls were such polls.
pub record NeverIdle (old : Seen) (slave : ℕ) (new : Seen) : Type 0 where
  pub from : ℕ
  pub after : clock old ≤ from
  pub polls : PollsInVain new slave from 10000
  pub clock : clock new ≡ from + 10000

-- A SLAVE THAT DOESN'T TAKE A DATAGRAM

-- The call at this time sent this datagram, and it wasn't counted: its frame was lost, or the half added 0 to its working counter.
abbrev pub IsUncounted : Pdu → Seen → (slave time : ℕ) → Type 0
IsUncounted order seen slave time =
    HalfWent (λ half later. LosesDatagram order seen time half later ⊎ Refuses order half later) seen slave time (time + 1)

-- This number of calls in a row sent this datagram, and it was counted in none of them.
abbrev pub AreUncounted : Pdu → Seen → (slave from times : ℕ) → Type 0
AreUncounted order seen slave from times = (k : ℕ) → k < times → IsUncounted order seen slave (from + k)

-- The datagram is the next one of an opening: first the one that forces ECAT access; once 0x0500 is 2, the one that ends that; and
-- once it is 0 and the half is idle, the one that clears errors.
abbrev pub IsNext : Seen → (slave from : ℕ) → Pdu → SlaveHalf → Type 0
IsNext old slave from order half =
    ((order ≡ access_order slave 2) × (from ≡ clock old))
    ⊎ (((order ≡ access_order slave 0) × (access_byte half.registers ≡ 2))
    ⊎ ((order ≡ clear_order slave) × IsIdle half × (access_byte half.registers ≡ 0)))

-- The last three calls all sent the same datagram of the opening, the next one, and it was never counted. All three frames were lost,
-- or the half, which is `half` when the opening begins, is at another station address.
pub record NeverCounted (old : Seen) (slave : ℕ) (new : Seen) (half : SlaveHalf) : Type 0 where
  pub order : Pdu
  pub from : ℕ
  pub after : clock old ≤ from
  pub next : HalfWent (λ mid later. IsNext old slave from order mid) new slave from from
  pub uncounted : AreUncounted order new slave from 3
  pub why : AreLost new from 3 ⊎ (¬ IsAt slave half)
  pub clock : clock new ≡ from + 3

-- A SLAVE WHOSE WORDS AREN'T READ

-- Why a try to read this word and the next one failed, at a half with the slave's station address, from one time to another. A command
-- whose frame was lost may have been taken, and so the half may be busy at the next try.
pub data EndsTry (seen : Seen) (slave word from end : ℕ) (half later : SlaveHalf) : Type 0 where
  -- it was busy, and still is
  still_busy : (¬ IsIdle half) → later ≡ half → EndsTry seen slave word from end half later
  -- the frame of the command to read was lost, and the half took the command or not
  command_lost : FailsAt seen from → (later ≡ half) ⊎ Receives (read_order slave word) half later
      → EndsTry seen slave word from end half later
  -- the half took the command, and became idle with bit 13 or 14 set
  in_error : {asked : SlaveHalf} → CountsDatagram (read_order slave word) half asked → MayRest asked later → IsIdle later → HasError later
      → EndsTry seen slave word from end half later
  -- it became idle without an error, and the frame that was to fetch the words was lost
  words_lost : {asked : SlaveHalf} → (time : ℕ) → CountsDatagram (read_order slave word) half asked → MayRest asked later → IsWell later
      → from < time → end ≡ time + 1 → FailsAt seen time → EndsTry seen slave word from end half later

-- A try that failed, of at most 10,002 calls: the command to read, 10,000 polls, and the fetch of the words.
pub record FailsTry (seen : Seen) (slave word from end : ℕ) : Type 0 where
  pub some : from < end
  pub within : end ≤ from + 10002
  pub ends : HalfWent (EndsTry seen slave word from end) seen slave from end

-- this number of failed tries in a row
pub data FailTries (seen : Seen) (slave word from : ℕ) : (times end : ℕ) → Type 0 where
  no_try : FailTries seen slave word from 0 from
  one_more_try : {times mid end : ℕ} → FailTries seen slave word from times mid → FailsTry seen slave word mid end
      → FailTries seen slave word from (times + 1) end

-- The half was idle and has the slave's station address, and then three tries in a row to read the same two of the `size` words failed.
-- They were the last calls.
pub record ReadsInVain (old : Seen) (slave size : ℕ) (new : Seen) : Type 0 where
  pub from : ℕ
  pub after : clock old ≤ from
  pub began : HalfWent (λ half later. IsIdle half × IsAt slave half) new slave from from
  pub word : ℕ
  pub even : word % 2 ≡ 0
  pub inside : word + 1 < size
  pub tries : FailTries new slave word from 3 (clock new)

-- `read_all` gives a slave up for one of these two reasons.
abbrev pub GivesUpReading : Seen → (slave size : ℕ) → Seen → Type 0
GivesUpReading old slave size new = NeverIdle old slave new ⊎ ReadsInVain old slave size new
