-- The datagrams of each word access (ETG.1000.4, slave information interface): which, in what order, and when it ends.
use Rattle.std.specs.Prelude.{ℕ, ◌+◌, ◌*◌, ◌==◌, nat_le, if◌then◌else◌, Bool, true, false, is_some, Option, Some, None, slice_index}
use Rattle.ecat_frame.specs.Frame.{Pdu}
use Rattle.esc_model.specs.Orders.{access_order, poll_order, clear_order, read_order, fetch_order, write_order}
use Rattle.site_core.specs.declared.answers.Issued.{Issued}
use Rattle.site_core.specs.declared.answers.Issued.TheVariants as issued
use Rattle.site_core.specs.declared.answers.Settled.{Settled}
use Rattle.site_core.specs.declared.answers.Settled.TheVariants as settled
use Rattle.rom_steps.specs.declared.back.Rested.{Rested}
use Rattle.rom_steps.specs.declared.back.Rested.TheVariants.{Well, Failed}
use Rattle.rom_steps.specs.declared.back.WordPair.{WordPair}
use Rattle.rom_steps.specs.Courses.{Course, Asks, Ends, Then, OnlyIf, UpTo}

-- WHAT AN ANSWER SAYS

abbrev pub is_counted : Pdu → Bool
is_counted reply = reply.counter == 1

-- With bit 15 of control and status set the slave is busy; otherwise it is idle, with an error if bit 14 or 13 is set.
abbrev pub rest_shown : ℕ → Option Rested
rest_shown status = if nat_le 0x80 status then None else if nat_le 0x20 status then Some Failed else Some Well

-- If the working counter isn't 1, the answer to a poll says nothing.
abbrev pub found_in : Pdu → Option Rested
found_in answer = if answer.counter == 1 then rest_shown (slice_index answer.content 1) else None

-- the two words in an answer, each with its low byte first, if the working counter is 1
abbrev pub pair_of : Pdu → Option WordPair
pair_of answer =
    if answer.counter == 1
    then Some (record {
      first = slice_index answer.content 0 + 256 * slice_index answer.content 1;
      second = slice_index answer.content 2 + 256 * slice_index answer.content 3;
    })
    else None

abbrev pub issued_by : Pdu → Issued
issued_by reply = if reply.counter == 1 then issued.Taken else issued.NotTaken

-- ONE DATAGRAM

-- A register is written once.
abbrev pub WritesBy : (slave : ℕ) → Pdu → Course Bool
WritesBy slave order = Asks slave order is_counted false

-- Control and status are read once.
abbrev pub PollsBy : (slave : ℕ) → Course (Option Rested)
PollsBy slave = Asks slave (poll_order slave) found_in None

-- The words that were read are fetched once.
abbrev pub FetchesBy : (slave : ℕ) → Course (Option WordPair)
FetchesBy slave = Asks slave (fetch_order slave) pair_of None

-- IN A ROW

-- polls up to the first that sees the slave idle, at most 10,000
abbrev pub WaitsBy : (slave : ℕ) → Course (Option Rested)
WaitsBy slave = UpTo 10000 (PollsBy slave) None

-- the same datagram up to the first time that it is counted, at most three times
abbrev pub InsistsBy : (slave : ℕ) → Pdu → Course Bool
InsistsBy slave order = UpTo 3 (WritesBy slave order) false

-- ISSUE

-- the command that writes the word, once
abbrev pub IssuesBy : (slave word value : ℕ) → Course Issued
IssuesBy slave word value = Asks slave (write_order slave word value) issued_by issued.Lost

-- SETTLE

-- The waiting ended so. Unless the word was taken and the slave is idle without an error, its errors are cleared once.
abbrev pub SettlesAfter : (slave : ℕ) → (taken : Bool) → Option Rested → Course Settled
SettlesAfter slave taken None = Ends settled.Dead
SettlesAfter slave true (Some Well) = Ends settled.Written
SettlesAfter slave false (Some Well) = Then (WritesBy slave (clear_order slave)) (λ counted. Ends settled.Again)
SettlesAfter slave taken (Some Failed) = Then (WritesBy slave (clear_order slave)) (λ counted. Ends settled.Again)

abbrev pub SettlesBy : (slave : ℕ) → (taken : Bool) → Course Settled
SettlesBy slave taken = Then (WaitsBy slave) (SettlesAfter slave taken)

-- OPEN

-- Access is freed, the slave is waited for, and its errors are cleared, up to the first of these that fails.
abbrev pub ClearsBy : (slave : ℕ) → Course Bool
ClearsBy slave = Then (WaitsBy slave) (λ found. OnlyIf (is_some found) (InsistsBy slave (clear_order slave)))

abbrev pub FreesBy : (slave : ℕ) → Course Bool
FreesBy slave = Then (InsistsBy slave (access_order slave 0)) (λ freed. OnlyIf freed (ClearsBy slave))

-- the same after the datagram that forces ECAT access
abbrev pub OpensBy : (slave : ℕ) → Course Bool
OpensBy slave = Then (InsistsBy slave (access_order slave 2)) (λ forced. OnlyIf forced (FreesBy slave))

-- READ

-- How a try to read two words ended: with the words, or it failed, or the slave wasn't seen idle in 10,000 polls.
pub data Tried : Type 0 where
  words_read : WordPair → Tried
  try_failed : Tried
  never_idle : Tried

abbrev pub tried_of : Option WordPair → Tried
tried_of None = try_failed
tried_of (Some pair) = words_read pair

-- The slave took the command to read, and the waiting ended so. The words are fetched if it is idle without an error.
abbrev pub FetchesAfter : (slave : ℕ) → Option Rested → Course Tried
FetchesAfter slave None = Ends never_idle
FetchesAfter slave (Some Failed) = Ends try_failed
FetchesAfter slave (Some Well) = Then (FetchesBy slave) (λ pair. Ends (tried_of pair))

abbrev pub WaitsAfter : (slave : ℕ) → (counted : Bool) → Course Tried
WaitsAfter slave false = Ends try_failed
WaitsAfter slave true = Then (WaitsBy slave) (FetchesAfter slave)

-- One try to read a word and the next one: the command to read, and if it is counted the polls and the fetch.
abbrev pub TriesBy : (slave word : ℕ) → Course Tried
TriesBy slave word = Then (WritesBy slave (read_order slave word)) (WaitsAfter slave)

-- a try that gave the two words
abbrev pub pair_tried : Tried → Option WordPair
pair_tried (words_read pair) = Some pair
pair_tried try_failed = None
pair_tried never_idle = None

-- up to three tries, each of which sends its command
abbrev pub ReadsPairBy : (slave word : ℕ) → Course (Option WordPair)
ReadsPairBy slave word = Then (UpTo 3 (TriesBy slave word) try_failed) (λ last. Ends (pair_tried last))
