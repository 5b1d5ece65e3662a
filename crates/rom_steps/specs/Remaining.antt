-- What remains of a word access at each of its steps.
use Rattle.std.specs.Prelude.{◌≡◌, ℕ, ◌+◌, ◌-◌, ◌*◌, ◌<◌, Bool, true, false, List, [], ◌∷◌, length, take, drop, replicate, is_some, Option, Some, None, Result, IsErr}
use Rattle.ecat_frame.specs.Frame.{Pdu}
use Rattle.esc_model.specs.Orders.{address_of, access_order, poll_order, clear_order, read_order, fetch_order, write_order}
use Rattle.site_core.specs.declared.fault.DeviceFault.{DeviceFault}
use Rattle.site_core.specs.declared.answers.Settled.TheVariants as settled
use Rattle.rom_steps.specs.declared.back.Rested.{Rested}
use Rattle.rom_steps.specs.declared.back.WordPair.{WordPair}
use Rattle.rom_steps.specs.Accesses.Tried.{words_read, try_failed, never_idle}
use Rattle.rom_steps.specs.declared.step.Stop.{Stop}
use Rattle.rom_steps.specs.Courses.{Asked, Course, Ends, Then, OnlyIf, UpTo}
use Rattle.rom_steps.specs.Accesses.{WritesBy, PollsBy, FetchesBy, WaitsBy, InsistsBy, IssuesBy, SettlesAfter, SettlesBy, ClearsBy, FreesBy, OpensBy, tried_of, FetchesAfter, TriesBy, pair_tried, ReadsPairBy, Tried}
use Rattle.rom_steps.specs.declared.datagram.ToSend.{ToSend}
use Rattle.rom_steps.specs.declared.step.End.{End}
use Rattle.rom_steps.specs.declared.step.End.TheVariants as ends
use Rattle.rom_steps.specs.declared.step.Step.{Step}
use Rattle.rom_steps.specs.declared.step.Step.TheVariants.{Forces, Frees, WaitsToClear, Clears, Waits, Commands, WaitsToFetch, Fetches, Issues, WaitsToSettle, Tidies, Ended, Stopped}

-- THE ACCESSES

abbrev pub opening_end : Bool → End
opening_end true = ends.Opened
opening_end false = ends.Dead

abbrev pub waiting_end : Option Rested → End
waiting_end None = ends.Dead
waiting_end (Some rested) = ends.Idle rested

abbrev pub reading_end : Option WordPair → End
reading_end None = ends.Dead
reading_end (Some pair) = ends.Read pair.first pair.second

-- the course of each access, and its outcome
abbrev pub OpenCourse : (slave : ℕ) → Course End
OpenCourse slave = Then (OpensBy slave) (λ opened. Ends (opening_end opened))

abbrev pub WaitCourse : (slave : ℕ) → Course End
WaitCourse slave = Then (WaitsBy slave) (λ found. Ends (waiting_end found))

abbrev pub ReadCourse : (slave word : ℕ) → Course End
ReadCourse slave word = Then (ReadsPairBy slave word) (λ pair. Ends (reading_end pair))

abbrev pub IssueCourse : (slave word value : ℕ) → Course End
IssueCourse slave word value = Then (IssuesBy slave word value) (λ issued. Ends (ends.Issued issued))

abbrev pub SettleCourse : (slave : ℕ) → (taken : Bool) → Course End
SettleCourse slave taken = Then (SettlesBy slave taken) (λ settled. Ends (ends.Settled settled))

-- WHAT REMAINS

-- the datagram, and as long as it isn't counted up to `more` times the same again
abbrev pub InsistsOn : (slave : ℕ) → Pdu → (more : ℕ) → Course Bool
InsistsOn slave order more = UpTo (more + 1) (WritesBy slave order) false

-- a poll, and as long as none sees the slave idle up to `more` others
abbrev pub PollsOn : (slave more : ℕ) → Course (Option Rested)
PollsOn slave more = UpTo (more + 1) (PollsBy slave) None

-- A try to read ended so. After one that failed there are up to this number of others.
abbrev pub TriesOn : (slave word tries : ℕ) → Tried → Course Tried
TriesOn slave word tries try_failed = UpTo tries (TriesBy slave word) try_failed
TriesOn slave word tries (words_read pair) = Ends (words_read pair)
TriesOn slave word tries never_idle = Ends never_idle

-- the outcome of the tries, and that of the reading
abbrev pub Concludes : Course Tried → Course End
Concludes course = Then (Then course (λ last. Ends (pair_tried last))) (λ pair. Ends (reading_end pair))

-- The line has stopped.
abbrev pub Stops : Course End
Stops log result = (log ≡ []) × IsErr result

-- what is sent from this step on, and how it ends
abbrev pub Remains : (slave : ℕ) → Step → Course End
Remains slave (Forces more) =
    Then (Then (InsistsOn slave (access_order slave 2) more) (λ forced. OnlyIf forced (FreesBy slave))) (λ opened. Ends (opening_end opened))
Remains slave (Frees more) =
    Then (Then (InsistsOn slave (access_order slave 0) more) (λ freed. OnlyIf freed (ClearsBy slave))) (λ opened. Ends (opening_end opened))
Remains slave (WaitsToClear more) =
    Then (Then (PollsOn slave more) (λ found. OnlyIf (is_some found) (InsistsBy slave (clear_order slave)))) (λ opened. Ends (opening_end opened))
Remains slave (Clears more) = Then (InsistsOn slave (clear_order slave) more) (λ opened. Ends (opening_end opened))
Remains slave (Waits more) = Then (PollsOn slave more) (λ found. Ends (waiting_end found))
Remains slave (Commands word tries) = Concludes (UpTo (tries + 1) (TriesBy slave word) try_failed)
Remains slave (WaitsToFetch word tries more) = Concludes (Then (Then (PollsOn slave more) (FetchesAfter slave)) (TriesOn slave word tries))
Remains slave (Fetches word tries) =
    Concludes (Then (Then (FetchesBy slave) (λ pair. Ends (tried_of pair))) (TriesOn slave word tries))
Remains slave (Issues word value) = IssueCourse slave word value
Remains slave (WaitsToSettle taken more) = Then (Then (PollsOn slave more) (SettlesAfter slave taken)) (λ settled. Ends (ends.Settled settled))
Remains slave Tidies =
    Then (Then (WritesBy slave (clear_order slave)) (λ counted. Ends settled.Again)) (λ settled. Ends (ends.Settled settled))
Remains slave (Ended end) = Ends end
Remains slave Stopped = Stops

-- From this step on the course is taken, whichever slave the datagrams are sent to.
abbrev pub Begins : Step → ((slave : ℕ) → Course End) → Type 0
Begins step course = (slave : ℕ) → (log : List Asked) → (result : Result End Stop) → Remains slave step log result → course slave log result

-- how many datagrams are sent at most from this step on
abbrev pub left : Step → ℕ
left (Forces more) = more + 10007
left (Frees more) = more + 10004
left (WaitsToClear more) = more + 4
left (Clears more) = more + 1
left (Waits more) = more + 1
left (Commands word tries) = 10002 + tries * 10002
left (WaitsToFetch word tries more) = more + 2 + tries * 10002
left (Fetches word tries) = 1 + tries * 10002
left (Issues word value) = 1
left (WaitsToSettle taken more) = more + 2
left Tidies = 1
left (Ended end) = 0
left Stopped = 0

-- ONE DATAGRAM

-- a datagram as it is sent to a slave: with the slave's station address, index 0, and a working counter of 0
abbrev pub pdu_to : (slave : ℕ) → ToSend → Pdu
pdu_to slave datagram = record {
  command = datagram.command;
  index = 0;
  address = address_of slave datagram.register;
  content = take datagram.length datagram.content;
  counter = 0;
}

-- This is the datagram that is sent next.
abbrev pub IsNext : (slave : ℕ) → Step → Pdu → Type 0
IsNext slave (Forces more) order = order ≡ access_order slave 2
IsNext slave (Frees more) order = order ≡ access_order slave 0
IsNext slave (WaitsToClear more) order = order ≡ poll_order slave
IsNext slave (Clears more) order = order ≡ clear_order slave
IsNext slave (Waits more) order = order ≡ poll_order slave
IsNext slave (Commands word tries) order = order ≡ read_order slave word
IsNext slave (WaitsToFetch word tries more) order = order ≡ poll_order slave
IsNext slave (Fetches word tries) order = order ≡ fetch_order slave
IsNext slave (Issues word value) order = order ≡ write_order slave word value
IsNext slave (WaitsToSettle taken more) order = order ≡ poll_order slave
IsNext slave Tidies order = order ≡ clear_order slave
IsNext slave (Ended end) order = ⊥
IsNext slave Stopped order = ⊥

-- The bytes after its content are 0.
abbrev pub IsZeroAfter : ToSend → Type 0
IsZeroAfter datagram = drop datagram.length datagram.content ≡ replicate (8 - datagram.length) 0

-- This is the datagram that is sent next, whichever slave it is sent to. Its length is that of its content, after which its bytes are 0.
pub record IsToSend (step : Step) (datagram : ToSend) : Type 0 where
  pub next : (slave : ℕ) → IsNext slave step (pdu_to slave datagram)
  pub long : length (take datagram.length datagram.content) ≡ datagram.length
  pub after : IsZeroAfter datagram

-- Nothing more is sent.
abbrev pub IsOver : Step → Type 0
IsOver step = left step ≡ 0

-- What is taken from `rest` on makes, after this datagram, what may be taken from `course` on.
abbrev pub Follows : {T : Type 0} → Course T → Asked → Course T → Type 0
Follows {T} course first rest = (log : List Asked) → (result : Result T Stop) → rest log result → course (first ∷ log) result

-- This came back for the datagram of one step, and the other one is after it: what remains there is what remained, without that
-- datagram, and fewer are left. Where none was left, the step stays.
pub record Moves (slave : ℕ) (old : Step) (back : Result Pdu DeviceFault) (new : Step) : Type 0 where
  pub follows : (order : Pdu) → IsNext slave old order
      → Follows (Remains slave old) (record { slave = slave; order = order; back = back }) (Remains slave new)
  pub fewer : 0 < left old → left new < left old
  pub over : IsOver old → new ≡ old
