-- What becomes of the half of a slave while a course is taken.
use Rattle.std.proofs.Common.{◌≡◌, ◌≢◌, ℕ, ◌*◌, ◌^◌, ◌<◌, ◌==◌, Bool, true, false, List, [], ◌∷◌, ◌++◌, Option, Some, None, Result, Ok, Err, IsTrue, is_some, refl, sym, ap, subst, inl, inr, arith}
use Rattle.std.specs.Int.{w16, w32, to_le_bytes}
use Rattle.std.proofs.lemmas.Bool.{false≢true}
use Rattle.ecat_frame.specs.Frame.{Pdu, sent}
use Rattle.ecat_frame.specs.declared.command.Command.TheVariants.{Fpwr}
use Rattle.esc_model.specs.Orders.{address_of, access_order, poll_order, clear_order, read_order, fetch_order, write_order}
use Rattle.esc_model.specs.SlaveHalf.{SlaveHalf}
use Rattle.esc_model.specs.WordAccess.{IsGentle}
use Rattle.esc_model.proofs.Writing.{access_gentle, clear_gentle}
use Rattle.esc_model.proofs.WordReading.{read_gentle}
use Rattle.site_core.specs.declared.fault.DeviceFault.{DeviceFault}
use Rattle.site_core.specs.declared.fault.DeviceFault.TheVariants as device
use Rattle.site_core.specs.declared.answers.Issued.{Issued}
use Rattle.site_core.specs.declared.answers.Issued.TheVariants as issued
use Rattle.site_core.specs.declared.answers.Settled.{Settled}
use Rattle.site_core.specs.declared.answers.Settled.TheVariants as settled
use Rattle.site_core.specs.State.{Seen}
use Rattle.site_core.specs.Calls.{ExchangesFrame}
use Rattle.rom_steps.specs.declared.step.Stop.{Stop}
use Rattle.rom_steps.specs.declared.back.Rested.{Rested}
use Rattle.rom_steps.specs.declared.back.Rested.TheVariants.{Well, Failed}
use Rattle.rom_steps.specs.declared.back.WordPair.{WordPair}
use Rattle.rom_steps.specs.Accesses.Tried.{words_read, try_failed, never_idle}
use Rattle.rom_steps.specs.Accesses.{Tried, pair_of, found_in, is_counted, issued_by, WritesBy, PollsBy, FetchesBy, WaitsBy, InsistsBy, IssuesBy, SettlesAfter, SettlesBy, ClearsBy, FreesBy, OpensBy, tried_of, FetchesAfter, WaitsAfter, TriesBy, pair_tried, ReadsPairBy}
use Rattle.rom_steps.specs.Courses.{Asked, IsHeard, Asks, Ends, Then, OnlyIf, Rounds, no_round, one_more, UpTo}
use Rattle.esc_rom.specs.WordPairs.{Fetched, TriesRead, ReadsPair}
use Rattle.esc_rom.specs.Runs.{Ran, StopsQuietly, Performs, Polled, Waited, WasLost, Wrote, Insists}
use Rattle.esc_rom.specs.Access.{IssuesWord, BecomesSettled, BecomesOpen}
use Rattle.esc_rom.specs.Courses.{AskedInTurn, Takes, outcome_of, frame_after}
use Rattle.esc_rom.proofs.Runs.{SoFar, none, some, so_then, so_cut, cut_as, Ran-weaker, Ran-cut, IsCut-more}
use Rattle.esc_rom.proofs.Exchanges.{Answers, back, lost, cut}
use Rattle.esc_rom.proofs.Polls.{poll_gentle, poll_back, poll_lost, InVain, vain_none, vain_more, vain_seen, vain_all}
use Rattle.esc_rom.proofs.Writes.{write_back, uncounted, TriedSo, tried_none, tried_more, insist_took, insist_failed}
use Rattle.esc_rom.proofs.IssuedWords.{issue_cut, issue_lost, issue_taken, issue_not_taken}
use Rattle.esc_rom.proofs.OpenSlaves.{HasAccess, first_fails, forced, second_fails, freed, wait_fails, vacant, opens}
use Rattle.esc_rom.proofs.ReadPairs.{fetch_gentle, fetch_back, fetch_lost, HasAsked, HasFetched, command_fails, asked, try_dead, error_fails, fetched, words_fail, pair_read, FailedSo, failed_none, failed_more, pair_after, dead_after, all_failed}
use Rattle.esc_rom.proofs.SettledWords.{settled_well, settled_dead, settled_again}

-- datagrams in two parts
pub record Parted (front after : List Asked) (a c : Seen) : Type 0 where
  pub mid : Seen
  pub first : AskedInTurn front a mid
  pub second : AskedInTurn after mid c

pub part : (front after : List Asked) (a c : Seen) → AskedInTurn (front ++ after) a c → Parted front after a c
part [] after a c asked = record { mid = a; first = refl; second = asked }
part (one ∷ rest) after a c asked =
    let then = part rest after asked.0 c asked.2 in
    record { mid = then.mid; first = (asked.0, asked.1, then.first); second = then.second }

pub parted : (log front after : List Asked) (a c : Seen) → log ≡ front ++ after → AskedInTurn log a c → Parted front after a c
parted log front after a c is asked = part front after a c (subst (λ (l : List Asked). AskedInTurn l a c) is asked)

-- none
pub nothing : (log : List Asked) (a b : Seen) → log ≡ [] → AskedInTurn log a b → b ≡ a
nothing log a b is asked = subst (λ (l : List Asked). AskedInTurn l a b) is asked

-- ONE DATAGRAM

-- that one
sent_one : (slave : ℕ) (order : Pdu) (came : Result Pdu DeviceFault) (log : List Asked) (a b : Seen)
    → log ≡ record { slave = slave; order = order; back = came } ∷ [] → AskedInTurn log a b
    → ExchangesFrame a slave (order ∷ []) (outcome_of came) (frame_after order came) b
sent_one slave order came log a b is asked =
    let one = subst (λ (l : List Asked). AskedInTurn l a b) is asked in
    subst (λ (s : Seen). ExchangesFrame a slave (order ∷ []) (outcome_of came) (frame_after order came) s) (sym one.2) one.1

module _ {T : Type 0} (reported : Pdu → T) (gone : T) (R : Seen → Seen → T → SlaveHalf → SlaveHalf → Type 0) (slave : ℕ) (order : Pdu)
    (gentle : IsGentle order)
    (backs : (a b : Seen) (reply : Pdu) → Ran (Answers order reply) a slave 1 b → Ran (R a b (reported reply)) a slave 1 b)
    (loses : (a b : Seen) → Ran (WasLost order a b) a slave 1 b → Ran (R a b gone) a slave 1 b)
  where
    asked-by : (a b : Seen) (came : Result Pdu DeviceFault) (result : Result T Stop)
        → ExchangesFrame a slave (order ∷ []) (outcome_of came) (frame_after order came) b → IsHeard reported gone came result
        → Performs (R a b) a slave 1 result b
    asked-by a b (Ok reply) result sends is =
        subst (λ (r : Result T Stop). Performs (R a b) a slave 1 r b) (sym is) (backs a b reply (back a slave order b gentle sends))
    asked-by a b (Err device.Lost) result sends is =
        subst (λ (r : Result T Stop). Performs (R a b) a slave 1 r b) (sym is) (loses a b (lost a slave order b gentle sends))
    asked-by a b (Err device.Stopped) (Ok value) sends is = absurd (false≢true is)
    asked-by a b (Err device.Stopped) (Err stop) sends is = cut a slave order b gentle sends
    asked-by a b (Err device.Disk) result sends is = absurd is

    asks-run : (a b : Seen) (log : List Asked) (result : Result T Stop) → AskedInTurn log a b → Asks slave order reported gone log result
        → Performs (R a b) a slave 1 result b
    asks-run a b log result asked asks = asked-by a b asks.0 result (sent_one slave order asks.0 log a b asks.1 asked) asks.2

wrote : (slave address : ℕ) (content : List ℕ) → IsGentle (sent Fpwr 0 address content) → (a b : Seen) (log : List Asked) (result : Result Bool Stop)
    → AskedInTurn log a b → WritesBy slave (sent Fpwr 0 address content) log result
    → Performs (Wrote (sent Fpwr 0 address content) a b) a slave 1 result b
wrote slave address content gentle =
    asks-run is_counted false (Wrote (sent Fpwr 0 address content)) slave (sent Fpwr 0 address content) gentle
    (write_back slave address content)
    (λ a b ran. Ran-weaker (omega arith) (λ half later here there given. inl given) ran)

-- POLLS

module _ (slave : ℕ) (near : slave < 64) where
  polled : (a b : Seen) (log : List Asked) (result : Result (Option Rested) Stop) → AskedInTurn log a b → PollsBy slave log result
      → Performs (Polled a slave b) a slave 1 result b
  polled = asks-run found_in None (λ a b. Polled a slave b) slave (poll_order slave) (poll_gentle slave near)
      (λ a b. poll_back a slave b near) (λ a b. poll_lost a slave b near)

  polls-missed : (times : ℕ) (log : List Asked) (a b : Seen) → AskedInTurn log a b → Rounds (λ (poll : ℕ). PollsBy slave) None times log
      → SoFar (InVain a slave times b) a slave times b
  polls-missed times log a b asked no_round =
      subst (λ (s : Seen). SoFar (InVain a slave 0 s) a slave 0 s) (sym asked)
      (none (record { no_calls = refl; same = refl; stays = vain_none a slave }))
  polls-missed times log a b asked (one_more {times = few} {front = front} {after = after} before last) =
      let parts = part front after a b asked in
      let missed = polled parts.mid b after (Ok None) parts.second last in
      some (so_then (omega arith) (vain_more a parts.mid b slave few missed.quiet.follows)
      (polls-missed few front a parts.mid parts.first before) missed)

  waited-end : (a mid b : Seen) (times : ℕ) → times < 10000 → (result : Result (Option Rested) Stop) → result ≢ Ok None
      → SoFar (InVain a slave times mid) a slave times mid
      → Performs (Polled mid slave b) mid slave 1 result b → Performs (Waited a slave b) a slave 10000 result b
  waited-end a mid b times few (Ok (Some rested)) ends so last = so_then (omega arith) (vain_seen a mid b slave times rested) so last
  waited-end a mid b times few (Ok None) ends so last = absurd (ends refl)
  waited-end a mid b times few (Err stop) ends so last = so_cut (omega arith) so last

  waited : (a b : Seen) (log : List Asked) (result : Result (Option Rested) Stop) → AskedInTurn log a b → WaitsBy slave log result
      → Performs (Waited a slave b) a slave 10000 result b
  waited a b log result asked (inl all) =
      subst (λ (r : Result (Option Rested) Stop). Performs (Waited a slave b) a slave 10000 r b) (sym all.1)
      (vain_all a slave 10000 b refl (polls-missed 10000 log a b asked all.0))
  waited a b log result asked (inr so) =
      let parts = parted log so.front so.after a b so.log_is asked in
      waited-end a parts.mid b so.times so.few result so.ends (polls-missed so.times so.front a parts.mid parts.first so.rounds)
      (polled parts.mid b so.after result parts.second so.last)

  pub waits-runs : {a b : Seen} {result : Result (Option Rested) Stop} → Takes (WaitsBy slave) a result b
      → Performs (Waited a slave b) a slave 10000 result b
  waits-runs {a} {b} {result} takes = waited a b takes.log result takes.asked takes.took

  -- SETTLE

  settled-clearing : (taken : Bool) (rested : Rested) → (IsTrue taken → rested ≡ Failed)
      → (a mid b : Seen) (log : List Asked) (result : Result Settled Stop)
      → Ran (Waited a slave mid (Some rested)) a slave 10000 mid → AskedInTurn log mid b
      → Then (WritesBy slave (clear_order slave)) (λ counted. Ends settled.Again) log result
      → Performs (BecomesSettled a slave taken b) a slave 10001 result b
  settled-clearing taken rested why a mid b log result ran asked (inl so) =
      let parts = parted log so.front so.after mid b so.log_is asked in
      let end : b ≡ parts.mid = nothing so.after parts.mid b so.goes_on.0 parts.second in
      let last = wrote slave (address_of slave 0x0502) (0 ∷ 0 ∷ []) (clear_gentle slave near) mid parts.mid so.front
      (Ok so.value) parts.first so.came_to in
      subst (λ (r : Result Settled Stop). Performs (BecomesSettled a slave taken b) a slave 10001 r b) (sym so.goes_on.1)
      (subst (λ (s : Seen). Ran (BecomesSettled a slave taken s settled.Again) a slave 10001 s) (sym end)
      (settled_again a slave taken mid parts.mid rested so.value near why ran last))
  settled-clearing taken rested why a mid b log result ran asked (inr stops) =
      cut_as (BecomesSettled a slave taken b) slave result stops.2
      (Ran-cut (omega arith) ran (wrote slave (address_of slave 0x0502) (0 ∷ 0 ∷ []) (clear_gentle slave near) mid b log (Err stops.0) asked stops.1))

  settled-ended : (taken : Bool) (end : Settled) (a mid b : Seen) (log : List Asked) (result : Result Settled Stop)
      → Ran (BecomesSettled a slave taken mid end) a slave 10001 mid
      → AskedInTurn log mid b → Ends end log result → Performs (BecomesSettled a slave taken b) a slave 10001 result b
  settled-ended taken end a mid b log result ran asked ends =
      subst (λ (r : Result Settled Stop). Performs (BecomesSettled a slave taken b) a slave 10001 r b) (sym ends.1)
      (subst (λ (s : Seen). Ran (BecomesSettled a slave taken s end) a slave 10001 s) (sym (nothing log mid b ends.0 asked)) ran)

  settled-after : (taken : Bool) (found : Option Rested) (a mid b : Seen) (log : List Asked) (result : Result Settled Stop)
      → Ran (Waited a slave mid found) a slave 10000 mid
      → AskedInTurn log mid b → SettlesAfter slave taken found log result → Performs (BecomesSettled a slave taken b) a slave 10001 result b
  settled-after true None a mid b log result ran asked ends = settled-ended true settled.Dead a mid b log result
      (settled_dead a slave true mid ran) asked ends
  settled-after false None a mid b log result ran asked ends = settled-ended false settled.Dead a mid b log result
      (settled_dead a slave false mid ran) asked ends
  settled-after true (Some Well) a mid b log result ran asked ends = settled-ended true settled.Written a mid b log result
      (settled_well a slave true mid refl ran) asked ends
  settled-after false (Some Well) a mid b log result ran asked so = settled-clearing false Well
      (λ e. absurd (false≢true e)) a mid b log result ran asked so
  settled-after true (Some Failed) a mid b log result ran asked so = settled-clearing true Failed (λ e. refl) a mid b log result ran asked so
  settled-after false (Some Failed) a mid b log result ran asked so = settled-clearing false Failed (λ e. refl) a mid b log result ran asked so

  settles-so : (taken : Bool) (a b : Seen) (log : List Asked) (result : Result Settled Stop) → AskedInTurn log a b → SettlesBy slave taken log result
      → Performs (BecomesSettled a slave taken b) a slave 10001 result b
  settles-so taken a b log result asked (inl so) =
      let parts = parted log so.front so.after a b so.log_is asked in
      settled-after taken so.value a parts.mid b so.after result
      (waited a parts.mid so.front (Ok so.value) parts.first so.came_to) parts.second so.goes_on
  settles-so taken a b log result asked (inr stops) =
      cut_as (BecomesSettled a slave taken b) slave result stops.2 (IsCut-more (omega arith) (waited a b log (Err stops.0) asked stops.1))

  pub settles-runs : (taken : Bool) {a b : Seen} {result : Result Settled Stop} → Takes (SettlesBy slave taken) a result b
      → Performs (BecomesSettled a slave taken b) a slave 10001 result b
  settles-runs taken {a} {b} {result} takes = settles-so taken a b takes.log result takes.asked takes.took

-- ISSUE

module _ (slave word value : ℕ) (near : slave < 64) (word_fits : word < 2 ^ 16) (value_fits : value < 2 ^ 16) (a b : Seen) where
  issued-back : (reply : Pdu) (counted : Bool) → (reply.counter == 1) ≡ counted
      → ExchangesFrame a slave (write_order slave word value ∷ []) (Ok tt) (reply ∷ []) b
      → IssuesWord a slave word value (Ok (issued_by reply)) b
  issued-back reply true is sends = rw is (issue_taken a slave word value b near word_fits value_fits reply is sends)
  issued-back reply false is sends = rw is (issue_not_taken a slave word value b near word_fits value_fits reply is sends)

  issued-so : (came : Result Pdu DeviceFault) (answer : Issued)
      → ExchangesFrame a slave (write_order slave word value ∷ []) (outcome_of came) (frame_after (write_order slave word value) came) b
      → IsHeard issued_by issued.Lost came (Ok answer) → IssuesWord a slave word value (Ok answer) b
  issued-so (Ok reply) answer sends is =
      subst (λ (i : Issued). IssuesWord a slave word value (Ok i) b) (let same : issued_by reply ≡ answer = cc in same)
      (issued-back reply (reply.counter == 1) refl sends)
  issued-so (Err device.Lost) answer sends is =
      subst (λ (i : Issued). IssuesWord a slave word value (Ok i) b) (let same : issued.Lost ≡ answer = cc in same)
      (issue_lost a slave word value b near word_fits value_fits sends)
  issued-so (Err device.Stopped) answer sends is = absurd (false≢true is)
  issued-so (Err device.Disk) answer sends is = absurd is

  issued-cut : (came : Result Pdu DeviceFault) (stop : Stop) (result : Result Issued DeviceFault) → result ≡ Err device.Stopped
      → ExchangesFrame a slave (write_order slave word value ∷ []) (outcome_of came) (frame_after (write_order slave word value) came) b
      → IsHeard issued_by issued.Lost came (Err stop)
      → IssuesWord a slave word value result b
  issued-cut (Ok reply) stop result stops sends is = absurd cc
  issued-cut (Err device.Lost) stop result stops sends is = absurd cc
  issued-cut (Err device.Stopped) stop result stops sends is =
      issue_cut a slave word value b near word_fits value_fits result stops sends
  issued-cut (Err device.Disk) stop result stops sends is = absurd is

  pub issues-ok : {answer : Issued} → Takes (IssuesBy slave word value) a (Ok answer) b → IssuesWord a slave word value (Ok answer) b
  issues-ok {answer} takes =
      issued-so takes.took.0 answer (sent_one slave (write_order slave word value) takes.took.0 takes.log a b takes.took.1 takes.asked) takes.took.2

  pub issues-cut : {stop : Stop} (result : Result Issued DeviceFault) → result ≡ Err device.Stopped → Takes (IssuesBy slave word value) a (Err stop) b
      → IssuesWord a slave word value result b
  issues-cut {stop} result stops takes =
      issued-cut takes.took.0 stop result stops
      (sent_one slave (write_order slave word value) takes.took.0 takes.log a b takes.took.1 takes.asked) takes.took.2

-- INSISTING

module _ (slave address : ℕ) (content : List ℕ) (gentle : IsGentle (sent Fpwr 0 address content)) where
  tried-in-vain : (times : ℕ) (log : List Asked) (a b : Seen) → AskedInTurn log a b
      → Rounds (λ (try : ℕ). WritesBy slave (sent Fpwr 0 address content)) false times log
      → SoFar (TriedSo (sent Fpwr 0 address content) a slave times b) a slave times b
  tried-in-vain times log a b asked no_round =
      subst (λ (s : Seen). SoFar (TriedSo (sent Fpwr 0 address content) a slave 0 s) a slave 0 s) (sym asked)
      (none (record { no_calls = refl; same = refl; stays = tried_none (sent Fpwr 0 address content) a slave }))
  tried-in-vain times log a b asked (one_more {times = few} {front = front} {after = after} before last) =
      let parts = part front after a b asked in
      let missed = wrote slave address content gentle parts.mid b after (Ok false) parts.second last in
      some (so_then (omega arith) (tried_more (sent Fpwr 0 address content) a parts.mid b slave few missed.quiet.follows)
      (tried-in-vain few front a parts.mid parts.first before)
      (uncounted (sent Fpwr 0 address content) missed))

  insisted-end : (a mid b : Seen) (times : ℕ) → times < 3 → (result : Result Bool Stop) → result ≢ Ok false
      → SoFar (TriedSo (sent Fpwr 0 address content) a slave times mid) a slave times mid
      → Performs (Wrote (sent Fpwr 0 address content) mid b) mid slave 1 result b
      → Performs (Insists (sent Fpwr 0 address content) a slave b) a slave 3 result b
  insisted-end a mid b times few (Ok true) ends so last = so_then (omega arith)
      (insist_took (sent Fpwr 0 address content) a mid b slave times) so last
  insisted-end a mid b times few (Ok false) ends so last = absurd (ends refl)
  insisted-end a mid b times few (Err stop) ends so last = so_cut (omega arith) so last

  pub insisted : (a b : Seen) (log : List Asked) (result : Result Bool Stop) → AskedInTurn log a b
      → InsistsBy slave (sent Fpwr 0 address content) log result
      → Performs (Insists (sent Fpwr 0 address content) a slave b) a slave 3 result b
  insisted a b log result asked (inl all) =
      subst (λ (r : Result Bool Stop). Performs (Insists (sent Fpwr 0 address content) a slave b) a slave 3 r b) (sym all.1)
      (insist_failed (sent Fpwr 0 address content) a slave b 3 refl (tried-in-vain 3 log a b asked all.0))
  insisted a b log result asked (inr so) =
      let parts = parted log so.front so.after a b so.log_is asked in
      insisted-end a parts.mid b so.times so.few result so.ends (tried-in-vain so.times so.front a parts.mid parts.first so.rounds)
      (wrote slave address content gentle parts.mid b so.after result parts.second so.last)

-- OPEN

module _ (slave : ℕ) (near : slave < 64) where
  accessed : (value : ℕ) (a b : Seen) (log : List Asked) (result : Result Bool Stop) → AskedInTurn log a b
      → InsistsBy slave (access_order slave value) log result
      → Performs (Insists (access_order slave value) a slave b) a slave 3 result b
  accessed value = insisted slave (address_of slave 0x0500) (value ∷ []) (access_gentle slave value near)

  cleared : (a b : Seen) (log : List Asked) (result : Result Bool Stop) → AskedInTurn log a b → InsistsBy slave (clear_order slave) log result
      → Performs (Insists (clear_order slave) a slave b) a slave 3 result b
  cleared = insisted slave (address_of slave 0x0502) (0 ∷ 0 ∷ []) (clear_gentle slave near)

  open-ended : (a mid b : Seen) (log : List Asked) (result : Result Bool Stop) → Ran (BecomesOpen a slave mid false) a slave 10009 mid
      → AskedInTurn log mid b → Ends false log result
      → Performs (BecomesOpen a slave b) a slave 10009 result b
  open-ended a mid b log result ran asked ends =
      subst (λ (r : Result Bool Stop). Performs (BecomesOpen a slave b) a slave 10009 r b) (sym ends.1)
      (subst (λ (s : Seen). Ran (BecomesOpen a slave s false) a slave 10009 s) (sym (nothing log mid b ends.0 asked)) ran)

  -- after the polls
  clears-found : (found : Option Rested) (a c d b : Seen) (log : List Asked) (result : Result Bool Stop) → Ran (HasAccess 0) a slave 6 c
      → Ran (Waited c slave d found) c slave 10000 d
      → AskedInTurn log d b → OnlyIf (is_some found) (InsistsBy slave (clear_order slave)) log result
      → Performs (BecomesOpen a slave b) a slave 10009 result b
  clears-found None a c d b log result ran waits asked ends = open-ended a d b log result (wait_fails near ran waits) asked ends
  clears-found (Some rested) a c d b log result ran waits asked so = opens near result b (vacant near rested ran waits)
      (cleared d b log result asked so)

  clears-so : (a c b : Seen) (log : List Asked) (result : Result Bool Stop) → Ran (HasAccess 0) a slave 6 c → AskedInTurn log c b
      → ClearsBy slave log result
      → Performs (BecomesOpen a slave b) a slave 10009 result b
  clears-so a c b log result ran asked (inl so) =
      let parts = parted log so.front so.after c b so.log_is asked in
      clears-found so.value a c parts.mid b so.after result ran
      (waited slave near c parts.mid so.front (Ok so.value) parts.first so.came_to) parts.second so.goes_on
  clears-so a c b log result ran asked (inr stops) =
      cut_as (BecomesOpen a slave b) slave result stops.2 (Ran-cut (omega arith) ran (waited slave near c b log (Err stops.0) asked stops.1))

  -- after the datagram that ends forcing
  frees-counted : (value : Bool) (a mid c b : Seen) (log : List Asked) (result : Result Bool Stop) → Ran (HasAccess 2) a slave 3 mid
      → Ran (Insists (access_order slave 0) mid slave c value) mid slave 3 c → AskedInTurn log c b → OnlyIf value (ClearsBy slave) log result
      → Performs (BecomesOpen a slave b) a slave 10009 result b
  frees-counted false a mid c b log result ran last asked ends = open-ended a c b log result (second_fails near ran last) asked ends
  frees-counted true a mid c b log result ran last asked so = clears-so a c b log result (freed near ran last) asked so

  frees-so : (a mid b : Seen) (log : List Asked) (result : Result Bool Stop) → Ran (HasAccess 2) a slave 3 mid → AskedInTurn log mid b
      → FreesBy slave log result
      → Performs (BecomesOpen a slave b) a slave 10009 result b
  frees-so a mid b log result ran asked (inl so) =
      let parts = parted log so.front so.after mid b so.log_is asked in
      frees-counted so.value a mid parts.mid b so.after result ran
      (accessed 0 mid parts.mid so.front (Ok so.value) parts.first so.came_to) parts.second so.goes_on
  frees-so a mid b log result ran asked (inr stops) =
      cut_as (BecomesOpen a slave b) slave result stops.2 (Ran-cut (omega arith) ran (accessed 0 mid b log (Err stops.0) asked stops.1))

  -- after the datagram that forces
  forces-counted : (value : Bool) (a mid b : Seen) (log : List Asked) (result : Result Bool Stop)
      → Ran (Insists (access_order slave 2) a slave mid value) a slave 3 mid
      → AskedInTurn log mid b → OnlyIf value (FreesBy slave) log result → Performs (BecomesOpen a slave b) a slave 10009 result b
  forces-counted false a mid b log result last asked ends = open-ended a mid b log result (first_fails near last) asked ends
  forces-counted true a mid b log result last asked so = frees-so a mid b log result (forced near last) asked so

  opens-so : (a b : Seen) (log : List Asked) (result : Result Bool Stop) → AskedInTurn log a b → OpensBy slave log result
      → Performs (BecomesOpen a slave b) a slave 10009 result b
  opens-so a b log result asked (inl so) =
      let parts = parted log so.front so.after a b so.log_is asked in
      forces-counted so.value a parts.mid b so.after result
      (accessed 2 a parts.mid so.front (Ok so.value) parts.first so.came_to) parts.second so.goes_on
  opens-so a b log result asked (inr stops) =
      cut_as (BecomesOpen a slave b) slave result stops.2 (IsCut-more (omega arith) (accessed 2 a b log (Err stops.0) asked stops.1))

  pub opens-runs : {a b : Seen} {result : Result Bool Stop} → Takes (OpensBy slave) a result b
      → Performs (BecomesOpen a slave b) a slave 10009 result b
  opens-runs {a} {b} {result} takes = opens-so a b takes.log result takes.asked takes.took

-- READ

module _ (slave : ℕ) (near : slave < 64) where
  fetched-one : (a b : Seen) (log : List Asked) (result : Result (Option WordPair) Stop) → AskedInTurn log a b → FetchesBy slave log result
      → Performs (Fetched a slave b) a slave 1 result b
  fetched-one = asks-run pair_of None (λ a b. Fetched a slave b) slave (fetch_order slave) (fetch_gentle slave near)
      (λ a b. fetch_back a slave b near) (λ a b. fetch_lost a slave b near)

module _ (slave word : ℕ) (near : slave < 64) (fits : word < 2 ^ 16) where
  try-ended : (end : Tried) (a mid b : Seen) (log : List Asked) (result : Result Tried Stop) → Ran (TriesRead a slave word mid end) a slave 10002 mid
      → AskedInTurn log mid b → Ends end log result
      → Performs (TriesRead a slave word b) a slave 10002 result b
  try-ended end a mid b log result ran asked ends =
      subst (λ (r : Result Tried Stop). Performs (TriesRead a slave word b) a slave 10002 r b) (sym ends.1)
      (subst (λ (s : Seen). Ran (TriesRead a slave word s end) a slave 10002 s) (sym (nothing log mid b ends.0 asked)) ran)

  fetch-found : (pair : Option WordPair) (a d e b : Seen) (log : List Asked) (result : Result Tried Stop)
      → Ran (HasFetched slave word) a slave 10001 d → Ran (Fetched d slave e pair) d slave 1 e
      → AskedInTurn log e b → Ends (tried_of pair) log result → Performs (TriesRead a slave word b) a slave 10002 result b
  fetch-found None a d e b log result ran last asked ends = try-ended try_failed a e b log result (words_fail near fits ran last) asked ends
  fetch-found (Some pair) a d e b log result ran last asked ends = try-ended (words_read pair) a e b log result
      (pair_read near fits ran last) asked ends

  fetch-so : (a d b : Seen) (log : List Asked) (result : Result Tried Stop) → Ran (HasFetched slave word) a slave 10001 d → AskedInTurn log d b
      → Then (FetchesBy slave) (λ pair. Ends (tried_of pair)) log result → Performs (TriesRead a slave word b) a slave 10002 result b
  fetch-so a d b log result ran asked (inl so) =
      let parts = parted log so.front so.after d b so.log_is asked in
      fetch-found so.value a d parts.mid b so.after result ran
      (fetched-one slave near d parts.mid so.front (Ok so.value) parts.first so.came_to) parts.second so.goes_on
  fetch-so a d b log result ran asked (inr stops) =
      cut_as (TriesRead a slave word b) slave result stops.2 (Ran-cut (omega arith) ran (fetched-one slave near d b log (Err stops.0) asked stops.1))

  wait-found : (found : Option Rested) (a c d b : Seen) (log : List Asked) (result : Result Tried Stop) → Ran (HasAsked slave word) a slave 1 c
      → Ran (Waited c slave d found) c slave 10000 d
      → AskedInTurn log d b → FetchesAfter slave found log result → Performs (TriesRead a slave word b) a slave 10002 result b
  wait-found None a c d b log result ran waits asked ends = try-ended never_idle a d b log result (try_dead near fits ran waits) asked ends
  wait-found (Some Failed) a c d b log result ran waits asked ends = try-ended try_failed a d b log result
      (error_fails near fits ran waits) asked ends
  wait-found (Some Well) a c d b log result ran waits asked so = fetch-so a d b log result (fetched near fits ran waits) asked so

  wait-so : (a c b : Seen) (log : List Asked) (result : Result Tried Stop) → Ran (HasAsked slave word) a slave 1 c → AskedInTurn log c b
      → Then (WaitsBy slave) (FetchesAfter slave) log result
      → Performs (TriesRead a slave word b) a slave 10002 result b
  wait-so a c b log result ran asked (inl so) =
      let parts = parted log so.front so.after c b so.log_is asked in
      wait-found so.value a c parts.mid b so.after result ran
      (waited slave near c parts.mid so.front (Ok so.value) parts.first so.came_to) parts.second so.goes_on
  wait-so a c b log result ran asked (inr stops) =
      cut_as (TriesRead a slave word b) slave result stops.2 (Ran-cut (omega arith) ran (waited slave near c b log (Err stops.0) asked stops.1))

  commanded : (a b : Seen) (log : List Asked) (result : Result Bool Stop) → AskedInTurn log a b → WritesBy slave (read_order slave word) log result
      → Performs (Wrote (read_order slave word) a b) a slave 1 result b
  commanded a b = wrote slave (address_of slave 0x0502) (to_le_bytes w16 0x0100 ++ to_le_bytes w32 word) (read_gentle slave word near fits) a b

  command-counted : (value : Bool) (a mid b : Seen) (log : List Asked) (result : Result Tried Stop)
      → Ran (Wrote (read_order slave word) a mid value) a slave 1 mid → AskedInTurn log mid b
      → WaitsAfter slave value log result → Performs (TriesRead a slave word b) a slave 10002 result b
  command-counted false a mid b log result ran asked ends = try-ended try_failed a mid b log result (command_fails near fits ran) asked ends
  command-counted true a mid b log result ran asks so = wait-so a mid b log result (asked near fits ran) asks so

  tried-so : (a b : Seen) (log : List Asked) (result : Result Tried Stop) → AskedInTurn log a b → TriesBy slave word log result
      → Performs (TriesRead a slave word b) a slave 10002 result b
  tried-so a b log result asks (inl so) =
      let parts = parted log so.front so.after a b so.log_is asks in
      command-counted so.value a parts.mid b so.after result
      (commanded a parts.mid so.front (Ok so.value) parts.first so.came_to) parts.second so.goes_on
  tried-so a b log result asks (inr stops) =
      cut_as (TriesRead a slave word b) slave result stops.2 (IsCut-more (omega arith) (commanded a b log (Err stops.0) asks stops.1))

  tries-failed : (times : ℕ) (log : List Asked) (a b : Seen) → AskedInTurn log a b → Rounds (λ (try : ℕ). TriesBy slave word) try_failed times log
      → SoFar (FailedSo a slave word times b) a slave (10002 * times) b
  tries-failed times log a b asks no_round =
      subst (λ (s : Seen). SoFar (FailedSo a slave word 0 s) a slave (10002 * 0) s) (sym asks)
      (none (record { no_calls = refl; same = refl; stays = failed_none a slave word }))
  tries-failed times log a b asks (one_more {times = few} {front = front} {after = after} before last) =
      let parts = part front after a b asks in
      some (failed_more (tried-so parts.mid b after (Ok try_failed) parts.second last) (tries-failed few front a parts.mid parts.first before))

  read-ended : (end : Option WordPair) (a mid b : Seen) (log : List Asked) (result : Result (Option WordPair) Stop)
      → Ran (ReadsPair a slave word mid end) a slave 30006 mid → AskedInTurn log mid b
      → Ends end log result → Performs (ReadsPair a slave word b) a slave 30006 result b
  read-ended end a mid b log result ran asks ends =
      subst (λ (r : Result (Option WordPair) Stop). Performs (ReadsPair a slave word b) a slave 30006 r b) (sym ends.1)
      (subst (λ (s : Seen). Ran (ReadsPair a slave word s end) a slave 30006 s) (sym (nothing log mid b ends.0 asks)) ran)

  last-try : (a mid b : Seen) (times : ℕ) → times < 3 → (last : Tried) → last ≢ try_failed
      → SoFar (FailedSo a slave word times mid) a slave (10002 * times) mid
      → Ran (TriesRead mid slave word b last) mid slave 10002 b → Ran (ReadsPair a slave word b (pair_tried last)) a slave 30006 b
  last-try a mid b times few (words_read pair) ends so ran = pair_after few so ran
  last-try a mid b times few try_failed ends so ran = absurd (ends refl)
  last-try a mid b times few never_idle ends so ran = dead_after few so ran

  tries-ended : (a b : Seen) (log : List Asked) (last : Tried) → AskedInTurn log a b
      → UpTo 3 (TriesBy slave word) try_failed log (Ok last)
      → Ran (ReadsPair a slave word b (pair_tried last)) a slave 30006 b
  tries-ended a b log last asks (inl all) =
      subst (λ (t : Tried). Ran (ReadsPair a slave word b (pair_tried t)) a slave 30006 b) (let same : try_failed ≡ last = cc in same)
      (all_failed refl (tries-failed 3 log a b asks all.0))
  tries-ended a b log last asks (inr so) =
      let parts = parted log so.front so.after a b so.log_is asks in
      last-try a parts.mid b so.times so.few last (λ e. so.ends (ap Ok e)) (tries-failed so.times so.front a parts.mid parts.first so.rounds)
      (tried-so parts.mid b so.after (Ok last) parts.second so.last)

  tries-cut : (a b : Seen) (log : List Asked) (stop : Stop) → AskedInTurn log a b → UpTo 3 (TriesBy slave word) try_failed log (Err stop)
      → StopsQuietly a 30006 b
  tries-cut a b log stop asks (inl all) = absurd (let not = all.1 in cc)
  tries-cut a b log stop asks (inr so) =
      let parts = parted log so.front so.after a b so.log_is asks in
      let few = so.few in
      so_cut (omega arith) (tries-failed so.times so.front a parts.mid parts.first so.rounds)
      (tried-so parts.mid b so.after (Err stop) parts.second so.last)

  reads-so : (a b : Seen) (log : List Asked) (result : Result (Option WordPair) Stop) → AskedInTurn log a b → ReadsPairBy slave word log result
      → Performs (ReadsPair a slave word b) a slave 30006 result b
  reads-so a b log result asks (inl so) =
      let parts = parted log so.front so.after a b so.log_is asks in
      read-ended (pair_tried so.value) a parts.mid b so.after result
      (tries-ended a parts.mid so.front so.value parts.first so.came_to) parts.second so.goes_on
  reads-so a b log result asks (inr stops) = cut_as (ReadsPair a slave word b) slave result stops.2 (tries-cut a b log stops.0 asks stops.1)

  pub reads-runs : {a b : Seen} {result : Result (Option WordPair) Stop} → Takes (ReadsPairBy slave word) a result b
      → Performs (ReadsPair a slave word b) a slave 30006 result b
  reads-runs {a} {b} {result} takes = reads-so a b takes.log result takes.asked takes.took
