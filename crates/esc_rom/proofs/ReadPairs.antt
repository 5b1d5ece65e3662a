-- Reading two words: one try, and tries in a row.
use Rattle.std.proofs.Common.{◌≡◌, ◌⊎◌, ℕ, ◌+◌, ◌*◌, ◌/◌, ◌%◌, ◌^◌, ◌<◌, true, false, List, Option, Some, None, slice_index, refl, sym, ap, subst, ◌∙◌, inl, inr, arith}
use Rattle.ecat_frame.specs.Frame.{Pdu}
use Rattle.esc_model.specs.SlaveHalf.{SlaveHalf, Activity, Idle, Reading, Outcome, is_busy, MayEnd, MayRest}
use Rattle.esc_model.specs.Datagrams.{served_datagram, reply_of, CountsDatagram, Receives}
use Rattle.esc_model.specs.Orders.{fetch_order, read_order}
use Rattle.esc_model.specs.WordAccess.{IsAt, IsIdle, HasError, IsWell, OnlyRests, IsGentle}
use Rattle.esc_model.proofs.Resting.{MayRest-idle, MayEnd-is_idle, MayRest-station}
use Rattle.esc_model.proofs.OnlyResting.{OnlyRests-same, OnlyRests-then, MayRest-only, Receives-only}
use Rattle.esc_model.proofs.Status.{no_error}
use Rattle.esc_model.proofs.Addressing.{here_or_elsewhere, fetch_here, fetch_elsewhere, fetch-same}
use Rattle.esc_model.proofs.WordReading.{IsAsked, read_gentle, read_taken, read_refused}
use Rattle.site_core.specs.State.{Seen, clock}
use Rattle.site_core.proofs.Times.{Follows-clock}
use Rattle.rom_steps.specs.declared.back.Rested.TheVariants.{Well, Failed}
use Rattle.rom_steps.specs.declared.back.WordPair.{WordPair}
use Rattle.esc_rom.specs.Past.{Refuses, HalfAt, EndsTry, still_busy, command_lost, in_error, words_lost, FailTries, no_try, one_more_try}
use Rattle.esc_rom.specs.Runs.{Ran, Waited, WasLost, Wrote}
use Rattle.rom_steps.specs.Accesses.Tried.{words_read, try_failed, never_idle}
use Rattle.rom_steps.specs.Accesses.{pair_of}
use Rattle.esc_rom.specs.WordPairs.{Fetched, IsRead, TriesRead, ReadsPair}
use Rattle.esc_rom.proofs.Runs.{Ran-then, Ran-weaker, SoFar, so_then, so_over, so_clock}
use Rattle.esc_rom.proofs.Past.{HalfAt-now, HalfAt-then, NeverIdle-waited, NeverIdle-after, FailTries-stays}
use Rattle.esc_rom.proofs.Exchanges.{Answers}
use Rattle.esc_rom.proofs.Writes.{wrote_receives}

-- FETCHING

pub fetch_gentle : (slave : ℕ) → slave < 64 → IsGentle (fetch_order slave)
fetch_gentle slave near half = subst (λ (h : SlaveHalf). OnlyRests half h) (sym (fetch-same half slave near)) (OnlyRests-same half)

bytes_back : (word : ℕ) → word % 256 + 256 * (word / 256) ≡ word
bytes_back word = omega arith

-- what an answer says of the half
abbrev Says : ℕ → Option WordPair → SlaveHalf → Type 0
Says slave None half = ¬ IsAt slave half
Says slave (Some pair) half = (pair.first ≡ half.registers.first) × (pair.second ≡ half.registers.second)

fetch_says : (slave : ℕ) (half : SlaveHalf) → slave < 64 → Says slave (pair_of (reply_of (fetch_order slave) (served_datagram half (fetch_order slave)))) half
fetch_says slave half near = elim (here_or_elsewhere slave half) [
  | inl here ↦ subst (λ (t : Outcome). Says slave (pair_of (reply_of (fetch_order slave) t)) half) (sym (fetch_here half slave near here)) (bytes_back half.registers.first, bytes_back half.registers.second)
  | inr elsewhere ↦ subst (λ (t : Outcome). Says slave (pair_of (reply_of (fetch_order slave) t)) half) (sym (fetch_elsewhere half slave near elsewhere)) elsewhere
]

module _ (old : Seen) (slave : ℕ) (new : Seen) (near : slave < 64) where
  said : (found : Option WordPair) (half later : SlaveHalf) → MayRest half later → Says slave found later → Fetched old slave new found half later
  said None half later rests elsewhere = (rests, inr (λ at. elsewhere (MayRest-station half later rests ∙ at)))
  said (Some pair) half later rests words = (rests, words.0, words.1)

  pub fetch_back : (reply : Pdu) → Ran (Answers (fetch_order slave) reply) old slave 1 new → Ran (Fetched old slave new (pair_of reply)) old slave 1 new
  fetch_back reply ran = Ran-weaker (omega arith) (λ half later here there answers. goes half later answers) ran
    where
      goes : (half later : SlaveHalf) → Answers (fetch_order slave) reply half later → Fetched old slave new (pair_of reply) half later
      goes half later answers =
          let same : later ≡ answers.rested = answers.is ∙ fetch-same answers.rested slave near in
          let says = subst (λ (f : Option WordPair). Says slave f answers.rested) (ap pair_of answers.reply) (fetch_says slave answers.rested near) in
          said (pair_of reply) half later (subst (λ (h : SlaveHalf). MayRest half h) (sym same) answers.rests)
          (subst (λ (h : SlaveHalf). Says slave (pair_of reply) h) (sym same) says)

  pub fetch_lost : Ran (WasLost (fetch_order slave) old new) old slave 1 new → Ran (Fetched old slave new None) old slave 1 new
  fetch_lost ran = Ran-weaker (omega arith) (λ half later here there lost. (
    elim lost.2 [ inl same ↦ inl same | inr took ↦ subst (λ (h : SlaveHalf). MayRest half h) (sym (took.is ∙ fetch-same took.rested slave near)) took.rests ],
    inl (lost.0, lost.1),
  )) ran

-- ONE TRY

-- the half has taken the command to read, or refused it
pub record HasAsked (slave word : ℕ) (half later : SlaveHalf) : Type 0 where
  pub counts : CountsDatagram (read_order slave word) half later
  pub only : OnlyRests half later
  pub reads : (IsIdle later × HasError later)
      ⊎ ((later.activity ≡ Reading) × (later.registers.first ≡ slice_index later.words word) × (later.registers.second ≡ slice_index later.words (word + 1)))

-- it became idle without an error, with the words in its registers
pub record HasFetched (slave word : ℕ) (half later : SlaveHalf) : Type 0 where
  pub asked : SlaveHalf
  pub counts : CountsDatagram (read_order slave word) half asked
  pub rests : MayRest asked later
  pub well : IsWell later
  pub only : OnlyRests half later
  pub first : later.registers.first ≡ slice_index later.words word
  pub second : later.registers.second ≡ slice_index later.words (word + 1)

shows_none : (half later : SlaveHalf) → IsWell later → later ≡ half → HasError half → ⊥
shows_none half later well same error =
    no_error half.registers.command_error half.registers.enable_error
    (sym (ap (λ (h : SlaveHalf). h.registers.command_error) same) ∙ well.command_error)
    (sym (ap (λ (h : SlaveHalf). h.registers.enable_error) same) ∙ well.enable_error) error

read_ends : (mid later : SlaveHalf) → MayEnd Reading mid later → IsWell later → later ≡ record mid { activity = Idle }
read_ends mid later (inl is) well = is
read_ends mid later (inr fails) well =
    absurd (no_error later.registers.command_error later.registers.enable_error well.command_error well.enable_error fails.error)

read_rests : (mid later : SlaveHalf) → mid.activity ≡ Reading → MayRest mid later → IsWell later → later ≡ record mid { activity = Idle }
read_rests mid later reading (inl same) well =
    let e : Idle ≡ Reading = sym well.idle ∙ ap (λ (h : SlaveHalf). h.activity) same ∙ reading in absurd cc
read_rests mid later reading (inr ends) well = read_ends mid later (subst (λ (a : Activity). MayEnd a mid later) reading ends) well

-- a half that may have become idle, and is busy, is as it was
busy_stays : (half later : SlaveHalf) → MayRest half later → is_busy later.activity ≡ true → later ≡ half
busy_stays half later (inl same) busy = same
busy_stays half later (inr ends) busy = absurd (let e : true ≡ false = sym busy ∙ ap is_busy (MayEnd-is_idle half.activity half later ends) in cc)

module _ (slave word : ℕ) (near : slave < 64) (word_fits : word < 2 ^ 16) where
  receives_only : (half later : SlaveHalf) → Receives (read_order slave word) half later → OnlyRests half later
  receives_only half later = Receives-only (read_order slave word) half later (read_gentle slave word near word_fits)

  -- the command isn't counted
  ends_refused : (a b : Seen) (half later : SlaveHalf) → IsAt slave half → Refuses (read_order slave word) half later → EndsTry b slave word (clock a) (clock b) half later
  ends_refused a b half later at refuses =
      let stays = read_refused refuses.rested slave word near refuses.refused in
      elim stays.1 [
        | inl elsewhere ↦ absurd (elsewhere (MayRest-station half refuses.rested refuses.rests ∙ at))
        | inr busy ↦
            let same : refuses.rested ≡ half = busy_stays half refuses.rested refuses.rests busy in
            still_busy (λ idle. let e : true ≡ false = sym busy ∙ ap (λ (h : SlaveHalf). is_busy h.activity) same ∙ ap is_busy idle in absurd cc) (refuses.is ∙ stays.0 ∙ same)
      ]

module _ {a : Seen} {slave word : ℕ} (near : slave < 64) (word_fits : word < 2 ^ 16) where
  pub command_fails : {b : Seen} → Ran (Wrote (read_order slave word) a b false) a slave 1 b → Ran (TriesRead a slave word b try_failed) a slave 10002 b
  command_fails {b} ran = Ran-weaker (omega arith) (λ half later here there wrote. (
    elim (wrote_receives (read_order slave word) a b false half later wrote) [ inl same ↦ subst (λ (h : SlaveHalf). OnlyRests half h) (sym same) (OnlyRests-same half) | inr receives ↦ receives_only slave word near word_fits half later receives ],
    λ at. elim wrote [ inl lost ↦ command_lost lost.1 lost.2 | inr refuses ↦ ends_refused slave word near word_fits a b half later at refuses ],
  )) ran

  pub asked : {b : Seen} → Ran (Wrote (read_order slave word) a b true) a slave 1 b → Ran (HasAsked slave word) a slave 1 b
  asked {b} ran = Ran-weaker (omega arith) (λ half later here there counts. goes half later counts) ran
    where
      goes : (half later : SlaveHalf) → CountsDatagram (read_order slave word) half later → HasAsked slave word half later
      goes half later counts =
          let taken : IsAsked word counts.rested later = subst (λ (h : SlaveHalf). IsAsked word counts.rested h) (sym counts.is) (read_taken counts.rested slave word near word_fits counts.counted).1 in
          record {
            counts = counts;
            only = receives_only slave word near word_fits half later (record { rested = counts.rested; rests = counts.rests; is = counts.is });
            reads = elim taken.reads [
              | inl refused ↦ inl refused
              | inr reads ↦ inr (reads.0, reads.1 ∙ ap (λ (w : List ℕ). slice_index w word) (sym taken.words), reads.2 ∙ ap (λ (w : List ℕ). slice_index w (word + 1)) (sym taken.words))
            ];
          }

  pub try_dead : {b d : Seen} → Ran (HasAsked slave word) a slave 1 b → Ran (Waited b slave d None) b slave 10000 d → Ran (TriesRead a slave word d never_idle) a slave 10002 d
  try_dead {b} {d} ran more =
      Ran-then (omega arith) (λ half mid later has waited. (OnlyRests-then half mid later has.only (MayRest-only mid later waited.0), NeverIdle-waited a b d slave (Follows-clock a b ran.quiet.follows) waited.1)) ran more

  pub error_fails : {b d : Seen} → Ran (HasAsked slave word) a slave 1 b → Ran (Waited b slave d (Some Failed)) b slave 10000 d → Ran (TriesRead a slave word d try_failed) a slave 10002 d
  error_fails {b} {d} ran more =
      Ran-then (omega arith) (λ half mid later has waited. (
        OnlyRests-then half mid later has.only (MayRest-only mid later waited.0),
        λ at. in_error has.counts waited.0 waited.1.1 waited.1.2,
      )) ran more

  pub fetched : {b d : Seen} → Ran (HasAsked slave word) a slave 1 b → Ran (Waited b slave d (Some Well)) b slave 10000 d → Ran (HasFetched slave word) a slave 10001 d
  fetched {b} {d} ran more = Ran-then (omega arith) (λ half mid later has waited. goes half mid later has waited.0 waited.1.1) ran more
    where
      goes : (half mid later : SlaveHalf) → HasAsked slave word half mid → MayRest mid later → IsWell later → HasFetched slave word half later
      goes half mid later has rests well = elim has.reads [
        | inl refused ↦ absurd (shows_none mid later well (MayRest-idle mid later refused.0 rests) refused.1)
        | inr reads ↦
            let is = read_rests mid later reads.0 rests well in
            let words : later.words ≡ mid.words = ap (λ (h : SlaveHalf). h.words) is in
            record {
              asked = mid;
              counts = has.counts;
              rests = rests;
              well = well;
              only = OnlyRests-then half mid later has.only (MayRest-only mid later rests);
              first = ap (λ (h : SlaveHalf). h.registers.first) is ∙ reads.1 ∙ ap (λ (w : List ℕ). slice_index w word) (sym words);
              second = ap (λ (h : SlaveHalf). h.registers.second) is ∙ reads.2 ∙ ap (λ (w : List ℕ). slice_index w (word + 1)) (sym words);
            }
      ]

  pub words_fail : {d e : Seen} → Ran (HasFetched slave word) a slave 10001 d → Ran (Fetched d slave e None) d slave 1 e → Ran (TriesRead a slave word e try_failed) a slave 10002 e
  words_fail {d} {e} ran more = Ran-then (omega arith) (λ half mid later has so. (
    OnlyRests-then half mid later has.only (MayRest-only mid later so.0),
    λ at. elim so.1 [
      | inl lost ↦ subst (λ (h : SlaveHalf). EndsTry e slave word (clock a) (clock e) half h) (sym (MayRest-idle mid later has.well.idle so.0)) (words_lost (clock d) has.counts has.rests has.well ran.some lost.0 lost.1)
      | inr elsewhere ↦ absurd (elsewhere (has.only.station ∙ at))
    ],
  )) ran more

  pub pair_read : {d e : Seen} {pair : WordPair} → Ran (HasFetched slave word) a slave 10001 d → Ran (Fetched d slave e (Some pair)) d slave 1 e → Ran (TriesRead a slave word e (words_read pair)) a slave 10002 e
  pair_read {pair = pair} ran more = Ran-then (omega arith) (λ half mid later has so. subst (λ (h : SlaveHalf). IsRead pair word half h) (sym (MayRest-idle mid later has.well.idle so.0)) (record {
    only = has.only;
    idle = has.well.idle;
    first = so.1 ∙ ap (λ (h : SlaveHalf). h.registers.first) (MayRest-idle mid later has.well.idle so.0) ∙ has.first;
    second = so.2 ∙ ap (λ (h : SlaveHalf). h.registers.second) (MayRest-idle mid later has.well.idle so.0) ∙ has.second;
  })) ran more

-- TRIES IN A ROW

-- this many tries failed
pub record FailedSo (a : Seen) (slave word times : ℕ) (b : Seen) (half later : SlaveHalf) : Type 0 where
  pub only : OnlyRests half later
  pub tries : IsAt slave half → FailTries b slave word (clock a) times (clock b)

pub failed_none : (a : Seen) (slave word : ℕ) (half : SlaveHalf) → FailedSo a slave word 0 a half half
failed_none a slave word half = record { only = OnlyRests-same half; tries = λ at. no_try }

pub failed_more : {a b c : Seen} {slave word times : ℕ} → Ran (TriesRead b slave word c try_failed) b slave 10002 c → SoFar (FailedSo a slave word times b) a slave (10002 * times) b
    → Ran (FailedSo a slave word (times + 1) c) a slave (10002 * (times + 1)) c
failed_more {a} {b} {c} {slave} {word} {times} ran so =
    so_then {n = 10002} (omega arith) both so (Ran-weaker (omega arith) (λ half later here there goes. (HalfAt-then b c slave half ran.quiet.follows here, HalfAt-now c slave (clock c) later refl there, goes)) ran)
  where
    both : (half mid later : SlaveHalf) → FailedSo a slave word times b half mid → HalfAt c slave (clock b) mid × HalfAt c slave (clock c) later × TriesRead b slave word c try_failed mid later
        → FailedSo a slave word (times + 1) c half later
    both half mid later failed one = record {
      only = OnlyRests-then half mid later failed.only one.2.0;
      tries = λ at. one_more_try (FailTries-stays b c slave word (clock a) times (clock b) ran.quiet.follows (omega arith) (failed.tries at)) (record {
        some = ran.some;
        within = ran.quiet.within;
        ends = record { half = mid; later = later; first = one.0; last = one.1; goes = one.2.1 (failed.only.station ∙ at) };
      });
    }

pub pair_after : {a b c : Seen} {slave word times : ℕ} {pair : WordPair} → times < 3 → SoFar (FailedSo a slave word times b) a slave (10002 * times) b → Ran (TriesRead b slave word c (words_read pair)) b slave 10002 c
    → Ran (ReadsPair a slave word c (Some pair)) a slave 30006 c
pair_after few so ran =
    so_then (omega arith) (λ half mid later failed read. record { only = OnlyRests-then half mid later failed.only read.only; idle = read.idle; first = read.first; second = read.second }) so ran

pub dead_after : {a b c : Seen} {slave word times : ℕ} → times < 3 → SoFar (FailedSo a slave word times b) a slave (10002 * times) b → Ran (TriesRead b slave word c never_idle) b slave 10002 c
    → Ran (ReadsPair a slave word c None) a slave 30006 c
dead_after {a} {b} {c} {slave} few so ran =
    so_then (omega arith) (λ half mid later failed dead. (OnlyRests-then half mid later failed.only dead.0, inl (NeverIdle-after a b c slave (so_clock so) dead.1))) so ran

pub all_failed : {a b : Seen} {slave word times : ℕ} → times ≡ 3 → SoFar (FailedSo a slave word times b) a slave (10002 * times) b → Ran (ReadsPair a slave word b None) a slave 30006 b
all_failed {a} {b} {slave} {word} all so =
    Ran-weaker (omega arith) (λ half later here there failed. (failed.only, inr (λ at. subst (λ (n : ℕ). FailTries b slave word (clock a) n (clock b)) all (failed.tries at)))) (so_over (omega arith) so)
