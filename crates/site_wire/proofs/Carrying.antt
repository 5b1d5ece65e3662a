-- A real slave is behind its shadow once a device has carried a datagram to it.
use Rattle.std.proofs.Common.{◌≡◌, ◌≢◌, ◌⊎◌, ℕ, ◌+◌, ◌%◌, ◌<◌, ◌≤◌, ◌&&◌, Bool, true, false, nat_le, List}
use Rattle.std.proofs.Common.{[], ◌∷◌, length, slice_index, slice_set, Some, None, refl, sym, ap, subst, ◌∙◌, inl, inr, arith}
use Rattle.std.specs.Prelude.{IsTrue, ◌==◌, if◌then◌else◌}
use Rattle.std.specs.List.{All}
use Rattle.std.proofs.lemmas.Bool.{le-leb}
use Rattle.std.proofs.lemmas.Bool.Decides.{eqb_tells}
use Rattle.ecat_frame.specs.Command.{command_of}
use Rattle.ecat_frame.specs.Frame.{Pdu}
use Rattle.esc_model.specs.Bytes.{register_of, station_of}
use Rattle.esc_model.specs.Orders.{station}
use Rattle.esc_model.specs.declared.rest.WordWrite.{WordWrite}
use Rattle.esc_model.specs.declared.rest.Rest.TheVariants as rests
use Rattle.esc_model.specs.SlaveHalf.{SlaveHalf, Activity, Idle, Reading, Writing, is_busy, in_flight, with_stored, with_errors, settled, ended}
use Rattle.esc_model.specs.SlaveHalf.{rested_by, begun, written, MayEnd, MayHold}
use Rattle.esc_model.specs.Datagrams.{served_datagram}
use Rattle.esc_model.proofs.Resting.{MayRest-station}
use Rattle.esc_model.proofs.Serving.{Goes, Goes-served}
use Rattle.esc_model.proofs.Status.{idle_not_busy}
use Rattle.site_shadow.specs.declared.device.Resting.{Resting}
use Rattle.site_shadow.specs.declared.device.Resting.TheVariants as resting
use Rattle.site_shadow.specs.Resting.{RestsAs, Ends}
use Rattle.site_wire.specs.Due.{WritesControl, IsFit, IsOwn, clears, reads, writes}
use Rattle.site_wire.specs.Known.{IsKnown, TellsNothing, begins, fetches, waits as waits_for}
use Rattle.site_wire.specs.After.{IsAmended, IsAfter}
use Rattle.site_wire.specs.Sent.{Exchanged, exchanged}
use Rattle.site_wire.specs.RealSlaves.{Serves, Lives, ends}
use Rattle.site_wire.specs.Following.{IsOwnTo, RestsBy, stays, read_back, rests_with, Carries, waits, known, passes, follows_up}
use Rattle.site_wire.proofs.Stored.{offered_same, forced_same, offered_kept, forced_kept, command_given}
use Rattle.site_wire.proofs.Validated.{validated, Doing, Nothing, Fetches, Writes, doing_of, done, begun_is, writes_command}
use Rattle.site_wire.proofs.Taking.{true_or_false, writes_here, writes_same, writes_code, writes_inside, served_other, served_write, written_quiet}
use Rattle.site_wire.proofs.Taking.{written_idle, written_ignored, validates}
use Rattle.site_wire.proofs.Again.{MaySend, place_of, quiet_or_idle}
use Rattle.site_wire.proofs.AmendedLaws.{ended_idle, amended_rests, amended_like, served_amended, held_is}
use Rattle.site_wire.proofs.Due.{writing_by}
use Rattle.site_wire.proofs.Living.{Between, lives_keep, lives_parts, lives_once, lives_station}
use Rattle.site_wire.proofs.After.{answered_after}

-- NOTHING IS SENT

-- nothing changes a slave to which nothing is sent
pub untouched : (real later : SlaveHalf) → Lives [] real later → later ≡ real
untouched real later (ends _) = refl

-- a busy half takes nothing of a write to control and status
takes_nothing : (half : SlaveHalf) (d : Pdu) → IsTrue (is_busy half.activity) → WritesControl d → (served_datagram half d).half ≡ half
takes_nothing half d busy writes_it = by (true_or_false (writes_here half (command_of d.command) d.address d.content))
  where
    by : (writes_here half (command_of d.command) d.address d.content ≡ true) ⊎ (writes_here half (command_of d.command) d.address d.content ≡ false)
        → (served_datagram half d).half ≡ half
    by (inl here) =
        let inside : 0x0500 ≤ register_of d.address = writes_inside half (command_of d.command) d.address d.content here in
        served_write half (command_of d.command) d.address d.content here
        ∙ written_ignored half (place_of d) d.content busy (let past = writes_it.afterwards in omega arith)
    by (inr other) = served_other half (command_of d.command) d.address d.content other

-- A shadow that ends its read has the slave after it as before.
read_ends : (half rested real : SlaveHalf) → MayEnd Reading half rested → half.activity ≡ Reading → IsAfter half real → IsAfter rested real
read_ends half rested real ended reading afterwards =
    let e = ended_idle Reading half rested ended in
    let quiet : real.activity ≡ Idle = afterwards.idle (ap in_flight reading) in
    let held : real.words ≡ half.words = subst (λ (a : Activity). MayHold a half.words real.words) reading afterwards.amended.words in
    record {
      amended = record {
        station = afterwards.amended.station ∙ sym (MayRest-station half rested (inr (subst (λ (a : Activity). MayEnd a half rested) (sym reading) ended)));
        offered = afterwards.amended.offered ∙ sym e.1;
        forced = afterwards.amended.forced ∙ sym e.2;
        words = subst (λ (a : Activity). MayHold a rested.words real.words) (sym e.0) (held ∙ sym (read_words ended));
        activity = inl quiet;
      };
      idle = λ none. quiet;
    }
  where
    read_words : MayEnd Reading half rested → rested.words ≡ half.words
    read_words (inl well) = ap (λ (h : SlaveHalf). h.words) well
    read_words (inr fails) = ap (λ (h : SlaveHalf). h.words) fails.rested_is

rested_well : (half rested real : SlaveHalf) → in_flight half.activity ≡ None → RestsAs resting.Well half rested → IsAfter half real → IsAfter rested real
rested_well half rested real quiet so afterwards = by half.activity refl quiet so
  where
    by : (a : Activity) → half.activity ≡ a → in_flight a ≡ None → Ends a rests.Well false half rested → IsAfter rested real
    by Idle is none same = subst (λ (h : SlaveHalf). IsAfter h real) (sym same) afterwards
    by Reading is none ended = read_ends half rested real (inl ended) is afterwards
    by (Writing word value) is none same = absurd cc

-- none is in flight after it
still_quiet : (half rested : SlaveHalf) → in_flight half.activity ≡ None → RestsAs resting.Well half rested → in_flight rested.activity ≡ None
still_quiet half rested quiet so = by half.activity refl quiet so
  where
    by : (a : Activity) → half.activity ≡ a → in_flight a ≡ None → Ends a rests.Well false half rested → in_flight rested.activity ≡ None
    by Idle is none same = ap (λ (h : SlaveHalf). in_flight h.activity) same ∙ quiet
    by Reading is none ended = ap (λ (h : SlaveHalf). in_flight h.activity) ended
    by (Writing word value) is none same = absurd cc

-- the command to read words, which an idle shadow takes by itself
reads_by_itself : (half real : SlaveHalf) (over : List ℕ) → in_flight half.activity ≡ None → half.activity ≡ Idle → 2 ≤ length over → slice_index over 1 % 8 ≡ 1
    → IsAfter half real → IsAfter (begun (validated half 2 over)) real
reads_by_itself half real over none idle long one afterwards =
    subst (λ (h : SlaveHalf). IsAfter h real) (sym (begun_is (validated half 2 over))) (by (doing_of (validated half 2 over)) refl)
  where
    words : real.words ≡ half.words
    words = subst (λ (a : Activity). MayHold a half.words real.words) idle afterwards.amended.words

    by : (does : Doing) → doing_of (validated half 2 over) ≡ does → IsAfter (done does (validated half 2 over)) real
    by Nothing is = record {
      amended = record {
        station = afterwards.amended.station;
        offered = afterwards.amended.offered ∙ sym (offered_kept half over);
        forced = afterwards.amended.forced ∙ sym (forced_kept half over);
        words = afterwards.amended.words;
        activity = afterwards.amended.activity;
      };
      idle = afterwards.idle;
    }
    by Fetches is = record {
      amended = record {
        station = afterwards.amended.station;
        offered = afterwards.amended.offered ∙ sym (offered_kept half over);
        forced = afterwards.amended.forced ∙ sym (forced_kept half over);
        words = words;
        activity = inl (afterwards.idle none);
      };
      idle = λ quiet. afterwards.idle none;
    }
    by Writes is =
        absurd (let two : slice_index over 1 % 8 ≡ 2 = sym (command_given half half 2 over refl long) ∙ writes_command (validated half 2 over) is in omega arith)

-- A datagram that the shadow answers by itself.
known_after : (half rested real : SlaveHalf) (d : Pdu) → IsKnown half d → IsFit half d → RestsAs resting.Well half rested → IsAfter half real
    → IsAfter (served_datagram rested d).half real
known_after half rested real d is fits so afterwards =
    by (true_or_false (writes_here rested (command_of d.command) d.address d.content)) is.tells
  where
    was : IsAfter rested real
    was = rested_well half rested real is.quiet so afterwards

    read_only : d.command ≡ 4 → writes_here rested (command_of d.command) d.address d.content ≡ true → ⊥
    read_only four here = let five : d.command ≡ 5 = writes_code rested d here in omega arith

    taken : register_of d.address ≡ 0x0502 → 2 ≤ length d.content → slice_index d.content 1 % 8 ≡ 1
        → writes_here rested (command_of d.command) d.address d.content ≡ true → (is_busy rested.activity ≡ true) ⊎ (is_busy rested.activity ≡ false)
        → IsAfter (served_datagram rested d).half real
    taken at long one here (inl busy) =
        subst (λ (h : SlaveHalf). IsAfter h real)
        (sym (served_write rested (command_of d.command) d.address d.content here ∙ written_ignored rested (place_of d) d.content busy (omega arith))) was
    taken at long one here (inr vacant) =
        let idle : rested.activity ≡ Idle = idle_not_busy rested.activity vacant in
        let place : place_of d ≡ 2 = omega arith in
        let covers : (nat_le 2 2 && nat_le 4 (2 + length d.content)) ≡ true = rw (le-leb 2 2 (omega arith), le-leb 4 (2 + length d.content) (omega arith)) refl in
        subst (λ (h : SlaveHalf). IsAfter h real)
        (sym (served_write rested (command_of d.command) d.address d.content here ∙ ap (λ (n : ℕ). (written rested n d.content).half) place
        ∙ written_idle rested 2 d.content idle ∙ validates rested 2 d.content covers))
        (reads_by_itself rested real d.content (still_quiet half rested is.quiet so) idle long one was)

    by : (writes_here rested (command_of d.command) d.address d.content ≡ true) ⊎ (writes_here rested (command_of d.command) d.address d.content ≡ false)
        → TellsNothing half d → IsAfter (served_datagram rested d).half real
    by (inr other) tells = subst (λ (h : SlaveHalf). IsAfter h real) (sym (served_other rested (command_of d.command) d.address d.content other)) was
    by (inl here) (begins command long one) = taken (fits.from command) long one here (true_or_false (is_busy rested.activity))
    by (inl here) (fetches four register) = absurd (read_only four here)
    by (inl here) (waits_for four reading) = absurd (read_only four here)

-- A WORD IN FLIGHT

-- what the device sends of its own
pub own_amended : (slave : ℕ) (half after : SlaveHalf) → (IsTrue (is_busy half.activity) → after.activity ≡ half.activity) → (call : Exchanged) (mid later : SlaveHalf) (found : Pdu) → IsOwnTo slave half call
    → Serves call.sent mid found later → IsAmended after mid → IsAmended after later
own_amended slave half after same call mid later found own serves am =
    amended_like after (served_datagram serves.takes.rested call.sent).half later
    (served_amended after serves.takes.rested call.sent (amended_rests after mid serves.takes.rested am serves.takes.rests) (own_of_after own.own))
    serves.takes.half
  where
    own_as : IsOwn half call.sent → IsOwn after call.sent
    own_as (clears at is) = clears at is
    own_as (reads word rest at is) = reads word rest at is
    own_as (writes word value flying small fits at is) = writes word value (same (ap is_busy flying) ∙ flying) small fits at is

    own_of_after : (call.sent.command ≡ 4) ⊎ ((call.sent.command ≡ 5) × IsOwn half call.sent) → (call.sent.command ≡ 4) ⊎ ((call.sent.command ≡ 5) × IsOwn after call.sent)
    own_of_after (inl read) = inl read
    own_of_after (inr write) = inr (write.0, own_as write.1)

-- a half that is busy goes on
pub same_activity : (half : SlaveHalf) (d : Pdu) → IsTrue (is_busy half.activity) → (served_datagram half d).half.activity ≡ half.activity
same_activity half d busy = elim (Goes-served half (command_of d.command) d.address d.content).activity [
  | inl same ↦ same
  | inr begun_now ↦ absurd (let e : true ≡ false = sym busy ∙ ap is_busy begun_now.0 in cc)
]

-- the half whose word has ended with this value
record EndsWith (half : SlaveHalf) (word value : ℕ) (rested : SlaveHalf) : Type 0 where
  station : rested.station ≡ half.station
  offered : rested.registers.offered ≡ half.registers.offered
  forced : rested.registers.forced ≡ half.registers.forced
  words : rested.words ≡ slice_set half.words word value
  idle : rested.activity ≡ Idle

EndsWith-errors : (half rested : SlaveHalf) (word value : ℕ) (command_error enable_error : Bool)
    → rested ≡ with_errors (settled half word value) command_error enable_error → EndsWith half word value rested
EndsWith-errors half rested word value command_error enable_error is = record {
  station = ap (λ (h : SlaveHalf). h.station) is;
  offered = ap (λ (h : SlaveHalf). h.registers.offered) is;
  forced = ap (λ (h : SlaveHalf). h.registers.forced) is;
  words = ap (λ (h : SlaveHalf). h.words) is;
  idle = ap (λ (h : SlaveHalf). h.activity) is;
}

ends_with : (half rested : SlaveHalf) (write : WordWrite) (value : ℕ) → half.activity ≡ Writing write.word write.value
    → RestsAs (rests_with write value) half rested → EndsWith half write.word value rested
ends_with half rested write value flying so = by (eqb_tells value write.value)
  where
    with_test : (b : Bool) → (value == write.value) ≡ b → RestsAs (if b then resting.Well else resting.FailedWith value) half rested
    with_test b is = subst (λ (c : Bool). RestsAs (if c then resting.Well else resting.FailedWith value) half rested) is so

    by : (((value == write.value) ≡ true) × (value ≡ write.value)) ⊎ (((value == write.value) ≡ false) × (value ≢ write.value))
        → EndsWith half write.word value rested
    by (inl same) =
        EndsWith-errors half rested write.word value false false
        (subst (λ (a : Activity). Ends a rests.Well false half rested) flying (with_test true same.0)
        ∙ ap (λ (n : ℕ). with_errors (settled half write.word n) false false) (sym same.1))
    by (inr other) =
        EndsWith-errors half rested write.word value true half.registers.enable_error
        (with_test false other.0 ∙ ap (λ (a : Activity). rested_by a (rests.Failed value) half) flying)

read_back_after : (half rested later : SlaveHalf) (d : Pdu) (write : WordWrite) (value : ℕ) → half.activity ≡ Writing write.word write.value
    → ¬ WritesControl d → EndsWith half write.word value rested → IsAmended (served_datagram half d).half later → later.activity ≡ Idle
    → slice_index later.words write.word ≡ value → IsAfter (served_datagram rested d).half later
read_back_after half rested later d write value flying quiet ended am idle holds =
    by (true_or_false (writes_here half (command_of d.command) d.address d.content))
  where
    busy : IsTrue (is_busy half.activity)
    busy = ap is_busy flying

    same : writes_here rested (command_of d.command) d.address d.content ≡ writes_here half (command_of d.command) d.address d.content
    same = writes_same half rested (command_of d.command) d.address d.content ended.station

    goes : Goes half (served_datagram half d).half
    goes = Goes-served half (command_of d.command) d.address d.content

    words : later.words ≡ rested.words
    words =
        held_is (served_datagram half d).half later write.word write.value am (same_activity half d busy ∙ flying)
        ∙ ap (λ (n : ℕ). slice_set (served_datagram half d).half.words write.word n) holds
        ∙ ap (λ (w : List ℕ). slice_set w write.word value) goes.words ∙ sym ended.words

    conclude : (taken : SlaveHalf) → taken.station ≡ half.station → taken.registers.offered ≡ (served_datagram half d).half.registers.offered
        → taken.registers.forced ≡ (served_datagram half d).half.registers.forced → taken.words ≡ rested.words → taken.activity ≡ Idle → IsAfter taken later
    conclude taken station offered forced of_words of_activity = record {
      amended = record {
        station = am.station ∙ goes.station ∙ sym station;
        offered = am.offered ∙ sym offered;
        forced = am.forced ∙ sym forced;
        words = subst (λ (a : Activity). MayHold a taken.words later.words) (sym of_activity) (words ∙ sym of_words);
        activity = inl idle;
      };
      idle = λ none. idle;
    }

    by : (writes_here half (command_of d.command) d.address d.content ≡ true) ⊎ (writes_here half (command_of d.command) d.address d.content ≡ false)
        → IsAfter (served_datagram rested d).half later
    by (inr other) =
        let mine : (served_datagram half d).half ≡ half = served_other half (command_of d.command) d.address d.content other in
        subst (λ (h : SlaveHalf). IsAfter h later) (sym (served_other rested (command_of d.command) d.address d.content (same ∙ other)))
        (conclude rested ended.station (ended.offered ∙ sym (ap (λ (h : SlaveHalf). h.registers.offered) mine))
        (ended.forced ∙ sym (ap (λ (h : SlaveHalf). h.registers.forced) mine)) refl ended.idle)
    by (inl here) = elim (quiet_or_idle half d (λ _. quiet) here) [
      | inr rests_already ↦ absurd (let e : Writing write.word write.value ≡ Idle = sym flying ∙ rests_already in cc)
      | inl early ↦
          let at = place_of d in
          let mine : (served_datagram half d).half ≡ with_stored half at d.content =
          served_write half (command_of d.command) d.address d.content here ∙ written_quiet half at d.content early in
          let its : (served_datagram rested d).half ≡ with_stored rested at d.content =
          served_write rested (command_of d.command) d.address d.content (same ∙ here) ∙ written_quiet rested at d.content early in
          subst (λ (h : SlaveHalf). IsAfter h later) (sym its)
          (conclude (with_stored rested at d.content) ended.station
          (offered_same half rested at d.content ended.offered ended.forced ∙ sym (ap (λ (h : SlaveHalf). h.registers.offered) mine))
          (forced_same half rested at d.content ended.offered ended.forced ∙ sym (ap (λ (h : SlaveHalf). h.registers.forced) mine)) refl ended.idle)
    ]

-- ALL THAT IS SENT FOR A DATAGRAM

module _ (slave : ℕ) (half : SlaveHalf) (d : Pdu) (fits : IsFit half d) (bytes : (k : ℕ) → slice_index d.content k < 256)
    (to : station_of d.address ≡ station slave) (rested real later : SlaveHalf) (near : real.station ≡ station slave) (afterwards : IsAfter half real) where
  -- the datagram came back
  pass_after : (found : Pdu) (mid : SlaveHalf) → MaySend half d → ¬ IsKnown half d → Lives (exchanged d (Some found) ∷ []) real mid
      → IsAfter (served_datagram half d).half mid
  pass_after found mid may news lives =
      answered_after half d (record { may = may; fits = fits; news = news; bytes = bytes }) real mid found
      (lives_once (exchanged d (Some found)) found real mid (to ∙ sym near) refl lives) afterwards

  follow_after : (found : Pdu) (write : WordWrite) (calls : List Exchanged) (how : Resting) → ¬ WritesControl d → in_flight half.activity ≡ Some write
      → All (IsOwnTo slave half) calls → RestsBy slave write calls how → RestsAs how half rested
      → Lives (exchanged d (Some found) ∷ calls) real later → IsAfter (served_datagram rested d).half later
  follow_after found write calls how quiet flying own by rests lives = with_rest by rests
    where
      writing : half.activity ≡ Writing write.word write.value
      writing = writing_by half.activity write flying

      busy : IsTrue (is_busy half.activity)
      busy = ap is_busy writing

      not_known : ¬ IsKnown half d
      not_known is = absurd (let e : None ≡ Some write = sym is.quiet ∙ flying in cc)

      parts : Between (exchanged d (Some found) ∷ []) calls real later
      parts = lives_parts (exchanged d (Some found) ∷ []) calls real later lives

      same : (served_datagram half d).half.activity ≡ half.activity
      same = same_activity half d busy

      mid : IsAfter (served_datagram half d).half parts.mid
      mid = pass_after found parts.mid (λ _. quiet) not_known parts.before

      am : IsAmended (served_datagram half d).half later
      am = lives_keep calls (IsAmended (served_datagram half d).half) (IsOwnTo slave half)
          (own_amended slave half (served_datagram half d).half (λ _. same)) own parts.mid later parts.afterwards mid.amended

      with_rest : {how : Resting} → RestsBy slave write calls how → RestsAs how half rested → IsAfter (served_datagram rested d).half later
      with_rest stays is =
          subst (λ (h : SlaveHalf). IsAfter (served_datagram h d).half later) (sym is)
          (record { amended = am; idle = λ none. absurd (let e : None ≡ Some write = sym none ∙ ap in_flight same ∙ flying in cc) })
      with_rest (read_back value tells) is =
          let reported = tells parts.mid later (lives_station (exchanged d (Some found) ∷ []) real parts.mid parts.before ∙ near) parts.afterwards in
          read_back_after half rested later d write value writing quiet (ends_with half rested write value writing is) am reported.0 reported.1

  pub carries_after : (calls : List Exchanged) (how : Resting) → Carries slave half d calls how → RestsAs how half rested → Lives calls real later
      → IsAfter (served_datagram rested d).half later
  carries_after calls how (waits busy writes_it) is lives =
      subst (λ (h : SlaveHalf). IsAfter (served_datagram h d).half later) (sym is)
      (subst (λ (h : SlaveHalf). IsAfter h later) (sym (takes_nothing half d busy writes_it)) (subst (IsAfter half) (sym (untouched real later lives)) afterwards))
  carries_after calls how (known is_known) is lives =
      subst (IsAfter (served_datagram rested d).half) (sym (untouched real later lives)) (known_after half rested real d is_known fits is afterwards)
  carries_after calls how (passes found may none news) is lives =
      subst (λ (h : SlaveHalf). IsAfter (served_datagram h d).half later) (sym is) (pass_after found later may news lives)
  carries_after calls how (follows_up found write own _ quiet flying all by) is lives = follow_after found write own how quiet flying all by is lives
