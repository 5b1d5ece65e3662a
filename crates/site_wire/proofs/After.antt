-- A real slave that is behind its shadow stays so through a datagram that both take.
use Rattle.std.proofs.Common.{◌≡◌, ◌⊎◌, ℕ, ◌+◌, ◌%◌, ◌<◌, ◌≤◌, ◌&&◌, true, false, nat_le, List, length}
use Rattle.std.proofs.Common.{slice_index, Some, None, refl, sym, ap, subst, ◌∙◌, inl, inr, arith, length-set}
use Rattle.std.proofs.lemmas.Bool.{le-leb}
use Rattle.ecat_frame.specs.Command.{command_of}
use Rattle.ecat_frame.specs.Frame.{Pdu}
use Rattle.esc_model.specs.Bytes.{register_of}
use Rattle.esc_model.specs.SlaveHalf.{SlaveHalf, Activity, Idle, Reading, Writing, is_busy, in_flight, with_stored, begun, written, MayRest, MayHold}
use Rattle.esc_model.specs.Datagrams.{served_datagram}
use Rattle.esc_model.proofs.Resting.{MayRest-idle, MayHold-same}
use Rattle.esc_model.proofs.Serving.{Goes-served}
use Rattle.esc_model.proofs.Status.{idle_not_busy}
use Rattle.site_wire.specs.Due.{is_command, IsFit}
use Rattle.site_wire.specs.Known.{IsKnown, begins}
use Rattle.site_wire.specs.RealSlaves.{IsLike, Serves, Servings, Answered}
use Rattle.site_wire.specs.After.{IsAfter}
use Rattle.site_wire.proofs.Stored.{offered_same, forced_same, offered_again, forced_again, command_given}
use Rattle.site_wire.proofs.Validated.{validated, Doing, Nothing, Fetches, Writes, doing_of, done, begun_is, begun_as, SameCommand, Needs, needs_covers}
use Rattle.site_wire.proofs.Validated.{validated_same, address_needed, first_needed, fetches_command}
use Rattle.site_wire.proofs.Taking.{true_or_false, writes_here, writes_same, writes_code, writes_inside, served_other, served_write, written_quiet}
use Rattle.site_wire.proofs.Taking.{written_idle, written_ignored, validates, stores}
use Rattle.site_wire.proofs.Again.{MaySend, place_of, quiet_or_idle, fit_all, command_again}
use Rattle.site_wire.proofs.AmendedLaws.{amended_rests, amended_like}
use Rattle.site_wire.proofs.Living.{servings_keep}

-- RESTING

pub after_rests : (shadow real later : SlaveHalf) → IsAfter shadow real → MayRest real later → IsAfter shadow later
after_rests shadow real later afterwards rests = record {
  amended = amended_rests shadow real later afterwards.amended rests;
  idle = λ none. ap (λ (h : SlaveHalf). h.activity) (MayRest-idle real later (afterwards.idle none) rests) ∙ afterwards.idle none;
}

pub after_like : (shadow real later : SlaveHalf) → IsAfter shadow real → IsLike real later → IsAfter shadow later
after_like shadow real later afterwards like = record {
  amended = amended_like shadow real later afterwards.amended like;
  idle = λ none. like.activity ∙ afterwards.idle none;
}

-- the words of a slave whose shadow is idle
idle_words : (shadow real : SlaveHalf) → shadow.activity ≡ Idle → IsAfter shadow real → real.words ≡ shadow.words
idle_words shadow real idle afterwards = subst (λ (a : Activity). MayHold a shadow.words real.words) idle afterwards.amended.words

idle_real : (shadow real : SlaveHalf) → shadow.activity ≡ Idle → IsAfter shadow real → real.activity ≡ Idle
idle_real shadow real idle afterwards = afterwards.idle (ap in_flight idle)

-- of how many words it is
hold_count : (activity : Activity) (words others : List ℕ) → MayHold activity words others → length others ≡ length words
hold_count Idle words others same = ap length same
hold_count Reading words others same = ap length same
hold_count (Writing word value) words others held = ap length held.1 ∙ length-set words word held.0

-- WHAT IS STORED

module _ (shadow real : SlaveHalf) (at : ℕ) (over : List ℕ) where
  pub stored_after : IsAfter shadow real → IsAfter (with_stored shadow at over) (with_stored real at over)
  stored_after afterwards = record {
    amended = record {
      station = afterwards.amended.station;
      offered = offered_same shadow real at over afterwards.amended.offered afterwards.amended.forced;
      forced = forced_same shadow real at over afterwards.amended.offered afterwards.amended.forced;
      words = afterwards.amended.words;
      activity = afterwards.amended.activity;
    };
    idle = afterwards.idle;
  }

  stored_again : ((k : ℕ) → slice_index over k < 256) → IsAfter (with_stored shadow at over) real → IsAfter (with_stored shadow at over) (with_stored real at over)
  stored_again bytes afterwards = record {
    amended = record {
      station = afterwards.amended.station;
      offered = offered_again shadow real at over bytes afterwards.amended.offered afterwards.amended.forced;
      forced = forced_again shadow real at over bytes afterwards.amended.offered afterwards.amended.forced;
      words = afterwards.amended.words;
      activity = afterwards.amended.activity;
    };
    idle = afterwards.idle;
  }

-- COMMANDS

-- A command of the shadow, which begins no read, and the same of a slave that is idle.
module _ (shadow : SlaveHalf) (over : List ℕ) (needs : Needs over) (idle : shadow.activity ≡ Idle) where
  abbrev mine : SlaveHalf
  mine = validated shadow 2 over

  -- the same command does the same
  does_same : (real : SlaveHalf) → real.activity ≡ Idle → SameCommand mine (validated real 2 over) → MayHold (done (doing_of mine) mine).activity shadow.words real.words
      → (d : Doing) → doing_of mine ≡ d → ¬ (d ≡ Fetches) → IsAfter (done d mine) (done d (validated real 2 over))
  does_same real quiet same words Nothing is not_read = record {
    amended = record {
      station = same.station;
      offered = same.offered;
      forced = same.forced;
      words = subst (λ (d : Doing). MayHold (done d mine).activity shadow.words real.words) is words;
      activity = inl quiet;
    };
    idle = λ none. quiet;
  }
  does_same real quiet same words Fetches is not_read = absurd (not_read refl)
  does_same real quiet same words Writes is not_read = record {
    amended = record {
      station = same.station;
      offered = same.offered;
      forced = same.forced;
      words = subst (λ (d : Doing). MayHold (done d mine).activity shadow.words real.words) is words;
      activity = inr (inr (writing_is (address_needed shadow real over needs Writes is (λ e. absurd cc)) (first_needed shadow real over needs is)));
    };
    idle = λ none. absurd (let e : Some (record { word = mine.registers.address; value = mine.registers.first }) ≡ None = none in cc);
  }
    where
      writing_is : {p q r s : ℕ} → p ≡ q → r ≡ s → Writing p r ≡ Writing q s
      writing_is e f = cc

  -- a slave behind the shadow takes the command
  command_after : (real : SlaveHalf) → ¬ (doing_of mine ≡ Fetches) → IsAfter shadow real → IsAfter (begun mine) (begun (validated real 2 over))
  command_after real not_read afterwards =
      let words = idle_words shadow real idle afterwards in
      let same : SameCommand mine (validated real 2 over) =
      validated_same shadow real over needs afterwards.amended.station
      (offered_same shadow real 2 over afterwards.amended.offered afterwards.amended.forced)
      (forced_same shadow real 2 over afterwards.amended.offered afterwards.amended.forced) (ap length words) in
      subst (λ (h : SlaveHalf). IsAfter h (begun (validated real 2 over))) (sym (begun_is mine))
      (subst (IsAfter (done (doing_of mine) mine)) (sym (begun_as mine (validated real 2 over) same))
      (does_same real (idle_real shadow real idle afterwards) same (subst (MayHold (done (doing_of mine) mine).activity shadow.words) (sym words)
      (MayHold-same (done (doing_of mine) mine).activity shadow.words)) (doing_of mine) refl not_read))

  -- a slave that is behind the shadow after the command takes it again
  command_once_more : (real : SlaveHalf) → ((k : ℕ) → slice_index over k < 256) → ¬ (doing_of mine ≡ Fetches) → real.activity ≡ Idle → IsAfter (begun mine) real
      → IsAfter (begun mine) (begun (validated real 2 over))
  command_once_more real bytes not_read quiet afterwards =
      let after_done : IsAfter (done (doing_of mine) mine) real = subst (λ (h : SlaveHalf). IsAfter h real) (begun_is mine) afterwards in
      let kept = done_keeps (doing_of mine) in
      let same : SameCommand mine (validated real 2 over) =
      command_again shadow over bytes needs real (after_done.amended.station ∙ kept.0) (after_done.amended.offered ∙ kept.1)
      (after_done.amended.forced ∙ kept.2) (hold_count (done (doing_of mine) mine).activity (done (doing_of mine) mine).words real.words after_done.amended.words ∙ ap length kept.3) in
      subst (λ (h : SlaveHalf). IsAfter h (begun (validated real 2 over))) (sym (begun_is mine))
      (subst (IsAfter (done (doing_of mine) mine)) (sym (begun_as mine (validated real 2 over) same))
      (does_same real quiet same (subst (λ (w : List ℕ). MayHold (done (doing_of mine) mine).activity w real.words) kept.3 after_done.amended.words)
      (doing_of mine) refl not_read))
    where
      done_keeps : (d : Doing) → ((done d mine).station ≡ shadow.station) × ((done d mine).registers.offered ≡ mine.registers.offered)
          × ((done d mine).registers.forced ≡ mine.registers.forced) × ((done d mine).words ≡ shadow.words)
      done_keeps Nothing = (refl, refl, refl, refl)
      done_keeps Fetches = (refl, refl, refl, refl)
      done_keeps Writes = (refl, refl, refl, refl)

-- ONE DATAGRAM

-- It may be sent to the half, which doesn't answer it by itself; its content consists of bytes.
pub record MayPass (shadow : SlaveHalf) (d : Pdu) : Type 0 where
  pub may : MaySend shadow d
  pub fits : IsFit shadow d
  pub news : ¬ IsKnown shadow d
  pub bytes : (k : ℕ) → slice_index d.content k < 256

module _ (shadow : SlaveHalf) (d : Pdu) (pass : MayPass shadow d) where
  abbrev after : SlaveHalf
  after = (served_datagram shadow d).half

  abbrev Covers : Type 0
  Covers = (nat_le (place_of d) 2 && nat_le 4 (place_of d + length d.content)) ≡ true

  -- both take it as it changes these two
  by_both : (a b c e : SlaveHalf) → a ≡ c → b ≡ e → IsAfter c e → IsAfter a b
  by_both a b c e f g afterwards = subst (λ (h : SlaveHalf). IsAfter h b) (sym f) (subst (IsAfter c) (sym g) afterwards)

  no_read : shadow.activity ≡ Idle → writes_here shadow (command_of d.command) d.address d.content ≡ true → Covers → ¬ (doing_of (validated shadow 2 d.content) ≡ Fetches)
  no_read idle here covers is =
      let all = fit_all shadow d pass.fits shadow here covers in
      let code : d.command ≡ 5 = writes_code shadow d here in
      let inside : 0x0500 ≤ register_of d.address = writes_inside shadow (command_of d.command) d.address d.content here in
      let long : 2 ≤ length d.content = needs_covers d.content all.1 in
      let one : slice_index d.content 1 % 8 ≡ 1 = sym (command_given shadow shadow 2 d.content refl long) ∙ fetches_command (validated shadow 2 d.content) is in
      pass.news (record { quiet = ap in_flight idle; tells = begins (command_is code all.0 inside long) long one })
    where
      command_is : d.command ≡ 5 → place_of d ≡ 2 → 0x0500 ≤ register_of d.address → 2 ≤ length d.content → is_command d ≡ true
      command_is code at inside long =
          rw (code, le-leb (register_of d.address) 0x0502 (omega arith), le-leb 0x0504 (register_of d.address + length d.content) (omega arith)) refl

  module _ (real : SlaveHalf) (here : writes_here shadow (command_of d.command) d.address d.content ≡ true) (there : writes_here real (command_of d.command) d.address d.content ≡ true) where
    mine_is : after ≡ (written shadow (place_of d) d.content).half
    mine_is = served_write shadow (command_of d.command) d.address d.content here

    its_is : (served_datagram real d).half ≡ (written real (place_of d) d.content).half
    its_is = served_write real (command_of d.command) d.address d.content there

    -- the first time
    first_written : IsAfter shadow real → IsAfter after (served_datagram real d).half
    first_written afterwards = elim (quiet_or_idle shadow d pass.may here) [
      | inl quiet ↦
          by_both _ _ _ _ (mine_is ∙ written_quiet shadow (place_of d) d.content quiet) (its_is ∙ written_quiet real (place_of d) d.content quiet)
          (stored_after shadow real (place_of d) d.content afterwards)
      | inr idle ↦ at_rest idle (true_or_false (nat_le (place_of d) 2 && nat_le 4 (place_of d + length d.content)))
    ]
      where
        at_rest : shadow.activity ≡ Idle → Covers ⊎ ((nat_le (place_of d) 2 && nat_le 4 (place_of d + length d.content)) ≡ false) → IsAfter after (served_datagram real d).half
        at_rest idle (inr part) =
            by_both _ _ _ _ (mine_is ∙ written_idle shadow (place_of d) d.content idle ∙ stores shadow (place_of d) d.content part)
            (its_is ∙ written_idle real (place_of d) d.content (idle_real shadow real idle afterwards) ∙ stores real (place_of d) d.content part)
            (stored_after shadow real (place_of d) d.content afterwards)
        at_rest idle (inl covers) =
            let all = fit_all shadow d pass.fits shadow here covers in
            by_both _ _ _ _ (mine_is ∙ written_idle shadow (place_of d) d.content idle ∙ validates shadow (place_of d) d.content covers)
            (its_is ∙ written_idle real (place_of d) d.content (idle_real shadow real idle afterwards) ∙ validates real (place_of d) d.content covers)
            (subst (λ (n : ℕ). IsAfter (begun (validated shadow n d.content)) (begun (validated real n d.content))) (sym all.0)
            (command_after shadow d.content all.1 idle real (no_read idle here covers) afterwards))

    -- and again
    next_written : IsAfter after real → IsAfter after (served_datagram real d).half
    next_written afterwards = elim (quiet_or_idle shadow d pass.may here) [
      | inl quiet ↦ stored_twice (mine_is ∙ written_quiet shadow (place_of d) d.content quiet) (its_is ∙ written_quiet real (place_of d) d.content quiet)
      | inr idle ↦ at_rest idle (true_or_false (nat_le (place_of d) 2 && nat_le 4 (place_of d + length d.content)))
    ]
      where
        stored_twice : after ≡ with_stored shadow (place_of d) d.content → (served_datagram real d).half ≡ with_stored real (place_of d) d.content
            → IsAfter after (served_datagram real d).half
        stored_twice first next =
            by_both _ _ _ _ first next (stored_again shadow real (place_of d) d.content pass.bytes (subst (λ (h : SlaveHalf). IsAfter h real) first afterwards))

        at_rest : shadow.activity ≡ Idle → Covers ⊎ ((nat_le (place_of d) 2 && nat_le 4 (place_of d + length d.content)) ≡ false) → IsAfter after (served_datagram real d).half
        at_rest idle (inr part) =
            let first : after ≡ with_stored shadow (place_of d) d.content = mine_is ∙ written_idle shadow (place_of d) d.content idle ∙ stores shadow (place_of d) d.content part in
            let quiet : real.activity ≡ Idle = afterwards.idle (ap (λ (h : SlaveHalf). in_flight h.activity) first ∙ ap in_flight idle) in
            stored_twice first (its_is ∙ written_idle real (place_of d) d.content quiet ∙ stores real (place_of d) d.content part)
        at_rest idle (inl covers) = again (true_or_false (is_busy real.activity))
          where
            all : (place_of d ≡ 2) × Needs d.content
            all = fit_all shadow d pass.fits shadow here covers

            first : after ≡ begun (validated shadow 2 d.content)
            first = mine_is ∙ written_idle shadow (place_of d) d.content idle ∙ validates shadow (place_of d) d.content covers
                ∙ ap (λ (n : ℕ). begun (validated shadow n d.content)) all.0

            again : (is_busy real.activity ≡ true) ⊎ (is_busy real.activity ≡ false) → IsAfter after (served_datagram real d).half
            again (inl busy) =
                subst (IsAfter after) (sym (its_is ∙ written_ignored real (place_of d) d.content busy (let n = needs_covers d.content all.1 in let at = all.0 in omega arith))) afterwards
            again (inr vacant) =
                let quiet : real.activity ≡ Idle = idle_not_busy real.activity vacant in
                by_both _ _ _ _ first
                (its_is ∙ written_idle real (place_of d) d.content quiet ∙ validates real (place_of d) d.content covers ∙ ap (λ (n : ℕ). begun (validated real n d.content)) all.0)
                (command_once_more shadow d.content all.1 idle real pass.bytes (no_read idle here covers) quiet (subst (λ (h : SlaveHalf). IsAfter h real) first afterwards))

  -- at the same station
  served_first : (real : SlaveHalf) → IsAfter shadow real → IsAfter after (served_datagram real d).half
  served_first real afterwards = by (true_or_false (writes_here shadow (command_of d.command) d.address d.content))
    where
      same : writes_here real (command_of d.command) d.address d.content ≡ writes_here shadow (command_of d.command) d.address d.content
      same = writes_same shadow real (command_of d.command) d.address d.content afterwards.amended.station

      by : (writes_here shadow (command_of d.command) d.address d.content ≡ true) ⊎ (writes_here shadow (command_of d.command) d.address d.content ≡ false)
          → IsAfter after (served_datagram real d).half
      by (inl here) = first_written real here (same ∙ here) afterwards
      by (inr other) =
          by_both _ _ _ _ (served_other shadow (command_of d.command) d.address d.content other) (served_other real (command_of d.command) d.address d.content (same ∙ other)) afterwards

  served_next : (real : SlaveHalf) → real.station ≡ shadow.station → IsAfter after real → IsAfter after (served_datagram real d).half
  served_next real station afterwards = by (true_or_false (writes_here shadow (command_of d.command) d.address d.content))
    where
      same : writes_here real (command_of d.command) d.address d.content ≡ writes_here shadow (command_of d.command) d.address d.content
      same = writes_same shadow real (command_of d.command) d.address d.content station

      by : (writes_here shadow (command_of d.command) d.address d.content ≡ true) ⊎ (writes_here shadow (command_of d.command) d.address d.content ≡ false)
          → IsAfter after (served_datagram real d).half
      by (inl here) = next_written real here (same ∙ here) afterwards
      by (inr other) = subst (IsAfter after) (sym (served_other real (command_of d.command) d.address d.content (same ∙ other))) afterwards

  -- it takes the datagram, as it comes to rest before
  serves_first : (real later : SlaveHalf) (found : Pdu) → Serves d real found later → IsAfter shadow real → IsAfter after later
  serves_first real later found serves afterwards =
      after_like after (served_datagram serves.takes.rested d).half later
      (served_first serves.takes.rested (after_rests shadow real serves.takes.rested afterwards serves.takes.rests)) serves.takes.half

  serves_next : (real later : SlaveHalf) (found : Pdu) → Serves d real found later → IsAfter after real → IsAfter after later
  serves_next real later found serves afterwards =
      let rested = after_rests after real serves.takes.rested afterwards serves.takes.rests in
      after_like after (served_datagram serves.takes.rested d).half later
      (served_next serves.takes.rested
      (rested.amended.station ∙ (Goes-served shadow (command_of d.command) d.address d.content).station) rested) serves.takes.half

  abbrev FirstOrNext : SlaveHalf → Type 0
  FirstOrNext real = IsAfter shadow real ⊎ IsAfter after real

  serves_either : (real later : SlaveHalf) (found : Pdu) → Serves d real found later → FirstOrNext real → IsAfter after later
  serves_either real later found serves (inl first) = serves_first real later found serves first
  serves_either real later found serves (inr next) = serves_next real later found serves next

  -- it takes it any number of times
  pub silent_after : (real later : SlaveHalf) → Servings d real later → IsAfter shadow real → IsAfter shadow later ⊎ IsAfter after later
  silent_after real later servings afterwards =
      servings_keep d FirstOrNext (λ a b lost serves was. inr (serves_either a b lost serves was)) real later servings (inl afterwards)

  -- it takes it once or more
  pub answered_after : (real later : SlaveHalf) (found : Pdu) → Answered d real found later → IsAfter shadow real → IsAfter after later
  answered_after real later found answered afterwards =
      servings_keep d (IsAfter after) (λ a b lost serves was. serves_next a b lost serves was) answered.after later answered.afterwards
      (serves_either answered.mid answered.after found answered.reported
      (silent_after real answered.mid answered.before afterwards))
