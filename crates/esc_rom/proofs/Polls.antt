-- Polls, one and in a row.
use Rattle.std.proofs.Common.{◌≡◌, ◌⊎◌, ℕ, ◌+◌, ◌<◌, Option, Some, None, slice_get, refl, sym, ap, subst, ◌∙◌, inl, inr, arith}
use Rattle.std.proofs.lemmas.Bool.Decides.{leb_tells}
use Rattle.ecat_frame.specs.Frame.{Pdu}
use Rattle.esc_model.specs.Registers.{status_byte}
use Rattle.esc_model.specs.SlaveHalf.{SlaveHalf, Outcome, MayRest, is_busy}
use Rattle.esc_model.specs.Datagrams.{served_datagram, reply_of}
use Rattle.esc_model.specs.Orders.{poll_order}
use Rattle.esc_model.specs.WordAccess.{IsAt, IsIdle, OnlyRests, IsGentle}
use Rattle.esc_model.proofs.Resting.{MayRest-twice, MayRest-station}
use Rattle.esc_model.proofs.OnlyResting.{OnlyRests-same}
use Rattle.esc_model.proofs.Status.{shows_idle, shows_well, shows_busy, shows_error}
use Rattle.esc_model.proofs.Addressing.{here_or_elsewhere, poll_here, poll_elsewhere, poll-same}
use Rattle.site_core.specs.State.{Seen, clock}
use Rattle.site_core.specs.Times.{FailsAt, Follows}
use Rattle.rom_steps.specs.declared.back.Rested.{Rested}
use Rattle.rom_steps.specs.Accesses.{rest_shown, found_in}
use Rattle.esc_rom.specs.Past.{PollsInVain}
use Rattle.esc_rom.specs.Runs.{Ran, IsSeen, Polled, Waited, WasLost}
use Rattle.esc_rom.proofs.Runs.{Ran-weaker, SoFar, so_over}
use Rattle.esc_rom.proofs.Past.{HalfAt-then, HalfAt-now, PollsInVain-more}
use Rattle.esc_rom.proofs.Exchanges.{Answers}

-- WHAT AN ANSWER SAYS

-- the half is seen idle, or it isn't idle, or is at another station
abbrev Says : ℕ → Option Rested → SlaveHalf → Type 0
Says slave None half = (¬ IsIdle half) ⊎ (¬ IsAt slave half)
Says slave (Some rested) half = IsSeen slave rested half

status_says : (slave : ℕ) (half : SlaveHalf) → IsAt slave half → Says slave (rest_shown (status_byte half.registers (is_busy half.activity))) half
status_says slave half here = elim (leb_tells 0x80 (status_byte half.registers (is_busy half.activity))) [
  | inl busy ↦ rw busy.0 (inl (shows_busy half busy.1))
  | inr rests ↦ elim (leb_tells 0x20 (status_byte half.registers (is_busy half.activity))) [
    | inl failed ↦ rw (rests.0, failed.0) (here, shows_idle half rests.1, shows_error half (shows_idle half rests.1) failed.1)
    | inr well ↦ rw (rests.0, well.0) (here, shows_well half well.1)
  ]
]

poll_says : (slave : ℕ) (half : SlaveHalf) → slave < 64 → Says slave (found_in (reply_of (poll_order slave) (served_datagram half (poll_order slave)))) half
poll_says slave half near = elim (here_or_elsewhere slave half) [
  | inl here ↦ subst (λ (t : Outcome). Says slave (found_in (reply_of (poll_order slave) t)) half) (sym (poll_here half slave near here)) (status_says slave half here)
  | inr elsewhere ↦ subst (λ (t : Outcome). Says slave (found_in (reply_of (poll_order slave) t)) half) (sym (poll_elsewhere half slave near elsewhere)) (inr elsewhere)
]

pub poll_gentle : (slave : ℕ) → slave < 64 → IsGentle (poll_order slave)
poll_gentle slave near half = subst (λ (h : SlaveHalf). OnlyRests half h) (sym (poll-same half slave near)) (OnlyRests-same half)

-- ONE POLL

module _ (old : Seen) (slave : ℕ) (new : Seen) (near : slave < 64) where
  missed : Follows old new → clock new ≡ clock old + 1 → (half later : SlaveHalf) → slice_get old.state.halves slave ≡ Some half → slice_get new.state.halves slave ≡ Some later
      → MayRest half later → FailsAt new (clock old) ⊎ ((¬ IsIdle later) ⊎ (¬ IsAt slave half)) → Polled old slave new None half later
  missed follows one half later here there rests why = (
    rests,
    one,
    record { half = half; later = later; first = HalfAt-then old new slave half follows here; last = HalfAt-now new slave (clock old + 1) later (sym one) there; goes = (rests, why) },
  )

  said : Follows old new → clock new ≡ clock old + 1 → (found : Option Rested) (half later : SlaveHalf) → slice_get old.state.halves slave ≡ Some half → slice_get new.state.halves slave ≡ Some later
      → MayRest half later → Says slave found later → Polled old slave new found half later
  said follows one None half later here there rests (inl busy) = missed follows one half later here there rests (inr (inl busy))
  said follows one None half later here there rests (inr elsewhere) =
      missed follows one half later here there rests (inr (inr (λ at. elsewhere (MayRest-station half later rests ∙ at))))
  said follows one (Some rested) half later here there rests seen = (rests, seen)

  pub poll_back : (reply : Pdu) → Ran (Answers (poll_order slave) reply) old slave 1 new → Ran (Polled old slave new (found_in reply)) old slave 1 new
  poll_back reply ran = Ran-weaker (omega arith) goes ran
    where
      one : clock new ≡ clock old + 1
      one = let more = ran.some in let most = ran.quiet.within in omega arith

      goes : (half later : SlaveHalf) → slice_get old.state.halves slave ≡ Some half → slice_get new.state.halves slave ≡ Some later → Answers (poll_order slave) reply half later
          → Polled old slave new (found_in reply) half later
      goes half later here there answers =
          let same : later ≡ answers.rested = answers.is ∙ poll-same answers.rested slave near in
          let says = subst (λ (f : Option Rested). Says slave f answers.rested) (ap found_in answers.reply) (poll_says slave answers.rested near) in
          said ran.quiet.follows one (found_in reply) half later here there (subst (λ (h : SlaveHalf). MayRest half h) (sym same) answers.rests)
          (subst (λ (h : SlaveHalf). Says slave (found_in reply) h) (sym same) says)

  pub poll_lost : Ran (WasLost (poll_order slave) old new) old slave 1 new → Ran (Polled old slave new None) old slave 1 new
  poll_lost ran = Ran-weaker (omega arith) (λ half later here there lost. missed ran.quiet.follows lost.0 half later here there (elim lost.2 [
    | inl same ↦ inl same
    | inr took ↦ subst (λ (h : SlaveHalf). MayRest half h) (sym (took.is ∙ poll-same took.rested slave near)) took.rests
  ]) (inl lost.1)) ran

-- POLLS IN A ROW

-- this many polls missed it
pub record InVain (old : Seen) (slave times : ℕ) (now : Seen) (half later : SlaveHalf) : Type 0 where
  pub rests : MayRest half later
  pub polls : PollsInVain now slave (clock old) times
  pub clock : clock now ≡ clock old + times

pub vain_none : (seen : Seen) (slave : ℕ) (half : SlaveHalf) → InVain seen slave 0 seen half half
vain_none seen slave half = record { rests = inl refl; clock = omega arith; polls = λ k below. absurd (omega arith) }

pub vain_more : (a b c : Seen) (slave times : ℕ) → Follows b c → (half mid later : SlaveHalf) → InVain a slave times b half mid → Polled b slave c None mid later → InVain a slave (times + 1) c half later
vain_more a b c slave times follows half mid later vain polled = record {
  rests = MayRest-twice half mid later vain.rests polled.0;
  clock = let first = vain.clock in let second = polled.1 in omega arith;
  polls = PollsInVain-more b c slave (clock a) times follows vain.clock vain.polls polled.2;
}

pub vain_seen : (a b c : Seen) (slave times : ℕ) (rested : Rested) (half mid later : SlaveHalf) → InVain a slave times b half mid → Polled b slave c (Some rested) mid later → Waited a slave c (Some rested) half later
vain_seen a b c slave times rested half mid later vain polled = (MayRest-twice half mid later vain.rests polled.0, polled.1)

pub vain_all : (a : Seen) (slave times : ℕ) (b : Seen) → times ≡ 10000 → SoFar (InVain a slave times b) a slave times b → Ran (Waited a slave b None) a slave 10000 b
vain_all a slave times b all so =
    Ran-weaker (omega arith) (λ half later here there vain. (
      vain.rests,
      record { clock = let late = vain.clock in omega arith; polls = subst (λ (n : ℕ). PollsInVain b slave (clock a) n) all vain.polls },
    )) (so_over (omega arith) so)
