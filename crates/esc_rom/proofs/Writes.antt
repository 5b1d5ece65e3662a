-- Writes to a slave's registers, one and in a row.
use Rattle.std.proofs.Common.{◌≡◌, ◌⊎◌, ℕ, ◌+◌, ◌-◌, ◌%◌, ◌==◌, ◌&&◌, Bool, true, false, nat_lt, List, length, refl, sym, ap, subst, ◌∙◌, inl, inr, arith}
use Rattle.ecat_frame.specs.Frame.{Pdu, sent}
use Rattle.ecat_frame.specs.declared.command.Command.TheVariants.{Fpwr}
use Rattle.esc_model.specs.SlaveHalf.{SlaveHalf, served, concerns, is_busy}
use Rattle.esc_model.specs.Bytes.{register_of}
use Rattle.esc_model.specs.Datagrams.{Receives}
use Rattle.esc_model.proofs.Writing.{true_or_false}
use Rattle.site_core.specs.State.{Seen, clock}
use Rattle.site_core.specs.Times.{Follows}
use Rattle.rom_steps.specs.Accesses.{is_counted}
use Rattle.esc_rom.specs.Past.{HalfAt, AreLost, Refuses, IsUncounted, AreUncounted}
use Rattle.esc_rom.specs.Runs.{Ran, WasLost, Wrote, Tries, never, again, OnceRefused, Insists}
use Rattle.esc_rom.proofs.Runs.{Ran-weaker, SoFar, so_over}
use Rattle.esc_rom.proofs.Past.{Ran-went, AreLost-more, AreUncounted-more}
use Rattle.esc_rom.proofs.Exchanges.{Answers}

-- a half counts a write once or not at all
write_adds : (half : SlaveHalf) (address : ℕ) (content : List ℕ) → ((served half Fpwr address content).added ≡ 0) ⊎ ((served half Fpwr address content).added ≡ 1)
unfolding served
write_adds half address content = elim (true_or_false (concerns half address (length content))) [
  | inr elsewhere ↦ inl (rw elsewhere refl)
  | inl here ↦ elim (true_or_false (is_busy half.activity && nat_lt 2 (register_of address - 0x0500 + length content))) [
    | inl busy ↦ inl (rw (here, busy) refl)
    | inr vacant ↦ inr (rw (here, vacant) refl)
  ]
]

-- what the counter of a datagram that came back says
pub counter_says : (rested : SlaveHalf) (address : ℕ) (content : List ℕ) (counter : ℕ) → (0 + (served rested Fpwr address content).added) % 65536 ≡ counter
    → (((counter == 1) ≡ true) × ((served rested Fpwr address content).added ≡ 1)) ⊎ (((counter == 1) ≡ false) × ((served rested Fpwr address content).added ≡ 0))
counter_says rested address content counter is = elim (write_adds rested address content) [
  | inl none ↦ let e : counter ≡ 0 = sym is ∙ ap (λ (n : ℕ). (0 + n) % 65536) none in inr (ap (λ (n : ℕ). n == 1) e, none)
  | inr one ↦ let e : counter ≡ 1 = sym is ∙ ap (λ (n : ℕ). (0 + n) % 65536) one in inl (ap (λ (n : ℕ). n == 1) e, one)
]

pub write_back : (slave address : ℕ) (content : List ℕ) (old new : Seen) (reply : Pdu) → Ran (Answers (sent Fpwr 0 address content) reply) old slave 1 new
    → Ran (Wrote (sent Fpwr 0 address content) old new (is_counted reply)) old slave 1 new
write_back slave address content old new reply ran = Ran-weaker (omega arith) (λ half later here there answers. goes half later answers) ran
  where
    goes : (half later : SlaveHalf) → Answers (sent Fpwr 0 address content) reply half later → Wrote (sent Fpwr 0 address content) old new (is_counted reply) half later
    goes half later answers = elim (counter_says answers.rested address content reply.counter (ap (λ (d : Pdu). d.counter) answers.reply)) [
      | inl one ↦ subst (λ (b : Bool). Wrote (sent Fpwr 0 address content) old new b half later) (sym one.0) (record { rested = answers.rested; rests = answers.rests; counted = one.1; is = answers.is })
      | inr none ↦ subst (λ (b : Bool). Wrote (sent Fpwr 0 address content) old new b half later) (sym none.0) (inr (record { rested = answers.rested; rests = answers.rests; refused = none.1; is = answers.is }))
    ]

-- whatever the answer, the half took the datagram or is unchanged
pub wrote_receives : (order : Pdu) (old new : Seen) (value : Bool) (half later : SlaveHalf) → Wrote order old new value half later → (later ≡ half) ⊎ Receives order half later
wrote_receives order old new true half later counts = inr (record { rested = counts.rested; rests = counts.rests; is = counts.is })
wrote_receives order old new false half later (inl lost) = lost.2
wrote_receives order old new false half later (inr refuses) = inr (record { rested = refuses.rested; rests = refuses.rests; is = refuses.is })

-- INSISTING

-- a datagram that wasn't counted, as the past has it
pub uncounted : (order : Pdu) {a b : Seen} {slave : ℕ} → Ran (Wrote order a b false) a slave 1 b
    → Ran (λ half later. (clock b ≡ clock a + 1) × IsUncounted order b slave (clock a) × Wrote order a b false half later) a slave 1 b
uncounted order {a = a} {b = b} {slave = slave} ran = Ran-weaker (omega arith) (λ half later here there went. (one, past half later went.0 went.1 went.2, went.2)) (Ran-went ran)
  where
    one : clock b ≡ clock a + 1
    one = let more = ran.some in let most = ran.quiet.within in omega arith

    past : (half later : SlaveHalf) → HalfAt b slave (clock a) half → HalfAt b slave (clock b) later → Wrote order a b false half later → IsUncounted order b slave (clock a)
    past half later first last wrote = record {
      half = half;
      later = later;
      first = first;
      last = subst (λ (time : ℕ). HalfAt b slave time later) one last;
      goes = elim wrote [ inl lost ↦ inl (lost.1, lost.2) | inr refuses ↦ inr refuses ];
    }

-- this many were sent and none was counted: all were lost, or the half once refused one
pub record TriedSo (order : Pdu) (old : Seen) (slave times : ℕ) (now : Seen) (half later : SlaveHalf) : Type 0 where
  pub tried : Tries order half later
  pub since : clock now ≡ clock old + times
  pub uncounted : AreUncounted order now slave (clock old) times
  pub why : AreLost now (clock old) times ⊎ OnceRefused order half

pub tried_none : (order : Pdu) (seen : Seen) (slave : ℕ) (half : SlaveHalf) → TriedSo order seen slave 0 seen half half
tried_none order seen slave half =
    record { tried = never; since = omega arith; uncounted = λ k below. absurd (omega arith); why = inl (λ k below. absurd (omega arith)) }

pub tried_more : (order : Pdu) (a b c : Seen) (slave times : ℕ) → Follows b c → (half mid later : SlaveHalf) → TriedSo order a slave times b half mid
    → (clock c ≡ clock b + 1) × IsUncounted order c slave (clock b) × Wrote order b c false mid later → TriedSo order a slave (times + 1) c half later
tried_more order a b c slave times follows half mid later so last = record {
  tried = tried (wrote_receives order b c false mid later last.2);
  since = let before : clock b ≡ clock a + times = so.since in let one : clock c ≡ clock b + 1 = last.0 in omega arith;
  uncounted = AreUncounted-more order b c slave (clock a) times follows so.since so.uncounted last.1;
  why = why so.why last.2;
}
  where
    tried : (later ≡ mid) ⊎ Receives order mid later → Tries order half later
    tried (inl same) = subst (λ (h : SlaveHalf). Tries order half h) (sym same) so.tried
    tried (inr took) = again so.tried took

    why : AreLost b (clock a) times ⊎ OnceRefused order half → WasLost order b c mid later ⊎ Refuses order mid later → AreLost c (clock a) (times + 1) ⊎ OnceRefused order half
    why (inr once) now = inr once
    why (inl lost) (inl now) = inl (AreLost-more b c (clock a) times follows so.since lost now.1)
    why (inl lost) (inr refuses) = inr (record { mid = mid; later = later; tried = so.tried; refuses = refuses })

pub insist_took : (order : Pdu) (a b c : Seen) (slave times : ℕ) (half mid later : SlaveHalf) → TriedSo order a slave times b half mid → Wrote order b c true mid later → Insists order a slave c true half later
insist_took order a b c slave times half mid later so counts = (mid, so.tried, counts)

pub insist_failed : (order : Pdu) (a : Seen) (slave : ℕ) (b : Seen) (times : ℕ) → times ≡ 3 → SoFar (TriedSo order a slave times b) a slave times b → Ran (Insists order a slave b false) a slave 3 b
insist_failed order a slave b times all so =
    Ran-weaker (omega arith) (λ half later here there tried. (
      tried.tried,
      let since : clock b ≡ clock a + times = tried.since in omega arith,
      subst (λ (n : ℕ). AreUncounted order b slave (clock a) n) all tried.uncounted,
      elim tried.why [ inl lost ↦ inl (subst (λ (n : ℕ). AreLost b (clock a) n) all lost) | inr once ↦ inr once ],
    )) (so_over (omega arith) so)
