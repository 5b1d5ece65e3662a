-- Opening a slave: its phases, and how each can fail.
use Rattle.std.proofs.Common.{◌≡◌, ◌⊎◌, ℕ, ◌+◌, ◌%◌, ◌<◌, ◌≤◌, Bool, true, false, Some, None, Result, Ok, Err, refl, sym, ap, subst, ◌∙◌, inl, inr, arith}
use Rattle.ecat_frame.specs.Frame.{Pdu}
use Rattle.esc_model.specs.SlaveHalf.{SlaveHalf}
use Rattle.esc_model.specs.Registers.{access_byte}
use Rattle.esc_model.specs.Datagrams.{Receives, CountsDatagram}
use Rattle.esc_model.specs.Orders.{access_order, clear_order}
use Rattle.esc_model.specs.WordAccess.{IsAt, IsIdle, OnlyRests}
use Rattle.esc_model.proofs.Resting.{MayRest-idle, MayRest-access, MayRest-station}
use Rattle.esc_model.proofs.OnlyResting.{OnlyRests-same, OnlyRests-then, MayRest-only, Receives-only}
use Rattle.esc_model.proofs.Writing.{access_gentle, access_taken, access_refused, clear_refused}
use Rattle.site_core.specs.State.{Seen, clock}
use Rattle.site_core.proofs.Times.{Follows-clock}
use Rattle.rom_steps.specs.declared.step.Stop.{Stop}
use Rattle.esc_rom.specs.declared.fault.RomFault.{RomFault}
use Rattle.esc_rom.specs.declared.fault.RomFault.TheVariants as rom
use Rattle.rom_steps.specs.declared.back.Rested.{Rested}
use Rattle.esc_rom.specs.Past.{HalfAt, AreLost, AreUncounted, IsNext}
use Rattle.esc_rom.specs.Runs.{Ran, StopsQuietly, Performs, Waited, Tries, never, again, OnceRefused, Insists}
use Rattle.esc_rom.specs.Access.{BecomesOpen, OpensSlave}
use Rattle.esc_rom.proofs.Runs.{Ran-then, Ran-weaker, Ran-cut}
use Rattle.esc_rom.proofs.Past.{Ran-tied, NeverIdle-waited}
use Rattle.esc_rom.proofs.Clearing.{clear_counted, clear_well}
use Rattle.esc_rom.proofs.SettledWords.{Clears, clears_same, clears_then, clears_receives, seen_idle}

-- what holds of one datagram, of none and of two in a row, holds of any number
tries_closed : (order : Pdu) (R : SlaveHalf → SlaveHalf → Type 0) → ((half : SlaveHalf) → R half half) → ((a b c : SlaveHalf) → R a b → R b c → R a c)
    → ((a b : SlaveHalf) → Receives order a b → R a b) → (half later : SlaveHalf) → Tries order half later → R half later
tries_closed order R same then one half later never = same half
tries_closed order R same then one half later (again {mid} tried receives) = then half mid later (tries_closed order R same then one half mid tried) (one mid later receives)

received : (order : Pdu) (half later : SlaveHalf) → CountsDatagram order half later → Receives order half later
received order half later counts = record { rested = counts.rested; rests = counts.rests; is = counts.is }

module _ (slave : ℕ) (near : slave < 64) where
  access_tries : (value : ℕ) (half later : SlaveHalf) → Tries (access_order slave value) half later → OnlyRests half later
  access_tries value = tries_closed (access_order slave value) OnlyRests OnlyRests-same OnlyRests-then (λ half later. Receives-only (access_order slave value) half later (access_gentle slave value near))

  clear_tries : (half later : SlaveHalf) → Tries (clear_order slave) half later → Clears half later
  clear_tries = tries_closed (clear_order slave) Clears clears_same clears_then (clears_receives slave near)

  -- the byte that was insisted on is there
  pub access_is : (value : ℕ) (a b : Seen) (half later : SlaveHalf) → Insists (access_order slave value) a slave b true half later → OnlyRests half later × (access_byte later.registers ≡ value % 4)
  access_is value a b half later insists = (
    OnlyRests-then half insists.0 later (access_tries value half insists.0 insists.1)
        (Receives-only (access_order slave value) insists.0 later (access_gentle slave value near) (received (access_order slave value) insists.0 later insists.2)),
    ap (λ (h : SlaveHalf). access_byte h.registers) insists.2.is ∙ access_taken insists.2.rested slave value near insists.2.counted,
  )

  access_once : (value : ℕ) (half : SlaveHalf) → OnceRefused (access_order slave value) half → ¬ IsAt slave half
  access_once value half once at =
      access_refused once.refuses.rested slave value near once.refuses.refused
      (MayRest-station once.mid once.refuses.rested once.refuses.rests ∙ (access_tries value half once.mid once.tried).station ∙ at)

  clear_once : (half : SlaveHalf) → IsIdle half → OnceRefused (clear_order slave) half → ¬ IsAt slave half
  clear_once half idle once at =
      let clears = clear_tries half once.mid once.tried in
      let same = MayRest-idle once.mid once.refuses.rested (clears.idle idle) once.refuses.rests in
      clear_refused once.refuses.rested slave near (ap (λ (h : SlaveHalf). h.activity) same ∙ clears.idle idle) once.refuses.refused
      (MayRest-station once.mid once.refuses.rested once.refuses.rests ∙ clears.only.station ∙ at)

-- the datagram wasn't counted three times: three frames were lost, or the half is elsewhere
abbrev Fails : Pdu → (slave : ℕ) → Seen → Seen → SlaveHalf → Type 0
Fails order slave b c mid = (clock c ≡ clock b + 3) × AreUncounted order c slave (clock b) 3 × (AreLost c (clock b) 3 ⊎ (¬ IsAt slave mid))

given_up : (order : Pdu) (a b c : Seen) (slave : ℕ) (half mid later : SlaveHalf) → clock a ≤ clock b → OnlyRests half mid → HalfAt c slave (clock b) mid → IsNext a slave (clock b) order mid
    → OnlyRests mid later → Fails order slave b c mid → BecomesOpen a slave c false half later
given_up order a b c slave half mid later after only here next then fails = (
  OnlyRests-then half mid later only then,
  inr (record {
    order = order;
    from = clock b;
    after = after;
    next = record { half = mid; later = mid; first = here; last = here; goes = next };
    uncounted = fails.1;
    why = elim fails.2 [ inl lost ↦ inl lost | inr elsewhere ↦ inr (λ at. elsewhere (only.station ∙ at)) ];
    clock = fails.0;
  }),
)

access_fails : (a b c : Seen) (slave value : ℕ) (half mid later : SlaveHalf) → slave < 64 → clock a ≤ clock b → OnlyRests half mid → HalfAt c slave (clock b) mid → IsNext a slave (clock b) (access_order slave value) mid
    → Insists (access_order slave value) b slave c false mid later → BecomesOpen a slave c false half later
access_fails a b c slave value half mid later near after only here next insists =
    given_up (access_order slave value) a b c slave half mid later after only here next (access_tries slave near value mid later insists.0)
    (insists.1, insists.2, elim insists.3 [ inl lost ↦ inl lost | inr once ↦ inr (access_once slave near value mid once) ])

-- IN A ROW

-- ECAT access is forced, then it is no more, then the half is idle too
pub record HasAccess (value : ℕ) (half later : SlaveHalf) : Type 0 where
  pub only : OnlyRests half later
  pub access : access_byte later.registers ≡ value

pub record IsVacant (half later : SlaveHalf) : Type 0 where
  pub only : OnlyRests half later
  pub access : access_byte later.registers ≡ 0
  pub idle : IsIdle later

cleared : (a : Seen) (slave : ℕ) → slave < 64 → (d e : Seen) (said : Bool) (half mid later : SlaveHalf) → clock a ≤ clock d → IsVacant half mid → HalfAt e slave (clock d) mid × Insists (clear_order slave) d slave e said mid later
    → BecomesOpen a slave e said half later
cleared a slave near d e true half mid later after so insists =
    let tried = clear_tries slave near mid insists.1.0 insists.1.1 in
    let clears = clears_then mid insists.1.0 later tried (clears_receives slave near insists.1.0 later (received (clear_order slave) insists.1.0 later insists.1.2)) in
    let zero = clears.access so.access in
    (OnlyRests-then half mid later so.only clears.only, clear_well later zero (clear_counted slave near insists.1.0 later (tried.idle so.idle) insists.1.2), zero)
cleared a slave near d e false half mid later after so insists =
    given_up (clear_order slave) a d e slave half mid later after so.only insists.0 (inr (inr (refl, so.idle, so.access))) (clear_tries slave near mid later insists.1.0).only
    (insists.1.1, insists.1.2, elim insists.1.3 [ inl lost ↦ inl lost | inr once ↦ inr (clear_once slave near mid so.idle once) ])

module _ {a : Seen} {slave : ℕ} (near : slave < 64) where
  pub first_fails : {b : Seen} → Ran (Insists (access_order slave 2) a slave b false) a slave 3 b → Ran (BecomesOpen a slave b false) a slave 10009 b
  first_fails {b} ran = Ran-weaker (omega arith) (λ half later here there insists. access_fails a a b slave 2 half half later near (omega arith) (OnlyRests-same half) insists.0 (inl (refl, refl)) insists.1) (Ran-tied ran)

  pub forced : {b : Seen} → Ran (Insists (access_order slave 2) a slave b true) a slave 3 b → Ran (HasAccess 2) a slave 3 b
  forced {b} ran = Ran-weaker (omega arith) (λ half later here there insists. let so = access_is slave near 2 a b half later insists in record { only = so.0; access = so.1 }) ran

  pub second_fails : {b c : Seen} → Ran (HasAccess 2) a slave 3 b → Ran (Insists (access_order slave 0) b slave c false) b slave 3 c → Ran (BecomesOpen a slave c false) a slave 10009 c
  second_fails {b} {c} ran more =
      Ran-then (omega arith) (λ half mid later so insists. access_fails a b c slave 0 half mid later near (Follows-clock a b ran.quiet.follows) so.only insists.0 (inr (inl (refl, so.access))) insists.1) ran (Ran-tied more)

  pub freed : {b c : Seen} → Ran (HasAccess 2) a slave 3 b → Ran (Insists (access_order slave 0) b slave c true) b slave 3 c → Ran (HasAccess 0) a slave 6 c
  freed {b} {c} ran more =
      Ran-then (omega arith) (λ half mid later so insists. let then = access_is slave near 0 b c mid later insists in record { only = OnlyRests-then half mid later so.only then.0; access = then.1 }) ran more

  pub wait_fails : {c d : Seen} → Ran (HasAccess 0) a slave 6 c → Ran (Waited c slave d None) c slave 10000 d → Ran (BecomesOpen a slave d false) a slave 10009 d
  wait_fails {c} {d} ran more =
      Ran-then (omega arith) (λ half mid later so waited. (OnlyRests-then half mid later so.only (MayRest-only mid later waited.0), inl (NeverIdle-waited a c d slave (Follows-clock a c ran.quiet.follows) waited.1))) ran more

  pub vacant : {c d : Seen} (rested : Rested) → Ran (HasAccess 0) a slave 6 c → Ran (Waited c slave d (Some rested)) c slave 10000 d → Ran IsVacant a slave 10006 d
  vacant rested ran more =
      Ran-then (omega arith) (λ half mid later so waited. record {
        only = OnlyRests-then half mid later so.only (MayRest-only mid later waited.0);
        access = MayRest-access mid later waited.0 ∙ so.access;
        idle = seen_idle slave rested later waited.1;
      }) ran more

  pub opens : {d : Seen} (result : Result Bool Stop) (e : Seen) → Ran IsVacant a slave 10006 d → Performs (Insists (clear_order slave) d slave e) d slave 3 result e → Performs (BecomesOpen a slave e) a slave 10009 result e
  opens {d} (Ok said) e ran more = Ran-then (omega arith) (λ half mid later so insists. cleared a slave near d e said half mid later (Follows-clock a d ran.quiet.follows) so insists) ran (Ran-tied more)
  opens (Err stop) e ran cut = Ran-cut (omega arith) ran cut

-- THE ANSWERS

pub opens_ok : (old : Seen) (slave : ℕ) (new : Seen) → Ran (BecomesOpen old slave new true) old slave 10009 new → OpensSlave old slave (Ok tt) new
opens_ok old slave new ran =
    record { quiet = ran.quiet; opened = λ ok. ran.half; dead = λ was. absurd cc; stopped = (λ stop. absurd (ran.going stop), λ was. absurd cc); faults = tt }

pub opens_dead : (old : Seen) (slave : ℕ) (new : Seen) → Ran (BecomesOpen old slave new false) old slave 10009 new → OpensSlave old slave (Err (rom.SlaveDead slave)) new
opens_dead old slave new ran =
    record { quiet = ran.quiet; opened = λ was. absurd cc; dead = λ was. ran.half; stopped = (λ stop. absurd (ran.going stop), λ was. absurd cc); faults = inr refl }

pub opens_cut : (old : Seen) (slave : ℕ) (result : Result (Unit {0}) RomFault) (new : Seen) → result ≡ Err rom.Stopped → StopsQuietly old 10009 new → OpensSlave old slave result new
opens_cut old slave result new is cut = subst (λ (r : Result (Unit {0}) RomFault). OpensSlave old slave r new) (sym is)
    (record { quiet = cut.quiet; opened = λ was. absurd cc; dead = λ was. absurd cc; stopped = (λ stops. refl, λ was. cut.stopped); faults = inl refl })
