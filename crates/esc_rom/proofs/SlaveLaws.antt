-- One slave is opened and read.
use Rattle.std.proofs.Common.{◌≡◌, ℕ, List, Result, Ok, Err, IsErrAnd, IsTrue, refl, ap, subst, inl, inr, arith}
use Rattle.esc_model.proofs.OnlyResting.{OnlyRests-then}
use Rattle.site_core.specs.State.{Seen}
use Rattle.site_core.proofs.Times.{Follows-same}
use Rattle.esc_rom.specs.declared.fault.RomFault.{RomFault}
use Rattle.esc_rom.specs.declared.fault.RomFault.TheVariants as rom
use Rattle.esc_rom.specs.Access.{OpensSlave, ReadsWords}
use Rattle.esc_rom.proofs.States.{HalfGoes-then}
use Rattle.esc_rom.proofs.Runs.{Quiet-then, Quiet-more}
use Rattle.esc_rom.specs.Reading.{ReadsSlave}

-- the fault that is handed on
pub handed_on : {T : Type 0} (result : Result T RomFault) (fault : RomFault) → IsErrAnd result (λ other. other ≡ fault) → result ≡ Err fault
handed_on (Ok value) fault is = absurd is
handed_on (Err other) fault is = ap Err is

module _ (slave size : ℕ) (a b c : Seen) where
  -- it isn't opened
  pub unopened : (fault : RomFault) → OpensSlave a slave (Err fault) b → ReadsSlave slave size a (Err fault) b
  unopened rom.Memory opens = absurd (elim opens.faults [ inl was ↦ absurd cc | inr was ↦ absurd cc ])
  unopened rom.Stopped opens = record { quiet = Quiet-more (omega arith) opens.quiet; was_read = tt; read = tt; faults = tt; stopped = (λ stops. refl, λ was. opens.stopped.1 refl) }
  unopened (rom.SlaveDead dead) opens =
      let same : dead ≡ slave = elim opens.faults [ inl was ↦ absurd cc | inr was ↦ let e = was in cc ] in
      record {
        quiet = Quiet-more (omega arith) opens.quiet;
        was_read = tt;
        read = tt;
        faults = (same, inl (subst (λ (d : ℕ). OpensSlave a slave (Err (rom.SlaveDead d)) b) same opens));
        stopped = (λ stops. let was = opens.stopped.0 stops in absurd cc, λ was. absurd cc);
      }

  -- it is opened, and then read or not
  pub read_after : (result : Result (List ℕ) RomFault) → OpensSlave a slave (Ok tt) b → ReadsWords b slave size result c → ReadsSlave slave size a result c
  read_after (Ok words) opens reads = record {
    quiet = Quiet-then (omega arith) opens.quiet reads.quiet;
    was_read = record { before = a; follows = Follows-same a; opened = b; opens = opens; words = words; read = c; reads = reads; after = Follows-same c };
    read = HalfGoes-then (λ half mid later opened read. (OnlyRests-then half mid later opened.0 read.0, read.1, read.2)) (opens.opened refl) (reads.read words refl);
    faults = tt;
    stopped = (λ stops. elim (reads.going stops) [ inl was ↦ absurd cc | inr was ↦ absurd cc ], λ was. absurd cc);
  }
  read_after (Err rom.Stopped) opens reads =
      record { quiet = Quiet-then (omega arith) opens.quiet reads.quiet; was_read = tt; read = tt; faults = tt; stopped = (λ stops. refl, λ was. reads.stopped refl) }
  read_after (Err rom.Memory) opens reads = record {
    quiet = Quiet-then (omega arith) opens.quiet reads.quiet;
    was_read = tt;
    read = tt;
    faults = tt;
    stopped = (λ stops. let was = opens.stopped.0 (subst (λ (s : Seen). IsTrue s.is_stopped) (reads.memory refl) stops) in absurd cc, λ was. absurd cc);
  }
  read_after (Err (rom.SlaveDead dead)) opens reads =
      let same : dead ≡ slave = elim reads.faults [ inl was ↦ absurd cc | inr other ↦ elim other [ inl was ↦ absurd cc | inr was ↦ let e = was in cc ] ] in
      record {
        quiet = Quiet-then (omega arith) opens.quiet reads.quiet;
        was_read = tt;
        read = tt;
        faults = (same, inr (b, opens, subst (λ (d : ℕ). ReadsWords b slave size (Err (rom.SlaveDead d)) c) same reads));
        stopped = (λ stops. elim (reads.going stops) [ inl was ↦ absurd cc | inr was ↦ absurd cc ], λ was. absurd cc);
      }
