-- What goes out over a line for a datagram, or for a frame of several.
use Rattle.std.proofs.Common.{◌≡◌, ℕ, Bool, true, false, List, Option, Some, None, is_some, length, refl, subst, ◌∙◌, arith}
use Rattle.ecat_frame.specs.Frame.{Pdu}
use Rattle.wire_frames.specs.Came.{CameOver, Reaches}
use Rattle.wire_frames.specs.Out.{GoesOut, GoesTo, GoesAlone, LooksAround, numbered}
use Rattle.wire_frames.specs.declared.numbered.Carried.{Carried}
use Rattle.site_wire.specs.Joining.{ReportedAt, is_missing, is_there}
use Rattle.site_wire.specs.Reaching.{is_back, is_silent, PassesAll, is_all_back, is_all_silent, PassesOn}
use Rattle.site_wire.specs.declared.answers.Answer.{Answer}
use Rattle.site_wire.specs.declared.faults.StopReason.TheVariants as reason
use Rattle.site_wire.specs.declared.reach.LiveLine.{LiveLine}

-- there is none
pub none_of : {A : Type 0} (o : Option A) → is_some o ≡ false → o ≡ None
none_of None is = refl
none_of (Some a) is = absurd cc

module _ {W : Type 0} (Gives Takes : List ℕ → Type 0) (old new : LiveLine W) (stays : new.wire.stations ≡ old.wire.stations) where
  -- the datagram came back
  pub passes_back : (asked : Pdu) (address : ℕ) (frame : List Pdu) (again : Bool) (answer : Option Answer) → is_some old.reason ≡ false
      → Reaches old.wire.stations.by_slave asked address → GoesTo Takes asked address old.wire.out new.wire.out true → CameOver Gives frame
      → length frame ≡ 2 → ReportedAt asked address 0 frame again answer → new.reason ≡ old.reason → PassesOn Gives Takes old new asked answer
  passes_back asked address frame again answer runs reaches goes came two (is_missing short none) same = absurd (omega (arith, two, short))
  passes_back asked address frame again answer runs reaches goes came two (is_there reported found at reported_is _ is) same = record {
    passes = is_back reported address frame found (none_of old.reason runs) reaches goes came at reported_is is (same ∙ none_of old.reason runs);
    stations = stays;
  }

  -- it didn't
  pub passes_lost : (asked : Pdu) (mid : List (List Pdu)) (slave : ℕ) (answer : Option Answer) → is_some old.reason ≡ false
      → GoesAlone Takes old.wire.stations.by_slave asked old.wire.out mid false
      → LooksAround Takes old.wire.stations.by_slave slave mid new.wire.out → answer ≡ None → new.reason ≡ Some reason.Silent
      → PassesOn Gives Takes old new asked answer
  passes_lost asked mid slave answer runs goes looks none silent = record {
    passes = is_silent mid slave (none_of old.reason runs) goes looks none silent;
    stations = stays;
  }

-- the same of a frame of several
module _ {W : Type 0} (Gives Takes : List ℕ → Type 0) (old new : LiveLine W) where
  pub all_back : (frame : List Pdu) (number : ℕ) (reported : Carried) (carried : Option Carried) (b : Bool) → is_some old.reason ≡ false → b ≡ true
      → GoesOut Takes (numbered frame number) old.wire.out new.wire.out b → CameOver Gives reported.frame → carried ≡ Some reported
      → new.reason ≡ old.reason → PassesAll Gives Takes old new frame carried
  all_back frame number reported carried b runs is out came some same =
      is_all_back reported number (none_of old.reason runs) (subst (GoesOut Takes (numbered frame number) old.wire.out new.wire.out) is out) came some
      (same ∙ none_of old.reason runs)

  pub all_lost : (frame : List Pdu) (number : ℕ) (mid : List (List Pdu)) (slave : ℕ) (carried : Option Carried) (b : Bool) → is_some old.reason ≡ false
      → b ≡ false → GoesOut Takes (numbered frame number) old.wire.out mid b → LooksAround Takes old.wire.stations.by_slave slave mid new.wire.out
      → carried ≡ None → new.reason ≡ Some reason.Silent → PassesAll Gives Takes old new frame carried
  all_lost frame number mid slave carried b runs is out looks none silent =
      is_all_silent mid slave number (none_of old.reason runs) (subst (GoesOut Takes (numbered frame number) old.wire.out mid) is out) looks none silent
