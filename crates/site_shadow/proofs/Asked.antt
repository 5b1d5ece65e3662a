-- What a device keeps of a shadow through a call that asks it, where it changes nothing that it keeps.
use Rattle.std.proofs.Common.{Result, [], Option, Some, None, IsErrOf, IsTrue, refl, sym, ap, subst, ◌≡◌}
use Rattle.site_core.specs.declared.fault.DeviceFault.{DeviceFault}
use Rattle.site_core.specs.declared.fault.DeviceFault.TheVariants as faults
use Rattle.site_core.specs.State.{State, Seen}
use Rattle.site_shadow.specs.declared.device.Passing.{Passing}
use Rattle.site_shadow.specs.declared.device.Passing.TheVariants.{Passes, Fails, Stops}
use Rattle.site_shadow.specs.declared.pattern.Pattern.{Pattern}
use Rattle.site_shadow.specs.Stopping.{noted}
use Rattle.site_shadow.specs.Following.{GoesOn, Keeps, AskKeeps, ExchangeKeeps, TakenKeeps}
use Rattle.site_shadow.proofs.Keeping.{GoesOn-by, GoesOn-quiet}

-- A device keeps this while nothing changes that it holds.
abbrev pub StaysSo : {D : Type 0} → (D → Seen → Type 0) → Type 0
StaysSo {D} follows = (device : D) (old new : Seen) → GoesOn old new → (¬ IsTrue new.is_stopped → new.state.halves ≡ old.state.halves)
    → follows device old → follows device new

module _ {D : Type 0} (follows : D → Seen → Type 0) (stays : StaysSo follows) (before after : D) (keeps : Keeps follows before after) where
  pub ask_keeps : (passing : Passing) → AskKeeps follows before passing after
  ask_keeps passing old new given running call same reported followed =
      stays after old new (GoesOn-by old new [] given call same)
      (λ going. ap (λ (s : State). s.halves)
      (same (λ e. going (call.stopped.1 (subst (λ (r : Result (Unit {0}) DeviceFault). IsErrOf r faults.Stopped) (sym e) refl)))))
      (keeps old followed)

  pub exchange_keeps : (passing : Passing) → ExchangeKeeps follows before passing after
  exchange_keeps Passes = λ old running followed. stays after old (noted old [] old.state) (GoesOn-quiet old) (λ going. refl) (keeps old followed)
  exchange_keeps Fails = ask_keeps Fails
  exchange_keeps (Stops pattern) = ask_keeps (Stops pattern)

  pub taken_keeps : (torn : Option Pattern) → TakenKeeps follows before torn after
  taken_keeps None = keeps
  taken_keeps (Some pattern) = λ seen followed new goes over. stays after seen new goes (λ going. absurd (going over)) (keeps seen followed)
