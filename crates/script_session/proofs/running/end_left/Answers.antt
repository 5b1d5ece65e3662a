use Rattle.std.proofs.Common.{◌≡◌, ◌∙◌, IsTrue, Ok, Result, inl, length, refl, subst, sym}
use Rattle.std.specs.Prelude.{IsSomeAnd, OnOk}
use Rattle.station_files.specs.declared.faults.Fault.{Fault}
use Rattle.script_session.specs.After.{LedOn, SavesRecovered}
use Rattle.script_session.specs.Running.{OfDevices}
use Rattle.script_session.proofs.RunLaws.{after_unsound, goes_after_desk, saves_left}
use Rattle.script_session.proofs.SavingLaws.{in_each}
use Rattle.script_session.proofs.SoundLaws.{on_ok}
use Rattle.script_session.proofs.running.end_left.Goals as goal

pub returns-in-Ok-clause-sound : goal.returns-in-Ok-clause-sound
returns-in-Ok-clause-sound g c =
    let left = c.args.left in
    let both = subst (λ (r : Result (Unit {0}) Fault). OnOk r ((left.ending.closed ≡ Ok tt) × (left.sound ≡ Ok tt))) c.in-Ok.is c.faults_of-closed.ensures.ready in
    in_each c.end_line-after.result.0.ended both.1

pub returns-in-Ok-clause-goes : goal.returns-in-Ok-clause-goes
returns-in-Ok-clause-goes g c closed =
    let left = c.args.left in
    let after = c.end_line-after in
    let both = subst (λ (r : Result (Unit {0}) Fault). OnOk r ((left.ending.closed ≡ Ok tt) × (left.sound ≡ Ok tt))) c.in-Ok.is c.faults_of-closed.ensures.ready in
    goes_after_desk g.D.Device.follows g.D.Device.well g.D.Lends.tells c.of_desk.result after.result.0.reported left.ending.is_driven left.sound
    left.unserved.items left.site.seen after.result.0.ended both.1 c.of_desk.ensures.after after.ensures.goes

pub returns-in-Ok-clause-saved : goal.returns-in-Ok-clause-saved
returns-in-Ok-clause-saved g c answered has =
    let after = c.end_line-after in
    saves_left (g.S.Store.files after.new.store) c.args.line.now c.args.left c.faults_of-closed.result.0 c.faults_of-closed.result.1 after.result.0.ended answered
    c.faults_of-closed.ensures.closed c.in-Ok.is has.closed after.ensures.saved has.ended

pub returns-in-Ok-clause-followed : goal.returns-in-Ok-clause-followed
returns-in-Ok-clause-followed g c =
    let follows = g.D.Device.follows in
    let well = g.D.Device.well in
    let tells = g.D.Lends.tells in
    let left = c.args.left in
    let after = c.end_line-after in
    let new = g.S.Store.files after.new.store in
    let slaves = length c.args.line.now.images.items in
    on_ok after.result.0.ended
    (λ (held : IsTrue left.ending.is_driven → SavesRecovered (LedOn follows well tells after.result.0.reported slaves after.result.1 left.site) new c.args.line.now left.site.seen) driven.
    subst (λ t. IsSomeAnd t (λ one. SavesRecovered (LedOn follows well tells one slaves after.result.1 left.site) new c.args.line.now left.site.seen)) (sym c.of_desk.ensures.after) (held driven))
    after.ensures.held

pub returns-in-Err-clause-failed : goal.returns-in-Err-clause-failed
returns-in-Err-clause-failed g c = inl refl

pub returns-in-Err-clause-goes : goal.returns-in-Err-clause-goes
returns-in-Err-clause-goes g c closed =
    let left = c.args.left in
    let of_devices = OfDevices g.D.Device.follows g.D.Device.well g.D.Lends.tells c.of_desk-in-Err.result in
    after_unsound of_devices left.ending.is_driven left.sound c.in-Err.fault left.unserved.items left.site.seen _
    (sym (c.faults_of-closed.ensures.sound closed) ∙ c.in-Err.is) refl

pub returns-in-Err-clause-saved : goal.returns-in-Err-clause-saved
returns-in-Err-clause-saved g c answered has = absurd has.ended
