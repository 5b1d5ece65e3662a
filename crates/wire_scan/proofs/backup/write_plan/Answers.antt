use Rattle.std.proofs.Common.{Option, Some, None, String, Global, subst, inl, refl}
use Rattle.std.proofs.lemmas.Result.{on_ok_weaker}
use Rattle.wire_scan.specs.Backup.{IsPlanned}
use Rattle.wire_scan.proofs.Kept.{backed_up}
use Rattle.wire_scan.proofs.Writing.{distinct_images}
use Rattle.wire_scan.proofs.backup.write_plan.Goals as goal

pub write_images-requires-clause-distinct : goal.write_images-requires-clause-distinct
write_images-requires-clause-distinct g c κs lives = rw c.deref.ensures.value (distinct_images g.S.Store.leads c.args.plan.now.line c.args.name.now c.requires.separate)

pub returns-in-Some-clause-done : goal.returns-in-Some-clause-done
returns-in-Some-clause-done g c =
    let old = g.S.Store.files c.args.store.now in
    let line = c.args.plan.now.line in
    let P : Option (String Global) → Type 0 = λ text. IsPlanned old c.args.name.now line text in
    on_ok_weaker c.write_missing.result
    (λ written.
    backed_up g.S.Store.leads old (g.S.Store.files c.write_images.new.store) (g.S.Store.files c.write_missing.new.store) c.args.name.now line (Some c.in-Some.text) c.args.slaves.now
    c.requires.separate (subst P c.in-Some.is c.requires.planned) c.requires.journal (rw c.deref.ensures.value at c.write_images.ensures.others) (rw c.deref.ensures.value at c.in-Ok.ensures.written)
    c.write_missing.ensures.others (λ absent. written (inl absent)) tt)
    (rw c.as_bytes.ensures.value at c.write_missing.ensures.written)

pub returns-in-None-clause-done : goal.returns-in-None-clause-done
returns-in-None-clause-done g c =
    let old = g.S.Store.files c.args.store.now in
    let mid = g.S.Store.files c.write_images.new.store in
    let line = c.args.plan.now.line in
    let P : Option (String Global) → Type 0 = λ text. IsPlanned old c.args.name.now line text in
    backed_up g.S.Store.leads old mid mid c.args.name.now line None c.args.slaves.now
    c.requires.separate (subst P c.in-None.is c.requires.planned) c.requires.journal (rw c.deref.ensures.value at c.write_images.ensures.others) (rw c.deref.ensures.value at c.in-Ok.ensures.written)
    (λ other absent. refl) tt refl
