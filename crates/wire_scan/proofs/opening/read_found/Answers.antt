use Rattle.std.proofs.Common.{◌≡◌, ℕ, length, map, subst, sym, refl, arith, rules}
use Rattle.wire_faults.specs.declared.faults.WireFault.{WireFault}
use Rattle.wire_faults.specs.declared.faults.WireFault.TheVariants.{Station}
use Rattle.wire_scan.specs.Keeping.{IsRefusal}
use Rattle.wire_scan.specs.Opening.{IsOfSlaves, RefusesRead}
use Rattle.wire_scan.proofs.Refusing.{handed_by, of_bytes, of_file, of_refusal, of_slaves}
use Rattle.wire_scan.proofs.opening.read_found.Goals as goal

pub returns-in_err-slaves-clause-refused : goal.returns-in_err-slaves-clause-refused
returns-in_err-slaves-clause-refused g c =
    let files = g.S.Store.files c.args.store.now in
    let fault = c.in_err-slaves.field-0.0 in
    let count : c.len.result ≡ length c.args.line.now.images.items = omega (arith, c.len.ensures, c.args.line.now.images.ok.0) in
    handed_by (RefusesRead files c.args.line.now c.args.asked.mends c.args.images.now) (λ given. given ≡ fault) c.from_residual.result
    (λ given is. of_slaves files c.args.line.now c.args.asked.mends c.args.images.now given (subst (IsOfSlaves (length c.args.line.now.images.items)) (sym is) (subst (λ (n : ℕ). IsOfSlaves n fault) count c.in_err-slaves.ensures.failed))) c.from_residual.ensures.1

pub returns-in_err-journal-clause-refused : goal.returns-in_err-journal-clause-refused
returns-in_err-journal-clause-refused g c =
    let files = g.S.Store.files c.args.store.now in
    let fault = c.in_err-journal.field-0.0 in
    handed_by (RefusesRead files c.args.line.now c.args.asked.mends c.args.images.now) (λ given. given ≡ Station fault) c.from_residual-in_err-journal.result
    (λ given is. of_file files files c.args.line.now c.args.asked.mends c.args.images.now _ fault given refl c.as_str.ensures.value c.in_err-journal.ensures.refused is) c.from_residual-in_err-journal.ensures.1

pub returns-in_err-live-clause-refused : goal.returns-in_err-live-clause-refused
returns-in_err-live-clause-refused g c =
    let files = g.S.Store.files c.args.store.now in
    let fault = c.in_err-live.field-0.0 in
    handed_by (RefusesRead files c.args.line.now c.args.asked.mends c.args.images.now) (λ given. given ≡ Station fault) c.from_residual-in_err-live.result
    (λ given is. of_bytes files c.args.line.now c.args.asked.mends c.args.images.now c.in_ok-slaves.slaves.items c.in_ok-journal.journal.items fault given (search rules) (omega (arith, c.in_ok-slaves.ensures.found, c.requires.most)) (rw c.as_str.ensures.value at c.in_ok-journal.ensures.bytes) (rw (c.deref.ensures.value, c.deref-2.ensures.value) at c.in_err-live.ensures.refused) is)
    c.from_residual-in_err-live.ensures.1

pub returns-in_err-kept-clause-refused : goal.returns-in_err-kept-clause-refused
returns-in_err-kept-clause-refused g c =
    let files = g.S.Store.files c.args.store.now in
    let fault = c.in_err-kept.field-0.0 in
    handed_by (RefusesRead files c.args.line.now c.args.asked.mends c.args.images.now) (λ given. given ≡ fault) c.from_residual-in_err-kept.result
    (λ given is. of_refusal files c.args.line.now c.args.asked.mends c.args.images.now c.in_ok-slaves.slaves.items c.in_ok-journal.journal.items c.in_ok-live.live given (search rules) (omega (arith, c.in_ok-slaves.ensures.found, c.requires.most)) (rw c.as_str.ensures.value at c.in_ok-journal.ensures.bytes) (rw (c.deref.ensures.value, c.deref-2.ensures.value) at c.in_ok-live.ensures.read)
    (subst (λ (f : WireFault). IsRefusal c.args.asked.mends c.in_ok-live.live.batches c.in_ok-slaves.slaves.items c.args.images.now f) (sym is) (rw (c.as_slice.ensures, c.deref-3.ensures.value) at c.in_err-kept.ensures.refused)))
    c.from_residual-in_err-kept.ensures.1
