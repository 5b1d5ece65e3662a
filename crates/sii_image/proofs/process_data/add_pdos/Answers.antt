use Rattle.std.specs.Prelude.{IsErr}
use Rattle.std.proofs.Common.{◌≡◌, ℕ, List, ◌+◌, length, refl, sym, subst, arith}
use Rattle.std.proofs.lemmas.Result.{err_from_is_err_and}
use Rattle.sii_cats.specs.Bytes.{bytes_of}
use Rattle.sii_cats.specs.Pdos.{in_place}
use Rattle.sii_cats.specs.steps.Items.Front.{Broken}
use Rattle.sii_cats.specs.steps.Pdos.{pdo_at, pdos_of}
use Rattle.sii_cats.proofs.Items.{breaks, is_done}
use Rattle.sii_cats.proofs.Refusals.{Refuses-weaker}
use Rattle.sii_image.proofs.Sums.{adds_more, adds_none}
use Rattle.sii_image.proofs.process_data.add_pdos.Goals as goal

pub returns-in_err-head-clause-exact : goal.returns-in_err-head-clause-exact
returns-in_err-head-clause-exact c =
    let p = err_from_is_err_and c.from_residual.result c.from_residual.ensures.1 in
    let rest : List ℕ = bytes_of c.loop-head.rest.now in
    let total = pdos_of c.args.content.now in
    let s = c.loop-head.invariant in
    rw (p.1, p.2) (Refuses-weaker c.args.kind c.in_err-head.field-0.0 (pdo_at rest ≡ Broken) (IsErr total)
    (λ h. subst IsErr (sym (breaks pdo_at s.read rest total h s.joined)) refl) c.in_err-head.ensures.exact)

pub overflow_add-sums : goal.overflow_add-sums
overflow_add-sums c =
    let entries : List ℕ = c.in-Some.entries.now in
    let size : 4 + length entries + length c.in-Some.after.now ≡ length c.loop-head.rest.now = rw c.in-Some.is at c.in_ok-head.ensures.size in
    let within = c.loop-head.invariant.most 262144 c.requires.room c.from-number.result c.if-number-sums.true in
    omega (arith, size, within, c.bits_of_entries.ensures.most, c.loop-head.invariant.left, c.requires.few)

pub loop-head-preserved-then-number-sums : goal.loop-head-preserved-then-number-sums
loop-head-preserved-then-number-sums c =
    let head = c.in-Some.head in
    let entries : List ℕ = c.in-Some.entries.now in
    adds_more c.args.content.now c.args.sums.now c.loop-head.sums _ c.loop-head.rest.now c.in-Some.after.now (in_place head entries) (length entries) c.loop-head.invariant
    (rw c.in-Some.is at c.in_ok-head.ensures.exact) (omega (arith, c.bits_of_entries.ensures.bits, c.bits_of_entries.ensures.most)) (rw c.in-Some.is at c.in_ok-head.ensures.size)
    (rw (c.from-number.ensures, c.bits_of_entries.ensures.bits) refl)

pub loop-head-preserved : goal.loop-head-preserved
loop-head-preserved c =
    let head = c.in-Some.head in
    let entries : List ℕ = c.in-Some.entries.now in
    let size : 4 + length entries + length c.in-Some.after.now ≡ length c.loop-head.rest.now = rw c.in-Some.is at c.in_ok-head.ensures.size in
    adds_none c.args.content.now c.args.sums.now c.loop-head.sums c.loop-head.rest.now c.in-Some.after.now (in_place head entries) c.loop-head.invariant
    (rw c.in-Some.is at c.in_ok-head.ensures.exact) (omega (arith, size)) (omega (arith, c.if-number-sums.false, c.from-number.ensures))

pub returns-clause-exact : goal.returns-clause-exact
returns-clause-exact c =
    let s = c.loop-head.invariant in
    (s.read, is_done pdo_at s.read (bytes_of c.loop-head.rest.now) (pdos_of c.args.content.now) (rw c.in_default.is at c.in_ok-head.ensures.exact) s.joined, s.sums_are)

pub returns-clause-most : goal.returns-clause-most
returns-clause-most c = λ most h n lt. omega (arith, c.loop-head.invariant.most most h n lt)
