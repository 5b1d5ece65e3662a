use Rattle.std.specs.Prelude.{IsErr}
use Rattle.std.proofs.Common.{◌≡◌, ◌++◌, ◌∷◌, [], List, ℕ, sym, subst, refl, arith}
use Rattle.std.proofs.lemmas.List.{map_push}
use Rattle.std.proofs.lemmas.Result.{err_from_is_err_and}
use Rattle.sii_cats.specs.Bytes.{bytes_of}
use Rattle.sii_cats.specs.Pdos.{ArePdos, Mapping, view, views}
use Rattle.sii_cats.specs.steps.Pdos.{pdo_at}
use Rattle.sii_cats.specs.steps.Items.{items_of}
use Rattle.sii_cats.specs.steps.Items.Front.{Broken}
use Rattle.sii_cats.proofs.Items.{goes_on, is_done, breaks}
use Rattle.sii_cats.proofs.Fields.{pdo_shrinks, pdos_are, pdos_again}
use Rattle.sii_cats.proofs.Refusals.{Refuses-weaker, not_both}
use Rattle.sii_cats.proofs.WordBytes.{IsBytes-bytes_of}
use Rattle.sii_cats.proofs.mappings.pdos.Goals as goal

pub returns-in_err-pdo-clause-exact : goal.returns-in_err-pdo-clause-exact
returns-in_err-pdo-clause-exact c =
    let p = err_from_is_err_and c.from_residual.result c.from_residual.ensures.1 in
    let rest : List ℕ = bytes_of c.loop-pdos.rest.now in
    let total = items_of pdo_at (bytes_of c.args.words.now) in
    rw (p.1, p.2) (Refuses-weaker c.args.kind c.in_err-pdo.field-0.0 (pdo_at rest ≡ Broken) (IsErr total)
    (λ h. subst IsErr (sym (breaks pdo_at (views c.loop-pdos.pdos.items) rest total h c.loop-pdos.invariant)) refl) c.in_err-pdo.ensures)

pub returns-in_err-pdo-clause-grammar : goal.returns-in_err-pdo-clause-grammar
returns-in_err-pdo-clause-grammar c =
    let p = err_from_is_err_and c.from_residual.result c.from_residual.ensures.1 in
    let rest : List ℕ = bytes_of c.loop-pdos.rest.now in
    let bytes : List ℕ = bytes_of c.args.words.now in
    let total = items_of pdo_at bytes in
    rw (p.1, p.2) (Refuses-weaker c.args.kind c.in_err-pdo.field-0.0 (pdo_at rest ≡ Broken) ((ps : List Mapping) → ArePdos bytes ps → ⊥)
    (λ h ps s. not_both total ps (subst IsErr (sym (breaks pdo_at (views c.loop-pdos.pdos.items) rest total h c.loop-pdos.invariant)) refl) (pdos_again bytes ps s))
    c.in_err-pdo.ensures)

pub loop-pdos-smaller : goal.loop-pdos-smaller
loop-pdos-smaller c = pdo_shrinks.shorter (bytes_of c.loop-pdos.rest.now) (view c.in-Some.pdo) (bytes_of c.in-Some.after.now) (rw c.in-Some.is at c.in_ok-pdo.ensures)

pub loop-pdos-preserved : goal.loop-pdos-preserved
loop-pdos-preserved c =
    let pdo = c.in-Some.pdo in
    let e : views c.push.new.self.items ≡ views c.loop-pdos.pdos.items ++ view pdo ∷ [] = rw c.in_ok-push.ensures.items (map_push _ c.loop-pdos.pdos.items pdo) in
    rw e (goes_on pdo_at pdo_shrinks (views c.loop-pdos.pdos.items) (bytes_of c.loop-pdos.rest.now) (view pdo) (bytes_of c.in-Some.after.now)
    (items_of pdo_at (bytes_of c.args.words.now)) (rw c.in-Some.is at c.in_ok-pdo.ensures) c.loop-pdos.invariant)

pub returns-clause-exact : goal.returns-clause-exact
returns-clause-exact c =
    is_done pdo_at (views c.loop-pdos.pdos.items) (bytes_of c.loop-pdos.rest.now) (items_of pdo_at (bytes_of c.args.words.now)) (rw c.in_default.is at c.in_ok-pdo.ensures)
    c.loop-pdos.invariant

pub returns-clause-grammar : goal.returns-clause-grammar
returns-clause-grammar c =
    let bytes : List ℕ = bytes_of c.args.words.now in
    pdos_are bytes (views c.loop-pdos.pdos.items) (IsBytes-bytes_of c.args.words.now (λ i. omega (arith, c.type_inv.words i)))
    (is_done pdo_at (views c.loop-pdos.pdos.items) (bytes_of c.loop-pdos.rest.now) (items_of pdo_at bytes) (rw c.in_default.is at c.in_ok-pdo.ensures) c.loop-pdos.invariant)
