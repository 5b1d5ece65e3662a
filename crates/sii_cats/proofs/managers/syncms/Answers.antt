use Rattle.std.proofs.Common.{List, ℕ, arith}
use Rattle.sii_cats.specs.Bytes.{bytes_of}
use Rattle.sii_cats.specs.steps.Contents.{manager_at}
use Rattle.sii_cats.specs.steps.Items.{items_of}
use Rattle.sii_cats.proofs.Items.{goes_on, is_done}
use Rattle.sii_cats.proofs.Fields.{manager_shrinks, managers_are}
use Rattle.sii_cats.proofs.WordBytes.{IsBytes-bytes_of}
use Rattle.sii_cats.proofs.managers.syncms.Goals as goal

pub loop-manager-smaller : goal.loop-manager-smaller
loop-manager-smaller c = manager_shrinks.shorter (bytes_of c.loop-manager.rest.now) c.in-Some.manager (bytes_of c.in-Some.after.now) c.in-Some.ensures

pub loop-manager-preserved : goal.loop-manager-preserved
loop-manager-preserved c = rw c.in_ok-push.ensures.items
    (goes_on manager_at manager_shrinks c.loop-manager.managers.items (bytes_of c.loop-manager.rest.now) c.in-Some.manager (bytes_of c.in-Some.after.now)
    (items_of manager_at (bytes_of c.args.words.now)) c.in-Some.ensures c.loop-manager.invariant)

pub returns-clause-exact : goal.returns-clause-exact
returns-clause-exact c =
    is_done manager_at c.loop-manager.managers.items (bytes_of c.loop-manager.rest.now) (items_of manager_at (bytes_of c.args.words.now)) c.in_default.ensures c.loop-manager.invariant

pub returns-clause-grammar : goal.returns-clause-grammar
returns-clause-grammar c =
    let bytes : List ℕ = bytes_of c.args.words.now in
    managers_are bytes c.loop-manager.managers.items (IsBytes-bytes_of c.args.words.now (λ i. omega (arith, c.type_inv.words i)))
    (is_done manager_at c.loop-manager.managers.items (bytes_of c.loop-manager.rest.now) (items_of manager_at bytes) c.in_default.ensures c.loop-manager.invariant)
