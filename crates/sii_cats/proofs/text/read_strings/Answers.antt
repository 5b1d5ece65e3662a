use Rattle.std.specs.Prelude.{IsErr}
use Rattle.std.proofs.Common.{◌≡◌, ◌++◌, ◌∷◌, []}
use Rattle.std.proofs.lemmas.List.{map_push}
use Rattle.std.proofs.lemmas.Result.{err_from_is_err_and}
use Rattle.sii_cats.specs.Strings.{texts}
use Rattle.sii_cats.specs.steps.Strings.{string_at}
use Rattle.sii_cats.specs.steps.Items.{counted}
use Rattle.sii_cats.proofs.Items.{counts_on, counts_out, count_breaks}
use Rattle.sii_cats.proofs.Refusals.{Refuses-weaker}
use Rattle.sii_cats.proofs.text.read_strings.Goals as goal

pub returns-in_err-string : goal.returns-in_err-string
returns-in_err-string c =
    let p = err_from_is_err_and c.from_residual.result c.from_residual.ensures.1 in
    let total = counted string_at c.args.count c.args.bytes.now in
    rw (p.1, p.2) (Refuses-weaker 10 c.in_err-string.field-0.0 (IsErr (string_at c.loop.rest.now)) (IsErr total)
    (λ h. count_breaks string_at (texts c.loop.strings.items) c.args.count c.loop.counter c.loop.rest.now total c.loop-test.true h c.loop.invariant) c.in_err-string.ensures)

pub loop-preserved : goal.loop-preserved
loop-preserved c =
    let string = c.in_ok-string.string in
    let e : texts c.push.new.self.items ≡ texts c.loop.strings.items ++ string.items ∷ [] = rw c.in_ok-push.ensures.items (map_push _ c.loop.strings.items string) in
    rw e (counts_on string_at (texts c.loop.strings.items) c.args.count c.loop.counter c.loop.rest.now string.items c.in_ok-string.after.now (counted string_at c.args.count c.args.bytes.now) c.loop-test.true c.in_ok-string.ensures c.loop.invariant)

pub returns : goal.returns
returns c = counts_out string_at (texts c.loop.strings.items) c.args.count c.loop.counter c.loop.rest.now (counted string_at c.args.count c.args.bytes.now) c.loop-test.false c.loop.invariant
