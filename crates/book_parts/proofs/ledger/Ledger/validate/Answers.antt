use Rattle.std.proofs.Common.{◌≤◌, ◌∙◌, ℕ, List, length, ap, sym, subst}
use Rattle.std.specs.Prelude.{IfOk}
use Rattle.sii_words.specs.Plant.{words_of}
use Rattle.book_parts.specs.Change.{IsChangeOf}
use Rattle.book_parts.specs.Ledger.{contents_of}
use Rattle.book_parts.proofs.ChangeLaws.{validated-is, few-after}
use Rattle.book_parts.proofs.ledger.Ledger.validate.Goals as goal

pub returns-clause-change : goal.returns-clause-change
returns-clause-change c =
    let plant = c.self.inside.contents in
    let stands = c.self.invariant in
    let few = subst (λ (p : List (List ℕ)). (slave : ℕ) → length (words_of p slave) ≤ 4096) (sym stands.contents.is_contents) (few-after c.self.inside.base.value c.self.inside.accepted.items stands.counts.words) in
    let made = c.changes.ensures in
    subst (λ (p : List (List ℕ)). IfOk c.changes.result (IsChangeOf p c.args.command.now)) (stands.contents.is_contents ∙ ap contents_of c.self.view_is)
    (validated-is plant c.args.command.now c.changes.result few made.accepted made.runs made.inside made.layouts)
