use Rattle.std.proofs.lemmas.Grind.{common_steps}
use Rattle.std.proofs.Common.{rules, arith, ◌≡◌, ◌∙◌, ℕ, List, Ok, sym, ap, subst}
use Rattle.std.proofs.lemmas.Result.{err_from_is_err_and}
use Rattle.sii_edit.specs.Command.{outcome}
use Rattle.sii_edit.specs.Refusal.{IsRefusalOf}
use Rattle.jrn_format.specs.declared.journal.Form.TheVariants.{Two}
use Rattle.book_model.specs.Book.{contents_of}
use Rattle.book_parts.specs.Change.{IsChangeOf}
use Rattle.book_core.proofs.LedgerLaws.{contents-is}
use Rattle.book_core.proofs.AnswerLaws.{Validates, validates-core, memory-answer, refused-answer, room-answer, number-answer}
use Rattle.book_core.proofs.book.Core.submit.Goals as goal

pub accept-requires-clause-change : goal.accept-requires-clause-change
accept-requires-clause-change c =
    subst (λ (p : List (List ℕ)). IsChangeOf p c.args.command.now c.in_ok-change.change) (contents-is c.self.inside c.self.invariant ∙ ap contents_of c.self.view_is) c.in_ok-change.ensures.change

pub returns-in_err-change-clause-answer : goal.returns-in_err-change-clause-answer
returns-in_err-change-clause-answer c =
    let core = c.self.inside in
    let two : core.area.form ≡ Two = first_of (search rules, grind (arith, common_steps)) in
    let validates = subst Validates c.self.view_is (validates-core core c.if-self.false (sym c.if-is_some.ensures) two) in
    let e = err_from_is_err_and c.from_residual.result c.from_residual.ensures.1 in
    let refused = subst (λ (p : List (List ℕ)). IsRefusalOf (outcome p c.args.command.now) c.in_err-change.field-0.0) (contents-is core c.self.invariant ∙ ap contents_of c.self.view_is) c.in_err-change.ensures.refused in
    refused-answer c.args.self.now c.args.command.now c.in_err-change.field-0.0 c.from_residual.result validates refused (cc (e.1, e.2))

pub returns-in_err-validate_room-clause-answer : goal.returns-in_err-validate_room-clause-answer
returns-in_err-validate_room-clause-answer c =
    let core = c.self.inside in
    let two : core.area.form ≡ Two = first_of (search rules, grind (arith, common_steps)) in
    let validates = subst Validates c.self.view_is (validates-core core c.if-self.false (sym c.if-is_some.ensures) two) in
    let is = subst (λ (p : List (List ℕ)). IsChangeOf p c.args.command.now c.in_ok-change.change) (contents-is core c.self.invariant ∙ ap contents_of c.self.view_is) c.in_ok-change.ensures.change in
    let e = err_from_is_err_and c.from_residual-in_err-validate_room.result c.from_residual-in_err-validate_room.ensures.1 in
    room-answer c.args.self.now c.args.command.now c.in_ok-change.change c.in_err-validate_room.field-0.0 c.from_residual-in_err-validate_room.result validates is (sym c.in_err-validate_room.ensures) (cc (e.1, e.2))

pub returns-in_err-number-clause-answer : goal.returns-in_err-number-clause-answer
returns-in_err-number-clause-answer c =
    let core = c.self.inside in
    let two : core.area.form ≡ Two = first_of (search rules, grind (arith, common_steps)) in
    let validates = subst Validates c.self.view_is (validates-core core c.if-self.false (sym c.if-is_some.ensures) two) in
    let e = err_from_is_err_and c.from_residual-in_err-number.result c.from_residual-in_err-number.ensures.1 in
    memory-answer c.args.self.now c.args.command.now e.0 c.from_residual-in_err-number.result validates e.2 e.1

pub returns-clause-answer : goal.returns-clause-answer
returns-clause-answer c =
    let core = c.self.inside in
    let two : core.area.form ≡ Two = first_of (search rules, grind (arith, common_steps)) in
    let validates = subst Validates c.self.view_is (validates-core core c.if-self.false (sym c.if-is_some.ensures) two) in
    let is = subst (λ (p : List (List ℕ)). IsChangeOf p c.args.command.now c.in_ok-change.change) (contents-is core c.self.invariant ∙ ap contents_of c.self.view_is) c.in_ok-change.ensures.change in
    number-answer c.args.self.now c.args.command.now c.in_ok-change.change (Ok c.in_ok-number.number) validates is (sym c.in_ok-validate_room.ensures) (ap (λ (n : ℕ). Ok n) c.in_ok-number.ensures.number)
