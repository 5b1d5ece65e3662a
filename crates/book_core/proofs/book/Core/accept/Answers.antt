use Rattle.std.proofs.Common.{◌∙◌, ◌<◌, ℕ, List, length, sym, ap, subst}
use Rattle.book_model.specs.declared.refusal.TheConstants.{QUEUE}
use Rattle.book_model.specs.Book.{Book}
use Rattle.book_model.specs.Submit.{with_command}
use Rattle.book_model.specs.Book as book
use Rattle.jrn_format.specs.declared.journal.Entry.{Entry}
use Rattle.book_parts.specs.Change.{IsChangeOf}
use Rattle.book_core.proofs.LedgerLaws.{contents-is, queued-is}
use Rattle.book_core.proofs.SubmitLaws.{few-runs, few-queued}
use Rattle.book_core.proofs.AcceptLaws.{accepted-stands, accepted-book}
use Rattle.book_core.proofs.book.Core.accept.Goals as goal

pub accept-requires-clause-change : goal.accept-requires-clause-change
accept-requires-clause-change c =
    let change = c.args.change in
    subst (λ (p : List (List ℕ)). IsChangeOf p c.args.command.now change) (sym (contents-is c.self.inside c.self.invariant ∙ ap book.contents_of c.self.view_is)) c.requires.change

pub accept-requires-clause-count : goal.accept-requires-clause-count
accept-requires-clause-count c = few-runs c.args.self.now c.args.change.runs.items c.requires.room

pub accept-requires-clause-room : goal.accept-requires-clause-room
accept-requires-clause-room c =
    subst (λ (l : List Entry). length l < QUEUE) (sym (queued-is c.self.inside c.self.invariant ∙ ap book.queued c.self.view_is)) (few-queued c.args.self.now c.args.change.runs.items c.requires.room)

pub invariant_of-self-2 : goal.invariant_of-self-2
invariant_of-self-2 c =
    let core = c.self.inside in
    rw c.in_ok-number.ensures.accepted (accepted-stands core c.args.command.now (ap (λ (b : Book). b.form) c.self.view_is ∙ c.requires.form) c.self.invariant)

pub returns-clause-accepted : goal.returns-clause-accepted
returns-clause-accepted c =
    let core = c.self.inside in
    rw c.in_ok-number.ensures.accepted (accepted-book core c.args.command.now c.self.invariant ∙ ap (λ (b : Book). with_command b c.args.command.now) c.self.view_is)
