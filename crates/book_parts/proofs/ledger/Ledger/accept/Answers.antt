use Rattle.std.proofs.Common.{◌≡◌, ◌∙◌, ◌<◌, ◌++◌, ◌∷◌, [], length, ap, sym, subst, arith}
use Rattle.book_model.specs.declared.refusal.TheConstants.{QUEUE}
use Rattle.book_parts.specs.Change.{IsChangeOf}
use Rattle.book_parts.specs.Ledger.{Ledger, contents_of, queued}
use Rattle.book_parts.specs.Stands.{ledger_of}
use Rattle.book_parts.proofs.ChangeLaws.{counted, size-fits}
use Rattle.book_parts.proofs.StandLaws.{stands-accepted, queue-fits, queued-push, entry_of}
use Rattle.book_parts.proofs.ledger.Ledger.accept.Goals as goal

pub overflow_add-self : goal.overflow_add-self
overflow_add-self c =
    let l = c.self.inside in
    let ledger = ledger_of l.base.value l.accepted.items l.durable l.begun.items in
    omega
    (arith, queue-fits ledger l.contents l.layout l.begun.items l.queue.items l.begun_bytes l.queue_bytes c.self.invariant, c.from.ensures, c.entry_bytes-bytes.ensures, size-fits c.args.change.runs.items c.requires.count c.requires.change.short)

pub invariant_of-self-2 : goal.invariant_of-self-2
invariant_of-self-2 c =
    let l = c.self.inside in
    let ledger = ledger_of l.base.value l.accepted.items l.durable l.begun.items in
    let command = c.args.command.now in
    let change = c.args.change in
    let is = subst (λ (x : Ledger). IsChangeOf (contents_of x) command change) (sym c.self.view_is) c.requires.change in
    let room = subst (λ (x : Ledger). length (queued x) < QUEUE) (sym c.self.view_is) c.requires.room in
    let number : c.len-number.result ≡ length l.accepted.items = omega (arith, c.len-number.ensures, l.accepted.ok.0) in
    rw (c.in_ok-push.ensures.items, c.in_ok-copy.ensures, c.redo.ensures, c.deref.ensures.value, c.put_all.ensures, c.push_reserved.ensures.items, c.in_ok-reserve.ensures.items, c.from_vec.ensures, number, c.from.ensures, c.entry_bytes-bytes.ensures)
    (stands-accepted ledger l.contents l.layout l.begun.items l.queue.items l.begun_bytes l.queue_bytes command change c.self.invariant is (counted change.runs.items c.requires.count c.requires.change.short) room)

pub returns-clause-entry : goal.returns-clause-entry
returns-clause-entry c =
    let l = c.self.inside in
    let ledger = ledger_of l.base.value l.accepted.items l.durable l.begun.items in
    let command = c.args.command.now in
    let change = c.args.change in
    let is = subst (λ (x : Ledger). IsChangeOf (contents_of x) command change) (sym c.self.view_is) c.requires.change in
    rw (c.in_ok-push.ensures.items, c.in_ok-copy.ensures)
    (queued-push ledger command change c.self.invariant.entries.few is ∙ ap (λ (x : Ledger). queued x ++ entry_of x change ∷ []) c.self.view_is)
