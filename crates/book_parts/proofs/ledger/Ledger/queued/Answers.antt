use Rattle.std.proofs.Common.{◌<◌, ◌^◌, subst}
use Rattle.jrn_format.specs.Halves.{entries_size}
use Rattle.book_parts.specs.Ledger.{Ledger, queued}
use Rattle.book_parts.specs.Stands.{ledger_of}
use Rattle.book_parts.proofs.OwnLaws.{queued-within}
use Rattle.book_parts.proofs.StandLaws.{queued-fits}
use Rattle.book_parts.proofs.ledger.Ledger.queued.Goals as goal

pub returns-clause-bytes : goal.returns-clause-bytes
returns-clause-bytes c =
    let l = c.self.inside in
    let ledger = ledger_of l.base.value l.accepted.items l.durable l.begun.items in
    subst (λ (x : Ledger). entries_size (queued x) < 2 ^ 48) c.self.view_is (queued-fits ledger l.contents l.layout l.begun.items l.queue.items l.begun_bytes l.queue_bytes c.self.invariant)

pub returns-clause-within : goal.returns-clause-within
returns-clause-within c = queued-within c.args.self.now
