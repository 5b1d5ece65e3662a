-- How many commands are settled: no more than are durable, and so no more than were accepted.
use Rattle.std.proofs.Common.{◌-◌, ◌≤◌, List, ◌++◌, length, take, subst, arith, length-append, length-take}
use Rattle.jrn_format.specs.declared.journal.Entry.{Entry}
use Rattle.book_model.specs.Book.{all_cells}
use Rattle.book_model.specs.Reading.{settled_prefix, applied}
use Rattle.book_parts.specs.Line.{LineState}
use Rattle.book_parts.specs.Ledger.{Ledger, own}
use Rattle.book_core.specs.declared.book.Core.TheInside.{Inside}
use Rattle.book_core.specs.Parts.{book_of}
use Rattle.book_core.specs.Stands.{Stands, applied_of}
use Rattle.book_core.proofs.AppliedLaws.{prefix-few}
use Rattle.book_core.proofs.LedgerLaws.{own-is}

pub applied-few : (found : List Entry) (ledger : Ledger) (work : LineState) → applied_of found ledger work ≤ ledger.durable
applied-few found ledger work =
    let live = take ledger.durable (own ledger) in
    omega (arith, prefix-few (all_cells work.slaves) (found ++ live), length-append found live, length-take ledger.durable (own ledger))

pub applied-accepted : (core : Inside) → Stands core → applied (book_of core) ≤ length core.ledger.accepted
applied-accepted core stands =
    subst (λ (l : List Entry). settled_prefix (all_cells core.work.slaves) (core.found ++ take core.ledger.durable l) - length core.found ≤ length core.ledger.accepted) (own-is core stands)
    (omega (arith, applied-few core.found core.ledger core.work, stands.durable))
