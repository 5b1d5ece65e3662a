use Rattle.std.proofs.Common.{length, sym, ap, arith}
use Rattle.book_model.specs.Book.{Book, contents_of}
use Rattle.desk_book.proofs.CountLaws.{each-slave}
use Rattle.desk_book.proofs.served.Served.with_notes.Goals as goal

pub invariant_of-result : goal.invariant_of-result
invariant_of-result g c =
    let totals = c.open-ticket_book.ensures.totals in
    let opened = g.T.Tickets.opened in
    rw c.new.ensures (
      record { same = c.requires.core; answers = tt },
      record {
        accepted = omega (arith, totals.0, ap length c.requires.none);
        refused = omega (arith, totals.1);
        fit = omega (arith, totals.0);
        refused_fit = omega (arith, totals.1);
      },
      sym totals.1,
      record { of_disk = c.new-2.ensures; of_slaves = c.requires.notes; of_cycle = c.new-3.ensures },
      omega (arith, c.requires.count, ap (λ (b : Book). length (contents_of b)) c.requires.core, each-slave opened opened.accepted),
    )
