use Rattle.book_parts.proofs.StandLaws.{stands-opened}
use Rattle.book_parts.proofs.ledger.Ledger.open.Goals as goal

pub invariant_of-result : goal.invariant_of-result
invariant_of-result c =
    rw (c.of-2.ensures, c.new.ensures.items, c.new-2.ensures.items, c.new-3.ensures.items, c.in_ok-layout.ensures) (stands-opened c.args.contents c.look_at_sizes.ensures)
