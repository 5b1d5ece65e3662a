use Rattle.kept_wire.proofs.Keeping.{cut_leaves_kept_on_wire}
use Rattle.kept_wire.proofs.laws.a_cut_leaves_kept_on_a_wire.Goals as goal

pub returns : goal.returns
returns g c = cut_leaves_kept_on_wire g.row.F.Denot g.row.S.Denot c.a_cut_of_the_journal.ensures c.a_cut_at_a_desk_is_kept.ensures
