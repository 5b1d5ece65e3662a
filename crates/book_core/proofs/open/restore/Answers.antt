use Rattle.std.proofs.Common.{◌≡◌, ℕ, List, sym, subst}
use Rattle.std.specs.List.{AllByRecursion}
use Rattle.jrn_format.specs.Batch.{IsWithin}
use Rattle.book_model.specs.Entries.{sizes_of}
use Rattle.book_core.specs.Stands.{cell_counts}
use Rattle.book_core.proofs.OpenLaws.{opened-counts, is-taken}
use Rattle.book_core.proofs.open.restore.Goals as goal

pub take_up-requires-clause-within : goal.take_up-requires-clause-within
take_up-requires-clause-within c =
    let counts : cell_counts c.in_ok-work.work.slaves ≡ sizes_of c.args.words = opened-counts c.in_ok-work.work c.args.words c.in_ok-work.ensures.slaves in
    subst (λ (s : List ℕ). AllByRecursion (IsWithin s) c.args.batches.items) (sym counts) c.requires.within

pub returns-clause-work : goal.returns-clause-work
returns-clause-work c = is-taken c.args.words c.args.batches.items c.in_ok-work.work c.take_up.new.work c.in_ok-work.ensures.slaves c.in_ok-work.ensures.older c.in_ok-work.ensures.newer c.in_ok-take_up.ensures
