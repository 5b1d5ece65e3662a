use Rattle.std.proofs.Common.{List, sym, ◌∙◌, subst}
use Rattle.jrn_format.specs.declared.journal.Entry.{Entry}
use Rattle.book_model.specs.Entries.{runs_of, sizes_of}
use Rattle.book_parts.specs.Line.{AreOfLine}
use Rattle.book_parts.specs.Ledger.{appended}
use Rattle.book_core.proofs.InsideLaws.{entries-inside}
use Rattle.book_core.proofs.done.go_live.Goals as goal

pub join_older-requires-clause-inside : goal.join_older-requires-clause-inside
join_older-requires-clause-inside c =
    subst (λ (l : List Entry). AreOfLine c.args.work.now.slaves (runs_of l)) (sym (c.as_slice.ensures ∙ c.from_vec-entries.ensures ∙ c.go_durable.ensures.entries))
    (entries-inside c.args.work.now.slaves (sizes_of c.args.ledger.now.base) (appended c.args.ledger.now) c.requires.cells c.go_durable.ensures.within)

pub join_newer-requires-clause-inside : goal.join_newer-requires-clause-inside
join_newer-requires-clause-inside c =
    subst (λ (l : List Entry). AreOfLine c.args.work.now.slaves (runs_of l)) (sym (c.as_slice-in-InNewer.ensures ∙ c.from_vec-entries.ensures ∙ c.go_durable.ensures.entries))
    (entries-inside c.args.work.now.slaves (sizes_of c.args.ledger.now.base) (appended c.args.ledger.now) c.requires.cells c.go_durable.ensures.within)
