use Rattle.std.proofs.Common.{ℕ, sym, subst, length}
use Rattle.jrn_format.specs.declared.journal.Entry.{Entry}
use Rattle.book_parts.specs.Works.{AreOfSlaves, Counted}
use Rattle.book_parts.proofs.RoomLaws.{of-slaves-entry, counted-entry}
use Rattle.book_parts.proofs.reserving.count_entries.Goals as goal

pub count_entry-requires : goal.count_entry-requires
count_entry-requires c =
    let slaves = length c.args.counts.now in
    let e = c.entry-item.result in
    subst (λ (n : ℕ). AreOfSlaves n e.runs) (sym c.loop-entry.invariant.same)
    (subst (λ (x : Entry). AreOfSlaves slaves x.runs) (sym c.entry-item.is) (of-slaves-entry slaves c.args.entries.now c.loop-entry.entry-index e c.requires c.loop-entry-test.true))

pub loop-entry-preserved : goal.loop-entry-preserved
loop-entry-preserved c =
    let old = c.args.counts.now in
    let now = c.loop-entry.counts in
    let j = c.loop-entry.entry-index in
    let e = c.entry-item.result in
    counted-entry old now c.count_entry.new.counts c.args.entries.now j e c.loop-entry-test.true c.loop-entry.invariant
    (subst (λ (x : Entry). Counted now c.count_entry.new.counts x.runs) c.entry-item.is c.in_ok-count_entry.ensures)
