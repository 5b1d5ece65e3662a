use Rattle.std.proofs.Common.{arith, subst, ap, length, ◌∙◌, ◌++◌, ℕ, List}
use Rattle.std.proofs.lemmas.List.{take_all}
use Rattle.std.specs.Int.{w16, to_le_bytes}
use Rattle.std.specs.List.{flat_map}
use Rattle.jrn_format.specs.declared.journal.Entry.{Entry}
use Rattle.std.proofs.lemmas.List.Elements.{All-more}
use Rattle.jrn_format.specs.Batch.{EntryFits, spelt_entry}
use Rattle.jrn_format.proofs.Fitting.{payload_fits, spelt_after, spelt_more}
use Rattle.jrn_format.proofs.writing.payload.Goals as goal

pub loop-entry-preserved : goal.loop-entry-preserved
loop-entry-preserved c = record {
  spelt = spelt_more spelt_entry _ c.loop-entry.bytes.items c.put_entry.new.out.items c.args.entries.now c.loop-entry.entry-index c.entry-item.result c.entry-item.result (omega arith) c.entry-item.is c.loop-entry.invariant.spelt c.in_ok-put_entry.ensures.spelt;
  fit = All-more EntryFits c.args.entries.now c.loop-entry.entry-index c.entry-item.result (omega arith) c.loop-entry.invariant.fit (subst EntryFits c.entry-item.is c.in_ok-put_entry.ensures.fits);
}

pub returns-clause-fit : goal.returns-clause-fit
returns-clause-fit c = payload_fits c.args.entries.now c.loop-entry.entry-index c.requires (omega arith) c.loop-entry.invariant.fit

pub returns-clause-spelt : goal.returns-clause-spelt
returns-clause-spelt c =
    let entries = c.args.entries.now in
    let count = to_le_bytes w16 (length entries) in
    let last = c.loop-entry.invariant.spelt
    ∙ ap (λ (es : List Entry). c.put_u16.new.out.items ++ flat_map spelt_entry es) (take_all c.loop-entry.entry-index entries (omega (arith, c.loop-entry-test.false))) in
    spelt_after c.new-bytes.result.items count (flat_map spelt_entry entries) c.in_ok-put_u16.ensures last
    ∙ ap (λ (front : List ℕ). front ++ (count ++ flat_map spelt_entry entries)) c.new-bytes.ensures.items
