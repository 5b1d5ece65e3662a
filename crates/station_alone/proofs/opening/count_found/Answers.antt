use Rattle.std.proofs.Common.{◌+◌, List, length, ◌∙◌, ap, arith}
use Rattle.std.proofs.lemmas.List.{take_all}
use Rattle.jrn_format.specs.declared.journal.Entry.{Entry}
use Rattle.jrn_format.specs.declared.journal.Batch.{Batch}
use Rattle.book_model.specs.Entries.{entries_of}
use Rattle.station_alone.proofs.OpenLaws.{count-more, count-within}
use Rattle.station_alone.proofs.opening.count_found.Goals as goal

pub overflow_add-commands : goal.overflow_add-commands
overflow_add-commands c =
    let k = c.loop-batch.batch-index in
    let batches = c.args.batches.now in
    let more = count-more batches k c.batch-item.result c.loop-batch-test.true in
    let few = count-within batches (k + 1) in
    let read = ap (λ (l : List Entry). length l) (c.as_slice.ensures ∙ ap (λ (b : Batch). b.entries) c.batch-item.is) in
    let so_far = c.loop-batch.invariant in
    omega (arith, more, few, read, so_far, c.requires)

pub loop-batch-preserved : goal.loop-batch-preserved
loop-batch-preserved c =
    let more = count-more c.args.batches.now c.loop-batch.batch-index c.batch-item.result c.loop-batch-test.true in
    let read = ap (λ (l : List Entry). length l) (c.as_slice.ensures ∙ ap (λ (b : Batch). b.entries) c.batch-item.is) in
    let so_far = c.loop-batch.invariant in
    omega (arith, more, read, so_far)

pub returns-clause-commands : goal.returns-clause-commands
returns-clause-commands c = c.loop-batch.invariant ∙ ap (λ (l : List Batch). length (entries_of l)) (take_all c.loop-batch.batch-index c.args.batches.now c.loop-batch-test.false)
