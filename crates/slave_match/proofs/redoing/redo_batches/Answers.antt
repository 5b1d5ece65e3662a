use Rattle.std.proofs.Common.{◌≡◌, ◌∙◌, List, get_or, take, sym, ap, subst, ℕ}
use Rattle.std.specs.List.{AllByRecursion}
use Rattle.sii_words.specs.Redo.{redone}
use Rattle.sii_words.proofs.RedoLaws.{redone-nil}
use Rattle.jrn_format.specs.declared.journal.Entry.{Entry}
use Rattle.jrn_format.specs.declared.journal.Batch.{Batch}
use Rattle.jrn_format.specs.Batch.{LieWithin, IsWithin}
use Rattle.book_model.specs.Entries.{runs_of, live_runs, sizes_of}
use Rattle.book_core.proofs.InsideLaws.{sizes-redone}
use Rattle.book_core.proofs.FoundLaws.{all-at, redone-batch}
use Rattle.slave_match.proofs.redoing.redo_batches.Goals as goal

pub loop-batch-init : goal.loop-batch-init
loop-batch-init c = sym (redone-nil c.args.contents.now)

pub redo_entries-requires : goal.redo_entries-requires
redo_entries-requires c =
    let plant = c.args.contents.now in
    let batches = c.args.batches.now in
    let k = c.loop-batch.batch-index in
    let b = c.batch-item.result in
    let within : IsWithin (sizes_of plant) b = subst (IsWithin (sizes_of plant)) (sym c.batch-item.is) (all-at (IsWithin (sizes_of plant)) batches k b c.requires c.loop-batch-test.true) in
    let same : sizes_of c.loop-batch.contents ≡ sizes_of plant = ap sizes_of c.loop-batch.invariant ∙ sizes-redone plant (live_runs (take k batches)) in
    subst (AllByRecursion (LieWithin (sizes_of c.loop-batch.contents))) (sym c.as_slice.ensures)
    (subst (λ (s : List ℕ). AllByRecursion (LieWithin s) b.entries) (sym same) within)

pub loop-batch-preserved : goal.loop-batch-preserved
loop-batch-preserved c =
    let plant = c.args.contents.now in
    let batches = c.args.batches.now in
    let k = c.loop-batch.batch-index in
    let b = c.batch-item.result in
    let s = c.as_slice.result.now in
    let read : s ≡ (get_or batches k b).entries = c.as_slice.ensures ∙ ap (λ (x : Batch). x.entries) c.batch-item.is in
    c.redo_entries.ensures ∙ ap (λ (l : List Entry). redone c.loop-batch.contents (runs_of l)) read
    ∙ ap (λ (p : List (List ℕ)). redone p (runs_of (get_or batches k b).entries)) c.loop-batch.invariant ∙ redone-batch plant batches k b c.loop-batch-test.true
