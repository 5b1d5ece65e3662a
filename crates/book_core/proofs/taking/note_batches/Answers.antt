use Rattle.std.proofs.Common.{◌≡◌, ◌∙◌, List, ◌++◌, get_or, take, sym, ap, subst, ℕ, append_assoc}
use Rattle.std.specs.List.{AllByRecursion}
use Rattle.std.proofs.lemmas.List.{append-nil}
use Rattle.sii_words.specs.Redo.{redone}
use Rattle.sii_words.proofs.RedoLaws.{redone-nil}
use Rattle.jrn_format.specs.declared.journal.Entry.{Entry}
use Rattle.jrn_format.specs.declared.journal.Batch.{Batch}
use Rattle.jrn_format.specs.Batch.{LieWithin, IsWithin}
use Rattle.book_model.specs.Entries.{runs_of, entries_of, live_runs, sizes_of}
use Rattle.book_core.proofs.InsideLaws.{sizes-redone}
use Rattle.book_core.proofs.FoundLaws.{all-at, entries-more, redone-batch}
use Rattle.book_core.proofs.taking.note_batches.Goals as goal

pub loop-batch-init : goal.loop-batch-init
loop-batch-init c = record { noted = sym (append-nil c.args.found.now); redone_so_far = sym (redone-nil c.args.contents.now) }

pub note_entries-requires : goal.note_entries-requires
note_entries-requires c =
    let plant = c.args.contents.now in
    let batches = c.args.batches.now in
    let k = c.loop-batch.batch-index in
    let b = c.batch-item.result in
    let within : IsWithin (sizes_of plant) b = subst (IsWithin (sizes_of plant)) (sym c.batch-item.is) (all-at (IsWithin (sizes_of plant)) batches k b c.requires c.loop-batch-test.true) in
    let same : sizes_of c.loop-batch.contents ≡ sizes_of plant = ap sizes_of c.loop-batch.invariant.redone_so_far ∙ sizes-redone plant (live_runs (take k batches)) in
    subst (AllByRecursion (LieWithin (sizes_of c.loop-batch.contents))) (sym c.as_slice.ensures)
    (subst (λ (s : List ℕ). AllByRecursion (LieWithin s) b.entries) (sym same) within)

pub loop-batch-preserved : goal.loop-batch-preserved
loop-batch-preserved c =
    let plant = c.args.contents.now in
    let found = c.args.found.now in
    let batches = c.args.batches.now in
    let k = c.loop-batch.batch-index in
    let b = c.batch-item.result in
    let s = c.as_slice.result.now in
    let read : s ≡ (get_or batches k b).entries = c.as_slice.ensures ∙ ap (λ (x : Batch). x.entries) c.batch-item.is in
    record {
      noted = c.note_entries.ensures.found ∙ ap (λ (l : List Entry). l ++ s) c.loop-batch.invariant.noted ∙ append_assoc found (entries_of (take k batches)) s
          ∙ ap (λ (l : List Entry). found ++ l) (ap (λ (l : List Entry). entries_of (take k batches) ++ l) read ∙ sym (entries-more batches k b c.loop-batch-test.true));
      redone_so_far = c.note_entries.ensures.contents ∙ ap (λ (l : List Entry). redone c.loop-batch.contents (runs_of l)) read
          ∙ ap (λ (p : List (List ℕ)). redone p (runs_of (get_or batches k b).entries)) c.loop-batch.invariant.redone_so_far ∙ redone-batch plant batches k b c.loop-batch-test.true;
    }
