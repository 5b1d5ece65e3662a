use Rattle.std.proofs.Common.{◌∙◌, List, take, sym, ap, subst, ℕ}
use Rattle.std.specs.List.{All}
use Rattle.sii_words.specs.Redo.{redone, LiesInside}
use Rattle.sii_words.proofs.RedoLaws.{redone-nil}
use Rattle.jrn_format.specs.declared.journal.Entry.{Entry}
use Rattle.jrn_format.specs.Batch.{LieWithin}
use Rattle.book_model.specs.Entries.{runs_of, sizes_of}
use Rattle.book_core.proofs.FoundLaws.{all-at, entry-lies, redone-more}
use Rattle.slave_match.proofs.redoing.redo_entries.Goals as goal

pub loop-entry-init : goal.loop-entry-init
loop-entry-init c = sym (redone-nil c.args.contents.now)

pub redo-requires : goal.redo-requires
redo-requires c =
    let plant = c.args.contents.now in
    let entries = c.args.entries.now in
    let k = c.loop-entry.entry-index in
    let e = c.entry-item.result in
    let within : LieWithin (sizes_of plant) e = subst (LieWithin (sizes_of plant)) (sym c.entry-item.is) (all-at (LieWithin (sizes_of plant)) entries k e c.requires c.loop-entry-test.true) in
    subst (All (LiesInside c.loop-entry.contents)) (sym c.as_slice.ensures)
    (subst (λ (p : List (List ℕ)). All (LiesInside p) e.runs) (sym c.loop-entry.invariant) (entry-lies plant (runs_of (take k entries)) e within))

pub loop-entry-preserved : goal.loop-entry-preserved
loop-entry-preserved c =
    let plant = c.args.contents.now in
    let entries = c.args.entries.now in
    let k = c.loop-entry.entry-index in
    let e = c.entry-item.result in
    c.redo.ensures ∙ ap (redone c.loop-entry.contents) c.as_slice.ensures ∙ ap (λ (p : List (List ℕ)). redone p e.runs) c.loop-entry.invariant
    ∙ ap (λ (x : Entry). redone (redone plant (runs_of (take k entries))) x.runs) c.entry-item.is ∙ redone-more plant entries k e c.loop-entry-test.true
