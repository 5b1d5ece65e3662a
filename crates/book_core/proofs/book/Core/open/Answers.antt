use Rattle.std.proofs.Common.{◌≡◌, ◌∙◌, ℕ, List, sym, ap, subst}
use Rattle.sii_words.specs.Redo.{redone}
use Rattle.jrn_format.specs.declared.journal.Batch.{Batch}
use Rattle.jrn_format.specs.Halves.{live}
use Rattle.jrn_format.specs.Live.{halves_in}
use Rattle.book_model.specs.Entries.{entries_of, live_runs}
use Rattle.book_parts.specs.Room.{Room}
use Rattle.book_parts.specs.Ledger.{opened}
use Rattle.book_parts.specs.Shown.{Shown}
use Rattle.book_core.specs.OpenedState.{IsTaken}
use Rattle.book_core.proofs.OpenLaws.{form-live, opened-stands}
use Rattle.book_core.proofs.book.Core.open.Goals as goal

pub found_in-requires-clause-halves : goal.found_in-requires-clause-halves
found_in-requires-clause-halves c =
    subst (λ (b : List Batch). live (halves_in b) ≡ b) (sym c.into_vec.ensures) (form-live c.args.journal.form c.args.capacity c.args.journal.batches c.requires.live.fit)

pub invariant_of-result : goal.invariant_of-result
invariant_of-result c =
    let form = c.args.journal.form in
    let capacity = c.args.capacity in
    let batches = c.args.journal.batches in
    let words = c.of-words.result.value in
    let plant = c.of-plant.result in
    let same : words ≡ plant = c.of-words.ensures in
    let all = c.in_ok-entries.field-0 in
    let found : all.entries ≡ entries_of batches = c.in_ok-entries.ensures.entries ∙ ap entries_of c.into_vec.ensures in
    let contents : redone plant (live_runs c.into_vec.result.items) ≡ redone words (live_runs batches) =
    ap (λ (b : List Batch). redone plant (live_runs b)) c.into_vec.ensures ∙ ap (λ (p : List (List ℕ)). redone p (live_runs batches)) (sym same) in
    let taken : IsTaken words batches all.work =
    subst (λ (b : List Batch). IsTaken words b all.work) c.into_vec.ensures (subst (λ (p : List (List ℕ)). IsTaken p c.into_vec.result.items all.work) (sym same) c.in_ok-entries.ensures.work) in
    let area : c.open-area.result ≡ record { form = form; capacity = capacity; halves = halves_in batches } =
    c.open-area.ensures ∙ ap (λ (b : List Batch). let r : Room = record { form = form; capacity = capacity; halves = halves_in b } in r) c.as_slice.ensures in
    let ledger = c.in_ok-entries.ensures.ledger ∙ ap opened contents in
    let shown = c.in_ok-entries.ensures.shown ∙ ap (λ (p : List (List ℕ)). let s : Shown = record { contents = p; count = 0 } in s) contents in
    opened-stands words form capacity batches all.entries c.open-area.result all.ledger all.work all.shown (form-live form capacity batches c.requires.live.fit) taken found area ledger shown
