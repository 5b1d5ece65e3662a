use Rattle.std.proofs.Common.{ℕ, List, sym, ap, ◌∙◌, subst}
use Rattle.std.specs.Int.{w32}
use Rattle.jrn_format.specs.Header.{field_at}
use Rattle.jrn_format.specs.Live.{CanBeLive}
use Rattle.jrn_format.proofs.OpenLaws.{journal-can-be-live}
use Rattle.book_model.specs.Entries.{sizes_of}
use Rattle.book_tests.proofs.line.open.Goals as goal

pub open-requires-clause-live : goal.open-requires-clause-live
open-requires-clause-live c =
    let file = c.args.file.now in
    let journal = c.in_ok-journal.journal in
    let are_sizes = c.deref-2.ensures.value ∙ c.in_ok-sizes.ensures ∙ ap (λ (plant : List (List ℕ)). sizes_of plant) c.deref.ensures.value in
    subst (λ (capacity : ℕ). CanBeLive journal.form capacity (sizes_of c.args.slaves.items) journal.batches) (sym c.capacity.ensures)
    (subst (λ (sizes : List ℕ). CanBeLive journal.form (field_at w32 4 file) sizes journal.batches) are_sizes
    (journal-can-be-live file c.deref-2.result.now journal c.in_ok-journal.ensures.found))
