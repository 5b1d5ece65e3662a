use Rattle.std.proofs.Common.{◌+◌, ◌≤◌, ◌/◌, List, length, ap, sym, subst, ◌∙◌}
use Rattle.std.specs.Prelude.{All}
use Rattle.std.specs.Int.{w32}
use Rattle.jrn_format.specs.declared.journal.Batch.{Batch}
use Rattle.jrn_format.specs.declared.journal.Spelling.TheVariants.{Plain, WithGeneration}
use Rattle.jrn_format.specs.Header.{field_at}
use Rattle.jrn_release.specs.Without.{of_half, over, placed, CanBeSpelt}
use Rattle.jrn_release.proofs.Placed.{can_be_spelt, one_fits, one_released, first_fits, second_fits, two_released}
use Rattle.jrn_release.proofs.release.without_slave.Goals as goal

pub area_without-requires-clause-fits : goal.area_without-requires-clause-fits
area_without-requires-clause-fits c =
    subst (λ (bs : List Batch). 8 + length (over c.args.slave Plain (of_half 0 bs)) ≤ length c.args.file.now) (sym c.as_slice-batches.ensures)
    (one_fits c.args.slave c.args.file.now c.args.sizes.now c.in_ok-journal.journal c.in_ok-journal.ensures.found c.in-One.is)

pub returns-in-One : goal.returns-in-One
returns-in-One c =
    one_released c.args.slave c.args.file.now c.args.sizes.now c.in_ok-journal.journal c.in_ok-journal.ensures.found c.in_ok-bytes-in-One.bytes.items c.in-One.is
    (c.in_ok-bytes-in-One.ensures ∙ ap (λ (bs : List Batch). placed 8 (over c.args.slave Plain (of_half 0 bs)) c.args.file.now) c.as_slice-batches.ensures)

pub halves_without-requires-clause-each : goal.halves_without-requires-clause-each
halves_without-requires-clause-each c =
    subst (All CanBeSpelt) (sym c.as_slice-batches.ensures) (can_be_spelt c.args.file.now c.args.sizes.now c.in_ok-journal.journal c.in_ok-journal.ensures.found)

pub halves_without-requires-clause-first : goal.halves_without-requires-clause-first
halves_without-requires-clause-first c =
    subst (λ (bs : List Batch). 8 + length (over c.args.slave WithGeneration (of_half 0 bs)) ≤ length c.args.file.now) (sym c.as_slice-batches.ensures)
    (first_fits c.args.slave c.args.file.now c.args.sizes.now c.in_ok-journal.journal c.in_ok-journal.ensures.found c.in-Two.is)

pub halves_without-requires-clause-second : goal.halves_without-requires-clause-second
halves_without-requires-clause-second c =
    subst (λ (bs : List Batch). 8 + field_at w32 4 c.args.file.now / 2 + length (over c.args.slave WithGeneration (of_half 1 bs)) ≤ length c.args.file.now) (sym c.as_slice-batches.ensures)
    (second_fits c.args.slave c.args.file.now c.args.sizes.now c.in_ok-journal.journal c.in_ok-journal.ensures.found c.in-Two.is)

pub returns-in-Two : goal.returns-in-Two
returns-in-Two c =
    two_released c.args.slave c.args.file.now c.args.sizes.now c.in_ok-journal.journal c.in_ok-journal.ensures.found c.in_ok-bytes-in-Two.bytes.items c.in-Two.is
    (c.in_ok-bytes-in-Two.ensures
    ∙ ap (λ (bs : List Batch). placed (8 + field_at w32 4 c.args.file.now / 2) (over c.args.slave WithGeneration (of_half 1 bs)) (placed 8 (over c.args.slave WithGeneration (of_half 0 bs)) c.args.file.now))
    c.as_slice-batches.ensures)
