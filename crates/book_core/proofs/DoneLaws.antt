-- A step that succeeded leaves the book as `disk_done` says.
use Rattle.std.proofs.Common.{◌≡◌, ℕ, ◌+◌, false, List, length, sym, ◌∙◌, ap}
use Rattle.book_model.specs.Book.{Book, Slave}
use Rattle.book_model.specs.DiskSteps.{went_on, went_live}
use Rattle.book_parts.specs.declared.spot.Spot.{Spot}
use Rattle.book_parts.specs.Spot.{as_place}
use Rattle.book_parts.specs.Ledger.{appended, gone_durable}
use Rattle.book_core.specs.declared.step.Step.TheVariants.{Resting, OpenSync}
use Rattle.book_core.specs.declared.book.Core.TheInside.{Inside}
use Rattle.book_core.specs.Parts.{doing_of, book_of}
use Rattle.book_core.specs.Live.{joined, with_live}
use Rattle.book_core.proofs.LiveLaws.{joined-slaves}

pub book-live : (core : Inside) (spot : Spot) → core.step ≡ OpenSync spot → length (appended core.ledger) ≡ core.ledger.begun
    → book_of (record core { area = with_live (as_place spot) core.area (appended core.ledger); step = Resting; is_handed_out = false; ledger = gone_durable core.ledger; work = joined (as_place spot) core.work (appended core.ledger) })
    ≡ went_on (record (book_of core) { is_handed_out = false }) (doing_of (appended core.ledger) core.step)
book-live core spot is count =
    let entries = appended core.ledger in
    let before : Book = record (book_of core) { is_handed_out = false } in
    let after : Book = went_live before (as_place spot) entries in
    ap (λ (l : List Slave). record after { durable = core.ledger.durable + core.ledger.begun; slaves = l }) (joined-slaves (as_place spot) core.work entries)
    ∙ ap (λ (n : ℕ). record after { durable = core.ledger.durable + n }) (sym count)
    ∙ ap (λ s. went_on before (doing_of entries s)) (sym is)
