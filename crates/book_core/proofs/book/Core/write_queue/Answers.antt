use Rattle.std.proofs.Common.{◌≡◌, ◌∙◌, [], List, Some, refl, sym, ap, subst}
use Rattle.jrn_format.specs.declared.journal.Entry.{Entry}
use Rattle.jrn_format.specs.Batch.{PayloadFits}
use Rattle.jrn_format.specs.Halves.{place_of}
use Rattle.book_model.specs.Entries.{sizes_of, runs_of}
use Rattle.book_model.specs.Book.{Book}
use Rattle.book_model.specs.Book as book
use Rattle.book_model.specs.DiskSteps.{doing_next}
use Rattle.book_parts.specs.Line.{HasRoom}
use Rattle.book_parts.specs.Room.{half_room}
use Rattle.book_parts.specs.Spot.{as_place}
use Rattle.book_parts.specs.Ledger.{appended, queued}
use Rattle.book_core.specs.declared.step.Step.TheVariants.{Resting}
use Rattle.book_core.specs.Parts.{book_of, next_entries}
use Rattle.book_core.proofs.InsideLaws.{entries-inside, sizes-redone}
use Rattle.book_core.proofs.LedgerLaws.{queued-is}
use Rattle.book_core.proofs.BegunLaws.{place-begun, same-step}
use Rattle.book_core.proofs.AppendLaws.{append-stands}
use Rattle.book_core.proofs.book.Core.write_queue.Goals as goal

pub reserve-requires : goal.reserve-requires
reserve-requires c =
    let core = c.self.inside in
    let sizes = ap sizes_of c.self.invariant.base ∙ sizes-redone core.words.value (runs_of core.found) in
    rw c.queued.ensures.entries (record { inside = entries-inside core.work.slaves (sizes_of core.ledger.base) (queued core.ledger) (c.self.invariant.cells ∙ sym sizes) c.queued.ensures.within })

pub invariant_of-self-2 : goal.invariant_of-self-2
invariant_of-self-2 c =
    let core = c.self.inside in
    let resting = ap (λ (b : Book). b.doing) c.self.view_is ∙ c.requires.resting in
    let two = ap (λ (b : Book). b.form) c.self.view_is ∙ c.requires.next.version_2 refl in
    let next = subst (λ (b : Book). book.Payload (as_place c.args.spot) (next_entries b) ≡ doing_next b b.doing) (sym c.self.view_is) c.requires.next.doing in
    let place = place-begun (book_of core) (as_place c.args.spot) (next_entries (book_of core)) resting next in
    rw c.begin.ensures
    (append-stands core c.args.spot c.reserve.new.self (sym (same-step (appended core.ledger) [] core.step Resting resting)) two
    (subst (λ (l : List Entry). place_of (half_room core.area) core.area.halves l ≡ Some (as_place c.args.spot)) (sym (queued-is core c.self.invariant)) place)
    (subst PayloadFits c.queued-2.ensures.entries c.in_ok-bytes.ensures.fits)
    (subst (λ (l : List Entry). HasRoom c.reserve.new.self (runs_of l)) c.queued.ensures.entries c.in_ok-reserve.ensures.room)
    c.reserve.ensures.kept c.self.invariant)
