use Rattle.std.proofs.Common.{false, sym, ◌∙◌, ap, subst}
use Rattle.book_model.specs.Entries.{runs_of, sizes_of}
use Rattle.book_model.specs.Book.{Book}
use Rattle.book_model.specs.DiskSteps.{went_on}
use Rattle.book_parts.specs.Spot.{as_place}
use Rattle.book_core.specs.declared.step.Step.{Step}
use Rattle.book_core.specs.Stands.{StepStands, IsAppending, IsRetiring, IsMigrating}
use Rattle.book_core.proofs.InsideLaws.{sizes-redone}
use Rattle.book_core.proofs.OrderLaws.{order-next}
use Rattle.book_core.proofs.LedgerLaws.{length-appended}
use Rattle.book_core.proofs.LiveLaws.{none-newer, live-stands, retired-stands, migrated-stands}
use Rattle.book_core.proofs.DoneLaws.{book-live}
use Rattle.book_core.proofs.book.Core.go_on.Goals as goal

pub go_live-requires-clause-cells : goal.go_live-requires-clause-cells
go_live-requires-clause-cells c =
    let core = c.self.inside in
    c.self.invariant.cells ∙ sym (ap sizes_of c.self.invariant.base ∙ sizes-redone core.words.value (runs_of core.found))

pub go_live-requires-clause-alone : goal.go_live-requires-clause-alone
go_live-requires-clause-alone c = λ is.
    let core = c.self.inside in
    let appending : IsAppending (as_place c.in-OpenSync.spot) core.area core.ledger core.work = subst (λ (s : Step). StepStands s core.area core.ledger core.work) c.in-OpenSync.is c.self.invariant.doing in
    none-newer core.area.halves core.work c.self.invariant.live (appending.in_older is)

pub go_live-requires-clause-order : goal.go_live-requires-clause-order
go_live-requires-clause-order c = order-next c.self.inside.found c.self.inside.ledger c.self.inside.work c.self.invariant.latest

pub invariant_of-self : goal.invariant_of-self
invariant_of-self c =
    let core = c.self.inside in
    let appending : IsAppending (as_place c.in-OpenSync.spot) core.area core.ledger core.work = subst (λ (s : Step). StepStands s core.area core.ledger core.work) c.in-OpenSync.is c.self.invariant.doing in
    rw (c.go_live.ensures.area, c.go_live.ensures.ledger, c.go_live.ensures.work)
    (live-stands core.words.value core.found core.area core.step core.ledger core.work core.shown core.fault (as_place c.in-OpenSync.spot)
    (λ is. none-newer core.area.halves core.work c.self.invariant.live (appending.in_older is)) c.self.invariant)

pub invariant_of-self-in-CloseSync : goal.invariant_of-self-in-CloseSync
invariant_of-self-in-CloseSync c =
    let core = c.self.inside in
    let retiring : IsRetiring core.ledger core.work = subst (λ (s : Step). StepStands s core.area core.ledger core.work) c.in-CloseSync.is c.self.invariant.doing in
    rw (c.retire-in-CloseSync.ensures, c.retire.ensures)
    (retired-stands core.words.value core.found core.area core.step core.ledger core.work core.shown core.fault retiring.no_append retiring.settled c.self.invariant)

pub invariant_of-self-in-VersionSync : goal.invariant_of-self-in-VersionSync
invariant_of-self-in-VersionSync c =
    let core = c.self.inside in
    let migrating : IsMigrating core.area core.ledger = subst (λ (s : Step). StepStands s core.area core.ledger core.work) c.in-VersionSync.is c.self.invariant.doing in
    rw c.become_version_2.ensures
    (migrated-stands core.words.value core.found core.area core.step core.ledger core.work core.shown core.fault migrating.no_append c.self.invariant)

pub returns-in-OpenSync : goal.returns-in-OpenSync
returns-in-OpenSync c =
    let core = c.self.inside in
    rw (c.go_live.ensures.area, c.go_live.ensures.ledger, c.go_live.ensures.work)
    (book-live core c.in-OpenSync.spot c.in-OpenSync.is (length-appended core.ledger c.self.invariant.durable)
    ∙ ap (λ (b : Book). went_on (record b { is_handed_out = false }) b.doing) c.self.view_is)
