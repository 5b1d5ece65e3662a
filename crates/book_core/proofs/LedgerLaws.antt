-- The book's own entries are the ledger's.
use Rattle.std.proofs.Common.{◌≡◌, ◌∙◌, ℕ, ◌+◌, ◌≤◌, List, length, take, drop, sym, ap, arith, length-take-le, length-drop, Some, None}
use Rattle.jrn_format.specs.declared.journal.Entry.{Entry}
use Rattle.jrn_format.specs.Halves.{Place}
use Rattle.book_model.specs.Book.{Book, being_appended}
use Rattle.book_model.specs.Book as book
use Rattle.book_model.proofs.CommandLaws.{length-entries}
use Rattle.book_parts.specs.Line.{LineState}
use Rattle.book_parts.specs.Room.{Room}
use Rattle.book_parts.specs.Ledger.{Ledger, contents_of, own, appended, queued}
use Rattle.book_core.specs.declared.step.Step.{Step}
use Rattle.book_core.specs.declared.step.Step.TheVariants.{Resting, Payload, PayloadSync, OpenGate, OpenSync, CloseGate, CloseSync, FarGate, Mark, MarkSync, Version, VersionSync}
use Rattle.book_core.specs.Parts.{doing_of, book_of}
use Rattle.book_core.specs.Appending.{AppendsNext}
use Rattle.book_core.specs.Stands.{StepStands, Stands}
use Rattle.book_core.specs.declared.book.Core.TheInside.{Inside}

pub contents-is : (core : Inside) → Stands core → contents_of core.ledger ≡ book.contents_of (book_of core)
contents-is core stands = ap (λ (base : List (List ℕ)). contents_of (record core.ledger { base = base })) stands.base

pub own-is : (core : Inside) → Stands core → own core.ledger ≡ book.own (book_of core)
own-is core stands = ap (λ (base : List (List ℕ)). own (record core.ledger { base = base })) stands.base

-- ---- how many are being appended

pub length-appended : (ledger : Ledger) → ledger.durable + ledger.begun ≤ length ledger.accepted → length (appended ledger) ≡ ledger.begun
length-appended ledger few =
    length-take-le ledger.begun (drop ledger.durable (own ledger)) (omega (arith, few, length-drop ledger.durable (own ledger), length-entries 0 ledger.base ledger.accepted))

being-appended : (step : Step) (area : Room) (ledger : Ledger) (work : LineState) → StepStands step area ledger work → length (appended ledger) ≡ ledger.begun
    → length (being_appended (book.appended (doing_of (appended ledger) step))) ≡ ledger.begun
being-appended Resting area ledger work stands is = sym stands
being-appended (Payload spot) area ledger work stands is = is
being-appended (PayloadSync spot) area ledger work stands is = is
being-appended (OpenGate spot) area ledger work stands is = is
being-appended (OpenSync spot) area ledger work stands is = is
being-appended CloseGate area ledger work stands is = sym stands.no_append
being-appended CloseSync area ledger work stands is = sym stands.no_append
being-appended FarGate area ledger work stands is = sym stands.no_append
being-appended Mark area ledger work stands is = sym stands.no_append
being-appended MarkSync area ledger work stands is = sym stands.no_append
being-appended Version area ledger work stands is = sym stands.no_append
being-appended VersionSync area ledger work stands is = sym stands.no_append

-- what waits in the ledger waits in the book
pub queued-is : (core : Inside) → Stands core → queued core.ledger ≡ book.queued (book_of core)
queued-is core stands =
    ap (λ (l : List Entry). drop (core.ledger.durable + core.ledger.begun) l) (own-is core stands)
    ∙ ap (λ (n : ℕ). drop (core.ledger.durable + n) (book.own (book_of core))) (sym (being-appended core.step core.area core.ledger core.work stands.doing (length-appended core.ledger stands.durable)))

-- ---- what is being appended

none-some : {A : Type 0} (x : A) (P : Type 0) → None ≡ Some x → P
none-some x P is = absurd cc

entries-are : (ledger : Ledger) (step : Step) (place : Place) (entries : List Entry) → book.appended (doing_of (appended ledger) step) ≡ Some (place, entries) → entries ≡ appended ledger
entries-are ledger (Payload spot) place entries is = sym (ap being_appended is)
entries-are ledger (PayloadSync spot) place entries is = sym (ap being_appended is)
entries-are ledger (OpenGate spot) place entries is = sym (ap being_appended is)
entries-are ledger (OpenSync spot) place entries is = sym (ap being_appended is)
entries-are ledger Resting place entries is = none-some (place, entries) (entries ≡ appended ledger) is
entries-are ledger CloseGate place entries is = none-some (place, entries) (entries ≡ appended ledger) is
entries-are ledger CloseSync place entries is = none-some (place, entries) (entries ≡ appended ledger) is
entries-are ledger FarGate place entries is = none-some (place, entries) (entries ≡ appended ledger) is
entries-are ledger Mark place entries is = none-some (place, entries) (entries ≡ appended ledger) is
entries-are ledger MarkSync place entries is = none-some (place, entries) (entries ≡ appended ledger) is
entries-are ledger Version place entries is = none-some (place, entries) (entries ≡ appended ledger) is
entries-are ledger VersionSync place entries is = none-some (place, entries) (entries ≡ appended ledger) is

-- the ledger appends the commands right after the durable ones
pub appends-next : (core : Inside) → Stands core → AppendsNext (book_of core)
appends-next core stands place entries is =
    let ledger = core.ledger in
    let same : entries ≡ appended ledger = entries-are ledger core.step place entries is in
    ap (λ (l : List Entry). take (length entries) (drop ledger.durable l)) (sym (own-is core stands))
    ∙ ap (λ (l : List Entry). take (length l) (drop ledger.durable (own ledger))) same
    ∙ ap (λ (n : ℕ). take n (drop ledger.durable (own ledger))) (length-appended ledger stands.durable)
    ∙ sym same
