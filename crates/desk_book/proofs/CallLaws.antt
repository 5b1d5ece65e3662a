-- What holds after one more call of a book.
use Rattle.std.proofs.Common.{◌≡◌, ◌∙◌, ℕ, ◌+◌, ◌<◌, ◌^◌, List, [], ◌∷◌, ◌++◌, length, refl, sym, ap, subst, arith, length-append, Ok, Err}
use Rattle.std.specs.Prelude.{count_by}
use Rattle.std.proofs.lemmas.List.Sums.{fold-append, sum_by-append}
use Rattle.book_model.specs.declared.next.RomNext.{RomNext}
use Rattle.book_model.specs.declared.next.RomOutcome.{RomOutcome}
use Rattle.book_model.specs.declared.refusal.SubmitRefusal.{SubmitRefusal}
use Rattle.book_model.specs.Book.{Book}
use Rattle.station_jobs.specs.declared.cycle.CycleNote.{CycleNote}
use Rattle.sii_edit.specs.declared.command.Command.{Command}
use Rattle.book_core.specs.Wear.{IssuesFew}
use Rattle.desk_book.specs.declared.call.Call.{Call}
use Rattle.desk_book.specs.declared.call.Call.TheVariants.{Submitted}
use Rattle.station_jobs.specs.Noted.{Noted}
use Rattle.desk_book.specs.Calls.{after, IsAnswered, replayed, AreAnswered, is_refusal}
use Rattle.desk_book.specs.Logs.{DiskEntry, RomEntry, disk_noted, rom_noted, turn_noted}
use Rattle.desk_book.specs.Serving.{IsReplayed, AreCounted, AreLogs, entries_at}

pub replayed-more : (book : Book) (calls : List Call) (call : Call) → replayed book (calls ++ call ∷ []) ≡ after (replayed book calls) call
replayed-more book [] call = refl
replayed-more book (c ∷ cs) call = replayed-more (after book c) cs call

pub answered-more : (book : Book) (calls : List Call) (call : Call) → AreAnswered book calls → IsAnswered (replayed book calls) call → AreAnswered book (calls ++ call ∷ [])
answered-more book [] call all one = (one, tt)
answered-more book (c ∷ cs) call all one = (all.0, answered-more (after book c) cs call all.1 one)

pub is-replayed-more : (opened book later : Book) (calls : List Call) (call : Call) → IsReplayed opened book calls → IsAnswered book call → later ≡ after book call → IsReplayed opened later (calls ++ call ∷ [])
is-replayed-more opened book later calls call is one goes = record {
  same = goes ∙ ap (λ (b : Book). after b call) is.same ∙ sym (replayed-more opened calls call);
  answers = answered-more opened calls call is.answers (subst (λ (b : Book). IsAnswered b call) is.same one);
}

-- The history with one more call that was answered as the book answers it.
pub answered-by : (opened book : Book) (calls later : List Call) (call : Call) → IsReplayed opened book calls → IsAnswered book call → later ≡ calls ++ call ∷ [] → AreAnswered opened later
answered-by opened book calls later call is one more = subst (AreAnswered opened) (sym more) (answered-more opened calls call is.answers (subst (λ (b : Book). IsAnswered b call) is.same one))

-- The book after one more call issues few words, and it is the one that the history leads to.
pub worn-by : (opened book new : Book) (calls later : List Call) (call : Call) → IsReplayed opened book calls → IsAnswered book call → new ≡ after book call → later ≡ calls ++ call ∷ []
    → IssuesFew new → IssuesFew (replayed opened later)
worn-by opened book new calls later call is one goes more few =
    subst (λ (l : List Call). IssuesFew (replayed opened l)) (sym more) (subst IssuesFew (is-replayed-more opened book new calls call is one goes).same few)

-- each slave's notes have what the call hands out for it
abbrev pub RomNoted : Call → (old new : List (Noted RomNext RomOutcome)) → Type 0
RomNoted call old new = (i : ℕ) → i < length new → (i < length old) × (entries_at new i ≡ rom_noted i (entries_at old i) call)

pub are-logs-more : (calls : List Call) (call : Call) (disk later : List DiskEntry) (slaves now : List (Noted RomNext RomOutcome)) (cycle then : List CycleNote) → AreLogs calls disk slaves cycle
    → later ≡ disk_noted disk call → RomNoted call slaves now → then ≡ turn_noted cycle call → AreLogs (calls ++ call ∷ []) later now then
are-logs-more calls call disk later slaves now cycle then are on_disk on_slaves on_cycle = record {
  of_disk = on_disk ∙ ap (λ (d : List DiskEntry). disk_noted d call) are.of_disk ∙ sym (fold-append disk_noted [] calls (call ∷ []));
  of_slaves = λ i inside.
      let here = on_slaves i inside in
      here.1
      ∙ ap (λ (d : List RomEntry). rom_noted i d call) (are.of_slaves i here.0)
      ∙ sym (fold-append (rom_noted i) [] calls (call ∷ []));
  of_cycle = on_cycle ∙ ap (λ (c : List CycleNote). turn_noted c call) are.of_cycle ∙ sym (fold-append turn_noted [] calls (call ∷ []));
}

-- a call that hands nothing out
pub are-logs-same : (calls : List Call) (call : Call) (disk : List DiskEntry) (slaves : List (Noted RomNext RomOutcome)) (cycle : List CycleNote) → AreLogs calls disk slaves cycle
    → disk ≡ disk_noted disk call → ((i : ℕ) (log : List RomEntry) → log ≡ rom_noted i log call) → cycle ≡ turn_noted cycle call → AreLogs (calls ++ call ∷ []) disk slaves cycle
are-logs-same calls call disk slaves cycle are on_disk on_slaves on_cycle =
    are-logs-more calls call disk disk slaves slaves cycle cycle are on_disk (λ i inside. (inside, on_slaves i (entries_at slaves i))) on_cycle

-- ---- counts

count-more : (calls : List Call) (call : Call) → count_by is_refusal (calls ++ call ∷ []) ≡ count_by is_refusal calls + count_by is_refusal (call ∷ [])
count-more calls call = sum_by-append _ calls (call ∷ [])

-- a call that isn't a submit
pub are-counted-same : (book later : Book) (calls : List Call) (call : Call) (tickets refusals : ℕ) → AreCounted book calls tickets refusals → later.accepted ≡ book.accepted
    → count_by is_refusal (call ∷ []) ≡ 0 → AreCounted later (calls ++ call ∷ []) tickets refusals
are-counted-same book later calls call tickets refusals are same none = record {
  accepted = are.accepted ∙ ap length (sym same);
  refused = omega (arith, are.refused, count-more calls call, none);
  fit = are.fit;
  refused_fit = are.refused_fit;
}

-- one command more
pub are-counted-ticket : (book later : Book) (calls : List Call) (command : Command) (number tickets refusals : ℕ) → AreCounted book calls tickets refusals → later.accepted ≡ book.accepted ++ command ∷ []
    → length book.accepted + 1 < 2 ^ 64 → AreCounted later (calls ++ Submitted command (Ok number) ∷ []) (tickets + 1) refusals
are-counted-ticket book later calls command number tickets refusals are more room = record {
  accepted = omega (arith, are.accepted, ap length more, length-append book.accepted (command ∷ []));
  refused = omega (arith, are.refused, count-more calls (Submitted command (Ok number)));
  fit = omega (arith, are.accepted, room);
  refused_fit = are.refused_fit;
}

-- one refusal more
pub are-counted-refusal : (book later : Book) (calls : List Call) (command : Command) (refusal : SubmitRefusal) (tickets refusals : ℕ) → AreCounted book calls tickets refusals → later ≡ book
    → refusals + 1 < 2 ^ 64 → AreCounted later (calls ++ Submitted command (Err refusal) ∷ []) tickets (refusals + 1)
are-counted-refusal book later calls command refusal tickets refusals are same few = record {
  accepted = are.accepted ∙ ap (λ (b : Book). length b.accepted) (sym same);
  refused = omega (arith, are.refused, count-more calls (Submitted command (Err refusal)));
  fit = are.fit;
  refused_fit = few;
}
