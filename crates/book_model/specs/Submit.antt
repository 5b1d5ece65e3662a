-- The result of submitting a command.
use Rattle.std.specs.Prelude.{◌≡◌, ◌⊎◌, ℕ, ◌+◌, ◌-◌, ◌^◌, Bool, true, false, not, ◌||◌, nat_le, nat_lt, List, [], ◌∷◌, ◌++◌, length, Option, Some, None, is_none, Result, Ok, Err, IsErrAnd, if◌then◌else◌}
use Rattle.sii_edit.specs.declared.command.Command.{Command}
use Rattle.sii_edit.specs.declared.refusal.Refusal.{Refusal}
use Rattle.sii_words.specs.declared.run.Run.{Run}
use Rattle.sii_words.specs.Run.{runs_between}
use Rattle.sii_edit.specs.Command.{outcome}
use Rattle.jrn_format.specs.declared.journal.Entry.{Entry}
use Rattle.book_model.specs.declared.refusal.SubmitRefusal.{SubmitRefusal}
use Rattle.book_model.specs.declared.refusal.SubmitRefusal.TheVariants as refusals
use Rattle.book_model.specs.declared.refusal.TheConstants.{QUEUE}
use Rattle.book_model.specs.Memory.{OutOfMemory}
use Rattle.jrn_format.specs.Halves.{Halves, Place, batch_in, with_batch, entries_size, place_of}
use Rattle.book_model.specs.Book.{Book, contents_of, is_closed, is_version_2, appended, queued, room}

-- The entry of the next accepted command, with these runs.
abbrev pub entry_for : Book → List Run → Entry
entry_for book runs = record { number = length book.accepted; runs = runs }

-- The command has more than 65,535 runs, or doesn't fit into an empty half.
abbrev pub is_too_large : Book → List Run → Bool
is_too_large book runs = nat_lt 65535 (length runs) || nat_lt (room book) (entries_size (entry_for book runs ∷ []) + 1)

-- The halves with the batch that is being appended counted as live.
abbrev pub with_appended : Halves → Option (Place × List Entry) → Halves
with_appended halves (Some a) = with_batch halves a.0 (batch_in halves a.0 a.1)
with_appended halves None = halves

-- The queue is full, 2^64 - 1 commands were accepted, or no half has room for the queue and this command.
abbrev pub is_full : Book → List Run → Bool
is_full book runs =
    nat_le QUEUE (length (queued book)) || nat_le (2 ^ 64 - 1) (length book.accepted)
    || is_none (place_of (room book) (with_appended book.halves (appended book.doing)) (queued book ++ entry_for book runs ∷ []))

-- The result for a command with this outcome on the contents: its own refusal, else TooLarge, else Full, else its number.
abbrev pub sized : Book → Result (List (List ℕ)) Refusal → Result ℕ SubmitRefusal
sized book (Err refusal) = Err (refusals.Command refusal)
sized book (Ok new) =
    if is_too_large book (runs_between (contents_of book) new) then Err refusals.TooLarge
    else if is_full book (runs_between (contents_of book) new) then Err refusals.Full
    else Ok (length book.accepted)

-- The command's number, or the first refusal that applies: Closed, OldJournal, the command's own, TooLarge, Full.
abbrev pub submit : Book → Command → Result ℕ SubmitRefusal
submit book command =
    if is_closed book then Err refusals.Closed
    else if is_version_2 book.form then sized book (outcome (contents_of book) command)
    else Err refusals.OldJournal

-- The result of a call: the one above, or that memory was refused in place of any result but Closed and OldJournal.
pub data IsSubmitted (book : Book) (command : Command) (result : Result ℕ SubmitRefusal) : Type 0 where
  answered : result ≡ submit book command → IsSubmitted book command result
  out_of_memory : IsErrAnd result OutOfMemory → is_closed book ≡ false → is_version_2 book.form ≡ true → IsSubmitted book command result

-- The book after a command is accepted.
abbrev pub with_command : Book → Command → Book
with_command book command = record book { accepted = book.accepted ++ command ∷ [] }
