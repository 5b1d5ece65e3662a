-- The answer to a submitted command, once it is judged.
use Rattle.std.proofs.Common.{◌≡◌, ◌∙◌, inl, inr, ℕ, Bool, true, false, List, length, Result, Ok, Err, refl, sym, ap, subst}
use Rattle.std.specs.Prelude.{IsErrAnd, is_some, if◌then◌else◌}
use Rattle.sii_words.specs.declared.run.Run.{Run}
use Rattle.sii_edit.specs.declared.command.Command.{Command}
use Rattle.sii_edit.specs.declared.applying.Change.{Change}
use Rattle.sii_edit.specs.declared.refusal.Refusal.{Refusal}
use Rattle.sii_edit.specs.Command.{outcome}
use Rattle.sii_edit.specs.Refusal.{IsRefusalOf}
use Rattle.jrn_format.specs.declared.journal.Form.TheVariants.{Two}
use Rattle.book_model.specs.declared.refusal.SubmitRefusal.{SubmitRefusal}
use Rattle.book_model.specs.declared.refusal.SubmitRefusal.TheVariants as refusals
use Rattle.book_model.specs.Memory.{OutOfMemory}
use Rattle.book_model.specs.Book.{Book, contents_of, is_closed, is_version_2}
use Rattle.book_model.specs.Submit.{submit, sized, is_too_large, is_full, IsSubmitted, answered, out_of_memory}
use Rattle.book_parts.specs.Change.{IsChangeOf}
use Rattle.book_core.specs.declared.book.Core.TheInside.{Inside}
use Rattle.book_core.specs.Parts.{book_of}
use Rattle.book_core.specs.Submit.{room_for}

-- The command is judged.
pub record Validates (book : Book) : Type 0 where
  pub not_closed : is_closed book ≡ false
  pub version : is_version_2 book.form ≡ true

-- of a core: it isn't finished, it has no fault, and its journal is of version 2
pub validates-core : (core : Inside) → core.is_finished ≡ false → is_some core.fault ≡ false → core.area.form ≡ Two → Validates (book_of core)
validates-core core finished fault two = record { not_closed = rw (finished, fault) refl; version = ap is_version_2 two }

validated : (book : Book) (command : Command) → Validates book → submit book command ≡ sized book (outcome (contents_of book) command)
validated book command validates = rw (validates.not_closed, validates.version) refl

pub memory-answer : (book : Book) (command : Command) (refusal : SubmitRefusal) (result : Result ℕ SubmitRefusal) → Validates book → OutOfMemory refusal → result ≡ Err refusal → IsSubmitted book command result
memory-answer book command refusal result validates memory is =
    out_of_memory (subst (λ (r : Result ℕ SubmitRefusal). IsErrAnd r OutOfMemory) (sym is) memory) validates.not_closed validates.version

-- a refusal on the contents
pub refused-answer : (book : Book) (command : Command) (refusal : Refusal) (result : Result ℕ SubmitRefusal) → Validates book
    → IsRefusalOf (outcome (contents_of book) command) refusal → result ≡ Err (refusals.Command refusal) → IsSubmitted book command result
refused-answer book command refusal result validates (inl is) gives = answered (gives ∙ sym (validated book command validates ∙ ap (sized book) is))
refused-answer book command refusal result validates (inr memory) gives =
    memory-answer book command (refusals.Command refusal) result validates (ap refusals.Command memory) gives

-- ---- a command that isn't refused

abbrev numbered : Book → List Run → Result ℕ SubmitRefusal
numbered book runs = if is_too_large book runs then Err refusals.TooLarge else if is_full book runs then Err refusals.Full else Ok (length book.accepted)

changed : (book : Book) (command : Command) (change : Change) → Validates book → IsChangeOf (contents_of book) command change → submit book command ≡ numbered book change.runs.items
changed book command change validates is =
    validated book command validates ∙ ap (sized book) is.accepted ∙ ap (numbered book) (sym is.runs)

abbrev room : Bool → Bool → Result (Unit {0}) SubmitRefusal
room large full = if large then Err refusals.TooLarge else if full then Err refusals.Full else Ok tt

abbrev number : Bool → Bool → ℕ → Result ℕ SubmitRefusal
number large full n = if large then Err refusals.TooLarge else if full then Err refusals.Full else Ok n

no-room : (large full : Bool) (n : ℕ) (refusal : SubmitRefusal) → room large full ≡ Err refusal → number large full n ≡ Err refusal
no-room true full n refusal is = cc is
no-room false true n refusal is = cc is
no-room false false n refusal is = absurd (cc is)

has-room : (large full : Bool) (n : ℕ) → room large full ≡ Ok tt → number large full n ≡ Ok n
has-room true full n is = absurd (cc is)
has-room false true n is = absurd (cc is)
has-room false false n is = refl

pub room-answer : (book : Book) (command : Command) (change : Change) (refusal : SubmitRefusal) (result : Result ℕ SubmitRefusal) → Validates book → IsChangeOf (contents_of book) command change
    → room_for book change.runs.items ≡ Err refusal → result ≡ Err refusal → IsSubmitted book command result
room-answer book command change refusal result validates is none gives =
    let runs = change.runs.items in
    answered (gives ∙ sym (changed book command change validates is ∙ no-room (is_too_large book runs) (is_full book runs) (length book.accepted) refusal none))

pub number-answer : (book : Book) (command : Command) (change : Change) (result : Result ℕ SubmitRefusal) → Validates book → IsChangeOf (contents_of book) command change
    → room_for book change.runs.items ≡ Ok tt → result ≡ Ok (length book.accepted) → IsSubmitted book command result
number-answer book command change result validates is room gives =
    let runs = change.runs.items in
    answered (gives ∙ sym (changed book command change validates is ∙ has-room (is_too_large book runs) (is_full book runs) (length book.accepted) room))
