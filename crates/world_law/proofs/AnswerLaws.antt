-- What a submit's answer says of the command and the book.
use Rattle.std.proofs.Common.{◌≡◌, ℕ, Bool, true, false, List, length, refl, sym, ap, subst, Result, Ok, Err}
use Rattle.std.specs.Prelude.{IsOk, is_ok}
use Rattle.sii_words.specs.Run.{runs_between}
use Rattle.sii_edit.specs.declared.command.Command.{Command}
use Rattle.sii_edit.specs.declared.refusal.Refusal.{Refusal}
use Rattle.sii_edit.specs.Command.{outcome}
use Rattle.book_model.specs.declared.refusal.SubmitRefusal.{SubmitRefusal}
use Rattle.book_model.specs.declared.refusal.SubmitRefusal.TheVariants as refusals
use Rattle.book_model.specs.Book.{Book, contents_of, is_closed, is_version_2}
use Rattle.book_model.specs.Submit.{is_too_large, is_full, sized, submit}

-- the book takes commands
pub record Takes (book : Book) : Type 0 where
  pub is_open : is_closed book ≡ false
  pub is_new : is_version_2 book.form ≡ true

abbrev pub AnswersAs : Book → Command → Result ℕ SubmitRefusal → Type 0
AnswersAs book command (Ok number) = Takes book × IsOk (outcome (contents_of book) command) × (number ≡ length book.accepted)
AnswersAs book command (Err refusals.Closed) = is_closed book ≡ true
AnswersAs book command (Err refusals.OldJournal) = (is_closed book ≡ false) × (is_version_2 book.form ≡ false)
AnswersAs book command (Err (refusals.Command refusal)) = Takes book × (outcome (contents_of book) command ≡ Err refusal)
AnswersAs book command (Err refusals.TooLarge) = Takes book × IsOk (outcome (contents_of book) command)
AnswersAs book command (Err refusals.Full) = Takes book × IsOk (outcome (contents_of book) command)

module _ (book : Book) (command : Command) where
  -- the answer
  answered : (result answer : Result ℕ SubmitRefusal) → result ≡ answer → AnswersAs book command answer → AnswersAs book command result
  answered result answer is so = subst (AnswersAs book command) (sym is) so

  room-answers : (new : List (List ℕ)) (large full : Bool) → Takes book → outcome (contents_of book) command ≡ Ok new → is_too_large book (runs_between (contents_of book) new) ≡ large
      → is_full book (runs_between (contents_of book) new) ≡ full → AnswersAs book command (sized book (Ok new))
  room-answers new true full takes is l f = answered (sized book (Ok new)) (Err refusals.TooLarge) (rw l refl) (takes, ap is_ok is)
  room-answers new false true takes is l f = answered (sized book (Ok new)) (Err refusals.Full) (rw (l, f) refl) (takes, ap is_ok is)
  room-answers new false false takes is l f = answered (sized book (Ok new)) (Ok (length book.accepted)) (rw (l, f) refl) (takes, ap is_ok is, refl)

  sized-answers : (validated : Result (List (List ℕ)) Refusal) → Takes book → outcome (contents_of book) command ≡ validated → AnswersAs book command (sized book validated)
  sized-answers (Ok new) takes is = room-answers new (is_too_large book (runs_between (contents_of book) new)) (is_full book (runs_between (contents_of book) new)) takes is refl refl
  sized-answers (Err refusal) takes is = (takes, is)

  answers-if : (closed two : Bool) → is_closed book ≡ closed → is_version_2 book.form ≡ two → AnswersAs book command (submit book command)
  answers-if true two c v = answered (submit book command) (Err refusals.Closed) (rw c refl) c
  answers-if false false c v = answered (submit book command) (Err refusals.OldJournal) (rw (c, v) refl) (c, v)
  answers-if false true c v =
      answered (submit book command) (sized book (outcome (contents_of book) command)) (rw (c, v) refl) (sized-answers (outcome (contents_of book) command) (record { is_open = c; is_new = v }) refl)

  pub submit-answers : AnswersAs book command (submit book command)
  submit-answers = answers-if (is_closed book) (is_version_2 book.form) refl refl
