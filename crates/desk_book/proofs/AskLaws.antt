-- How many commands are accepted, by what a submit answers.
use Rattle.std.proofs.Common.{◌≡◌, ℕ, ◌+◌, ◌-◌, ◌<◌, ◌^◌, Bool, true, false, List, length, refl, sym, subst, arith, Result, Ok, Err}
use Rattle.std.specs.Prelude.{nat_le, ◌||◌}
use Rattle.std.proofs.lemmas.Bool.Decides.{nat_tests}
use Rattle.sii_words.specs.Run.{runs_between}
use Rattle.sii_edit.specs.declared.command.Command.{Command}
use Rattle.sii_edit.specs.declared.refusal.Refusal.{Refusal}
use Rattle.sii_edit.specs.Command.{outcome}
use Rattle.book_model.specs.declared.refusal.SubmitRefusal.{SubmitRefusal}
use Rattle.book_model.specs.Memory.{OutOfMemory}
use Rattle.book_model.specs.Book.{Book, contents_of, is_closed, is_version_2}
use Rattle.book_model.specs.Submit.{is_too_large, is_full, sized, submit, IsSubmitted, answered, out_of_memory}
use Rattle.desk_book.specs.Submitting.{is_out_of_memory}

-- an accepted command's number is the number of commands before it, and there may be one more
abbrev pub IsNumbered : Book → Result ℕ SubmitRefusal → Type 0
IsNumbered book (Ok number) = (number ≡ length book.accepted) × (length book.accepted + 1 < 2 ^ 64)
IsNumbered book (Err refusal) = Unit {0}

few : (n : ℕ) (first last : Bool) → ((first || nat_le (2 ^ 64 - 1) n) || last) ≡ false → n + 1 < 2 ^ 64
few n first last not_full = grind (arith, nat_tests)

module _ (book : Book) (command : Command) where
  room-numbered : (new : List (List ℕ)) (large full : Bool) → is_too_large book (runs_between (contents_of book) new) ≡ large → is_full book (runs_between (contents_of book) new) ≡ full
      → IsNumbered book (sized book (Ok new))
  room-numbered new true full l f = rw l tt
  room-numbered new false true l f = rw (l, f) tt
  room-numbered new false false l f = rw (l, f) (refl, few (length book.accepted) _ _ f)

  sized-numbered : (validated : Result (List (List ℕ)) Refusal) → IsNumbered book (sized book validated)
  sized-numbered (Ok new) = room-numbered new (is_too_large book (runs_between (contents_of book) new)) (is_full book (runs_between (contents_of book) new)) refl refl
  sized-numbered (Err refusal) = tt

  numbered-if : (closed two : Bool) → is_closed book ≡ closed → is_version_2 book.form ≡ two → IsNumbered book (submit book command)
  numbered-if true two c v = rw c tt
  numbered-if false false c v = rw (c, v) tt
  numbered-if false true c v = rw (c, v) (sized-numbered (outcome (contents_of book) command))

  pub numbered : (answer : Result ℕ SubmitRefusal) → answer ≡ submit book command → IsNumbered book answer
  numbered answer is = subst (IsNumbered book) (sym is) (numbered-if (is_closed book) (is_version_2 book.form) refl refl)

-- ---- memory is refused

memory-is : (refusal : SubmitRefusal) → OutOfMemory refusal → is_out_of_memory refusal ≡ true
memory-is refusal is = rw is refl

-- any answer but that memory was refused is the book's own
pub own-refusal : (book : Book) (command : Command) (refusal : SubmitRefusal) → IsSubmitted book command (Err refusal) → is_out_of_memory refusal ≡ false → Err refusal ≡ submit book command
own-refusal book command refusal (answered is) memory = is
own-refusal book command refusal (out_of_memory is not_closed new) memory = let yes = memory-is refusal is in cc

pub own-number : (book : Book) (command : Command) (number : ℕ) → IsSubmitted book command (Ok number) → Ok number ≡ submit book command
own-number book command number (answered is) = is
own-number book command number (out_of_memory is not_closed new) = absurd is
