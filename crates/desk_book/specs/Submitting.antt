-- What submitting a command at a desk answers and changes.
use Rattle.std.specs.Prelude.{◌≡◌, ◌⊎◌, ℕ, ◌+◌, ◌-◌, ◌^◌, Bool, true, false, ◌++◌, ◌∷◌, [], Result, Ok, Err}
use Rattle.sii_edit.specs.declared.command.Command.{Command}
use Rattle.sii_edit.specs.declared.refusal.Cause.{Cause}
use Rattle.sii_edit.specs.declared.refusal.Cause.TheVariants.{Memory}
use Rattle.book_model.specs.declared.refusal.SubmitRefusal.{SubmitRefusal}
use Rattle.book_model.specs.declared.refusal.SubmitRefusal.TheVariants as refusals
use Rattle.book_model.specs.Book.{Book}
use Rattle.book_model.specs.Submit.{submit}
use Rattle.desk_book.specs.declared.call.Call.TheVariants.{Submitted}
use Rattle.desk_book.specs.declared.ticket.Refused.{Refused}
use Rattle.desk_book.specs.Numbered.{Numbered}
use Rattle.desk_book.specs.Serving.{Serving, ShareCounts}

-- memory was refused
abbrev pub is_memory : Cause → Bool
is_memory Memory = true
is_memory cause = false

-- the command was refused because memory was
abbrev pub is_out_of_memory : SubmitRefusal → Bool
is_out_of_memory (refusals.Command refusal) = is_memory refusal.cause
is_out_of_memory refusal = false

-- the command is accepted, and its ticket counted
abbrev pub with_ticket : Serving → Command → ℕ → Serving
with_ticket serving command number =
    record serving { calls = serving.calls ++ Submitted command (Ok number) ∷ []; tickets = serving.tickets + 1 }

-- the command is refused, and the refusal counted
abbrev pub with_refusal : Serving → Command → SubmitRefusal → Serving
with_refusal serving command refusal =
    record serving { calls = serving.calls ++ Submitted command (Err refusal) ∷ []; refusals = serving.refusals + 1 }

-- The book was asked and refused the command, and the refusal is counted.
pub record IsCounted (book : Book) (command : Command) (refusal : SubmitRefusal) (old : Serving) (had : ShareCounts)
    (new : Serving) (has : ShareCounts) : Type 0 where
  pub asked : submit book command ≡ Err refusal
  pub not_memory : is_out_of_memory refusal ≡ false
  pub served : new ≡ with_refusal old command refusal
  pub counts : has ≡ record had { refusals = had.refusals + 1 }

-- Memory was refused, or no more refusals can be counted: nothing changes.
pub record IsUncounted (refusal : SubmitRefusal) (old : Serving) (had : ShareCounts) (new : Serving) (has : ShareCounts) : Type 0 where
  pub why : (is_out_of_memory refusal ≡ true) ⊎ ((refusal ≡ refusals.Full) × (old.refusals ≡ 2 ^ 64 - 1))
  pub served : new ≡ old
  pub counts : has ≡ had

-- The command is accepted, and its ticket counted in the share; or it is refused.
abbrev pub Submits : Book → Command → Result ℕ SubmitRefusal → (old : Serving) (had : ShareCounts)
    → (new : Serving) (has : ShareCounts) → Type 0
Submits book command (Ok number) old had new has =
    (submit book command ≡ Ok number) × (new ≡ with_ticket old command number) × (has ≡ record had { tickets = had.tickets + 1 })
Submits book command (Err refusal) old had new has = IsCounted book command refusal old had new has ⊎ IsUncounted refusal old had new has

-- The share counts a refusal, except one for memory. It may also leave a `Full` uncounted: once no more refusals can be counted.
abbrev pub CountsRefusal : SubmitRefusal → (had has : ShareCounts) → Type 0
CountsRefusal refusal had has =
    ((is_out_of_memory refusal ≡ false) × (has ≡ record had { refusals = had.refusals + 1 }))
    ⊎ (((is_out_of_memory refusal ≡ true) ⊎ (refusal ≡ refusals.Full)) × (has ≡ had))

-- the same answer, with the ticket's number alone, or the refusal alone
abbrev pub answer_of : Result Numbered Refused → Result ℕ SubmitRefusal
answer_of (Ok ticket) = Ok ticket.number
answer_of (Err refused) = Err refused.refusal
