-- The next step of the disk is handed out.
use Rattle.std.specs.Prelude.{◌≡◌, false, is_some, IsSome, Result, IfOk, OnOk, OnErr}
use Rattle.jrn_format.specs.declared.journal.Form.TheVariants.{Two}
use Rattle.book_model.specs.declared.next.DiskNext.{DiskNext}
use Rattle.book_model.specs.declared.next.DiskNext.TheVariants as next
use Rattle.book_model.specs.declared.fault.CoreFault.{CoreFault}
use Rattle.book_model.specs.Book.{Book}
use Rattle.book_model.specs.DiskSteps.{disk_next, doing_next}
use Rattle.book_core.specs.declared.step.Step.{Step}
use Rattle.book_core.specs.declared.step.Step.TheVariants.{Resting, Payload, Mark, Version}
use Rattle.book_core.specs.Parts.{doing_of, next_entries}
use Rattle.book_core.specs.Steps.{place_appended}

-- This step is to be handed out now: nothing is handed out, there is no fault, and the book's next step is this one.
pub record IsNext (book : Book) (step : Step) : Type 0 where
  pub idle : book.is_handed_out ≡ false
  pub no_fault : is_some book.fault ≡ false
  pub doing : doing_of (next_entries book) step ≡ doing_next book book.doing
  pub version_2 : IsSome (place_appended step) → book.form ≡ Two

-- Of all answers only a write takes memory: for its bytes, and for the words that it names.
abbrev pub TakesMemory : DiskNext → Type 0
TakesMemory (next.Write at bytes) = Unit {0}
TakesMemory answer = ⊥

-- The answer and the book are those of `disk_next`. Memory is refused only in place of a write, and then the book stays as it is.
pub record HandsOut (old new : Book) (result : Result DiskNext CoreFault) : Type 0 where
  pub answer : IfOk result (λ given. given ≡ (disk_next old).0)
  pub book : OnOk result (new ≡ (disk_next old).1)
  pub refused : OnErr result (new ≡ old)
  pub memory : OnErr result (TakesMemory (disk_next old).0)

-- The step writes bytes.
abbrev pub IsWrite : Step → Type 0
IsWrite (Payload spot) = Unit {0}
IsWrite Mark = Unit {0}
IsWrite Version = Unit {0}
IsWrite step = ⊥

-- The step is neither rest nor the write of a batch.
abbrev pub IsOther : Step → Type 0
IsOther Resting = ⊥
IsOther (Payload spot) = ⊥
IsOther step = Unit {0}
