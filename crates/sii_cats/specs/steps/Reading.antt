-- What reading a content step by step answers.
use Rattle.std.specs.Prelude.{◌≡◌, ℕ, List, Option, Some, None, Result, Ok, Err, IsErr}
use Rattle.sii_cats.specs.Reading.{Refuses}
use Rattle.sii_cats.specs.steps.Items.{Front}
use Rattle.sii_cats.specs.steps.Items.Front.{Ended, Item, Broken}
use Rattle.sii_cats.specs.declared.fault.CatFault.{CatFault}

-- Reading answers this value, and BadCategory only where there is none.
abbrev pub Gives : {V X E : Type 0} → (V → X) → ℕ → Result V CatFault → Result X E → Type 0
Gives view kind (Ok v) read = read ≡ Ok (view v)
Gives view kind (Err fault) read = Refuses kind fault (IsErr read)

-- Reading answers the item in front and what is left behind it, or None at the end, and BadCategory only where neither stands
-- there.
abbrev pub Takes : {V X : Type 0} → (V → X × List ℕ) → ℕ → Result (Option V) CatFault → Front X → Type 0
Takes view kind (Ok (Some v)) front = front ≡ Item (view v).0 (view v).1
Takes view kind (Ok None) front = front ≡ Ended
Takes view kind (Err fault) front = Refuses kind fault (front ≡ Broken)
