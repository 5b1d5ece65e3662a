-- What reading the categories of a slave answers.
use Rattle.std.specs.Prelude.{◌≡◌, ℕ, List, Result, Ok, Err, IsErr}
use Rattle.sii_cats.specs.declared.fault.CatFault.{CatFault}
use Rattle.sii_cats.specs.declared.fault.CatFault.TheVariants as Fault

-- A fault other than Memory is answered only where the given fact holds.
abbrev pub Unreadable : CatFault → Type 0 → Type 0
Unreadable Fault.Memory Bad = Unit {0}
Unreadable (Fault.RunsOut at) Bad = Bad
Unreadable (Fault.BadCategory kind) Bad = Bad
Unreadable Fault.NoRoom Bad = Bad

-- Reading answers this value, and a fault other than Memory only where there is none.
abbrev pub Reads : {V X : Type 0} → (V → X) → Result V CatFault → Result X (List ℕ) → Type 0
Reads view (Ok v) read = read ≡ Ok (view v)
Reads view (Err fault) read = Unreadable fault (IsErr read)
