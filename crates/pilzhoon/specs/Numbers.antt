-- The library's numbers of what the calls on steps answer.
use Rattle.std.specs.Prelude.{◌≡◌, ℕ, ◌+◌, ◌<◌, ◌≤◌}

-- The library's number of a code: one from 100 to 199 is so much higher, where no other code of the programs is; any other one is as it was.
pub data IsNumberOf (by code number : ℕ) : Type 0 where
  below : code < 100 → number ≡ code → IsNumberOf by code number
  higher : 100 ≤ code → code < 200 → number ≡ code + by → IsNumberOf by code number
  above : 200 ≤ code → number ≡ code → IsNumberOf by code number

-- A call on steps answers a code of which this holds, and the library gives its number.
pub record Numbers (by : ℕ) (Holds : ℕ → Type 0) (number : ℕ) : Type 0 where
  pub code : ℕ
  pub is : IsNumberOf by code number
  pub holds : Holds code
