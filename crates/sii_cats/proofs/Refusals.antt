-- Faults that are passed on to the caller.
use Rattle.std.proofs.Common.{◌≡◌, ℕ, Result, Ok, Err}
use Rattle.std.specs.Prelude.{IsErr}
use Rattle.sii_cats.specs.Reading.{Refuses, Answers}
use Rattle.sii_cats.specs.steps.Reading.{Gives}
use Rattle.sii_cats.specs.declared.fault.CatFault.{CatFault}
use Rattle.sii_cats.specs.declared.fault.CatFault.TheVariants.{Memory, RunsOut, BadCategory, NoRoom}

pub Refuses-weaker : (kind : ℕ) (fault : CatFault) (P Q : Type 0) → (P → Q) → Refuses kind fault P → Refuses kind fault Q
Refuses-weaker kind Memory P Q f h = tt
Refuses-weaker kind (BadCategory k) P Q f h = (h.0, f h.1)
Refuses-weaker kind (RunsOut at) P Q f h = h
Refuses-weaker kind NoRoom P Q f h = h

pub not_both : {X E : Type 0} (read : Result X E) (x : X) → IsErr read → read ≡ Ok x → ⊥
not_both (Ok y) x h e = absurd cc
not_both (Err d) x h e = cc

-- What is read is what the grammar relates: so is the answer.
pub answers : {V X E : Type 0} (view : V → X) (kind : ℕ) (result : Result V CatFault) (read : Result X E) (Spells : X → Type 0)
    → ((x : X) → read ≡ Ok x → Spells x) → ((x : X) → Spells x → read ≡ Ok x) → Gives view kind result read → Answers view Spells kind result
answers view kind (Ok v) read Spells are again h = are (view v) h
answers {V} {X} view kind (Err fault) read Spells are again h =
    Refuses-weaker kind fault (IsErr read) ((x : X) → Spells x → ⊥) (λ bad x s. not_both read x bad (again x s)) h
