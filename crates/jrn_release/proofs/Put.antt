-- A batch behind others.
use Rattle.std.proofs.Common.{◌≡◌, ℕ, ◌-◌, List, [], ◌∷◌, ◌++◌, length, take, drop, Result, Ok, Err, ap, ◌∙◌, append_assoc, arith, length-append}
use Rattle.std.specs.Prelude.{OnOk, if◌then◌else◌, is_ok}
use Rattle.std.proofs.lemmas.List.{take_at, take_all}

-- a gate and what follows it were appended, if there was memory
pub ok_put : {E : Type 0} (result : Result (Unit {0}) E) (old mid new part rest : List ℕ) → new ≡ (if is_ok result then mid ++ part else mid) → mid ≡ old ++ 0xA5 ∷ [] → part ≡ rest
    → OnOk result (new ≡ old ++ 0xA5 ∷ rest)
ok_put (Ok done) old mid new part rest put gate is =
    put ∙ ap (λ (l : List ℕ). l ++ part) gate ∙ append_assoc old (0xA5 ∷ []) part ∙ ap (λ (l : List ℕ). old ++ 0xA5 ∷ l) is
ok_put (Err fault) old mid new part rest put gate is = tt

-- what was encoded, without the closed gate behind it
pub cut : (spelt batch cut : List ℕ) (n : ℕ) → spelt ≡ batch ++ 0 ∷ [] → n ≡ length spelt → cut ≡ take (n - 1) spelt → cut ≡ batch
cut spelt batch short n is long end = end ∙ ap (take (n - 1)) is ∙ take_at batch (0 ∷ []) (n - 1) (omega (arith, long, ap length is, length-append batch (0 ∷ [])))

-- what follows the first byte
pub behind : (bytes rest : List ℕ) (first : ℕ) → bytes ≡ first ∷ rest → take (length bytes - 1) (drop 1 bytes) ≡ rest
behind bytes rest first is = ap (λ (l : List ℕ). take (length l - 1) (drop 1 l)) is ∙ take_all (length (first ∷ rest) - 1) rest (omega arith)
