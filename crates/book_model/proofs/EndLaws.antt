-- The place after a word's last naming.
use Rattle.std.proofs.Common.{◌≡◌, ◌≢◌, inl, inr, ℕ, zero, suc, ◌-◌, ◌<◌, ◌≤◌, true, false, List, [], ◌∷◌, ◌++◌, length, drop, get_or, refl, ◌∙◌, ap, arith}
use Rattle.std.specs.Prelude.{◌==◌, nat_le}
use Rattle.std.proofs.lemmas.Bool.{cases_eq, eq-eqb, ne_eqb, le-leb, lt-leb}
use Rattle.book_model.specs.Cells.{is_any}
use Rattle.book_model.specs.Pending.{values_of}
use Rattle.book_model.specs.Queue.{end_of, shifted}

pub same_test : (a b : ℕ) → a ≡ b → (a == b) ≡ true
same_test a b is = eq-eqb a b is

pub other_test : (a b : ℕ) → a ≢ b → (a == b) ≡ false
other_test a b is = ne_eqb a b is

pub le-true : (a b : ℕ) → a ≤ b → nat_le a b ≡ true
le-true a b le = le-leb a b le

pub le-false : (a b : ℕ) → b < a → nat_le a b ≡ false
le-false a b lt = lt-leb a b lt

pub values-append : (at : ℕ) (xs ys : List (ℕ × ℕ)) → values_of at (xs ++ ys) ≡ values_of at xs ++ values_of at ys
values-append at [] ys = refl
values-append at (n ∷ xs) ys = elim (cases_eq n.0 at) [
  | inl is ↦ rw (same_test n.0 at is) (ap (λ (l : List ℕ). n.1 ∷ l) (values-append at xs ys))
  | inr not ↦ rw (other_test n.0 at not) (values-append at xs ys)
]

pub shifted-le : (k : ℕ) → shifted k ≤ suc k
shifted-le zero = omega arith
shifted-le (suc k) = omega arith

pub end-le : (at : ℕ) (live : List (ℕ × ℕ)) → end_of at live ≤ length live
end-le at [] = omega arith
end-le at (n ∷ ns) = elim (cases_eq n.0 at) [
  | inl is ↦ rw (same_test n.0 at is) (omega (arith, end-le at ns))
  | inr not ↦ rw (other_test n.0 at not) (omega (arith, end-le at ns, shifted-le (end_of at ns)))
]

shifted-under : (k m : ℕ) → shifted k ≤ suc m → k ≤ m
shifted-under zero m le = omega arith
shifted-under (suc k) m le = omega arith

shifted-none : (k : ℕ) → shifted k ≤ 0 → k ≤ 0
shifted-none zero le = omega arith
shifted-none (suc k) le = absurd (omega arith)

-- nothing is named after a word's last naming
pub none-after : (at m : ℕ) (live : List (ℕ × ℕ)) → end_of at live ≤ m → values_of at (drop m live) ≡ []
none-after at zero [] le = refl
none-after at (suc m) [] le = refl
none-after at zero (n ∷ ns) le = elim (cases_eq n.0 at) [
  | inl is ↦ let t = same_test n.0 at is in let l = rw t at le in absurd (omega arith)
  | inr not ↦ let t = other_test n.0 at not in let l = rw t at le in rw t (none-after at zero ns (shifted-none (end_of at ns) l))
]
none-after at (suc m) (n ∷ ns) le = elim (cases_eq n.0 at) [
  | inl is ↦ let t = same_test n.0 at is in let l = rw t at le in none-after at m ns (omega arith)
  | inr not ↦ let t = other_test n.0 at not in let l = rw t at le in none-after at m ns (shifted-under (end_of at ns) m l)
]

shifted-over : (k m : ℕ) → suc m < shifted k → m < k
shifted-over zero m lt = absurd (omega arith)
shifted-over (suc k) m lt = omega arith

shifted-some : (k : ℕ) → 0 < shifted k → 0 < k
shifted-some zero lt = absurd (omega arith)
shifted-some (suc k) lt = omega arith

pub some-ahead : (at m : ℕ) (live : List (ℕ × ℕ)) → m < end_of at live → is_any (values_of at (drop m live)) ≡ true
some-ahead at zero [] lt = absurd (omega arith)
some-ahead at (suc m) [] lt = absurd (omega arith)
some-ahead at zero (n ∷ ns) lt = elim (cases_eq n.0 at) [
  | inl is ↦ let t = same_test n.0 at is in rw t refl
  | inr not ↦ let t = other_test n.0 at not in let l = rw t at lt in rw t (some-ahead at zero ns (shifted-some (end_of at ns) l))
]
some-ahead at (suc m) (n ∷ ns) lt = elim (cases_eq n.0 at) [
  | inl is ↦ let t = same_test n.0 at is in let l = rw t at lt in some-ahead at m ns (omega arith)
  | inr not ↦ let t = other_test n.0 at not in let l = rw t at lt in some-ahead at m ns (shifted-over (end_of at ns) m l)
]

-- a word's last naming is of that word
shifted-one : (k : ℕ) → shifted k ≢ 1
shifted-one zero is = absurd (omega arith)
shifted-one (suc k) is = absurd (omega arith)

shifted-two : (k q : ℕ) → shifted k ≡ suc (suc q) → k ≡ suc q
shifted-two zero q is = absurd (omega arith)
shifted-two (suc k) q is = omega arith

pub end-names : (at p : ℕ) (live : List (ℕ × ℕ)) (d : ℕ × ℕ) → end_of at live ≡ suc p → (get_or live p d).0 ≡ at
end-names at p [] d is = absurd (omega arith)
end-names at zero (n ∷ ns) d is = elim (cases_eq n.0 at) [
  | inl same ↦ same
  | inr not ↦ let t = other_test n.0 at not in let e = rw t at is in absurd (shifted-one (end_of at ns) e)
]
end-names at (suc q) (n ∷ ns) d is = elim (cases_eq n.0 at) [
  | inl same ↦ let t = same_test n.0 at same in let e = rw t at is in end-names at q ns d (omega arith)
  | inr not ↦ let t = other_test n.0 at not in let e = rw t at is in end-names at q ns d (shifted-two (end_of at ns) q e)
]

-- one more naming
shifted-suc : (k : ℕ) → shifted (suc k) ≡ suc (suc k)
shifted-suc k = refl

pub end-pushed : (at : ℕ) (live : List (ℕ × ℕ)) (n : ℕ × ℕ) → n.0 ≡ at → end_of at (live ++ n ∷ []) ≡ suc (length live)
end-pushed at [] n is = rw (same_test n.0 at is) refl
end-pushed at (m ∷ ns) n is = elim (cases_eq m.0 at) [
  | inl same ↦ rw (same_test m.0 at same, end-pushed at ns n is) refl
  | inr not ↦ rw (other_test m.0 at not, end-pushed at ns n is) refl
]

pub end-stays : (at : ℕ) (live : List (ℕ × ℕ)) (n : ℕ × ℕ) → n.0 ≢ at → end_of at (live ++ n ∷ []) ≡ end_of at live
end-stays at [] n other = rw (other_test n.0 at other) refl
end-stays at (m ∷ ns) n other = elim (cases_eq m.0 at) [
  | inl same ↦ rw (same_test m.0 at same, end-stays at ns n other) refl
  | inr not ↦ rw (other_test m.0 at not, end-stays at ns n other) refl
]

-- the first namings go
pub shifted-less : (e k : ℕ) → e - k ≡ shifted e - suc k
shifted-less zero k = omega arith
shifted-less (suc e) k = omega arith

pub end-dropped : (at k : ℕ) (live : List (ℕ × ℕ)) → end_of at (drop k live) ≡ end_of at live - k
end-dropped at zero live = omega arith
end-dropped at (suc k) [] = omega arith
end-dropped at (suc k) (n ∷ ns) = elim (cases_eq n.0 at) [
  | inl same ↦ rw (same_test n.0 at same) (omega (arith, end-dropped at k ns))
  | inr not ↦ rw (other_test n.0 at not) (end-dropped at k ns ∙ shifted-less (end_of at ns) k)
]
