-- Where a slave stands in a draft.
use Rattle.std.proofs.Common.{◌≡◌, ◌≢◌, ℕ, ◌+◌, ◌<◌, ◌≤◌, List, [], ◌∷◌, length, get_or, set, drop, refl, ap, inl, inr, arith}
use Rattle.std.specs.List.{insert}
use Rattle.std.proofs.lemmas.Bool.{cases_lt, eq-eqb, ne_eqb, lt-ltb, le-ltb}
use Rattle.std.proofs.lemmas.List.{drop_more}
use Rattle.sii_edit.specs.declared.draft.NewWords.{NewWords}
use Rattle.sii_edit.specs.declared.draft.Renewal.{Renewal}
use Rattle.sii_edit.specs.Draft.{over, with_renewal}
use Rattle.sii_edit.specs.steps.Draft.{place_of}

pub place_most : (draft : List Renewal) (slave : ℕ) → place_of draft slave ≤ length draft
place_most [] slave = omega arith
place_most (first ∷ others) slave = elim (cases_lt first.slave slave) [
  | inl below ↦ rw (lt-ltb first.slave slave below) (omega (arith, place_most others slave))
  | inr after ↦ rw (le-ltb first.slave slave after) (omega arith)
]

-- one renewal more is of a slave before this one
pub place_next : (draft : List Renewal) (slave k : ℕ) (d : Renewal) → k < length draft → (get_or draft k d).slave < slave
    → k + place_of (drop k draft) slave ≡ (k + 1) + place_of (drop (k + 1) draft) slave
place_next draft slave k d h below = rw (drop_more draft k d h, lt-ltb (get_or draft k d).slave slave below) (omega arith)

-- no more of them are
pub place_here : (draft : List Renewal) (slave k : ℕ) (d : Renewal) → k < length draft → slave ≤ (get_or draft k d).slave → place_of (drop k draft) slave ≡ 0
place_here draft slave k d h after = rw (drop_more draft k d h, le-ltb (get_or draft k d).slave slave after) refl

abbrev pub renewal_over : Renewal → NewWords → Renewal
renewal_over old new = record { slave = old.slave; new = over old.new new }

-- a slave that has new words gets others on top of them
pub put_over : (draft : List Renewal) (slave : ℕ) (new : NewWords) (d : Renewal) → place_of draft slave < length draft → (get_or draft (place_of draft slave) d).slave ≡ slave
    → set draft (place_of draft slave) (renewal_over (get_or draft (place_of draft slave) d) new) ≡ with_renewal draft slave new
put_over [] slave new d h is = absurd (omega (arith, h))
put_over (first ∷ others) slave new d h is = elim (cases_lt first.slave slave) [
  | inl below ↦
      (let size = rw (lt-ltb first.slave slave below) at h in
      rw (lt-ltb first.slave slave below) (ap (λ (rest : List Renewal). first ∷ rest) (put_over others slave new d (omega (arith, size)) (rw (lt-ltb first.slave slave below) at is))))
  | inr after ↦
      (let same : first.slave ≡ slave = rw (le-ltb first.slave slave after) at is in
      rw (le-ltb first.slave slave after, eq-eqb first.slave slave same) refl)
]

-- a slave that has none gets its place
pub put_new : (draft : List Renewal) (slave : ℕ) (new : NewWords) (d : Renewal) → (place_of draft slave < length draft → (get_or draft (place_of draft slave) d).slave ≢ slave)
    → insert draft (place_of draft slave) (record { slave = slave; new = new }) ≡ with_renewal draft slave new
put_new [] slave new d other = refl
put_new (first ∷ others) slave new d other = elim (cases_lt first.slave slave) [
  | inl below ↦
      (let later = rw (lt-ltb first.slave slave below) at other in
      rw (lt-ltb first.slave slave below) (ap (λ (rest : List Renewal). first ∷ rest) (put_new others slave new d (λ h. later (omega (arith, h))))))
  | inr after ↦
      (let mine = rw (le-ltb first.slave slave after) at other in
      rw (le-ltb first.slave slave after, ne_eqb first.slave slave (mine (omega arith))) refl)
]
