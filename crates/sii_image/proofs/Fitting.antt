-- The limits of a process image, judged by the weights of the slaves.
use Rattle.std.specs.Prelude.{filter, not, nat_le, ◌&&◌}
use Rattle.std.specs.List.{list_all}
use Rattle.std.proofs.Common.{◌≡◌, ◌⊎◌, inl, inr, ℕ, ◌+◌, ◌*◌, ◌<◌, ◌≤◌, List, [], ◌∷◌, length, map, sum_by, Bool, cond, true, false, refl, sym, ap, ◌∙◌, arith}
use Rattle.std.proofs.lemmas.Bool.{le-leb, lt-leb, lt-ltb, le-ltb, cases_lt, false≢true}
use Rattle.std.proofs.lemmas.Bool.Decides.{nat_tests}
use Rattle.std.proofs.lemmas.List.Sums.{sum_by-cons}
use Rattle.sii_image.specs.declared.rows.Row.{Row}
use Rattle.sii_image.specs.ProcessData.{rows_of}
use Rattle.sii_image.specs.ProcessImage.{all_rows, has_few_rows, is_towards, is_within_limits, rows_towards, size_of, slave_rows, total}
use Rattle.sii_image.specs.steps.Weight.{weight_of, weight_of_rows, weight_of_all}
use Rattle.sii_image.proofs.Placing.{rows_after, total-append}

-- the bytes of all rows, slave by slave
abbrev pub spent : List (List ℕ) → ℕ
spent plant = sum_by (λ words. sum_by size_of (rows_of words)) plant

abbrev taken : ℕ → Row → List Row → Bool → List (ℕ × Row)
taken number row rows b = map (λ r. (number, r)) (cond b (row ∷ rows) rows)

-- ---- outputs and inputs of a slave together
taken_bytes : (b : Bool) (number : ℕ) (row : Row) (rows : List Row) → total (taken number row rows b) ≡ cond b (size_of row) 0 + total (map (λ r. (number, r)) rows)
taken_bytes true number row rows = sum_by-cons (λ (r : ℕ × Row). size_of r.1) (number, row) (map (λ r. (number, r)) rows)
taken_bytes false number row rows = omega arith

one_way : (b : Bool) (bytes : ℕ) → cond b bytes 0 + cond (not b) bytes 0 ≡ bytes
one_way true bytes = omega arith
one_way false bytes = omega arith

both_ways : (number : ℕ) (rows : List Row) → total (slave_rows true (number, rows)) + total (slave_rows false (number, rows)) ≡ sum_by size_of rows
both_ways number [] = refl
both_ways number (row ∷ rows) =
    let outs = filter (is_towards true) rows in
    let ins = filter (is_towards false) rows in
    omega (
      arith,
      taken_bytes row.output number row outs,
      taken_bytes (not row.output) number row ins,
      one_way row.output (size_of row),
      both_ways number rows,
      sum_by-cons size_of row rows,
    )

both_of_all : (number : ℕ) (plant : List (List ℕ)) → total (rows_after true number plant) + total (rows_after false number plant) ≡ spent plant
both_of_all number [] = refl
both_of_all number (words ∷ plant) =
    omega (
      arith,
      total-append (slave_rows true (number, rows_of words)) (rows_after true (number + 1) plant),
      total-append (slave_rows false (number, rows_of words)) (rows_after false (number + 1) plant),
      both_ways number (rows_of words),
      both_of_all (number + 1) plant,
      sum_by-cons (λ (w : List ℕ). sum_by size_of (rows_of w)) words plant,
    )

all_spent : (plant : List (List ℕ)) → total (all_rows plant) ≡ spent plant
all_spent plant = total-append (rows_towards true plant) (rows_towards false plant) ∙ both_of_all 0 plant

-- ---- weights

-- what the tests decide
abbrev Weighs : ℕ → ℕ → ℕ → Type 0
Weighs rows bytes weight = ((1486 < weight) × ((8 < rows) ⊎ (1486 < bytes))) ⊎ ((weight ≡ bytes) × (rows ≤ 8) × (bytes ≤ 1486))

weighs : (rows : List Row) → Weighs (length rows) (sum_by size_of rows) (weight_of_rows rows)
weighs rows = elim (cases_lt 8 (length rows)) [
  | inl many ↦ rw (lt-ltb 8 (length rows) many) (inl (omega arith, inl many))
  | inr few ↦ elim (cases_lt 1486 (sum_by size_of rows)) [
    | inl large ↦ rw (le-ltb 8 (length rows) few, lt-ltb 1486 (sum_by size_of rows) large) (inl (omega arith, inr large))
    | inr small ↦ rw (le-ltb 8 (length rows) few, le-ltb 1486 (sum_by size_of rows) small) (inr (refl, few, small))
  ]
]

pub weight_most : (words : List ℕ) → weight_of words ≤ 1487
weight_most words = grind (arith, nat_tests)

-- a line's weight
pub weights_most : (plant : List (List ℕ)) → weight_of_all plant ≤ 1487 * length plant
weights_most [] = omega arith
weights_most (words ∷ plant) = omega (arith, sum_by-cons weight_of words plant, weight_most words, weights_most plant)

-- a light line has few rows in each slave, and weighs what these have
light : (plant : List (List ℕ)) → weight_of_all plant ≤ 1486 → (list_all has_few_rows plant ≡ true) × (spent plant ≡ weight_of_all plant)
light [] h = (refl, refl)
light (words ∷ plant) h =
    let all = sum_by-cons weight_of words plant in
    let rest = light plant (omega (arith, h, all)) in
    elim (weighs (rows_of words)) [
      | inl heavy ↦ let over : 1486 < weight_of words = heavy.0 in absurd (omega (arith, h, all, over))
      | inr fits ↦ (
        ap (λ (b : Bool). b && list_all has_few_rows plant) (le-leb (length (rows_of words)) 8 fits.1) ∙ rest.0,
        omega (arith, all, rest.1, fits.0, sum_by-cons (λ (w : List ℕ). sum_by size_of (rows_of w)) words plant),
      )
    ]

-- a line of few rows weighs what these have
few_weigh : (plant : List (List ℕ)) → list_all has_few_rows plant ≡ true → spent plant ≤ 1486 → weight_of_all plant ≡ spent plant
few_weigh [] few h = refl
few_weigh (words ∷ plant) few h =
    let all = sum_by-cons weight_of words plant in
    let bytes = sum_by-cons (λ (w : List ℕ). sum_by size_of (rows_of w)) words plant in
    elim (weighs (rows_of words)) [
      | inl heavy ↦ elim heavy.1 [
        | inl many ↦ let none : has_few_rows words ≡ false = lt-leb (length (rows_of words)) 8 many in absurd (false≢true (sym (ap (λ (b : Bool). b && list_all has_few_rows plant) none) ∙ few))
        | inr large ↦ absurd (omega (arith, h, bytes, large))
      ]
      | inr fits ↦ omega (arith, all, bytes, fits.0, few_weigh plant (sym (ap (λ (b : Bool). b && list_all has_few_rows plant) (le-leb (length (rows_of words)) 8 fits.1)) ∙ few) (omega (arith, h, bytes)))
    ]

heavy_line : (plant : List (List ℕ)) (few : Bool) → list_all has_few_rows plant ≡ few → 1486 < weight_of_all plant → (few && nat_le (total (all_rows plant)) 1486) ≡ false
heavy_line plant false is over = refl
heavy_line plant true is over = elim (cases_lt 1486 (total (all_rows plant))) [
  | inl large ↦ lt-leb (total (all_rows plant)) 1486 large
  | inr small ↦ absurd (omega (arith, over, small, all_spent plant, few_weigh plant is (omega (arith, small, all_spent plant))))
]

-- a line is within the limits where it is light
pub limits_weighed : (plant : List (List ℕ)) → nat_le (weight_of_all plant) 1486 ≡ is_within_limits plant
limits_weighed plant = elim (cases_lt 1486 (weight_of_all plant)) [
  | inl over ↦ lt-leb (weight_of_all plant) 1486 over ∙ sym (heavy_line plant (list_all has_few_rows plant) refl over)
  | inr under ↦
      let facts = light plant under in
      le-leb (weight_of_all plant) 1486 under
      ∙ sym (ap (λ (b : Bool). b && nat_le (total (all_rows plant)) 1486) facts.0 ∙ le-leb (total (all_rows plant)) 1486 (omega (arith, under, facts.1, all_spent plant)))
]
