-- A plant with the new words of some slaves.
use Rattle.std.proofs.Common.{◌≡◌, ◌<◌, ◌≤◌, ◌+◌, ℕ, zero, suc, List, [], ◌∷◌, ◌++◌, length, get_or, set, take, refl, sym, ap, ◌∙◌, arith, length-set, get_or-set_other}
use Rattle.std.proofs.lemmas.List.{set_comm, set_past}
use Rattle.std.proofs.lemmas.List.Sums.{sum_by-set, sum_by-cons}
use Rattle.sii_words.specs.Plant.{words_of}
use Rattle.sii_image.specs.declared.new_layouts.NewLayout.{NewLayout}
use Rattle.sii_image.specs.NewLayouts.{with_each, slaves_of, RiseFrom}
use Rattle.sii_image.specs.steps.Weight.{weight_of, weight_of_all}

pub length-with_each : (plant : List (List ℕ)) (new : List NewLayout) → length (with_each plant new) ≡ length plant
length-with_each plant [] = refl
length-with_each plant (first ∷ others) = length-set (with_each plant others) first.slave first.layout ∙ length-with_each plant others

-- the last of them put in place first
pub put_last : (plant : List (List ℕ)) (front : List NewLayout) (last : NewLayout) → with_each plant (front ++ last ∷ []) ≡ with_each (set plant last.slave last.layout) front
put_last plant [] last = refl
put_last plant (first ∷ others) last = ap (λ (p : List (List ℕ)). set p first.slave first.layout) (put_last plant others last)

-- no slave comes before the least
least_at : (least : ℕ) (new : List NewLayout) (k : ℕ) (d : NewLayout) → RiseFrom least (slaves_of new) → k < length new → least ≤ (get_or new k d).slave
least_at least [] k d rise h = absurd (omega (arith, h))
least_at least (first ∷ others) zero d rise h = rise.0
least_at least (first ∷ others) (suc k) d rise h = omega (arith, rise.0, least_at (suc first.slave) others k d rise.1 (omega (arith, h)))

-- One slave more has new words, and had the old ones until then.
pub record IsNext (plant : List (List ℕ)) (new : List NewLayout) (k : ℕ) (next : NewLayout) : Type 0 where
  pub is : with_each plant (take (suc k) new) ≡ set (with_each plant (take k new)) next.slave next.layout
  pub had : words_of (with_each plant (take k new)) next.slave ≡ words_of plant next.slave

pub next_of : (least : ℕ) (plant : List (List ℕ)) (new : List NewLayout) (k : ℕ) (d : NewLayout) → RiseFrom least (slaves_of new) → k < length new → IsNext plant new k (get_or new k d)
next_of least plant [] k d rise h = absurd (omega (arith, h))
next_of least plant (first ∷ others) zero d rise h = record { is = refl; had = refl }
next_of least plant (first ∷ others) (suc k) d rise h =
    let next : NewLayout = get_or others k d in
    let front : List (List ℕ) = with_each plant (take k others) in
    let rest = next_of (suc first.slave) plant others k d rise.1 (omega (arith, h)) in
    let later : first.slave < next.slave = least_at (suc first.slave) others k d rise.1 (omega (arith, h)) in
    record {
      is = ap (λ (p : List (List ℕ)). set p first.slave first.layout) rest.is ∙ set_comm front next.slave first.slave next.layout first.layout (λ same. absurd (omega (arith, later)));
      had = get_or-set_other front first.slave next.slave first.layout [] (λ same. absurd (omega (arith, later))) ∙ rest.had;
    }

-- ---- weights

-- a slave is no heavier than all of them
heavier : (plant : List (List ℕ)) (slave : ℕ) → slave < length plant → weight_of (words_of plant slave) ≤ weight_of_all plant
heavier [] slave h = absurd (omega (arith, h))
heavier (words ∷ plant) zero h = omega (arith, sum_by-cons weight_of words plant)
heavier (words ∷ plant) (suc slave) h = omega (arith, sum_by-cons weight_of words plant, heavier plant slave (omega (arith, h)))

pub heavier_with : (plant : List (List ℕ)) (new : List NewLayout) (k : ℕ) (next : NewLayout) → IsNext plant new k next → next.slave < length plant
    → weight_of (words_of plant next.slave) ≤ weight_of_all (with_each plant (take k new))
heavier_with plant new k next step there =
    let front : List (List ℕ) = with_each plant (take k new) in
    omega (arith, ap weight_of step.had, heavier front next.slave (omega (arith, there, length-with_each plant (take k new))))

-- a slave that is there
pub weight_with-next : (plant : List (List ℕ)) (new : List NewLayout) (k : ℕ) (next : NewLayout) (weight : ℕ) → IsNext plant new k next → next.slave < length plant
    → weight + weight_of (words_of plant next.slave) ≡ weight_of_all (with_each plant (take k new)) + weight_of next.layout → weight ≡ weight_of_all (with_each plant (take (suc k) new))
weight_with-next plant new k next weight step there is =
    let front : List (List ℕ) = with_each plant (take k new) in
    omega (
      arith,
      is,
      ap weight_of step.had,
      ap weight_of_all step.is,
      sum_by-set weight_of front next.slave next.layout [] (omega (arith, there, length-with_each plant (take k new))),
    )

-- a slave that isn't there
pub weight_without : (plant : List (List ℕ)) (new : List NewLayout) (k : ℕ) (next : NewLayout) → IsNext plant new k next → length plant ≤ next.slave
    → weight_of_all (with_each plant (take k new)) ≡ weight_of_all (with_each plant (take (suc k) new))
weight_without plant new k next step absent =
    let front : List (List ℕ) = with_each plant (take k new) in
    ap weight_of_all (sym (step.is ∙ set_past front next.slave next.layout (omega (arith, absent, length-with_each plant (take k new)))))
