-- An area of zeros, and the journal that it makes.
use Rattle.std.proofs.Common.{◌≡◌, ℕ, suc, ◌+◌, ◌-◌, ◌/◌, ◌^◌, ◌<◌, ◌≤◌, List, [], ◌++◌, length, drop, replicate, refl, sym, ap, subst, ◌∙◌, inl, arith}
use Rattle.std.proofs.lemmas.List.{length-replicate, replicate-append-replicate}
use Rattle.jrn_format.specs.declared.journal.Form.TheVariants.{Two}
use Rattle.jrn_format.specs.Area.{IsClosed}
use Rattle.jrn_format.specs.Header.{HasHeader, IsCapacity}
use Rattle.jrn_format.specs.Migration.{IsEmptyJournal}
use Rattle.site_journal.specs.Formatting.{formatted, HasClosedHalves}

zeros_closed : (count : ℕ) → 0 < count → IsClosed (replicate count 0)
zeros_closed count some =
    let more : count ≡ suc (count - 1) = omega arith in
    (0, replicate (count - 1) 0, (λ e. absurd (omega (arith, e))), ap (λ (n : ℕ). replicate {A = ℕ} n 0) more)

pub zeros_halved : (capacity : ℕ) → IsCapacity capacity → HasClosedHalves (replicate capacity 0)
zeros_halved capacity is =
    let h : ℕ = capacity / 2 in
    let r : ℕ = capacity - (h + h) in
    let least : 4096 ≤ capacity = is.0 in
    let sum : capacity ≡ h + (h + r) = omega arith in
    let some : 0 < h = omega arith in
    record {
      first = replicate h 0;
      second = replicate h 0;
      halves = record {
        equal = refl;
        last = replicate r 0;
        odd = omega (arith, length-replicate {A = ℕ} r 0);
        entire = ap (λ (n : ℕ). replicate {A = ℕ} n 0) sum ∙ sym (replicate-append-replicate {A = ℕ} h (h + r) 0)
            ∙ ap (λ (l : List ℕ). replicate h 0 ++ l) (sym (replicate-append-replicate {A = ℕ} h r 0));
      };
      first_gate = zeros_closed h some;
      second_gate = zeros_closed h some;
    }

pub formatted_is_empty : (sizes bytes : List ℕ) (capacity : ℕ) → length sizes < 2 ^ 16 → IsCapacity capacity → IsEmptyJournal (formatted (length sizes) capacity bytes) sizes Two
formatted_is_empty sizes bytes capacity few is =
    let area : List ℕ = replicate capacity 0 in
    let rest : List ℕ = drop (8 + capacity) bytes in
    let long : capacity ≡ length area = sym (length-replicate {A = ℕ} capacity 0) in
    let most : capacity ≤ 4194304 = is.1 in
    let header : HasHeader (formatted (length sizes) capacity bytes) 2 (length sizes) capacity (area ++ rest) = record { slaves_fit = few; capacity_fits = omega arith; spelt = refl } in
    let closed = zeros_halved capacity is in
    record {
      area = area;
      has_area = record {
        version = 2;
        rest = rest;
        header = subst (λ (n : ℕ). HasHeader (formatted (length sizes) capacity bytes) 2 (length sizes) n (area ++ rest)) long header;
        is_form = refl;
        capacity = subst (λ (n : ℕ). IsCapacity n) long is;
      };
      live = record {
        first = closed.first;
        second = closed.second;
        halves = closed.halves;
        firsts = [];
        seconds = [];
        first_live = record { rest = closed.first; starts = record { can_stand = tt; spelt = refl }; ends = closed.first_gate };
        second_live = record { rest = closed.second; starts = record { can_stand = tt; spelt = refl }; ends = closed.second_gate };
        in_order = inl ((0, tt, tt), refl);
      };
      within = tt;
    }
