-- The segments of rows placed one after the other are those with offsets as sums; and when the rows are within the limits.
use Rattle.std.specs.Prelude.{take, map, nat_le, ◌&&◌}
use Rattle.std.specs.List.{enumerate_from, list_all}
use Rattle.std.proofs.Common.{◌≡◌, ℕ, ◌+◌, ◌-◌, ◌≤◌, List, [], ◌∷◌, ◌++◌, length, sum_by, Bool, cond, Option, Some, None, true, false, refl, sym, ap, ◌∙◌, append_assoc, arith}
use Rattle.std.proofs.lemmas.List.{take_at, length_push}
use Rattle.std.proofs.lemmas.Bool.{le-leb}
use Rattle.std.proofs.lemmas.List.Sums.{sum_by_push}
use Rattle.sii_image.specs.declared.rows.Row.{Row}
use Rattle.sii_image.specs.declared.process_image.Segment.{Segment}
use Rattle.sii_image.specs.declared.placement.Placement.{Placement}
use Rattle.sii_image.specs.ProcessData.{rows_of}
use Rattle.sii_image.specs.steps.Placement.{AreAdded, segments_from}
use Rattle.sii_image.specs.ProcessImage.{ProcessImageParts, all_rows, counter_of, has_few_rows, placed, process_image, rows_towards, segment_at, segments_of, size_of, total}
use Rattle.sii_image.proofs.Placing.{segments_from-append, total-append}

-- each of these rows where its number says, among all rows
abbrev placed_among : List (ℕ × Row) → ℕ → List (ℕ × Row) → List Segment
placed_among all number rows = map (λ r. segment_at (total (take r.0 all)) r.1) (enumerate_from number rows)

placed_after : (before rows : List (ℕ × Row)) → placed_among (before ++ rows) (length before) rows ≡ segments_from (total before) rows
placed_after before [] = refl
placed_after before (r ∷ rows) =
    let here : total (take (length before) (before ++ r ∷ rows)) ≡ total before = ap total (take_at before (r ∷ rows) (length before) refl) in
    let after : placed_among (before ++ r ∷ rows) (length before + 1) rows ≡ segments_from (total before + size_of r.1) rows =
    ap (λ (all : List (ℕ × Row)). placed_among all (length before + 1) rows) (sym (append_assoc before (r ∷ []) rows))
    ∙ ap (λ (n : ℕ). placed_among ((before ++ r ∷ []) ++ rows) n rows) (sym (length_push before r))
    ∙ placed_after (before ++ r ∷ []) rows
    ∙ ap (λ (o : ℕ). segments_from o rows) (sum_by_push (λ (x : ℕ × Row). size_of x.1) before r) in
    ap (λ (o : ℕ). segment_at o r ∷ placed_among (before ++ r ∷ rows) (length before + 1) rows) here
    ∙ ap (λ (rest : List Segment). segment_at (total before) r ∷ rest) after

pub segments_of-from : (rows : List (ℕ × Row)) → segments_from 0 rows ≡ segments_of rows
segments_of-from rows = sym (placed_after [] rows)

image_if : List (List ℕ) → Bool → Option ProcessImageParts
image_if plant b = cond b (Some (placed plant)) None

pub process_image-some : (plant : List (List ℕ)) → list_all has_few_rows plant ≡ true → total (all_rows plant) ≤ 1486 → process_image plant ≡ Some (placed plant)
unfolding image_if
process_image-some plant few fits =
    ap (λ (b : Bool). image_if plant (b && nat_le (total (all_rows plant)) 1486)) few
    ∙ ap (image_if plant) (le-leb (total (all_rows plant)) 1486 fits)

abbrev pub made : List (List ℕ) → List Segment → ℕ → ℕ → ProcessImageParts
made plant segments outputs inputs = record { segments = segments; outputs = outputs; inputs = inputs; counter = sum_by (λ words. counter_of (rows_of words)) plant }

-- the outputs placed, and then the inputs
pub process_image-placed : (plant : List (List ℕ)) (start first last : Placement) → list_all has_few_rows plant ≡ true → start.segments.items ≡ [] → start.size ≡ 0
    → AreAdded start first (rows_towards true plant) → AreAdded first last (rows_towards false plant) → last.size ≤ 1486
    → process_image plant ≡ Some (made plant last.segments.items first.size (last.size - first.size))
process_image-placed plant start first last few nothing zero outputs inputs fits =
    let outs : List (ℕ × Row) = rows_towards true plant in
    let ins : List (ℕ × Row) = rows_towards false plant in
    let first_size : first.size ≡ total outs = omega (arith, outputs.size) in
    let segments : last.segments.items ≡ segments_of (all_rows plant) =
    inputs.segments
    ∙ ap (λ (o : ℕ). first.segments.items ++ segments_from o ins) first_size
    ∙ ap (λ (s : List Segment). s ++ segments_from (total outs) ins) (outputs.segments ∙ ap (λ (s : List Segment). s ++ segments_from start.size outs) nothing ∙ ap (λ (o : ℕ). segments_from o outs) zero)
    ∙ sym (segments_from-append 0 outs ins ∙ ap (λ (o : ℕ). segments_from 0 outs ++ segments_from o ins) (omega arith)) ∙ segments_of-from (all_rows plant) in
    let inputs_size : last.size - first.size ≡ total ins = omega (arith, inputs.size) in
    process_image-some plant few (omega (arith, inputs.size, total-append outs ins))
    ∙ ap (λ (s : List Segment). Some (made plant s (total outs) (total ins))) (sym segments)
    ∙ ap (λ (o : ℕ). Some (made plant last.segments.items o (total ins))) (sym first_size)
    ∙ ap (λ (i : ℕ). Some (made plant last.segments.items first.size i)) (sym inputs_size)
