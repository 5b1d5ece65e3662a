-- Rows placed one after the other.
use Rattle.std.specs.Prelude.{filter, not}
use Rattle.std.proofs.Math.Bool.{beq}
use Rattle.std.specs.List.{enumerate_from, flat_map}
use Rattle.std.proofs.Common.{◌≡◌, ℕ, ◌+◌, ◌<◌, Bool, true, false, cond, List, [], ◌∷◌, ◌++◌, length, map, get_or, drop, refl, sym, ap, ◌∙◌, append_assoc, arith}
use Rattle.std.proofs.lemmas.List.{append-nil, drop_more}
use Rattle.std.proofs.lemmas.List.Sums.{sum_by-append, sum_by-cons}
use Rattle.sii_image.specs.declared.rows.Row.{Row}
use Rattle.sii_image.specs.declared.process_image.Segment.{Segment}
use Rattle.sii_image.specs.declared.placement.Placement.{Placement}
use Rattle.sii_image.specs.ProcessData.{rows_of}
use Rattle.sii_image.specs.steps.Placement.{AreAdded, segments_from}
use Rattle.sii_image.specs.ProcessImage.{is_towards, segment_at, size_of, slave_rows, total}

-- All rows but the rest are placed.
pub record Placing (old now : Placement) (all rest : List (ℕ × Row)) : Type 0 where
  pub segments : now.segments.items ++ segments_from now.size rest ≡ old.segments.items ++ segments_from old.size all
  pub size : now.size + total rest ≡ old.size + total all

pub total-append : (xs ys : List (ℕ × Row)) → total (xs ++ ys) ≡ total xs + total ys
total-append xs ys = sum_by-append (λ (r : ℕ × Row). size_of r.1) xs ys

pub segments_from-append : (offset : ℕ) (xs ys : List (ℕ × Row)) → segments_from offset (xs ++ ys) ≡ segments_from offset xs ++ segments_from (offset + total xs) ys
segments_from-append offset [] ys = ap (λ (o : ℕ). segments_from o ys) (omega arith)
segments_from-append offset (x ∷ xs) ys =
    ap (λ (rest : List Segment). segment_at offset x ∷ rest)
    (segments_from-append (offset + size_of x.1) xs ys
    ∙ ap (λ (o : ℕ). segments_from (offset + size_of x.1) xs ++ segments_from o ys) (omega (arith, sum_by-cons (λ (r : ℕ × Row). size_of r.1) x xs)))

pub places_more : (old now next : Placement) (all more rest : List (ℕ × Row)) → Placing old now all (more ++ rest) → AreAdded now next more → Placing old next all rest
places_more old now next all more rest s added = record {
  segments =
      ap (λ (o : ℕ). next.segments.items ++ segments_from o rest) added.size
      ∙ ap (λ (segments : List Segment). segments ++ segments_from (now.size + total more) rest) added.segments
      ∙ append_assoc now.segments.items (segments_from now.size more) (segments_from (now.size + total more) rest)
      ∙ ap (λ (segments : List Segment). now.segments.items ++ segments) (sym (segments_from-append now.size more rest))
      ∙ s.segments;
  size = omega (arith, s.size, added.size, total-append more rest);
}

pub places_all : (old now : Placement) (all : List (ℕ × Row)) → Placing old now all [] → AreAdded old now all
places_all old now all s = record {
  segments = sym (append-nil now.segments.items) ∙ s.segments;
  size = omega (arith, s.size);
}

pub goes_beyond : (old now : Placement) (all more rest : List (ℕ × Row)) → Placing old now all (more ++ rest) → 1486 < now.size + total more → 1486 < old.size + total all
goes_beyond old now all more rest s h = omega (arith, s.size, total-append more rest)

-- ---- the next row of a slave, and the next slave

towards_is : (output row : Bool) → cond output row (not row) ≡ beq row output
towards_is true true = refl
towards_is true false = refl
towards_is false true = refl
towards_is false false = refl

rows_if : Bool → ℕ → Row → List Row → Bool → List (ℕ × Row)
rows_if output slave r rest b = map (λ row. (slave, row)) (cond b (r ∷ filter (is_towards output) rest) (filter (is_towards output) rest))

pub slave_rows-taken : (output : Bool) (slave : ℕ) (rows : List Row) (i : ℕ) (d : Row) → i < length rows → beq (get_or rows i d).output output ≡ true
    → slave_rows output (slave, drop i rows) ≡ (slave, get_or rows i d) ∷ slave_rows output (slave, drop (i + 1) rows)
unfolding rows_if
slave_rows-taken output slave rows i d h e =
    ap (λ (rest : List Row). slave_rows output (slave, rest)) (drop_more rows i d h)
    ∙ ap (rows_if output slave (get_or rows i d) (drop (i + 1) rows)) (towards_is output (get_or rows i d).output ∙ e)

pub slave_rows-left : (output : Bool) (slave : ℕ) (rows : List Row) (i : ℕ) (d : Row) → i < length rows → beq (get_or rows i d).output output ≡ false
    → slave_rows output (slave, drop i rows) ≡ slave_rows output (slave, drop (i + 1) rows)
unfolding rows_if
slave_rows-left output slave rows i d h e =
    ap (λ (rest : List Row). slave_rows output (slave, rest)) (drop_more rows i d h)
    ∙ ap (rows_if output slave (get_or rows i d) (drop (i + 1) rows)) (towards_is output (get_or rows i d).output ∙ e)

-- the outputs or the inputs of these slaves, the first with this number
abbrev pub rows_after : Bool → ℕ → List (List ℕ) → List (ℕ × Row)
rows_after output number slaves = flat_map (λ slave. slave_rows output (slave.0, rows_of slave.1)) (enumerate_from number slaves)

pub rows_after-next : (output : Bool) (slaves : List (List ℕ)) (i : ℕ) (d : List ℕ) → i < length slaves
    → rows_after output i (drop i slaves) ≡ slave_rows output (i, rows_of (get_or slaves i d)) ++ rows_after output (i + 1) (drop (i + 1) slaves)
rows_after-next output slaves i d h = ap (rows_after output i) (drop_more slaves i d h)
