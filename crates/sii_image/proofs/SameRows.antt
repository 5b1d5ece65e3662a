-- What a slave adds to the process image depends only on the words of its categories.
use Rattle.std.proofs.Common.{◌≡◌, ◌-◌, ℕ, Bool, true, false, List, length, take, drop, sym, ap, ◌∙◌, Ok, arith, length-drop, nat_eq, IsTrue}
use Rattle.std.specs.Cmp.Lexicographic.{pointwise, same_text}
use Rattle.std.proofs.lemmas.List.{take_all}
use Rattle.sii_cats.specs.steps.Chain.{member_at}
use Rattle.sii_cats.specs.steps.Items.{◌>>=◌, items_of}
use Rattle.sii_image.specs.declared.rows.Row.{Row}
use Rattle.sii_image.specs.ProcessData.{contents_of_kind, managers_in, pdos_in, rows_of, rows_read}

-- the rows of a chain with these words
after : List ℕ → List Row
after words = rows_read (do
  members ← items_of member_at words
  managers ← managers_in (contents_of_kind 41 members)
  outputs ← pdos_in (contents_of_kind 51 members)
  inputs ← pdos_in (contents_of_kind 50 members)
  Ok (record { managers = take 16 managers; outputs = outputs; inputs = inputs }))

pub same_rows : (old new : List ℕ) → drop 64 old ≡ drop 64 new → rows_of old ≡ rows_of new
unfolding after rows_of
same_rows old new same = ap after same

-- words that compare equal are equal
reported : (same : Bool) (xs ys : List ℕ) → same ≡ pointwise nat_eq xs ys → IsTrue same → xs ≡ ys
reported true xs ys e h = same_text xs ys e
reported false xs ys e h = cc

entire : (words : List ℕ) → take (length words - 64) (drop 64 words) ≡ drop 64 words
entire words = take_all (length words - 64) (drop 64 words) (omega (arith, length-drop 64 words))

-- words that compare equal from word 64 on are equal from there on
pub reported_after : (same : Bool) (old new : List ℕ) → same ≡ pointwise nat_eq (take (length old - 64) (drop 64 old)) (take (length new - 64) (drop 64 new)) → IsTrue same
    → drop 64 old ≡ drop 64 new
reported_after same old new e h = sym (entire old) ∙ reported same (take (length old - 64) (drop 64 old)) (take (length new - 64) (drop 64 new)) e h ∙ entire new
