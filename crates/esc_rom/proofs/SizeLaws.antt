-- How many words each slave has.
use Rattle.std.proofs.Common.{◌≡◌, ℕ, zero, suc, ◌+◌, ◌<◌, ◌≤◌, List, [], ◌∷◌, ◌++◌, length, take, slice_get, slice_index, option_map, refl, sym, ap, ◌∙◌, arith}
use Rattle.std.specs.Prelude.{unwrap_or}
use Rattle.std.proofs.lemmas.List.{length-map, take_all, take_more}
use Rattle.esc_model.specs.SlaveHalf.{SlaveHalf}
use Rattle.site_core.specs.Line.{Line}
use Rattle.site_core.specs.State.{Seen, word_counts, words_held}
use Rattle.esc_rom.specs.Owned.{AreSizes}

-- the first `count` sizes
pub record FirstSizes (count : ℕ) (sizes : List ℕ) (line : Line) (seen : Seen) : Type 0 where
  pub of_line : sizes ≡ take count line.sizes
  pub held : sizes ≡ take count (word_counts seen.state.halves)

pub no_sizes : (line : Line) (seen : Seen) → FirstSizes 0 [] line seen
no_sizes line seen = record { of_line = refl; held = refl }

held_there : (halves : List SlaveHalf) (i : ℕ) → i < length halves → slice_index (word_counts halves) i ≡ unwrap_or (option_map (λ (half : SlaveHalf). length half.words) (slice_get halves i)) 0
held_there [] i inside = absurd (omega arith)
held_there (half ∷ halves) zero inside = refl
held_there (half ∷ halves) (suc i) inside = held_there halves i (omega arith)

pub more_sizes : (count : ℕ) (sizes : List ℕ) (line : Line) (seen : Seen) (size : ℕ) → count < length line.sizes → count < length seen.state.halves → size ≡ slice_index line.sizes count → size ≡ words_held seen count
    → FirstSizes count sizes line seen → FirstSizes (count + 1) (sizes ++ size ∷ []) line seen
more_sizes count sizes line seen size inside there is held first = record {
  of_line = ap (λ (xs : List ℕ). xs ++ size ∷ []) first.of_line ∙ ap (λ (n : ℕ). take count line.sizes ++ n ∷ []) is ∙ sym (take_more line.sizes count 0 inside);
  held = let so : size ≡ slice_index (word_counts seen.state.halves) count = held ∙ sym (held_there seen.state.halves count there) in
      ap (λ (xs : List ℕ). xs ++ size ∷ []) first.held ∙ ap (λ (n : ℕ). take count (word_counts seen.state.halves) ++ n ∷ []) so
      ∙ sym (take_more (word_counts seen.state.halves) count 0 (let long = length-map seen.state.halves (λ (half : SlaveHalf). length half.words) in omega arith));
}

pub all_sizes : (count : ℕ) (sizes : List ℕ) (line : Line) (seen : Seen) → length line.sizes ≡ count → 1 ≤ count → count ≤ 64 → length seen.state.halves ≤ count → FirstSizes count sizes line seen → AreSizes sizes line seen
all_sizes count sizes line seen all one most there first =
    let same : sizes ≡ line.sizes = first.of_line ∙ take_all count line.sizes (omega arith) in
    let long : length sizes ≡ length line.sizes = ap length same in
    record {
      of_line = same;
      some = omega arith;
      most = omega arith;
      held = first.held ∙ take_all count (word_counts seen.state.halves) (let long = length-map seen.state.halves (λ (half : SlaveHalf). length half.words) in omega arith);
    }
