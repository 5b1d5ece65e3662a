use Rattle.std.proofs.Common.{◌≡◌, ◌<◌, ℕ, length}
use Rattle.book_model.specs.Queue.{word_at, word_passed}
use Rattle.book_model.proofs.down.words_down.Given as goal

abbrev pub invariant-loop-place : goal.invariant-loop-place
invariant-loop-place l = record {
  same : length l.words ≡ length l.initial.words;
  each : (k : ℕ) → k < length l.initial.words → word_at l.words k ≡ word_passed l.count l.place (word_at l.initial.words k);
}
