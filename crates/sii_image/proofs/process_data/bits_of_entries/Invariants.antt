use Rattle.std.proofs.Common.{◌≡◌, ◌+◌, ◌*◌, ◌≤◌, length, sum_by}
use Rattle.sii_cats.specs.Pdos.{entries_in}
use Rattle.sii_image.proofs.process_data.bits_of_entries.Given as goal

abbrev pub invariant-loop-entry : goal.invariant-loop-entry
invariant-loop-entry l = record {
  sum : l.bits + sum_by (λ entry. entry.bit_length) (entries_in l.rest) ≡ sum_by (λ entry. entry.bit_length) (entries_in l.words);
  most : l.bits + 64 * length l.rest ≤ 64 * length l.words;
}

abbrev pub decreases-loop-entry : goal.decreases-loop-entry
decreases-loop-entry l = length l.rest
