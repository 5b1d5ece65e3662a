use Rattle.std.proofs.Common.{◌≡◌, ◌≤◌, ◌-◌, ◌++◌, length, drop}
use Rattle.sii_words.specs.Run.{stretches}
use Rattle.sii_words.proofs.stretches.push_stretches.Given as goal

-- the runs so far and those of the words that are left
abbrev pub invariant-loop-at : goal.invariant-loop-at
invariant-loop-at l = record {
  within : l.at ≤ length l.old;
  runs : l.runs.items ++ stretches l.slave l.at (drop l.at l.old) (drop l.at l.new) ≡ l.initial.runs.items ++ stretches l.slave 0 l.old l.new;
}

abbrev pub decreases-loop-at : goal.decreases-loop-at
decreases-loop-at l = length l.old - l.at
