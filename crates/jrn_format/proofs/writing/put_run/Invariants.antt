use Rattle.std.proofs.Common.{◌≡◌, ◌<◌, ◌^◌, ◌++◌, take}
use Rattle.std.specs.Int.{w16, to_le_bytes}
use Rattle.std.specs.Prelude.{All}
use Rattle.std.specs.List.{flat_map}
use Rattle.jrn_format.proofs.writing.put_run.Given as goal

abbrev pub invariant-loop-word : goal.invariant-loop-word
invariant-loop-word l = record {
  spelt : l.out.items ≡ l.initial.out.items ++ flat_map (to_le_bytes w16) (take l.word-index l.words);
  fit : All (λ word. word < 2 ^ 16) (take l.word-index l.words);
}
