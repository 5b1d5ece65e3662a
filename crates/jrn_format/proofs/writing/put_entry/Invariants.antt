use Rattle.std.proofs.Common.{◌≡◌, ◌++◌, take}
use Rattle.std.specs.Prelude.{All}
use Rattle.std.specs.List.{flat_map}
use Rattle.jrn_format.specs.Batch.{spelt_run, RunFits}
use Rattle.jrn_format.proofs.writing.put_entry.Given as goal

abbrev pub invariant-loop-run : goal.invariant-loop-run
invariant-loop-run l = record {
  spelt : l.out.items ≡ l.initial.out.items ++ flat_map spelt_run (take l.run-index l.runs);
  fit : All RunFits (take l.run-index l.runs);
}
