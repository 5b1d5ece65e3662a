use Rattle.std.proofs.Common.{◌≡◌, ◌++◌, take}
use Rattle.std.specs.Prelude.{All}
use Rattle.std.specs.List.{flat_map}
use Rattle.jrn_format.specs.Batch.{spelt_entry, EntryFits}
use Rattle.jrn_format.proofs.writing.payload.Given as goal

abbrev pub invariant-loop-entry : goal.invariant-loop-entry
invariant-loop-entry l = record {
  spelt : l.bytes.items ≡ l.initial.bytes.items ++ flat_map spelt_entry (take l.entry-index l.entries);
  fit : All EntryFits (take l.entry-index l.entries);
}
