use Rattle.std.proofs.Common.{◌≡◌, ◌++◌, take}
use Rattle.std.specs.List.{flat_map}
use Rattle.sii_cats.specs.Bytes.{bytes_of}
use Rattle.sii_cats.specs.Pdos.{view, head_bytes, entry_bytes}
use Rattle.sii_cats.proofs.mappings.write_pdo.Given as goal

abbrev pub invariant-loop-entry : goal.invariant-loop-entry
invariant-loop-entry l = bytes_of l.words.items ≡ (bytes_of l.fn.words.items ++ head_bytes (view l.pdo)) ++ flat_map entry_bytes (take l.entry-index l.entry-items)
