use Rattle.std.proofs.Common.{◌≡◌, length, drop, fold}
use Rattle.std.specs.List.{filter}
use Rattle.esc_model.specs.Fmmu.{writes, written_by}
use Rattle.esc_model.proofs.fmmu.write_mapped.Given as goal

-- what the units left make of the memory is what all of them make of the first
abbrev pub invariant-loop-unit : goal.invariant-loop-unit
invariant-loop-unit l = fold (written_by l.content l.start) l.memory (filter (writes l.start (length l.content)) (drop l.unit-index l.units)) ≡ fold (written_by l.content l.start) l.initial.memory (filter (writes l.start (length l.content)) l.units)
