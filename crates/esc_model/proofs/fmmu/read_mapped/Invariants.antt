use Rattle.std.proofs.Common.{◌≡◌, length, drop, fold}
use Rattle.std.specs.List.{filter}
use Rattle.esc_model.specs.Fmmu.{reads, read_by}
use Rattle.esc_model.proofs.fmmu.read_mapped.Given as goal

-- what the units left make of the content is what all of them make of the first
abbrev pub invariant-loop-unit : goal.invariant-loop-unit
invariant-loop-unit l = fold (read_by l.memory l.start) l.content (filter (reads l.start (length l.initial.content)) (drop l.unit-index l.units)) ≡ fold (read_by l.memory l.start) l.initial.content (filter (reads l.start (length l.initial.content)) l.units)
