use Rattle.std.proofs.Common.{◌≡◌, map, take}
use Rattle.sii_edit.proofs.LayoutLaws.{layout_in}
use Rattle.sii_edit.proofs.layouts.new_layouts.Given as goal

-- the layouts of the slaves so far
abbrev pub invariant-loop-renewal : goal.invariant-loop-renewal
invariant-loop-renewal l = l.layouts.items ≡ map (layout_in l.plant) (take l.renewal-index l.draft)
