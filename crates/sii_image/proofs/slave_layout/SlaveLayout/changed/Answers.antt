use Rattle.std.proofs.Common.{◌≡◌, List, ℕ, drop, sym, ap, ◌∙◌}
use Rattle.sii_image.specs.ProcessData.{rows_of}
use Rattle.sii_image.proofs.SameRows.{same_rows}
use Rattle.sii_image.proofs.slave_layout.SlaveLayout.changed.Goals as goal

pub invariant_of-result : goal.invariant_of-result
invariant_of-result c =
    let old : List ℕ = c.args.old.now in
    let new : List ℕ = c.args.new.now in
    let same : drop 64 old ≡ drop 64 new = rw (c.as_slice.ensures.words, c.as_slice-2.ensures.words) at (c.have_same_categories.ensures c.if-not-have_same_categories.false) in
    c.in_ok-copied.ensures ∙ c.rows.ensures ∙ ap rows_of c.requires ∙ same_rows old new same ∙ sym (ap rows_of c.of-2.ensures)
