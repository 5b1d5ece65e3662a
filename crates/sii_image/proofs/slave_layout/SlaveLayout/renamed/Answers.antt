use Rattle.std.proofs.Common.{◌≡◌, List, ℕ, drop, set, sym, ap, ◌∙◌, arith}
use Rattle.std.proofs.lemmas.List.{drop-set-lt}
use Rattle.sii_image.specs.ProcessData.{rows_of}
use Rattle.sii_image.proofs.SameRows.{same_rows}
use Rattle.sii_image.proofs.slave_layout.SlaveLayout.renamed.Goals as goal

pub invariant_of-result : goal.invariant_of-result
invariant_of-result c =
    let old : List ℕ = c.args.old.now in
    let new : List ℕ = set (set old 4 c.args.alias) 7 c.args.seven in
    let same : drop 64 old ≡ drop 64 new =
    sym (drop-set-lt 64 (set old 4 c.args.alias) 7 c.args.seven (omega arith) ∙ drop-set-lt 64 old 4 c.args.alias (omega arith)) in
    c.in_ok-copied.ensures ∙ c.rows.ensures ∙ ap rows_of c.requires ∙ same_rows old new same ∙ sym (ap (λ (ws : List ℕ). rows_of (set (set ws 4 c.args.alias) 7 c.args.seven)) c.of.ensures)
