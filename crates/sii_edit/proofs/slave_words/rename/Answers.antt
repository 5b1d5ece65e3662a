use Rattle.std.proofs.Common.{ℕ, List, set, ap, ◌∙◌}
use Rattle.sii_edit.proofs.slave_words.rename.Goals as goal

pub returns : goal.returns
returns c = c.set-2.ensures ∙ ap (λ (ws : List ℕ). set ws 7 c.args.name.seven) c.set.ensures
