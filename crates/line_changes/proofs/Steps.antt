-- One command after another.
use Rattle.std.proofs.Common.{◌≡◌, ℕ, ◌+◌, ◌<◌, List, [], ◌∷◌, ◌++◌, length, take, get_or, add-one, sym, ap, ◌∙◌}
use Rattle.std.proofs.Math.Seq.{take-suc}
use Rattle.sii_edit.specs.declared.command.Command.{Command}
use Rattle.sii_edit.specs.Fold.{after, contents, contents_after}
use Rattle.sii_edit.proofs.FoldLaws.{contents-push}

-- a further command
pub one_more : (base plant next : List (List ℕ)) (commands : List Command) (n : ℕ) (command : Command) → command ≡ get_or commands n command → n < length commands
    → plant ≡ contents_after base commands n → next ≡ after plant command → next ≡ contents_after base commands (n + 1)
one_more base plant next commands n command is below before step =
    step ∙ ap (λ (p : List (List ℕ)). after p command) before ∙ sym (contents-push base (take n commands) command)
    ∙ ap (λ (c : Command). contents base (take n commands ++ c ∷ [])) is ∙ ap (contents base) (sym (take-suc commands n command below))
    ∙ ap (contents_after base commands) (sym (add-one n))
