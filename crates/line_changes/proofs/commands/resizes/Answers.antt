use Rattle.std.proofs.Common.{◌≡◌, List, [], ℕ, ◌+◌, ◌++◌, ap, ◌∙◌}
use Rattle.sii_edit.specs.Fold.{contents_after}
use Rattle.line_changes.specs.Size.{resizes_between}
use Rattle.line_changes.proofs.Ranges.{next_of}
use Rattle.line_changes.proofs.Steps.{one_more}
use Rattle.line_changes.proofs.commands.resizes.Goals as goal

pub loop-command-preserved : goal.loop-command-preserved
loop-command-preserved c =
    let base = c.args.base.now in
    let commands = c.args.commands.now in
    let n = c.loop-command.command in
    let now = c.loop-command.found.items in
    let next = c.in_ok-next.next in
    let plant : next ≡ contents_after base commands (n + 1) =
    one_more base c.loop-command.plant next commands n c.index-commands-command.result c.index-commands-command.is c.loop-command-test.true c.loop-command.invariant.plant c.in_ok-next.ensures in
    record {
      plant = plant;
      found =
          next_of (λ k. resizes_between k (contents_after base commands k) (contents_after base commands (k + 1))) [] now c.note_command.new.found.items n c.loop-command.invariant.found
          (c.in_ok-note_command.ensures ∙ ap (λ (p : List (List ℕ)). now ++ resizes_between n p next) c.loop-command.invariant.plant
          ∙ ap (λ (p : List (List ℕ)). now ++ resizes_between n (contents_after base commands n) p) plant);
    }
