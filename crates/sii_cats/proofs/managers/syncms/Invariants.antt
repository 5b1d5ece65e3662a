use Rattle.std.proofs.Common.{◌≡◌, length}
use Rattle.sii_cats.specs.Bytes.{bytes_of}
use Rattle.sii_cats.specs.steps.Items.{items_of}
use Rattle.sii_cats.specs.steps.Contents.{manager_at}
use Rattle.sii_cats.proofs.Items.{with_front}
use Rattle.sii_cats.proofs.managers.syncms.Given as goal

abbrev pub invariant-loop-manager : goal.invariant-loop-manager
invariant-loop-manager l = with_front l.managers.items (items_of manager_at (bytes_of l.rest)) ≡ items_of manager_at (bytes_of l.words)

abbrev pub decreases-loop-manager : goal.decreases-loop-manager
decreases-loop-manager l = length (bytes_of l.rest)
