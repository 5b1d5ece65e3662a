use Rattle.std.proofs.Common.{◌≡◌, length}
use Rattle.sii_cats.specs.Bytes.{bytes_of}
use Rattle.sii_cats.specs.steps.Items.{items_of}
use Rattle.sii_cats.specs.Pdos.{views}
use Rattle.sii_cats.specs.steps.Pdos.{pdo_at}
use Rattle.sii_cats.proofs.Items.{with_front}
use Rattle.sii_cats.proofs.mappings.pdos.Given as goal

abbrev pub invariant-loop-pdos : goal.invariant-loop-pdos
invariant-loop-pdos l = with_front (views l.pdos.items) (items_of pdo_at (bytes_of l.rest)) ≡ items_of pdo_at (bytes_of l.words)

abbrev pub decreases-loop-pdos : goal.decreases-loop-pdos
decreases-loop-pdos l = length (bytes_of l.rest)
