use Rattle.std.proofs.Common.{arith}
use Rattle.sii_image.proofs.Fitting.{weights_most}
use Rattle.sii_image.proofs.layout.put.Goals as goal

pub weight_with-changed-requires-clause-most : goal.weight_with-changed-requires-clause-most
weight_with-changed-requires-clause-most c = omega (arith, c.requires.few, c.requires.weight, weights_most c.args.slaves.now)
