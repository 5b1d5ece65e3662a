use Rattle.std.proofs.Common.{sym, ◌∙◌}
use Rattle.ecat_frame.proofs.SoFar.{drop_gives}
use Rattle.ecat_frame.proofs.frame.Frame.datagram.Goals as goal

pub returns : goal.returns
returns c = drop_gives c.args.self.now c.args.k _ _ (sym c.datagrams_from.ensures ∙ c.in-Some.ensures.steps)
