use Rattle.line_watch.proofs.Padding.{zeros-of}
use Rattle.line_watch.proofs.pcap.padding.Goals as goal

pub returns-clause-zeros : goal.returns-clause-zeros
returns-clause-zeros c = zeros-of c.args.count c.saturating_sub.result c.saturating_sub.ensures
