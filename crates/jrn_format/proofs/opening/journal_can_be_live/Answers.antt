use Rattle.jrn_format.proofs.OpenLaws.{journal-can-be-live}
use Rattle.jrn_format.proofs.opening.journal_can_be_live.Goals as goal

pub returns : goal.returns
returns c = journal-can-be-live
