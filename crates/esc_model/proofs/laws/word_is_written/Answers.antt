use Rattle.esc_model.proofs.WordTaking.{issue_begins}
use Rattle.esc_model.proofs.WordWriting.{taken_then_well}
use Rattle.esc_model.proofs.laws.word_is_written.Goals as goal

pub returns-clause-begins : goal.returns-clause-begins
returns-clause-begins c = issue_begins

pub returns-clause-settles : goal.returns-clause-settles
returns-clause-settles c = taken_then_well
