use Rattle.station_threads.proofs.Refusing.{counts-refusal}
use Rattle.station_threads.proofs.desk.Desk.submit.Goals as goal

pub returns-in-Err-clause-refused : goal.returns-in-Err-clause-refused
returns-in-Err-clause-refused g c =
    counts-refusal _ c.args.command c.in-Err.refused.refusal _ c.args.share.now _ c.submit-answer.new.share c.in-Err.ensures.answer
