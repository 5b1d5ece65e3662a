use Rattle.script_session.proofs.submitting.ask_one.Goals as goal

pub returns-in_ok-print_refused-in-Err : goal.returns-in_ok-print_refused-in-Err
returns-in_ok-print_refused-in-Err g c = record { asked = (c.print_refused.ensures.answered, c.in-Err.ensures.uncounted); failed = tt }
