use Rattle.std.proofs.Common.{ap, sym, ◌∙◌, subst, Result}
use Rattle.std.proofs.lemmas.Result.{on_ok_weaker}
use Rattle.book_model.specs.Book.{Book}
use Rattle.station_files.specs.declared.faults.Fault.{Fault}
use Rattle.station_line.specs.Rounds.{ServesOrCloses}
use Rattle.station_line.proofs.RoundServing.{serves-on, serves-unserved}
use Rattle.station_line.proofs.commands.serve_commands.Goals as goal

pub returns-in-Ok : goal.returns-in-Ok
returns-in-Ok g c =
    let served = c.serve_in_rounds-served in
    serves-on c.args.commands.items c.end_session-ended.result c.args.answered.now served.new.answered c.args.alone.now served.new.alone
    (subst (λ (r : Result (Unit {0}) Fault). ServesOrCloses {E = Fault} c.args.commands.items r c.args.answered.now served.new.answered c.args.alone.now served.new.alone) c.in-Ok.is served.ensures)
    (on_ok_weaker c.end_session-ended.result (λ none. ap (λ (b : Book). b.fault) (sym c.core.ensures.book) ∙ none) c.end_session-ended.ensures)

pub returns-in-Err : goal.returns-in-Err
returns-in-Err g c =
    let served = c.serve_in_rounds-served in
    serves-unserved c.args.commands.items c.in-Err.fault c.args.answered.now served.new.answered c.args.alone.now served.new.alone
    (subst (λ (r : Result (Unit {0}) Fault). ServesOrCloses {E = Fault} c.args.commands.items r c.args.answered.now served.new.answered c.args.alone.now served.new.alone) c.in-Err.is served.ensures)
