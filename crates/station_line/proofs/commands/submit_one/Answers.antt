use Rattle.std.proofs.Common.{◌∷◌, [], refl, sym, subst, Result}
use Rattle.station_files.specs.declared.faults.Fault.{Fault}
use Rattle.station_files.specs.declared.faults.Fault.TheVariants.{Unserved}
use Rattle.station_line.specs.Rounds.{SubmitsSo}
use Rattle.station_line.proofs.RoundLaws.{goes-none, goes-still}
use Rattle.station_line.proofs.RoundSubmitting.{answers-command, goes-refused, submits-failed, submits-one, handed_on}
use Rattle.station_line.proofs.commands.submit_one.Goals as goal

pub loop-round-init : goal.loop-round-init
loop-round-init g c = record { goes = goes-none c.args.alone.now; same = refl }

pub tell_answer-requires : goal.tell_answer-requires
tell_answer-requires g c = answers-command c.args.command.now c.submit-answer.result c.loop-round.alone c.submit-answer.new.self c.submit-answer.ensures

pub returns-then-not-is_full : goal.returns-then-not-is_full
returns-then-not-is_full g c =
    submits-one c.args.command.now c.submit-answer.result c.tell_answer.result c.args.answered.now c.loop-round.answered c.tell_answer.new.answered c.args.alone.now c.loop-round.alone c.submit-answer.new.self
    c.loop-round.invariant.same c.loop-round.invariant.goes c.submit-answer.ensures c.tell_answer.ensures

pub loop-round-preserved : goal.loop-round-preserved
loop-round-preserved g c = record {
  goes =
      goes-still c.args.alone.now c.submit-answer.new.self c.serve_round.new.alone
      (goes-still c.args.alone.now c.loop-round.alone c.submit-answer.new.self c.loop-round.invariant.goes
      (goes-refused c.args.command.now c.submit-answer.result c.loop-round.alone c.submit-answer.new.self (c.is_full.ensures c.if-not-is_full.false) c.submit-answer.ensures))
      c.serve_round.ensures;
  same = c.loop-round.invariant.same;
}

pub returns-in_err-serve_round : goal.returns-in_err-serve_round
returns-in_err-serve_round g c =
    let fault = c.in_err-serve_round.field-0.0 in
    subst (λ (r : Result (Unit {0}) Fault). SubmitsSo {E = Fault} (c.args.command.now ∷ []) r c.args.answered.now c.loop-round.answered c.args.alone.now c.serve_round.new.alone) (sym (handed_on c.from_residual.result fault c.from_residual.ensures.1))
    (submits-failed (c.args.command.now ∷ []) fault c.args.answered.now c.loop-round.answered c.args.alone.now c.serve_round.new.alone
    (goes-still c.args.alone.now c.submit-answer.new.self c.serve_round.new.alone
    (goes-still c.args.alone.now c.loop-round.alone c.submit-answer.new.self c.loop-round.invariant.goes
    (goes-refused c.args.command.now c.submit-answer.result c.loop-round.alone c.submit-answer.new.self (c.is_full.ensures c.if-not-is_full.false) c.submit-answer.ensures))
    c.serve_round.ensures))

pub returns : goal.returns
returns g c = submits-failed (c.args.command.now ∷ []) Unserved c.args.answered.now c.loop-round.answered c.args.alone.now c.loop-round.alone c.loop-round.invariant.goes
