use Rattle.std.proofs.Common.{◌≡◌, ◌∷◌, [], ◌∙◌, refl, sym, subst, append_assoc, Result, Ok}
use Rattle.std.specs.Vec.Iter.{into_iter_items}
use Rattle.station_files.specs.declared.faults.Fault.{Fault}
use Rattle.station_line.specs.Rounds.{SubmitsSo}
use Rattle.station_line.proofs.RoundSubmitting.{submits-none, submits-then, submits-stopped, handed_on}
use Rattle.station_line.proofs.commands.submit_all.Goals as goal

pub loop-command-init : goal.loop-command-init
loop-command-init g c = (refl, submits-none c.args.answered.now c.args.alone.now)

pub loop-command-preserved : goal.loop-command-preserved
loop-command-preserved g c =
    let at = c.loop-command in
    let command = c.in-Some.command in
    let steps : into_iter_items at.command-iterator ≡ command ∷ into_iter_items c.next.new.self = c.in-Some.ensures.steps.0 in (
      append_assoc at.yielded (command ∷ []) _ ∙ rw (← steps) at.invariant.0,
      submits-then at.yielded (command ∷ []) (Ok tt) c.args.answered.now at.answered c.submit_next.new.answered c.args.alone.now at.alone c.submit_next.new.alone at.invariant.1 c.in_ok-submit_next.ensures,
    )

pub returns-in_err-submit_next : goal.returns-in_err-submit_next
returns-in_err-submit_next g c =
    let at = c.loop-command in
    let command = c.in-Some.command in
    let fault = c.in_err-submit_next.field-0.0 in
    let steps : into_iter_items at.command-iterator ≡ command ∷ into_iter_items c.next.new.self = c.in-Some.ensures.steps.0 in
    subst (λ (r : Result (Unit {0}) Fault). SubmitsSo {E = Fault} c.args.commands.items r c.args.answered.now c.submit_next.new.answered c.args.alone.now c.submit_next.new.alone) (sym (handed_on c.from_residual.result fault c.from_residual.ensures.1))
    (submits-stopped at.yielded command (into_iter_items c.next.new.self) c.args.commands.items fault fault c.args.answered.now at.answered c.submit_next.new.answered c.args.alone.now at.alone c.submit_next.new.alone
    (append_assoc at.yielded (command ∷ []) _ ∙ rw (← steps) (at.invariant.0 ∙ c.into_iter-command-iterator.ensures.into_iter_gives.0)) at.invariant.1 c.in_err-submit_next.ensures)
