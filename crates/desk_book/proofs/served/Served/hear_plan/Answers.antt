use Rattle.std.proofs.Common.{◌≡◌, ◌∙◌, List, [], ◌∷◌, ◌++◌, Some, None, refl, sym, ap, subst}
use Rattle.sii_image.specs.ProcessImage.{process_image}
use Rattle.station_jobs.specs.declared.cycle.CycleNote.{CycleNote}
use Rattle.book_model.specs.Book.{Book}
use Rattle.book_model.specs.Reading.{planned}
use Rattle.desk_book.specs.declared.call.Call.TheVariants.{PlanAsked}
use Rattle.desk_book.specs.Calls.{replayed}
use Rattle.desk_book.specs.Serving.{Serving}
use Rattle.desk_book.specs.Asking.{is_done}
use Rattle.desk_book.proofs.CallLaws.{is-replayed-more, answered-by, are-counted-same, are-logs-more}
use Rattle.desk_book.proofs.HeardLaws.{noted-call}
use Rattle.desk_book.proofs.TurnLaws.{turn-planned, turn-over, plan-asked}
use Rattle.desk_book.proofs.served.Served.hear_plan.Goals as goal

pub invariant_of-self-in-Ok-plan : goal.invariant_of-self-in-Ok-plan
invariant_of-self-in-Ok-plan g c =
    let s = c.self.inside in
    let i = c.self.invariant in
    let turn = c.note_of-turn.result in
    let call = PlanAsked (Some turn) in
    let same = c.in-Ok-plan.ensures.same in
    rw c.note.ensures (
      is-replayed-more g.T.Tickets.opened s.core c.plan.new.self s.history call i.0 (ap (λ (n : CycleNote). Some n) c.note_of-turn.ensures ∙ turn-planned s.core c.in-Ok-plan.plan c.in-Ok-plan.ensures.plan) same,
      are-counted-same s.core c.plan.new.self s.history call s.tickets.total s.refusals.total i.1 (ap (λ (b : Book). b.accepted) same) refl,
      i.2,
      are-logs-more s.history call s.disk.entries s.disk.entries s.slaves.items s.slaves.items s.cycle.entries c.hand_out.new.self.entries i.3 refl (λ n inside. (inside, refl))
          (subst (λ (l : List CycleNote). c.hand_out.new.self.entries ≡ l ++ turn ∷ []) c.reserve.ensures.entries c.hand_out.ensures),
      i.4,
    )

pub invariant_of-self-in-Err-ImageOverLimit : goal.invariant_of-self-in-Err-ImageOverLimit
invariant_of-self-in-Err-ImageOverLimit g c =
    let s = c.self.inside in
    let i = c.self.invariant in
    let call = PlanAsked None in
    let same = c.in-Err-ImageOverLimit.ensures.same in
    rw c.note-in-Err-ImageOverLimit.ensures (
      is-replayed-more g.T.Tickets.opened s.core c.plan.new.self s.history call i.0 (turn-over s.core (rw c.in-Err-ImageOverLimit.field-0-is at c.in-Err-ImageOverLimit.ensures.plan)) same,
      are-counted-same s.core c.plan.new.self s.history call s.tickets.total s.refusals.total i.1 (ap (λ (b : Book). b.accepted) same) refl,
      i.2,
      are-logs-more s.history call s.disk.entries s.disk.entries s.slaves.items s.slaves.items s.cycle.entries c.reserve.new.self.entries i.3 refl (λ n inside. (inside, refl)) c.reserve.ensures.entries,
      i.4,
    )

pub returns-in-Ok-plan-clause-answered : goal.returns-in-Ok-plan-clause-answered
returns-in-Ok-plan-clause-answered g c =
    let s = c.self.inside in
    let turn = c.note_of-turn.result in
    answered-by g.T.Tickets.opened s.core s.history c.note.new.history (PlanAsked (Some turn)) c.self.invariant.0 (ap (λ (n : CycleNote). Some n) c.note_of-turn.ensures ∙ turn-planned s.core c.in-Ok-plan.plan c.in-Ok-plan.ensures.plan) c.note.ensures

pub returns-then-is_done-clause-hears : goal.returns-then-is_done-clause-hears
returns-then-is_done-clause-hears g c =
    let opened = g.T.Tickets.opened in
    let s = c.self.inside in
    let later = c.note-in-Err-ImageOverLimit.new.history in
    let now = c.args.self.now in
    let same = ap (λ (v : Serving). v.calls) c.self.view_is in
    let none : process_image (planned s.core) ≡ None = rw c.in-Err-ImageOverLimit.field-0-is at c.in-Err-ImageOverLimit.ensures.plan in (
      ap is_done (sym (plan-asked opened s.history later now.calls None c.note-in-Err-ImageOverLimit.ensures same)) ∙ sym c.is_done.ensures ∙ c.if-is_done.true,
      (
        subst (λ (b : Book). process_image (planned b) ≡ None) (c.self.invariant.0.same ∙ ap (replayed opened) same) none,
        noted-call s.history later s.tickets.total s.refusals.total s.pool s.is_out_of_memory s.seen now (PlanAsked None) (PlanAsked None) c.self.view_is c.note-in-Err-ImageOverLimit.ensures refl,
      ),
    )

pub returns-then-is_done-clause-answered : goal.returns-then-is_done-clause-answered
returns-then-is_done-clause-answered g c =
    let s = c.self.inside in
    answered-by g.T.Tickets.opened s.core s.history c.note-in-Err-ImageOverLimit.new.history (PlanAsked None) c.self.invariant.0 (turn-over s.core (rw c.in-Err-ImageOverLimit.field-0-is at c.in-Err-ImageOverLimit.ensures.plan)) c.note-in-Err-ImageOverLimit.ensures

pub returns-else-is_done-clause-hears : goal.returns-else-is_done-clause-hears
returns-else-is_done-clause-hears g c =
    let opened = g.T.Tickets.opened in
    let s = c.self.inside in
    let later = c.note-in-Err-ImageOverLimit.new.history in
    let now = c.args.self.now in
    let same = ap (λ (v : Serving). v.calls) c.self.view_is in
    let none : process_image (planned s.core) ≡ None = rw c.in-Err-ImageOverLimit.field-0-is at c.in-Err-ImageOverLimit.ensures.plan in (
      ap is_done (sym (plan-asked opened s.history later now.calls None c.note-in-Err-ImageOverLimit.ensures same)) ∙ sym c.is_done.ensures ∙ c.if-is_done.false,
      (
        subst (λ (b : Book). process_image (planned b) ≡ None) (c.self.invariant.0.same ∙ ap (replayed opened) same) none,
        noted-call s.history later s.tickets.total s.refusals.total s.pool s.is_out_of_memory s.seen now (PlanAsked None) (PlanAsked None) c.self.view_is c.note-in-Err-ImageOverLimit.ensures refl,
      ),
    )

pub returns-else-is_done-clause-answered : goal.returns-else-is_done-clause-answered
returns-else-is_done-clause-answered g c =
    let s = c.self.inside in
    answered-by g.T.Tickets.opened s.core s.history c.note-in-Err-ImageOverLimit.new.history (PlanAsked None) c.self.invariant.0 (turn-over s.core (rw c.in-Err-ImageOverLimit.field-0-is at c.in-Err-ImageOverLimit.ensures.plan)) c.note-in-Err-ImageOverLimit.ensures
