use Rattle.std.proofs.Common.{◌∙◌, ◌-◌, ◌++◌, ◌∷◌, [], List, ap, arith, subst, sym}
use Rattle.std.specs.Prelude.{vec_len, vec_capacity}
use Rattle.station_jobs.specs.declared.cycle_notes.Run.{Run}
use Rattle.station_jobs.specs.Runs.{AreSeparate, CyclesNoted}
use Rattle.station_jobs.proofs.RunLaws.{alike, separate-counted, separate-more, counts-on, hand-again, hand-more, unlike}
use Rattle.station_jobs.proofs.cycle_notes.CycleNotes.hand_out.Goals as goal

pub overflow_add-again : goal.overflow_add-again
overflow_add-again c =
    let runs = c.self.inside.runs in
    omega (
      arith,
      counts-on c.pop.new.self.items runs.items c.in-Some.last (vec_capacity runs - vec_len runs) c.args.self.now.spare (sym c.in-Some.ensures.items)
          (ap (λ (n : CyclesNoted). n.spare) c.self.view_is) c.requires,
      c.self.ranges,
    )

pub invariant_of-self-then-eq : goal.invariant_of-self-then-eq
invariant_of-self-then-eq c =
    subst AreSeparate (sym c.push_reserved-then-eq.ensures.items)
    (separate-counted c.pop.new.self.items c.in-Some.last _ (sym (alike c.in-Some.last.note c.args.note (sym c.eq.ensures ∙ c.if-eq.true))) (subst AreSeparate c.in-Some.ensures.items c.self.invariant))

pub invariant_of-self-else-eq : goal.invariant_of-self-else-eq
invariant_of-self-else-eq c =
    let new : Run = record { note = c.args.note; again = 0 } in
    subst AreSeparate (sym (c.push_reserved-else-eq-2.ensures.items ∙ ap (λ (l : List Run). l ++ new ∷ []) c.push_reserved-else-eq.ensures.items))
    (separate-more c.pop.new.self.items c.in-Some.last new (unlike c.in-Some.last.note c.args.note (sym c.eq.ensures ∙ c.if-eq.false)) (subst AreSeparate c.in-Some.ensures.items c.self.invariant))

pub returns-then-eq : goal.returns-then-eq
returns-then-eq c =
    hand-again c.pop.new.self.items c.self.inside.runs.items c.push_reserved-then-eq.new.self.items c.in-Some.last c.args.note c.args.self.now.entries
    (sym c.in-Some.ensures.items) (alike c.in-Some.last.note c.args.note (sym c.eq.ensures ∙ c.if-eq.true)) c.push_reserved-then-eq.ensures.items (ap (λ (n : CyclesNoted). n.entries) c.self.view_is)

pub returns-else-eq : goal.returns-else-eq
returns-else-eq c =
    hand-more c.pop.new.self.items c.self.inside.runs.items c.push_reserved-else-eq.new.self.items c.push_reserved-else-eq-2.new.self.items c.in-Some.last
    c.args.note c.args.self.now.entries (sym c.in-Some.ensures.items) c.push_reserved-else-eq.ensures.items c.push_reserved-else-eq-2.ensures.items
    (ap (λ (n : CyclesNoted). n.entries) c.self.view_is)
