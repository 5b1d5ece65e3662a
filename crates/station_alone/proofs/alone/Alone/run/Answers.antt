use Rattle.std.proofs.Common.{ℕ, ◌+◌, List, [], ◌∙◌, ap, sym, subst, arith}
use Rattle.station_alone.specs.declared.choice.Answer.{Answer}
use Rattle.station_alone.proofs.RunLaws.{Ran, ran-none, ran-more, ran-entire}
use Rattle.station_alone.proofs.alone.Alone.run.Goals as goal

pub loop-choice-init : goal.loop-choice-init
loop-choice-init g c = record {
  ran = subst (λ (l : List Answer). Ran [] l c.args.self.now c.args.self.now) (sym c.in_ok-answers.ensures.items) (ran-none c.args.self.now);
  room = c.in_ok-answers.ensures.exact;
  count = c.in_ok-answers.ensures.len;
}

-- there is room for each answer
pub push_reserved-requires : goal.push_reserved-requires
push_reserved-requires g c =
    let room = c.loop-choice.invariant.room in
    let count = c.loop-choice.invariant.count in
    omega (arith, room, count, c.loop-choice-test.true)

pub loop-choice-preserved : goal.loop-choice-preserved
loop-choice-preserved g c = record {
  ran = ran-more c.args.choices.now c.loop-choice.choice-index c.choice-item.result c.loop-choice.answers.items c.push_reserved.new.self.items c.act.result c.args.self.now c.loop-choice.self c.act.new.self
      c.loop-choice-test.true c.choice-item.is c.push_reserved.ensures.items c.loop-choice.invariant.ran c.act.ensures.steps c.act.ensures.goes_on c.act.ensures.keeps;
  room = c.push_reserved.ensures.capacity ∙ c.loop-choice.invariant.room;
  count = c.push_reserved.ensures.len ∙ ap (λ (n : ℕ). n + 1) c.loop-choice.invariant.count;
}

pub returns-clause-steps : goal.returns-clause-steps
returns-clause-steps g c =
    (ran-entire c.args.choices.now c.loop-choice.choice-index c.loop-choice.answers.items c.args.self.now c.loop-choice.self c.loop-choice-test.false c.loop-choice.invariant.ran).steps

pub returns-clause-goes_on : goal.returns-clause-goes_on
returns-clause-goes_on g c =
    (ran-entire c.args.choices.now c.loop-choice.choice-index c.loop-choice.answers.items c.args.self.now c.loop-choice.self c.loop-choice-test.false c.loop-choice.invariant.ran).goes_on

pub returns-clause-keeps : goal.returns-clause-keeps
returns-clause-keeps g c =
    (ran-entire c.args.choices.now c.loop-choice.choice-index c.loop-choice.answers.items c.args.self.now c.loop-choice.self c.loop-choice-test.false c.loop-choice.invariant.ran).keeps

pub returns-clause-in_order : goal.returns-clause-in_order
returns-clause-in_order g c =
    (ran-entire c.args.choices.now c.loop-choice.choice-index c.loop-choice.answers.items c.args.self.now c.loop-choice.self c.loop-choice-test.false c.loop-choice.invariant.ran).in_order
