use Rattle.std.proofs.lemmas.Result.{IfOk-weaker}
use Rattle.station_plan.specs.Plan.{PlansFiles, PlansSite}
use Rattle.station_plan.proofs.plan.plan_script.Goals as goal

pub returns-clause-plans : goal.returns-clause-plans
returns-clause-plans g c =
    let given = c.in_ok-given.given in
    IfOk-weaker c.plan_line.result (λ answers. PlansSite given.session.site given.commands.items answers.answered)
    (λ answers. PlansFiles (g.S.Store.files c.args.store.now) c.args.name.now c.args.script.now answers.answered)
    (λ answers plans. record {
      line = given.session.line;
      site = given.session.site;
      loaded = c.in_ok-given.ensures.loaded;
      commands = given.commands.items;
      spelt = c.in_ok-given.ensures.spelt;
      plans = plans;
    })
    c.plan_line.ensures
