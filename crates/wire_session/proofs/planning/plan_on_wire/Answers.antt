use Rattle.std.proofs.lemmas.Result.{IfOk-weaker}
use Rattle.wire_session.specs.Planning.{PlansFound, PlansOnWire}
use Rattle.wire_session.proofs.planning.plan_on_wire.Goals as goal

pub returns-in-Ok-clause-plans : goal.returns-in-Ok-clause-plans
returns-in-Ok-clause-plans g c =
    let given = c.in-Ok.given in
    IfOk-weaker c.plan_found.result (λ answers. PlansFound given.found.slaves.items given.found.journal.items given.commands.items answers.answered)
    (λ answers. PlansOnWire c.args.order.asked.mends g.S.Store.leads (g.S.Store.files c.args.store.now) c.args.order.named.line.now c.args.order.named.script.now answers.answered)
    (λ answers plans. record {
      line = given.found.line;
      plant = given.found.slaves.items;
      bytes = given.found.journal.items;
      found = c.in-Ok.ensures.found;
      kept = c.in-Ok.ensures.kept;
      commands = given.commands.items;
      spelt = c.in-Ok.ensures.spelt;
      separate = c.in-Ok.ensures.separate;
      plans = plans;
    })
    c.plan_found.ensures
