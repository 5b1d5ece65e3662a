use Rattle.std.proofs.Common.{◌∙◌}
use Rattle.site_wire.proofs.Boards.{one_done, none_after}
use Rattle.site_wire.proofs.joining.Board.answer.Goals as goal

pub loop-slave-preserved : goal.loop-slave-preserved
loop-slave-preserved c =
    let first = c.args.self.now.stages in
    let mid = c.loop-slave.self.stages in
    let new = c.answer_one.new.self.stages in
    record {
      sending = c.answer_one.ensures.sending ∙ c.loop-slave.invariant.sending;
      stations = c.answer_one.ensures.stations ∙ c.loop-slave.invariant.stations;
      done = one_done c.args.carried.now first mid new c.loop-slave.slave c.answer_one.ensures.others c.loop-slave.invariant.done
          c.loop-slave.invariant.rest c.answer_one.ensures.rest;
      rest = none_after c.args.carried.now first mid new c.loop-slave.slave c.answer_one.ensures.others c.loop-slave.invariant.rest;
    }
