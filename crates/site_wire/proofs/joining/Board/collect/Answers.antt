use Rattle.std.proofs.Common.{◌∙◌, ap, subst}
use Rattle.wire_frames.specs.declared.room.Room.{Room}
use Rattle.wire_frames.specs.declared.stations.Stations.{Stations}
use Rattle.wire_frames.specs.Room.{Fits}
use Rattle.site_wire.proofs.Boards.{all_waited_now}
use Rattle.site_wire.proofs.joining.Board.collect.Goals as goal

pub loop-turn-preserved : goal.loop-turn-preserved
loop-turn-preserved c = record {
  only = c.collect_one.ensures.only;
  waiting = all_waited_now c.args.self.now.stations.by_slave c.args.self.now.stages c.loop-turn.self.stages c.collect_one.new.self.stages
      c.loop-turn.frame c.collect_one.new.frame c.loop-turn.invariant.fewer c.loop-turn.invariant.waiting c.loop-turn.self.stations.by_slave
      (ap (λ (s : Stations). s.by_slave) c.loop-turn.invariant.stations) c.collect_one.ensures.took;
  stations = c.collect_one.ensures.stations ∙ c.loop-turn.invariant.stations;
  fits = subst (λ (room : Room). Fits room c.collect_one.new.frame) c.loop-turn.invariant.room c.collect_one.ensures.fits;
  room = c.collect_one.ensures.same ∙ c.loop-turn.invariant.room;
  fewer = λ other order is. c.loop-turn.invariant.fewer other order (c.collect_one.ensures.fewer other order is);
}
