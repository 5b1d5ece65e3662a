use Rattle.std.specs.Prelude.{◌≡◌, ℕ}
use Rattle.std.specs.List.{All}
use Rattle.site_wire.specs.Joining.{Waited, WaitsNoMore, stage_of}
use Rattle.wire_frames.specs.Room.{Fits}
use Rattle.wire_frames.specs.Sending.{OnlyEeprom}
use Rattle.site_wire.proofs.joining.Board.collect.Given as goal

abbrev pub invariant-loop-turn : goal.invariant-loop-turn
invariant-loop-turn l = record {
  only : OnlyEeprom l.frame;
  waiting : All (Waited l.fn.self.stations.by_slave l.fn.self.stages) l.frame;
  stations : l.self.stations ≡ l.fn.self.stations;
  fits : Fits l.fn.self.room l.frame;
  room : l.self.room ≡ l.fn.self.room;
  fewer : (other : ℕ) → WaitsNoMore (stage_of l.fn.self.stages other) (stage_of l.self.stages other);
}
