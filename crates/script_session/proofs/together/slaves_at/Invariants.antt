use Rattle.std.proofs.Common.{◌≡◌, ◌++◌, length}
use Rattle.std.specs.Prelude.{vec_capacity}
use Rattle.std.specs.Vec.Iter.{into_iter_items}
use Rattle.script_session.specs.Parts.{AreLeftBy}
use Rattle.script_session.proofs.together.slaves_at.Given as goal

abbrev pub invariant-loop-end : goal.invariant-loop-end
invariant-loop-end g l = record {
  over : l.yielded ++ into_iter_items l.end-iterator ≡ into_iter_items l.initial.end-iterator;
  left : AreLeftBy g.D.Device.follows g.D.Device.well g.D.Lends.tells l.yielded l.left;
  count : length l.left.reported.items ≡ length l.yielded;
  reserved : vec_capacity l.left.reported ≡ vec_capacity l.fn.room.reported;
}
