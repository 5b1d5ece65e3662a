use Rattle.std.specs.Prelude.{◌≡◌, ℕ, ◌<◌, ◌≤◌, false}
use Rattle.site_wire.specs.Joining.{stage_of, ComesToRest}
use Rattle.site_wire.proofs.joining.Board.answer.Given as goal

abbrev pub invariant-loop-slave : goal.invariant-loop-slave
invariant-loop-slave l = record {
  sending : l.self.is_sending ≡ false;
  stations : l.self.stations ≡ l.fn.self.stations;
  done : (k : ℕ) → k < l.slave → ComesToRest l.fn.carried (stage_of l.fn.self.stages k) (stage_of l.self.stages k);
  rest : (k : ℕ) → l.slave ≤ k → stage_of l.self.stages k ≡ stage_of l.fn.self.stages k;
}
