use Rattle.std.proofs.Common.{◌≡◌, length, take, vec_len}
use Rattle.std.specs.Vec.{vec_capacity}
use Rattle.station_alone.proofs.RunLaws.{Ran}
use Rattle.station_alone.proofs.alone.Alone.run.Given as goal

abbrev pub invariant-loop-choice : goal.invariant-loop-choice
invariant-loop-choice g l = record {
  ran : Ran (take l.choice-index l.choices) l.answers.items l.fn.self l.self;
  room : vec_capacity l.answers ≡ length l.choices;
  count : vec_len l.answers ≡ l.choice-index;
}
