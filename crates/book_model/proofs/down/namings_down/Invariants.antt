use Rattle.std.proofs.Common.{◌≡◌, ◌+◌, take, drop, map}
use Rattle.book_model.specs.Queue.{naming_down}
use Rattle.book_model.proofs.down.namings_down.Given as goal

abbrev pub invariant-loop-place : goal.invariant-loop-place
invariant-loop-place l = record {
  done : take l.place l.namings ≡ map (naming_down l.count) (take l.place (drop l.count l.initial.namings));
  rest : drop (l.count + l.place) l.namings ≡ drop (l.count + l.place) l.initial.namings;
}
