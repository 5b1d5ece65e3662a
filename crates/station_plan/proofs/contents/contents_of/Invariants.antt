use Rattle.std.proofs.Common.{◌≡◌, length, take}
use Rattle.book_model.specs.Opening.{words_in}
use Rattle.station_plan.proofs.contents.contents_of.Given as goal

abbrev pub invariant-loop-slave : goal.invariant-loop-slave
invariant-loop-slave g l = record {
  words : l.slaves.items ≡ words_in (take l.slave l.site.seen.state.halves);
  count : length l.slaves.items ≡ l.slave;
}
