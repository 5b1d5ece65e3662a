use Rattle.std.proofs.Common.{◌≡◌, ◌≤◌, ◌+◌, ◌++◌, length, vec_len, vec_capacity}
use Rattle.std.specs.Vec.Iter.{into_iter_items, into_iter_len}
use Rattle.station_threads.specs.Starting.{AreWorkersOf}
use Rattle.station_threads.proofs.serving.start_workers.Given as goal

abbrev pub invariant-loop-site : goal.invariant-loop-site
invariant-loop-site g l =
    (l.yielded ++ into_iter_items l.site-iterator ≡ into_iter_items l.initial.site-iterator)
    × (into_iter_len l.site-iterator ≡ length (into_iter_items l.site-iterator))
    × (vec_len l.workers + into_iter_len l.site-iterator ≤ vec_capacity l.workers)
    × AreWorkersOf l.yielded l.workers.items
