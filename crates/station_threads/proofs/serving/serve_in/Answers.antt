use Rattle.std.proofs.Common.{◌≡◌, length, arith}
use Rattle.station_threads.proofs.Workers.{began, turned, all-end, workers-long}
use Rattle.station_threads.proofs.serving.serve_in.Goals as goal

pub join_workers-requires-clause-room : goal.join_workers-requires-clause-room
join_workers-requires-clause-room g c =
    let sites = c.args.prepared.sites.slaves in
    let workers = c.start_workers-all_work.new.workers in
    let long = workers-long sites.items workers.items c.start_workers-all_work.ensures in
    let room = c.args.prepared.room.1 in
    omega (arith, sites.ok.0, workers.ok.0)

pub returns-clause-flusher : goal.returns-clause-flusher
returns-clause-flusher g c = began _ c.start_flusher-flusher.result c.join-flusher.result c.start_flusher-flusher.ensures c.join-flusher.ensures

pub returns-clause-workers : goal.returns-clause-workers
returns-clause-workers g c = all-end c.args.prepared.sites.slaves.items c.start_workers-all_work.new.workers.items c.join_workers.new.ends.items c.start_workers-all_work.ensures c.join_workers.ensures

pub returns-clause-cycle : goal.returns-clause-cycle
returns-clause-cycle g c = turned c.args.prepared.sites.cycle c.start_cycle-turning.result c.join_turning-cycle.result c.start_cycle-turning.ensures c.join_turning-cycle.ensures
