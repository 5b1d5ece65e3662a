use denote.Param.Send.{sendable}
use Rattle.std.proofs.Crossing.{crosses}
use Rattle.station_threads.proofs.Sent.{rom-send}
use Rattle.station_threads.proofs.starting.start_worker.Goals as goal

pub start-requires-send-F : goal.start-requires-send-F
start-requires-send-F g c κs within = search (rom-send, sendable, crosses) depth 40
