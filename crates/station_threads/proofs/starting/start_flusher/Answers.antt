use denote.Param.Send.{sendable}
use Rattle.std.proofs.Crossing.{crosses}
use Rattle.station_threads.proofs.Sent.{desk-sync}
use Rattle.station_threads.proofs.starting.start_flusher.Goals as goal

pub start-requires-send-F : goal.start-requires-send-F
start-requires-send-F g c κs within = search (desk-sync, sendable, crosses) depth 40
