use denote.Param.Send.{sendable}
use Rattle.station_threads.proofs.Sent.{rom-send}
use Rattle.station_threads.proofs.starting.fn.start_worker.serves.Goals as goal

pub work-requires-send-D : goal.work-requires-send-D
work-requires-send-D g c κs within = search (rom-send, sendable) depth 40
