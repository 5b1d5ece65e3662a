use denote.Param.Send.{sendable}
use Rattle.station_threads.proofs.Sent.{disk-send}
use Rattle.station_threads.proofs.starting.fn.start_flusher.serves.Goals as goal

pub flush-requires-send-D : goal.flush-requires-send-D
flush-requires-send-D g c κs within = search (disk-send, sendable) depth 40
