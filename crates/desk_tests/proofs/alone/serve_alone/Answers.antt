use denote.Param.Send.{sendable}
use Rattle.station_threads.proofs.Sent.{disk-send}
use Rattle.desk_tests.proofs.alone.serve_alone.Goals as goal

pub flush-flusher-requires-send-D : goal.flush-flusher-requires-send-D
flush-flusher-requires-send-D g c κs lives = search (disk-send, sendable) depth 40
