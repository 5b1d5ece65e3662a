use denote.Param.Send.{sendable}
use Rattle.station_threads.proofs.Sent.{rom-send}
use Rattle.desk_tests.proofs.alone.work_each.Goals as goal

pub work-end-requires-send-D : goal.work-end-requires-send-D
work-end-requires-send-D g c κs lives = search (rom-send, sendable) depth 40
