use denote.Param.Send.{sendable}
use Rattle.station_threads.proofs.Sent.{cycle-send}
use Rattle.station_threads.proofs.starting.fn.start_cycle.serves.Goals as goal

pub cycle_loop-requires-send-D : goal.cycle_loop-requires-send-D
cycle_loop-requires-send-D g c κs within = search (cycle-send, sendable) depth 40
