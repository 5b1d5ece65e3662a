-- What may go to another thread. A device whose work is counted may be sent there, if the device and the terminal may, and the handle may be
-- shared between threads; a wire that is observed, if the wire and the terminal may, and the capture's file and the handle may be shared.
use denote.RattleType.{RattleType}
use denote.Ref.{NamedLft}
use denote.Param.Send.{IsSend, IsSync, sendable}
use Rattle.std.proofs.Crossing.{crosses}
use Rattle.line_watch.specs.contracts.capture.Capture as Capture
use Rattle.line_watch.specs.contracts.observed_wire.ObservedWire as ObservedWire
use Rattle.line_watch.specs.contracts.progress.Line as Line
use Rattle.line_watch.specs.contracts.progress.Progress as Progress
use Rattle.line_watch.specs.contracts.watched_device.Watched as Watched

module _ (F : RattleType) (file-sync : IsSync F) where
  capture-sync : IsSync (Capture.the_row F)
  capture-sync = search (crosses, sendable) depth 40

module _ (T : RattleType) (terminal : IsSend T) where
  line-send : IsSend (Line.the_row T)
  line-send = search (crosses, sendable) depth 40

  progress-sync : IsSync (Progress.the_row T)
  progress-sync = search (line-send, crosses, sendable) depth 40

module _ (a : NamedLft) (D T R : RattleType) (device : IsSend D) (terminal : IsSend T) (rt-sync : IsSync R) where
  pub watched-send : IsSend (Watched.the_row a D T R)
  watched-send = search (progress-sync, crosses, sendable) depth 40

module _ (a : NamedLft) (W F T R : RattleType) (wire : IsSend W) (file-sync : IsSync F) (terminal : IsSend T) (rt-sync : IsSync R) where
  pub observed-send : IsSend (ObservedWire.the_row a W F T R)
  observed-send = search (capture-sync, progress-sync, crosses, sendable) depth 40
