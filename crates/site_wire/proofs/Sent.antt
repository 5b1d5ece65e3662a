-- What may go to another thread: a device on a line that devices share, if the wire and the journal's file may, and the handle and the clock may be
-- shared.
use denote.RattleType.{RattleType}
use denote.Ref.{NamedLft}
use denote.Param.Send.{IsSend, IsSync, sendable}
use Rattle.std.proofs.Crossing.{crosses}
use Rattle.sii_words.proofs.history.History.TheLaws.TheKnot.{send-History}
use Rattle.site_file.proofs.owned.OwnedFiles.TheSendSync as owned
use Rattle.site_file.specs.contracts.files.FileDevice as FileDevice
use Rattle.site_wire.proofs.answers.Answer.TheSendSync as answer
use Rattle.site_wire.proofs.device.SlaveWrite.TheSendSync as write
use Rattle.site_wire.specs.contracts.reach.LiveLine as LiveLine
use Rattle.site_wire.specs.contracts.reach.SharedLine as SharedLine
use Rattle.site_wire.specs.contracts.joining.Board as Board
use Rattle.site_wire.specs.contracts.device.WireDevice as WireDevice

board-send : IsSend Board.the_row
board-send = search (crosses, sendable) depth 40

module _ (W : RattleType) (wire : IsSend W) where
  line-send : IsSend (LiveLine.the_row W)
  line-send = search (send-History, crosses, sendable) depth 40

module _ (a : NamedLft) (R W : RattleType) (rt-sync : IsSync R) (wire : IsSend W) where
  pub shared-send : IsSend (SharedLine.the_row a R W)
  shared-send = search (board-send, line-send, crosses, sendable) depth 40

module _ (F : RattleType) (file : IsSend F) where
  journal-send : IsSend (FileDevice.the_field F).row
  journal-send = search (owned.the_field_send, send-History, crosses, sendable) depth 40

module _ (a : NamedLft) (L F C : RattleType) (line : IsSend L) (file : IsSend F) (clock-sync : IsSync C) where
  pub wire-device-send : IsSend (WireDevice.the_row a L F C)
  wire-device-send = search (journal-send, send-History, answer.the_field_send, write.the_field_send, crosses, sendable) depth 40
