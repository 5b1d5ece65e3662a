-- A site on files may be sent to another thread if its files may.
use denote.RattleType.{RattleType}
use denote.Param.Send.{IsSend, sendable}
use Rattle.std.proofs.Crossing.{crosses}
use Rattle.sii_words.proofs.history.History.TheLaws.TheKnot.{send-History}
use Rattle.site_file.proofs.owned.LentImage.TheSendSync as lent
use Rattle.site_file.proofs.owned.OwnedFiles.TheSendSync as files
use Rattle.site_file.specs.contracts.owned.OwnedFiles as OwnedFiles
use Rattle.site_file.specs.contracts.files.FileDevice as FileDevice

module _ (F : RattleType) (file-send : IsSend F) where
  owned-send : IsSend (OwnedFiles.the_row F)
  owned-send = search (file-send, lent.the_send, files.the_send, crosses, sendable) depth 40

  pub device-send : IsSend (FileDevice.the_row F)
  device-send = search (owned-send, send-History, crosses, sendable) depth 40
