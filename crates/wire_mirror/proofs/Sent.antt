-- What may go to another thread: a device whose slaves have image files, if the device may and the files may be shared; the journal's file, if it may
-- and the image files may be shared.
use denote.RattleType.{RattleType}
use denote.Ref.{NamedLft}
use denote.Param.Send.{IsSend, IsSync, sendable}
use Rattle.std.proofs.Crossing.{crosses}
use Rattle.sii_words.proofs.history.History.TheLaws.TheKnot.{send-History}
use Rattle.wire_mirror.specs.contracts.images.Images as Images
use Rattle.wire_mirror.specs.contracts.journal_file.JournalFile as JournalFile
use Rattle.wire_mirror.specs.contracts.mirrored.Mirrored as Mirrored

module _ (F : RattleType) (file-sync : IsSync F) where
  pub images-sync : IsSync (Images.the_row F)
  images-sync = search (crosses, sendable) depth 40

module _ (a : NamedLft) (F : RattleType) (file-send : IsSend F) (file-sync : IsSync F) where
  pub journal-file-send : IsSend (JournalFile.the_row a F)
  journal-file-send = search (images-sync, crosses, sendable) depth 40

module _ (a : NamedLft) (D F : RattleType) (device : IsSend D) (file-sync : IsSync F) where
  pub mirrored-send : IsSend (Mirrored.the_row a D F)
  mirrored-send = search (images-sync, send-History, crosses, sendable) depth 40
