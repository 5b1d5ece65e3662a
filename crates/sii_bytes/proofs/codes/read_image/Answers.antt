use Rattle.sii_words.specs.Words.{IsImageSize}
use Rattle.sii_bytes.proofs.BytesLaws.{read_entire, spelt_by}
use Rattle.sii_bytes.proofs.codes.read_image.Goals as goal

pub returns-in-Ok : goal.returns-in-Ok
returns-in-Ok c = (
  read_entire IsImageSize c.in-Ok.image c.args.bytes.now c.in-Ok.ensures.words c.in-Ok.ensures.count c.in-Ok.ensures.size,
  spelt_by c.in-Ok.image c.args.bytes.now c.in-Ok.ensures.words,
)
