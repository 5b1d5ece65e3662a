use Rattle.std.proofs.Common.{◌∷◌, [], ap, ◌∙◌, arith}
use Rattle.sii_cats.specs.Bytes.{bytes_of}
use Rattle.sii_cats.proofs.WordBytes.{bytes_of-number}
use Rattle.sii_cats.proofs.bytes.pair.Goals as goal

pub returns : goal.returns
returns c = ap (λ word. bytes_of (word ∷ [])) c.from_le_bytes.ensures ∙ bytes_of-number c.args.low c.args.high (omega arith)
