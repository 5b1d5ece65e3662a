use Rattle.std.proofs.Common.{◌∙◌, sym, ap}
use Rattle.std.proofs.lemmas.Result.{IfOk-weaker}
use Rattle.sii_cats.specs.Contents.{unit_bytes, AreUnits}
use Rattle.sii_cats.specs.Bytes.{bytes_of}
use Rattle.sii_cats.proofs.Fields.{units_again}
use Rattle.sii_cats.proofs.units.fmmus.Goals as goal

pub returns : goal.returns
returns c = IfOk-weaker c.units_of.result _ (λ v. AreUnits (bytes_of c.args.words.now) v.items)
    (λ v e. sym (ap unit_bytes e ∙ units_again c.deref.result.now ∙ c.deref.ensures.value ∙ c.in_ok-bytes_of_words.ensures)) c.units_of.ensures
