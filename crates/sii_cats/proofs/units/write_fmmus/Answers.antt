use Rattle.std.proofs.Common.{ap, ◌∙◌}
use Rattle.std.proofs.lemmas.Result.{IfOk-weaker}
use Rattle.sii_cats.specs.Bytes.{bytes_of, padded}
use Rattle.sii_cats.specs.Contents.{AreUnits, in_pairs}
use Rattle.sii_cats.proofs.RoundTrip.{units_back}
use Rattle.sii_cats.proofs.units.write_fmmus.Goals as goal

pub returns-clause-read_back : goal.returns-clause-read_back
returns-clause-read_back c =
    IfOk-weaker c.packed.result _ (λ v. AreUnits (bytes_of v.items) (in_pairs c.args.units.now)) (λ v e. e ∙ ap padded (c.deref.ensures.value ∙ c.in_ok-bytes_of_units.ensures) ∙ units_back c.args.units.now) c.packed.ensures
