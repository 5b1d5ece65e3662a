use Rattle.std.proofs.Common.{◌≡◌, ◌∙◌}
use Rattle.std.proofs.lemmas.Result.{IfOk-weaker}
use Rattle.sii_image.specs.ProcessData.{rows_of}
use Rattle.sii_image.specs.steps.Described.{as_summed}
use Rattle.sii_image.proofs.Sums.{rows_are}
use Rattle.sii_image.proofs.process_data.rows_of_words.Goals as goal

pub returns-in-Ok : goal.returns-in-Ok
returns-in-Ok c =
    let read = c.in-Ok.data in
    IfOk-weaker c.rows.result _ (λ rows. rows.items ≡ rows_of c.args.words.now)
    (λ rows e. e ∙ rows_are c.args.words.now (as_summed read) c.in-Ok.ensures read.few_managers) c.rows.ensures
