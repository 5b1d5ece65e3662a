use Rattle.std.proofs.Common.{subst, ◌∙◌}
use Rattle.sii_cats.specs.Strings.{AreStrings, texts}
use Rattle.sii_cats.specs.steps.Strings.{strings_in}
use Rattle.sii_cats.specs.Bytes.{bytes_of}
use Rattle.sii_cats.specs.steps.Reading.{Gives}
use Rattle.sii_cats.proofs.StringLaw.{strings_are, strings_again}
use Rattle.sii_cats.proofs.Refusals.{answers}
use Rattle.sii_cats.proofs.text.strings.Goals as goal

pub returns-clause-grammar : goal.returns-clause-grammar
returns-clause-grammar c =
    let bytes = bytes_of c.args.words.now in
    answers (λ v. texts v.items) 10 c.all_strings.result (strings_in bytes) (AreStrings bytes)
    (λ ss e. strings_are bytes ss e) (λ ss s. strings_again bytes ss s)
    (subst (λ b. Gives (λ v. texts v.items) 10 c.all_strings.result (strings_in b)) (c.deref.ensures.value ∙ c.in_ok-bytes_of_words.ensures) c.all_strings.ensures)
