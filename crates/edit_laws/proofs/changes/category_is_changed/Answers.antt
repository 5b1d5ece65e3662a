use Rattle.sii_edit.proofs.ExchangeLaws.{category_changes}
use Rattle.edit_laws.proofs.changes.category_is_changed.Goals as goal

pub returns : goal.returns
returns c = λ expect slave kind content words new validated. category_changes c.readings.ensures expect kind content words new validated
