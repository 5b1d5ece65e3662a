use Rattle.site_journal.proofs.OpenLaws.{recovering-opened, few-calls, none-issued}
use Rattle.site_journal.proofs.starting.a_book_that_was_opened_is_recovering.Goals as goal

pub returns : goal.returns
returns c = record { recovering = recovering-opened; calls = few-calls; none = none-issued }
