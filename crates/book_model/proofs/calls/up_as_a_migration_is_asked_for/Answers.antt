use Rattle.book_model.proofs.CallLaws.{up-migrates, migration-refused}
use Rattle.book_model.proofs.calls.up_as_a_migration_is_asked_for.Goals as goal

pub returns : goal.returns
returns c = record { kept = up-migrates; refused = migration-refused }
