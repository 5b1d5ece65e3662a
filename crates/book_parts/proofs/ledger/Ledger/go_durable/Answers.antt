use Rattle.book_parts.proofs.OwnLaws.{appended-within}
use Rattle.book_parts.proofs.ledger.Ledger.go_durable.Goals as goal

pub returns-clause-within : goal.returns-clause-within
returns-clause-within c = appended-within c.args.self.now
