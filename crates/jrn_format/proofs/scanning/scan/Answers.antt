use Rattle.std.proofs.Common.{arith}
use Rattle.jrn_format.proofs.JournalGrammar.{found, refused}
use Rattle.jrn_format.proofs.scanning.scan.Goals as goal

pub returns-clause-found : goal.returns-clause-found
returns-clause-found c = found c.args.file.now c.args.sizes.now c.journal.result (λ i. omega (arith, c.type_inv.file i)) c.journal.ensures

pub returns-clause-refused : goal.returns-clause-refused
returns-clause-refused c = refused c.args.file.now c.args.sizes.now c.journal.result (λ i. omega (arith, c.type_inv.file i)) c.journal.ensures
