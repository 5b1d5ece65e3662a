use Rattle.desk_tests.proofs.session.try_session.Given as goal

-- the book that was just opened, and its ledgers
abbrev pub ghosts-serve_by-T-Ledger : goal.ghosts-serve_by-T-Ledger
ghosts-serve_by-T-Ledger g a = record { name = a.tickets.name; parts = a.tickets.count }

abbrev pub ghosts-serve_by-T-Tickets : goal.ghosts-serve_by-T-Tickets
ghosts-serve_by-T-Tickets g a = record { opened = a.core }

abbrev pub ghosts-serve_by-R-Ledger : goal.ghosts-serve_by-R-Ledger
ghosts-serve_by-R-Ledger g a = record { name = a.refusals.name; parts = a.refusals.count }
