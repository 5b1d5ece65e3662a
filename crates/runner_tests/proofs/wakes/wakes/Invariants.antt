use Rattle.runner_tests.proofs.wakes.wakes.Given as goal

-- the book that was just opened, and its ledgers
abbrev pub ghosts-wakes_at-T-Ledger : goal.ghosts-wakes_at-T-Ledger
ghosts-wakes_at-T-Ledger g a = record { name = a.tickets.name; parts = a.tickets.count }

abbrev pub ghosts-wakes_at-T-Tickets : goal.ghosts-wakes_at-T-Tickets
ghosts-wakes_at-T-Tickets g a = record { opened = a.core }

abbrev pub ghosts-wakes_at-R-Ledger : goal.ghosts-wakes_at-R-Ledger
ghosts-wakes_at-R-Ledger g a = record { name = a.refusals.name; parts = a.refusals.count }
