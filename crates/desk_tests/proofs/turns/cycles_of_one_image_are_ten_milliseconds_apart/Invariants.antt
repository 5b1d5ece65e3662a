use Rattle.desk_tests.proofs.turns.cycles_of_one_image_are_ten_milliseconds_apart.Given as goal

-- the book that was just opened, and its ledgers
abbrev pub ghosts-hands_out-T-Ledger : goal.ghosts-hands_out-T-Ledger
ghosts-hands_out-T-Ledger g a = record { name = a.tickets.name; parts = a.tickets.count }

abbrev pub ghosts-hands_out-T-Tickets : goal.ghosts-hands_out-T-Tickets
ghosts-hands_out-T-Tickets g a = record { opened = a.core }

abbrev pub ghosts-hands_out-R-Ledger : goal.ghosts-hands_out-R-Ledger
ghosts-hands_out-R-Ledger g a = record { name = a.refusals.name; parts = a.refusals.count }
