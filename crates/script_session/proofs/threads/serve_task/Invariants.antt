use Rattle.script_session.proofs.threads.serve_task.Given as goal

-- the book of the station, the ledgers, and the commands
abbrev pub ghosts-serve_at_desk-T-Ledger : goal.ghosts-serve_at_desk-T-Ledger
ghosts-serve_at_desk-T-Ledger g a = record { name = a.opening.tickets.name; parts = a.opening.tickets.count }

abbrev pub ghosts-serve_at_desk-T-Tickets : goal.ghosts-serve_at_desk-T-Tickets
ghosts-serve_at_desk-T-Tickets g a = record { opened = a.opening.core }

abbrev pub ghosts-serve_at_desk-R-Ledger : goal.ghosts-serve_at_desk-R-Ledger
ghosts-serve_at_desk-R-Ledger g a = record { name = a.opening.refusals.name; parts = a.opening.refusals.count }

abbrev pub ghosts-serve_at_desk-C-NamesCommands : goal.ghosts-serve_at_desk-C-NamesCommands
ghosts-serve_at_desk-C-NamesCommands g a = record { commands = a.work.commands.items }
