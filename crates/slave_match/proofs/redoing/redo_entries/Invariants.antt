use Rattle.std.proofs.Common.{◌≡◌, take}
use Rattle.sii_words.specs.Redo.{redone}
use Rattle.book_model.specs.Entries.{runs_of}
use Rattle.slave_match.proofs.redoing.redo_entries.Given as goal

abbrev pub invariant-loop-entry : goal.invariant-loop-entry
invariant-loop-entry l = l.contents ≡ redone l.initial.contents (runs_of (take l.entry-index l.entries))
