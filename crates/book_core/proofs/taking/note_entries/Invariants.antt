use Rattle.std.proofs.Common.{◌≡◌, ◌++◌, take}
use Rattle.sii_words.specs.Redo.{redone}
use Rattle.book_model.specs.Entries.{runs_of}
use Rattle.book_core.proofs.taking.note_entries.Given as goal

abbrev pub invariant-loop-entry : goal.invariant-loop-entry
invariant-loop-entry l = record {
  noted : l.found ≡ l.initial.found ++ take l.entry-index l.entries;
  redone_so_far : l.contents ≡ redone l.initial.contents (runs_of (take l.entry-index l.entries));
}
