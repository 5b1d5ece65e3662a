use Rattle.std.proofs.Common.{◌≡◌, take}
use Rattle.book_model.specs.Entries.{named_from}
use Rattle.book_parts.specs.Works.{words_named}
use Rattle.book_parts.proofs.naming.name_run.Given as goal

abbrev pub invariant-loop-place : goal.invariant-loop-place
invariant-loop-place l = l.queue ≡ words_named l.initial.queue (take l.place (named_from l.run.first l.run.words)) l.number
