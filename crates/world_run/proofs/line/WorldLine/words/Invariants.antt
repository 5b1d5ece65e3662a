use Rattle.std.proofs.Common.{◌≡◌, take}
use Rattle.book_model.specs.Opening.{words_in}
use Rattle.world_run.proofs.line.WorldLine.words.Given as goal

abbrev pub invariant-loop-half : goal.invariant-loop-half
invariant-loop-half l = l.words.items ≡ words_in (take l.half-index l.half-items)
