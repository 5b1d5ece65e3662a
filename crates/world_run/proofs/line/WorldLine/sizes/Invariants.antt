use Rattle.std.proofs.Common.{◌≡◌, take}
use Rattle.book_model.specs.Entries.{sizes_of}
use Rattle.book_model.specs.Opening.{words_in}
use Rattle.world_run.proofs.line.WorldLine.sizes.Given as goal

abbrev pub invariant-loop-half : goal.invariant-loop-half
invariant-loop-half l = l.sizes.items ≡ sizes_of (words_in (take l.half-index l.half-items))
