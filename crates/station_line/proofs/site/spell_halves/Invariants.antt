use Rattle.std.proofs.Common.{◌≡◌, map, take}
use Rattle.sii_words.specs.Words.{bytes_of}
use Rattle.site_shadow.specs.Line.{halves_of}
use Rattle.station_line.proofs.site.spell_halves.Given as goal

abbrev pub invariant-loop-half : goal.invariant-loop-half
invariant-loop-half l = map (λ file. file.items) l.files.items ≡ map (λ half. bytes_of half.words) (halves_of (take l.half-index l.halves))
