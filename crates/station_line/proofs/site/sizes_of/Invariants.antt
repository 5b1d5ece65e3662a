use Rattle.std.proofs.Common.{◌≡◌, length, map, take}
use Rattle.std.specs.List.{AllByRecursion}
use Rattle.sii_words.specs.Words.{IsDeviceSize}
use Rattle.station_line.proofs.site.sizes_of.Given as goal

abbrev pub invariant-loop-words : goal.invariant-loop-words
invariant-loop-words l = record {
  counts : l.sizes.items ≡ map length (take l.words-index l.slaves);
  devices : AllByRecursion IsDeviceSize l.sizes.items;
}
