use Rattle.std.proofs.Common.{◌≡◌, ◌∷◌, length, take}
use Rattle.std.specs.List.{flat_map}
use Rattle.sii_cats.specs.Strings.{string_bytes, texts}
use Rattle.sii_cats.proofs.text.write_all.Given as goal

abbrev pub invariant-loop-string : goal.invariant-loop-string
invariant-loop-string l = l.bytes.items ≡ length l.strings ∷ flat_map string_bytes (texts (take l.string-index l.strings))
