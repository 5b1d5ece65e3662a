-- The identity of a slave (ETG.1000.6: words 8 to 15).
use Rattle.std.specs.Prelude.{ℕ, List}
use Rattle.sii_words.specs.Words.{double_word}
use Rattle.sii_words.specs.declared.identity.Identity.{Identity}

-- vendor id, product code, revision and serial number: two words each from word 8 on, the low word first
abbrev pub identity_of : List ℕ → Identity
identity_of words =
    record { vendor = double_word words 8; product = double_word words 10; revision = double_word words 12; serial = double_word words 14 }
