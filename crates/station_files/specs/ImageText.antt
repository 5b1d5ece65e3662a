-- An image as the program reads and writes it: as bytes, or with `--hex` as hexadecimal text.
use Rattle.std.specs.Prelude.{◌≡◌, ◌⊎◌, ◌<◌, ◌/◌, ◌%◌, ◌^◌, ℕ, Bool, true, List, length, Option, Some, None, Ok, IsErr, MatchBool, IsUtf8}
use Rattle.std.specs.Prelude.{⊤}
use Rattle.hex.specs.Hex.{decode_of, encode_lower}
use Rattle.sii_words.specs.Words.{IsImageSize}
use Rattle.station_text.specs.Hexadecimal.{without_whitespace}
use Rattle.station_files.specs.Files.{Known}
use Rattle.station_files.specs.declared.faults.Fault.{Fault}
use Rattle.station_files.specs.declared.faults.Fault.TheVariants.{OddLength, BadSize, BadHex, Memory, File, TooLong}

-- the bytes of a file that is there, as far as they are known
abbrev pub held_of : Option (Option (List ℕ)) → Option (List ℕ)
held_of None = None
held_of (Some held) = held

-- the text that an image is read from, as far as it is known: that of the file of this name, or the rest of the input where there is no name
abbrev pub text_of : Option (List ℕ) → Option (List ℕ) → Known → Option (List ℕ)
text_of None input files = input
text_of (Some name) input files = held_of (files name)

-- the input spells these bytes; hexadecimal digits may be of either case
abbrev pub Spells : Bool → List ℕ → List ℕ → Type 0
Spells hex input bytes = MatchBool hex (decode_of (without_whitespace input) ≡ Ok bytes) (bytes ≡ input)

-- the output spells these bytes; hexadecimal digits are lower case
abbrev pub SpellsLower : Bool → List ℕ → List ℕ → Type 0
SpellsLower hex output bytes = MatchBool hex (without_whitespace output ≡ encode_lower bytes) (output ≡ bytes)

-- the text is not pairs of hexadecimal digits
abbrev pub IsNoHex : List ℕ → Type 0
IsNoHex text = (¬ IsUtf8 text) ⊎ IsErr (decode_of (without_whitespace text))

-- these bytes are not an image, for the reason that the fault names
abbrev pub IsNoImage : Fault → List ℕ → Type 0
IsNoImage OddLength bytes = length bytes % 2 ≡ 1
IsNoImage BadSize bytes = (length bytes % 2 ≡ 0) × ¬ IsImageSize (length bytes / 2)
IsNoImage _ bytes = ⊥

-- the input isn't read: a read failed, memory was refused, or it is longer than a text
abbrev pub RefusesReading : List ℕ → Fault → Type 0
RefusesReading input File = ⊤
RefusesReading input Memory = ⊤
RefusesReading input TooLong = 2 ^ 26 < length input
RefusesReading input _ = ⊥

-- the input may be refused with this fault
abbrev pub RefusesInput : Bool → List ℕ → Fault → Type 0
RefusesInput hex input File = ⊤
RefusesInput hex input Memory = ⊤
RefusesInput hex input TooLong = 2 ^ 26 < length input
RefusesInput hex input BadHex = (hex ≡ true) × IsNoHex input
RefusesInput hex input fault = (bytes : List ℕ) × Spells hex input bytes × IsNoImage fault bytes
