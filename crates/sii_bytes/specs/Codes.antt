-- The number of each code.
use Rattle.std.specs.Prelude.{ℕ}
use Rattle.sii_words.specs.declared.fault.WordsFault.{WordsFault}
use Rattle.sii_words.specs.declared.fault.WordsFault.TheVariants as words
use Rattle.sii_edit.specs.declared.refusal.Cause.{Cause}
use Rattle.sii_edit.specs.declared.refusal.Cause.TheVariants.{NoSlave, SameSlave, EmptyGroup, GroupTooLong, ImageTooLong, BadCheck, WrongIdentity, NoSuchCategory, SeveralCategories, BadCategory, NoRoom, BadChain, ImageOverLimit, Memory}

-- why bytes aren't read as words
abbrev pub code_of_words : WordsFault → ℕ
code_of_words words.OddLength = 1
code_of_words words.BadSize = 2
code_of_words words.Memory = 20

-- why a command is refused
abbrev pub code_of_cause : Cause → ℕ
code_of_cause (BadCategory kind) = 4
code_of_cause NoRoom = 5
code_of_cause NoSlave = 10
code_of_cause SameSlave = 11
code_of_cause EmptyGroup = 12
code_of_cause GroupTooLong = 13
code_of_cause ImageTooLong = 14
code_of_cause BadCheck = 15
code_of_cause NoSuchCategory = 16
code_of_cause SeveralCategories = 17
code_of_cause BadChain = 18
code_of_cause ImageOverLimit = 19
code_of_cause Memory = 20
code_of_cause WrongIdentity = 21
