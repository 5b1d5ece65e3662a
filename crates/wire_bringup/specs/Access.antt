-- Who has an EEPROM, by 0x0500 and 0x0501 as one word (ETG.1000.4). None: it isn't known.
use Rattle.std.specs.Prelude.{ℕ, ◌/◌, ◌%◌, ◌==◌, ◌||◌, Bool, false, Option, Some, None, if◌then◌else◌}

-- The PDI is offered it (bit 0 of 0x0500), or has it (bit 0 of 0x0501).
abbrev pub is_with_pdi : Option ℕ → Bool
is_with_pdi None = false
is_with_pdi (Some access) = access % 2 == 1 || access / 256 % 2 == 1

-- bits 0 and 1 of 0x0500, where they are known and one of them is set: what is written so that they are as they were
abbrev pub restored : Option ℕ → Option ℕ
restored None = None
restored (Some access) = if access % 4 == 0 then None else Some (access % 4)
