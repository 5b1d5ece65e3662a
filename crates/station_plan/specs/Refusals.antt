-- What `plan` tells of a command that it refuses.
use Rattle.std.specs.Prelude.{ℕ}
use Rattle.station_files.specs.declared.faults.Refused.{Refused}
use Rattle.station_rows.specs.declared.lines.RefusedCommand.{RefusedCommand}

-- the command at this place of the script was refused so
abbrev pub refused_at : ℕ → Refused → RefusedCommand
refused_at place refused = record { command = place; code = refused.code; at = refused.position }
