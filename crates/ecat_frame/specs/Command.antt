-- Commands and their codes (ETG.1000.4).
use Rattle.std.specs.Prelude.{ℕ, ◌==◌, if◌then◌else◌}
use Rattle.ecat_frame.specs.declared.command.Command.{Command}
use Rattle.ecat_frame.specs.declared.command.Command.TheVariants.{Fprd, Fpwr, Lrw, Other}

-- the code of a command, a byte of the datagram
abbrev pub code_of : Command → ℕ
code_of Fprd = 4
code_of Fpwr = 5
code_of Lrw = 12
code_of (Other code) = code

-- The command with this code. `Other 4` has the code of `Fprd`, but a code of 4 is always read as `Fprd`.
abbrev pub command_of : ℕ → Command
command_of code =
    if code == 4 then Fprd else if code == 5 then Fpwr else if code == 12 then Lrw else Other code
