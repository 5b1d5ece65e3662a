-- The line that tells how far a run is. It is drawn over the one before it: a carriage return (13) goes to the left edge of the terminal,
-- and ESC [ K (ECMA-48, EL) erases what stands behind the text.
use Rattle.std.specs.Prelude.{ℕ, List, [], ◌∷◌, ◌++◌, ◌==◌, if◌then◌else◌, decimal}
use lib.Chars.{codes}
use Rattle.line_watch.specs.declared.stage.Stage.{Stage}

-- how many commands are durable, of those of a script; nothing without a script
abbrev pub commands_part : Stage → List ℕ
commands_part stage =
    if stage.commands == 0 then [] else codes "commands " ++ decimal stage.durable ++ codes " of " ++ decimal stage.commands ++ codes " durable, "

-- so many, of all, if it is known how many there are
abbrev pub of_all : (part all : ℕ) → List ℕ
of_all part all = decimal part ++ (if all == 0 then [] else codes " of " ++ decimal all)

-- how many words were read; nothing where none was
abbrev pub read_part : Stage → List ℕ
read_part stage = if stage.read == 0 then [] else codes "words " ++ of_all stage.read stage.to_read ++ codes " read, "

-- how many words are written and how many slaves are busy
abbrev pub words_part : Stage → List ℕ
words_part stage = codes "words " ++ of_all stage.words stage.to_write ++ codes " written, " ++ decimal stage.busy ++ codes " slaves busy"

-- how much is done
abbrev pub counts : Stage → List ℕ
counts stage = commands_part stage ++ read_part stage ++ words_part stage

-- how many slaves are done; nothing where it isn't known how many there are
abbrev pub slaves_part : Stage → List ℕ
slaves_part stage = if stage.slaves == 0 then [] else codes ", " ++ decimal stage.finished ++ codes " of " ++ decimal stage.slaves ++ codes " done"

-- how many seconds are left; nothing where that isn't known
abbrev pub left_part : Stage → List ℕ
left_part stage = if stage.left == 0 then [] else codes ", about " ++ decimal stage.left ++ codes " s left"

-- how many slaves are done, and how many seconds are left; and nothing after that
abbrev pub rest : Stage → List ℕ
rest stage = slaves_part stage ++ left_part stage ++ 27 ∷ codes "[K"

abbrev pub line : Stage → List ℕ
line stage = (13 ∷ counts stage) ++ rest stage
