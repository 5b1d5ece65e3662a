-- The commands that a script file and the image files named in it spell.
use Rattle.std.specs.Prelude.{◌≡◌, ◌⊎◌, ◌<◌, ◌/◌, ◌%◌, ◌^◌, ℕ, List, length, All, Contains, IsUtf8, None}
use Rattle.std.specs.Prelude.{string_bytes, ⊤}
use Rattle.std.specs.List.{AllZip}
use Rattle.sii_words.specs.Words.{IsImageSize, bytes_of}
use Rattle.sii_edit.specs.declared.command.Command.{Command}
use Rattle.sii_edit.specs.declared.command.Command.TheVariants as commands
use Rattle.sii_edit.specs.declared.command.Edit.{Edit}
use Rattle.sii_edit.specs.declared.command.Edit.TheVariants as edits
use Rattle.sii_edit.specs.declared.command.GuardedEdit.{GuardedEdit}
use Rattle.station_text.specs.ScriptText.{SpellsScriptFile}
use Rattle.station_text.specs.declared.script_command.ScriptCommand.{ScriptCommand}
use Rattle.station_text.specs.declared.script_command.ScriptCommand.TheVariants.{One, Swap, Group}
use Rattle.station_text.specs.declared.script_command.ScriptEdit.{ScriptEdit}
use Rattle.station_text.specs.declared.script_command.ScriptEdit.TheVariants.{Alias, Category, Image}
use Rattle.station_text.specs.declared.script_command.ScriptGroupEdit.{ScriptGroupEdit}
use Rattle.station_files.specs.Files.{Known, Holds, HasBytes}
use Rattle.station_files.specs.declared.faults.Fault.{Fault}
use Rattle.station_files.specs.declared.faults.Fault.TheVariants.{OddLength, BadSize, BadScript, Memory, File, NotAFile, TooLong}

-- this is the edit of a script; an image has the words of its file
abbrev pub LoadsEdit : Known → ScriptEdit → Edit → Type 0
LoadsEdit files (Alias slave value) edit = edit ≡ edits.Alias slave value
LoadsEdit files (Category slave kind words) edit = edit ≡ edits.Category slave kind words
LoadsEdit files (Image slave file replace) edit =
    (words : List ℕ) × (edit ≡ edits.Image slave words) × HasBytes files (string_bytes file) (bytes_of words)

-- this is the edit of a group, with the identity that it expects, if any
pub record LoadsGuarded (files : Known) (spelt : ScriptGroupEdit) (guarded : GuardedEdit) : Type 0 where
  pub expect : guarded.expect ≡ spelt.expect
  pub edit : LoadsEdit files spelt.edit guarded.edit

-- the edit of a group expects no identity
abbrev pub IsPlain : ScriptGroupEdit → Type 0
IsPlain spelt = spelt.expect ≡ None

-- this is the group of a script: a plain one exactly where no edit expects an identity
abbrev pub LoadsGroup : Known → List ScriptGroupEdit → Command → Type 0
LoadsGroup files spelt (commands.Group edits) = All IsPlain spelt × AllZip (λ one edit. LoadsEdit files one.edit edit) spelt edits
LoadsGroup files spelt (commands.Guarded guarded) = (¬ All IsPlain spelt) × AllZip (LoadsGuarded files) spelt guarded
LoadsGroup files spelt _ = ⊥

-- this is the command of a script; its images have the words of their files
abbrev pub LoadsCommand : Known → ScriptCommand → Command → Type 0
LoadsCommand files (One spelt) (commands.One edit) = LoadsEdit files spelt edit
LoadsCommand files (One spelt) _ = ⊥
LoadsCommand files (Swap a b) command = command ≡ commands.Swap a b
LoadsCommand files (Group spelt) command = LoadsGroup files spelt.items command

-- the text of this file is a script, and these are its commands with their images loaded
pub record SpellsCommands (files : Known) (name : List ℕ) (commands : List Command) : Type 0 where
  pub script : List ScriptCommand
  pub spelt : Holds files name (λ text. SpellsScriptFile text script)
  pub loaded : AllZip (LoadsCommand files) script commands

-- the text of this file is a script with these commands, whose images aren't read
abbrev pub SpellsScriptNamed : Known → List ℕ → List ScriptCommand → Type 0
SpellsScriptNamed files name script = Holds files name (λ text. SpellsScriptFile text script)

-- ---- why a script isn't loaded

-- the fault for an image file that a script names: it can't be read, memory was refused, it is no file, or its bytes are not the words of an image
abbrev pub RefusesImage : Known → List ℕ → Fault → Type 0
RefusesImage files name File = ⊤
RefusesImage files name Memory = ⊤
RefusesImage files name NotAFile = files name ≡ None
RefusesImage files name OddLength = Holds files name (λ bytes. length bytes % 2 ≡ 1)
RefusesImage files name BadSize = Holds files name (λ bytes. (length bytes % 2 ≡ 0) × ¬ IsImageSize (length bytes / 2))
RefusesImage files name _ = ⊥

-- the fault for an edit: that of the image file that it names, or memory was refused
abbrev pub RefusesEdit : Known → ScriptEdit → Fault → Type 0
RefusesEdit files (Image slave file replace) fault = RefusesImage files (string_bytes file) fault
RefusesEdit files edit fault = fault ≡ Memory

-- the fault for one of these, or memory was refused
abbrev pub RefusesOne : {A : Type 0} → (A → Fault → Type 0) → List A → Fault → Type 0
RefusesOne {A} Refuses items fault = (fault ≡ Memory) ⊎ ((item : A) × Contains items item × Refuses item fault)

-- the fault for a group: that of one of its edits
abbrev pub RefusesGroup : Known → List ScriptGroupEdit → Fault → Type 0
RefusesGroup files edits fault = RefusesOne (λ (one : ScriptGroupEdit) (why : Fault). RefusesEdit files one.edit why) edits fault

-- the fault for a command: that of its edit, or of one of its group's edits
abbrev pub RefusesCommand : Known → ScriptCommand → Fault → Type 0
RefusesCommand files (One edit) fault = RefusesEdit files edit fault
RefusesCommand files (Swap a b) fault = ⊥
RefusesCommand files (Group edits) fault = RefusesGroup files edits.items fault

-- the fault for the images of a script: that of one of its commands
abbrev pub RefusesCommands : Known → List ScriptCommand → Fault → Type 0
RefusesCommands files script fault = RefusesOne (RefusesCommand files) script fault

-- the text is no script
abbrev pub IsNoScript : List ℕ → Type 0
IsNoScript text = (¬ IsUtf8 text) ⊎ ((commands : List ScriptCommand) → ¬ SpellsScriptFile text commands)

-- the fault for a text that should be a script: it is none, or memory was refused
abbrev pub RefusesText : List ℕ → Fault → Type 0
RefusesText text Memory = ⊤
RefusesText text (BadScript command) = IsNoScript text
RefusesText text _ = ⊥

-- the file of this name is a script, and this is the fault for its images
pub record RefusesImages (files : Known) (name : List ℕ) (fault : Fault) : Type 0 where
  pub script : List ScriptCommand
  pub spelt : Holds files name (λ text. SpellsScriptFile text script)
  pub refused : RefusesCommands files script fault

-- the fault for a script: it can't be read, memory was refused, it is no file or too long, its text is no script, or an image that it names is bad
abbrev pub RefusesScript : Known → List ℕ → Fault → Type 0
RefusesScript files name File = ⊤
RefusesScript files name Memory = ⊤
RefusesScript files name TooLong = Holds files name (λ bytes. 2 ^ 26 < length bytes)
RefusesScript files name NotAFile = (files name ≡ None) ⊎ RefusesImages files name NotAFile
RefusesScript files name (BadScript command) = Holds files name IsNoScript
RefusesScript files name fault = RefusesImages files name fault
