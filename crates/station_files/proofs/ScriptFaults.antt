-- Why a script isn't loaded.
use Rattle.std.proofs.Common.{◌≡◌, ◌≢◌, ℕ, ◌<◌, List, length, get_or, string_bytes, sym, subst, inl, inr}
use Rattle.station_text.specs.ScriptText.{SpellsScriptFile}
use Rattle.station_text.specs.declared.script_command.ScriptCommand.{ScriptCommand}
use Rattle.station_text.specs.declared.script_command.ScriptCommand.TheVariants.{One, Swap, Group}
use Rattle.station_text.specs.declared.script_command.ScriptEdit.{ScriptEdit}
use Rattle.station_text.specs.declared.script_command.ScriptEdit.TheVariants.{Alias, Category, Image}
use Rattle.station_text.specs.declared.script_command.ScriptGroupEdit.{ScriptGroupEdit}
use Rattle.station_files.specs.Files.{Known, HasBytes}
use Rattle.station_files.specs.ScriptFiles.{IsNoScript, RefusesCommand, RefusesCommands, RefusesEdit, RefusesGroup, RefusesImage, RefusesImages, RefusesOne}
use Rattle.station_files.specs.ScriptFiles.{RefusesScript, RefusesText}
use Rattle.station_files.specs.declared.faults.Fault.{Fault}
use Rattle.station_files.specs.declared.faults.Fault.TheVariants.{Memory}
use Rattle.station_files.specs.declared.faults.Fault.TheVariants.{File}
use Rattle.station_files.specs.declared.faults.Fault.TheVariants.{BadScript, NotAFile, TooLong}
use Rattle.station_files.proofs.Loaded.{of_held}

-- one of the items is refused
pub one_refused : {A : Type 0} (Refuses : Known → A → Fault → Type 0) (old new : Known) (xs : List A) (i : ℕ) (item : A) (fault : Fault) → i < length xs → item ≡ get_or xs i item → new ≡ old → Refuses new item fault → RefusesOne (Refuses old) xs fault
one_refused {A} Refuses old new xs i item fault inside same still here =
    let P : Known → Type 0 = λ files. Refuses files item fault in
    inr (item, (i, inside, sym same), subst P still here)

-- a fault that no image of a script has
record IsOfText (files : Known) (fault : Fault) : Type 0 where
  image : (name : List ℕ) → ¬ RefusesImage files name fault
  memory : fault ≢ Memory

-- no edit is refused with it
edit_is_spelt : (files : Known) (edit : ScriptEdit) (fault : Fault) → IsOfText files fault → ¬ RefusesEdit files edit fault
edit_is_spelt files (Image slave file replace) fault is refused = is.image (string_bytes file) refused
edit_is_spelt files (Alias slave value) fault is refused = is.memory refused
edit_is_spelt files (Category slave kind words) fault is refused = is.memory refused

-- no group is refused with it
group_is_spelt : (files : Known) (edits : List ScriptGroupEdit) (fault : Fault) → IsOfText files fault → ¬ RefusesGroup files edits fault
group_is_spelt files edits fault is (inl memory) = is.memory memory
group_is_spelt files edits fault is (inr one) = edit_is_spelt files one.0.edit fault is one.2

-- no command is refused with it
command_is_spelt : (files : Known) (spelt : ScriptCommand) (fault : Fault) → IsOfText files fault → ¬ RefusesCommand files spelt fault
command_is_spelt files (One edit) fault is refused = edit_is_spelt files edit fault is refused
command_is_spelt files (Swap a b) fault is refused = refused
command_is_spelt files (Group edits) fault is refused = group_is_spelt files edits.items fault is refused

-- no images are refused with it
commands_are_spelt : (files : Known) (script : List ScriptCommand) (fault : Fault) → IsOfText files fault → ¬ RefusesCommands files script fault
commands_are_spelt files script fault is (inl memory) = is.memory memory
commands_are_spelt files script fault is (inr one) = command_is_spelt files one.0 fault is one.2

bad_script : (files : Known) (command : ℕ) → IsOfText files (BadScript command)
bad_script files command = record { image = λ name refused. refused; memory = λ same. absurd (cc same) }

too_long : (files : Known) → IsOfText files TooLong
too_long files = record { image = λ name refused. refused; memory = λ same. absurd (cc same) }

-- the fault for a script's images is a fault for the script
images_refused : (files : Known) (name : List ℕ) (fault : Fault) → RefusesImages files name fault → RefusesScript files name fault
images_refused files name File images = tt
images_refused files name Memory images = tt
images_refused files name (BadScript command) images = absurd (commands_are_spelt files images.script (BadScript command) (bad_script files command) images.refused)
images_refused files name TooLong images = absurd (commands_are_spelt files images.script TooLong (too_long files) images.refused)
images_refused files name NotAFile images = inr images
images_refused files name fault images = images

-- the fault for the images of a text that was read is a fault for the script
pub script_images_refused : (old new : Known) (name bytes : List ℕ) (script : List ScriptCommand) (fault : Fault) → HasBytes old name bytes → SpellsScriptFile bytes script → new ≡ old → RefusesCommands new script fault → RefusesScript old name fault
script_images_refused old new name bytes script fault held is still refused =
    let P : Known → Type 0 = λ files. RefusesCommands files script fault in
    images_refused old name fault (record { script = script; spelt = of_held (λ text. SpellsScriptFile text script) old name bytes held is; refused = subst P still refused })

-- the fault for a text that was read is a fault for the script
pub text_refused : (files : Known) (name bytes : List ℕ) (fault : Fault) → HasBytes files name bytes → RefusesText bytes fault → RefusesScript files name fault
text_refused files name bytes Memory held refused = tt
text_refused files name bytes (BadScript command) held refused = of_held (λ text. IsNoScript text) files name bytes held refused
text_refused files name bytes File held refused = tt
text_refused files name bytes fault held refused = absurd refused
