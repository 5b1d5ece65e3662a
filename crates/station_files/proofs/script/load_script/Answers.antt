use Rattle.std.proofs.Common.{◌∙◌, subst}
use Rattle.std.specs.List.{AllZip}
use Rattle.station_files.specs.Files.{Known}
use Rattle.station_text.specs.ScriptText.{SpellsScriptFile}
use Rattle.station_files.specs.ScriptFiles.{LoadsCommand, RefusesScript}
use Rattle.station_files.proofs.Loaded.{handed_on, of_held}
use Rattle.station_files.proofs.ScriptFaults.{script_images_refused, text_refused}
use Rattle.station_files.proofs.script.load_script.Goals as goal

pub returns-clause-commands : goal.returns-clause-commands
returns-clause-commands g c =
    let old = g.S.Store.files c.args.store.now in
    let spelt = c.in_ok-spelt.spelt.items in
    record {
      script = spelt;
      spelt = of_held (λ text. SpellsScriptFile text spelt) old c.args.name.now c.in_ok-bytes.bytes.items c.in_ok-bytes.ensures.bytes (rw c.deref.ensures.value at c.in_ok-spelt.ensures.script);
      loaded = let P : Known → Type 0 = λ files. AllZip (LoadsCommand files) spelt c.in_ok-commands.commands.items in
          subst P (c.spelt_script.ensures.same ∙ c.read_file.ensures.same) (rw c.deref-2.ensures.value at c.in_ok-commands.ensures.commands);
    }

pub returns-clause-spelt : goal.returns-clause-spelt
returns-clause-spelt g c =
    of_held (λ text. SpellsScriptFile text c.in_ok-spelt.spelt.items) (g.S.Store.files c.args.store.now) c.args.name.now c.in_ok-bytes.bytes.items c.in_ok-bytes.ensures.bytes (rw c.deref.ensures.value at c.in_ok-spelt.ensures.script)

pub returns-in_err-spelt-clause-refused : goal.returns-in_err-spelt-clause-refused
returns-in_err-spelt-clause-refused g c =
    let fault = c.in_err-spelt.field-0.0 in
    handed_on (RefusesScript (g.S.Store.files c.args.store.now) c.args.name.now) c.from_residual-in_err-spelt.result fault c.from_residual-in_err-spelt.ensures.1
    (text_refused (g.S.Store.files c.args.store.now) c.args.name.now c.in_ok-bytes.bytes.items fault c.in_ok-bytes.ensures.bytes (rw c.deref.ensures.value at c.in_err-spelt.ensures.refused))

pub returns-in_err-commands-clause-refused : goal.returns-in_err-commands-clause-refused
returns-in_err-commands-clause-refused g c =
    let fault = c.in_err-commands.field-0.0 in
    handed_on (RefusesScript (g.S.Store.files c.args.store.now) c.args.name.now) c.from_residual-in_err-commands.result fault c.from_residual-in_err-commands.ensures.1
    (script_images_refused (g.S.Store.files c.args.store.now) (g.S.Store.files c.spelt_script.new.store) c.args.name.now c.in_ok-bytes.bytes.items c.in_ok-spelt.spelt.items fault
    c.in_ok-bytes.ensures.bytes (rw c.deref.ensures.value at c.in_ok-spelt.ensures.script) (c.spelt_script.ensures.same ∙ c.read_file.ensures.same) (rw c.deref-2.ensures.value at c.in_err-commands.ensures.refused))
