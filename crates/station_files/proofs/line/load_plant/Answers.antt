use Rattle.std.proofs.Common.{◌≡◌, ℕ, List, subst, inr}
use Rattle.station_text.specs.declared.line_file.LineFile.{LineFile}
use Rattle.station_files.specs.Files.{Known}
use Rattle.station_files.specs.LineFiles.{names_of, RefusesPlant, RefusesSlaves, SpellsSlaves}
use Rattle.station_files.proofs.Loaded.{handed_on}
use Rattle.station_files.proofs.line.load_plant.Goals as goal

-- files that stay the same spell the same slaves
spells_still : (old new : Known) (line : LineFile) (plant : List (List ℕ)) → new ≡ old → SpellsSlaves new line plant → SpellsSlaves old line plant
spells_still old new line plant same spelt = let P : Known → Type 0 = λ files. SpellsSlaves files line plant in subst P same spelt

pub returns-clause-plant : goal.returns-clause-plant
returns-clause-plant g c = record {
  line = c.in_ok-line.line;
  described = c.in_ok-line.ensures.line;
  slaves = rw c.of.ensures (spells_still _ _ c.in_ok-line.line c.in_ok-slaves.slaves.items c.load_line.ensures.same c.in_ok-slaves.ensures.slaves);
}

pub returns-in_err-slaves-clause-refused : goal.returns-in_err-slaves-clause-refused
returns-in_err-slaves-clause-refused g c =
    let fault = c.in_err-slaves.field-0.0 in
    let P : Known → Type 0 = λ files. RefusesSlaves files (names_of c.in_ok-line.line) fault in
    handed_on (RefusesPlant (g.S.Store.files c.args.store.now) c.args.name.now) c.from_residual-in_err-slaves.result fault c.from_residual-in_err-slaves.ensures.1
    (inr (c.in_ok-line.line, c.in_ok-line.ensures.line, subst P c.load_line.ensures.same c.in_err-slaves.ensures.refused))
