use Rattle.std.proofs.Common.{◌≤◌, List, length, map, String, Global, inr, arith, rules}
use Rattle.toml.specs.View.{view}
use Rattle.toml.specs.declared.value.Value.{Value}
use Rattle.station_text.specs.LineText.{AreImages, NamesImage}
use Rattle.sii_words.proofs.ListedMembers.{AllZip-take-item}
use Rattle.station_text.proofs.Readings.{none_for_item, passed_on, same_count}
use Rattle.station_text.proofs.line_file.read_image_names.Goals as goal
use Rattle.station_text.proofs.line_file.read_image_names.Goals.{then-is_empty-via-then-is_empty, then-is_empty-via-else-is_empty+then-slaves-gt-MAX_SLAVES}

-- none or too many slaves
no_images : (slaves : List Value) → (1 ≤ length slaves → length slaves ≤ 64 → ⊥) → (images : List (String Global)) → ¬ AreImages (map view slaves) images
no_images slaves other images all =
    let count = same_count NamesImage view slaves images all.each in
    other (omega (arith, count, all.some)) (omega (arith, count, all.most))

pub returns-then-is_empty : goal.returns-then-is_empty
returns-then-is_empty c =
    inr (no_images c.args.slaves.now (λ some most. elim c.then-is_empty.branch [
      | then-is_empty-via-then-is_empty w ↦ search rules
      | then-is_empty-via-else-is_empty+then-slaves-gt-MAX_SLAVES w ↦ search rules
    ]))

pub loop-slave-preserved : goal.loop-slave-preserved
loop-slave-preserved c =
    let named = AllZip-take-item NamesImage view c.args.slaves.now c.loop-slave.slave-index c.slave-item.result c.loop-slave.images.items c.in_ok-read_image_name.field-0 c.loop-slave-test.true c.slave-item.is c.loop-slave.invariant.1 c.in_ok-read_image_name.ensures in
    (search rules, rw c.in_ok-push.ensures.items named)

pub returns-in_err-read_image_name : goal.returns-in_err-read_image_name
returns-in_err-read_image_name c =
    passed_on _ _ (NamesImage (view c.slave-item.result)) (AreImages (map view c.args.slaves.now)) c.from_residual-in_err-read_image_name.result c.in_err-read_image_name.field-0.0 c.in_err-read_image_name.ensures c.from_residual-in_err-read_image_name.ensures.1
    (λ none images all. none_for_item NamesImage view c.args.slaves.now c.loop-slave.slave-index c.slave-item.result c.loop-slave-test.true c.slave-item.is none images all.each)
