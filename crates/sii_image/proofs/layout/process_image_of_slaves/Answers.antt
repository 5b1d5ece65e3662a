use Rattle.std.proofs.Common.{◌≡◌, ◌∙◌, Some, true, ap, sym}
use Rattle.std.specs.List.{list_all}
use Rattle.sii_image.specs.ProcessImage.{has_few_rows}
use Rattle.sii_image.proofs.Segments.{process_image-placed}
use Rattle.sii_image.proofs.layout.process_image_of_slaves.Goals as goal

pub returns : goal.returns
returns c =
    let few : list_all has_few_rows c.args.slaves.now ≡ true = sym c.have_few_rows.ensures ∙ c.if-not-have_few_rows.false in
    process_image-placed c.args.slaves.now c.new-placement.result c.add_all.new.self c.add_all-2.new.self few c.new-placement.ensures.segments c.new-placement.ensures.size
    c.in_ok-add_all.ensures c.in_ok-add_all-2.ensures c.add_all-2.new.self.within ∙ ap Some (sym (c.of.ensures ∙ rw c.expected_counter_of_all.ensures))
