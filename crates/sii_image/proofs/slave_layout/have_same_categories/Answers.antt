use Rattle.sii_image.proofs.SameRows.{reported_after}
use Rattle.sii_image.proofs.slave_layout.have_same_categories.Goals as goal

pub returns : goal.returns
returns c = reported_after c.eq.result c.args.old.now c.args.new.now c.eq.ensures
