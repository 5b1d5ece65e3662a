use Rattle.std.proofs.Common.{length, arith}
use Rattle.jrn_format.proofs.HeaderGrammar.{area_is}
use Rattle.jrn_format.proofs.scanning.journal.Goals as goal

pub live_in-requires : goal.live_in-requires
live_in-requires c =
    (area_is c.args.file.now (length c.args.sizes.now) (c.in_ok-form.form, c.in_ok-form.area.now) (λ i. omega (arith, c.type_inv.file i)) c.in_ok-form.ensures).capacity.1
