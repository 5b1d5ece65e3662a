use Rattle.std.proofs.Common.{Option, Result, refl, subst}
use Rattle.std.specs.Prelude.{IfOk}
use Rattle.std.specs.Global.{Vec}
use Rattle.esc_model.specs.SlaveHalf.{SlaveHalf}
use Rattle.site_shadow.specs.Line.{halves_of}
use Rattle.station_threads.specs.Places.{AllPlaced}
use Rattle.script_session.specs.Parts.{EndsWith}
use Rattle.station_files.specs.declared.faults.Fault.{Fault}
use Rattle.script_session.proofs.PartLaws.{puts-together}
use Rattle.script_session.proofs.together.joined.Goals as goal

pub returns-in_ok-made-in-Ok : goal.returns-in_ok-made-in-Ok
returns-in_ok-made-in-Ok g c ends bytes all =
    let made = c.in_ok-made-in-Ok in
    puts-together {E = Fault} c.entire_line.result c.args.slaves made.made c.args.line.disk c.in-Ok.halves.items ends.workers.items ends
    c.entire_line.ensures made.ensures.new made.ensures.disk bytes made.ensures.halves refl
    (subst (λ (r : Result (Vec (Option SlaveHalf)) Fault). IfOk r (λ found. AllPlaced EndsWith 0 ends.workers.items (halves_of found.items))) c.in-Ok.is all)
