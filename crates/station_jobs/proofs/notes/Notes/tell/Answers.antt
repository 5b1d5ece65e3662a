use Rattle.std.proofs.Common.{◌∙◌, List, sym, ap}
use Rattle.station_jobs.specs.declared.log.Assignment.{Assignment}
use Rattle.station_jobs.specs.Dispatch.{with_outcome}
use Rattle.station_jobs.specs.Noted.{Noted}
use Rattle.station_jobs.proofs.NoteLaws.{outcome-last}
use Rattle.station_jobs.proofs.notes.Notes.tell.Goals as goal

pub returns : goal.returns
returns g c =
    c.push_reserved.ensures.items
    ∙ sym (outcome-last c.pop.new.self.items c.in-Some.last c.args.outcome)
    ∙ ap (λ (l : List (Assignment g.row.J.Denot g.row.O.Denot)). with_outcome l c.args.outcome) (sym c.in-Some.ensures.items ∙ ap (λ (n : Noted g.row.J.Denot g.row.O.Denot). n.entries) c.self.view_is)
