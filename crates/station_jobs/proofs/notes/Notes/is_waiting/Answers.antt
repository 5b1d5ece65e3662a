use Rattle.std.proofs.Common.{◌≡◌, ◌∙◌, sym, ap}
use Rattle.station_jobs.specs.Noted.{Noted}
use Rattle.station_jobs.proofs.NoteLaws.{waiting-last, none-from-some}
use Rattle.station_jobs.proofs.notes.Notes.is_waiting.Goals as goal

pub returns-in-Some : goal.returns-in-Some
returns-in-Some g c =
    let same : c.as_slice.result.now ≡ c.args.self.now.entries = c.as_slice.ensures.value ∙ ap (λ (n : Noted g.row.J.Denot g.row.O.Denot). n.entries) c.self.view_is in
    none-from-some c.in-Some.last.now.outcome c.is_none.result c.is_none.ensures
    ∙ sym (waiting-last c.args.self.now.entries c.in-Some.last.now (sym (rw same at c.in-Some.ensures.value)))
