use Rattle.std.proofs.Common.{◌≡◌, ◌<◌, ◌∙◌, ℕ, length, get_or, ap, arith}
use Rattle.std.proofs.lemmas.List.{get_or_read}
use Rattle.book_model.specs.Book.{slave_at}
use Rattle.book_model.specs.RomSteps.{rom_done}
use Rattle.world_run.specs.declared.station.Asked.{Asked}
use Rattle.world_run.specs.declared.station.Asked.TheVariants.{Nothing}
use Rattle.world_run.specs.Progress.{asked_of, asked_then}
use Rattle.world_run.proofs.ProgressLaws.{asked-after_done, knows-one, reads-asked}
use Rattle.world_run.proofs.station.Station.rom_done.Goals as goal

pub invariant_of-self : goal.invariant_of-self
invariant_of-self c =
    let core = c.self.inside.core in
    let asked = c.self.inside.asked.items in
    let slave = c.args.slave in
    let knows = c.self.invariant in
    let inside : c.from-at.result < length asked = omega (arith, c.self.inside.asked.ok.0) in
    let before : c.index.result.now ≡ asked_of (slave_at core slave).operation =
    get_or_read asked c.from-at.result c.index.result.now inside c.index.ensures Nothing ∙ ap (λ (i : ℕ). get_or asked i Nothing) c.from-at.ensures
    ∙ reads-asked c.self.inside.action asked core slave knows in
    let now : c.asked_then.result ≡ asked_then (asked_of (slave_at core slave).operation) c.args.outcome = c.asked_then.ensures ∙ ap (λ (a : Asked). asked_then a c.args.outcome) before in
    rw (c.from-at.ensures, now, c.rom_done.ensures)
    (knows-one c.self.inside.action asked core (rom_done core slave c.args.outcome) slave _ knows (asked-after_done core slave c.args.outcome))
