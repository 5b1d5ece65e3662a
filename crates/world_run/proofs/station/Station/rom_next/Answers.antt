use Rattle.std.proofs.Common.{◌≡◌, ◌<◌, ◌∙◌, ℕ, length, get_or, ap, arith}
use Rattle.std.proofs.lemmas.List.{get_or_read, length-map}
use Rattle.book_model.specs.Book.{Slave, slave_at}
use Rattle.book_model.specs.RomSteps.{rom_next}
use Rattle.world_run.specs.declared.station.Asked.{Asked}
use Rattle.world_run.specs.declared.station.Asked.TheVariants.{Nothing}
use Rattle.world_run.specs.Progress.{asked_of, asked_next}
use Rattle.world_run.proofs.ProgressLaws.{asked-after_next, knows-one, reads-asked}
use Rattle.world_run.proofs.station.Station.rom_next.Goals as goal

pub invariant_of-self : goal.invariant_of-self
invariant_of-self c =
    let core = c.self.inside.core in
    let asked = c.self.inside.asked.items in
    let slave = c.args.slave in
    let knows = c.self.invariant in
    let inside : c.from-at.result < length asked = omega (arith, c.self.inside.asked.ok.0) in
    let within : slave < length core.slaves = (let e = ap length knows.slaves in let n = length-map core.slaves (λ (s : Slave). asked_of s.operation) in omega (arith, c.from-at.ensures, c.self.inside.asked.ok.0)) in
    let before : c.index.result.now ≡ asked_of (slave_at core slave).operation =
    get_or_read asked c.from-at.result c.index.result.now inside c.index.ensures Nothing ∙ ap (λ (i : ℕ). get_or asked i Nothing) c.from-at.ensures
    ∙ reads-asked c.self.inside.action asked core slave knows in
    let now : c.asked_next.result ≡ asked_next (rom_next core slave).0 (asked_of (slave_at core slave).operation) =
    c.asked_next.ensures ∙ ap (λ (a : Asked). asked_next c.rom_next-next.result a) before ∙ ap (λ a. asked_next a (asked_of (slave_at core slave).operation)) c.rom_next-next.ensures.answer in
    rw (c.from-at.ensures, now, c.rom_next-next.ensures.book)
    (knows-one c.self.inside.action asked core (rom_next core slave).1 slave _ knows (asked-after_next core slave within))
