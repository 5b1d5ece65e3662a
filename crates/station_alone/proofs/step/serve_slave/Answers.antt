use Rattle.std.proofs.Common.{◌≡◌, ℕ, refl, sym, ◌∙◌, ap, subst, Result, Ok}
use Rattle.book_model.specs.RomSteps.{rom_next}
use Rattle.station_alone.specs.declared.fault.OpenFault.{OpenFault}
use Rattle.station_alone.specs.Rounds.{ServesSlave, counted, words_of}
use Rattle.station_alone.proofs.RowLaws.{handed_on}
use Rattle.station_alone.proofs.SlaveLaws.{slave-serves}
use Rattle.station_alone.proofs.step.serve_slave.Goals as goal

pub returns-in_err-reported : goal.returns-in_err-reported
returns-in_err-reported g c =
    let old = c.args.station.now in
    let step = c.serve-next in
    let new = step.new.self in
    let next = (rom_next old.book c.args.slave).0 in
    let served = slave-serves old new c.args.slave step.result.1 next c.requires.working c.requires.slave c.stand.ensures step.ensures.goes_on step.ensures.keeps refl step.ensures.serves in
    let fault = c.in_err-reported.field-0.0 in
    let said = sym c.in_err-reported.ensures in
    subst (λ (r : Result ℕ OpenFault). ServesSlave c.args.slave r old new) (sym (handed_on c.from_residual.result fault c.from_residual.ensures.1))
    (subst (λ (r : Result (Unit {0}) OpenFault). ServesSlave c.args.slave (counted next r) old new) said served)

pub returns : goal.returns
returns g c =
    let old = c.args.station.now in
    let step = c.serve-next in
    let new = step.new.self in
    let next = (rom_next old.book c.args.slave).0 in
    let served = slave-serves old new c.args.slave step.result.1 next c.requires.working c.requires.slave c.stand.ensures step.ensures.goes_on step.ensures.keeps refl step.ensures.serves in
    let said = sym c.in_ok-reported.ensures in
    let count : words_of next ≡ c.words_of.result = ap words_of (sym step.ensures.next) ∙ sym c.words_of.ensures in
    subst (λ (n : ℕ). ServesSlave c.args.slave (Ok n) old new) count
    (subst (λ (r : Result (Unit {0}) OpenFault). ServesSlave c.args.slave (counted next r) old new) said served)
