use Rattle.std.proofs.Common.{◌≡◌, ℕ, length, sym, ◌∙◌, subst, arith, Result}
use Rattle.station_alone.specs.declared.fault.OpenFault.{OpenFault}
use Rattle.station_alone.specs.Rounds.{Rounds}
use Rattle.station_alone.proofs.RowLaws.{cut-then, handed_on}
use Rattle.station_alone.proofs.RoundLaws.{round-begins, round-goes, round-ends, same-count}
use Rattle.station_alone.proofs.rounds.round.Goals as goal

pub loop-slave-init : goal.loop-slave-init
loop-slave-init g c =
    let a = c.args.station.now in
    let b = c.serve_disk.new.station in
    let served = c.in_ok-serve_disk.ensures in
    (round-begins a b served.goes served.moves, c.slave_count-slaves.ensures ∙ same-count 0 a b c.requires.working served.goes)

pub serve_slave-requires-clause-slave : goal.serve_slave-requires-clause-slave
serve_slave-requires-clause-slave g c =
    let round = c.loop-slave.invariant.0 in
    let all = c.loop-slave.invariant.1 in
    let same = same-count c.loop-slave.words c.args.station.now c.loop-slave.station c.requires.working round.works in
    let below = c.loop-slave-test.true in
    omega (arith, all, same)

pub returns-in_err-words : goal.returns-in_err-words
returns-in_err-words g c =
    let a = c.args.station.now in
    let b = c.loop-slave.station in
    let d = c.serve_slave.new.station in
    let fault = c.in_err-words.field-0.0 in
    subst (λ (r : Result ℕ OpenFault). Rounds r a d) (sym (handed_on c.from_residual-in_err-words.result fault c.from_residual-in_err-words.ensures.1))
    (record { goes = cut-then c.loop-slave.words fault a b d c.loop-slave.invariant.0.works c.in_err-words.ensures.goes; nearer = tt })

pub loop-slave-preserved : goal.loop-slave-preserved
loop-slave-preserved g c =
    (round-goes c.loop-slave.words c.in_ok-words.field-0 c.loop-slave.slave c.args.station.now c.loop-slave.station c.serve_slave.new.station c.loop-slave.invariant.0 c.in_ok-words.ensures, c.loop-slave.invariant.1)

pub returns : goal.returns
returns g c =
    let all = c.loop-slave.invariant.1 in
    let over = c.loop-slave-test.false in
    let end : c.loop-slave.slave ≡ length c.args.station.now.book.slaves = omega (arith, all) in
    round-ends c.loop-slave.words c.loop-slave.slave c.args.station.now c.loop-slave.station c.requires.working c.requires.unfinished end c.loop-slave.invariant.0
