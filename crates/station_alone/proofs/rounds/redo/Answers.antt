use Rattle.std.proofs.Common.{◌≡◌, ℕ, ◌+◌, true, false, sym, ◌∙◌, subst, arith, Result}
use Rattle.station_alone.specs.declared.fault.OpenFault.{OpenFault}
use Rattle.station_alone.specs.Rounds.{Redoes, Works}
use Rattle.station_alone.proofs.RowLaws.{cut-then, handed_on, works-none, works-then}
use Rattle.station_alone.proofs.RoundLaws.{can-count, works-round}
use Rattle.station_alone.proofs.rounds.redo.Goals as goal

pub loop-station-init : goal.loop-station-init
loop-station-init g c = works-none c.args.station.now c.requires.working

pub round-requires-clause-unfinished : goal.round-requires-clause-unfinished
round-requires-clause-unfinished g c = c.is_unfinished.ensures.yes c.loop-station-test.true

pub returns-in_err-words : goal.returns-in_err-words
returns-in_err-words g c =
    let a = c.args.station.now in
    let b = c.is_unfinished.new.station in
    let d = c.round.new.station in
    let words = c.loop-station.words in
    let fault = c.in_err-words.field-0.0 in
    subst (λ (r : Result ℕ OpenFault). Redoes r a d) (sym (handed_on c.from_residual.result fault c.from_residual.ensures.1))
    (record { goes = cut-then (words + 0) fault a b d (works-then words 0 a c.loop-station.station b c.loop-station.invariant c.is_unfinished.ensures.works) c.in_err-words.ensures.goes; finished = tt })

pub overflow_add-words : goal.overflow_add-words
overflow_add-words g c =
    let a = c.args.station.now in
    let d = c.round.new.station in
    let words = c.loop-station.words in
    let n = c.in_ok-words.field-0 in
    let few = can-count (words + n) a d c.requires.small (works-round words n a c.loop-station.station c.is_unfinished.new.station d c.loop-station.invariant c.is_unfinished.ensures.works c.in_ok-words.ensures.goes) in
    omega (arith, few)

pub loop-station-preserved : goal.loop-station-preserved
loop-station-preserved g c =
    works-round c.loop-station.words c.in_ok-words.field-0 c.args.station.now c.loop-station.station c.is_unfinished.new.station c.round.new.station c.loop-station.invariant c.is_unfinished.ensures.works c.in_ok-words.ensures.goes

pub returns : goal.returns
returns g c =
    let a = c.args.station.now in
    let b = c.is_unfinished.new.station in
    let words = c.loop-station.words in
    let e : words + 0 ≡ words = omega arith in
    let test = c.loop-station-test.false in
    record {
      goes = subst (λ (n : ℕ). Works n a b) e (works-then words 0 a c.loop-station.station b c.loop-station.invariant c.is_unfinished.ensures.works);
      finished = c.is_unfinished.ensures.no (λ is. let never : true ≡ false = sym is ∙ test in absurd cc);
    }
