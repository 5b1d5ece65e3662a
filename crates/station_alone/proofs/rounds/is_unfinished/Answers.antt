use Rattle.std.proofs.Common.{◌≡◌, ℕ, ◌<◌, Bool, ◌∙◌, ap, sym, subst, arith}
use Rattle.std.proofs.lemmas.Bool.Decides.{nat_tests}
use Rattle.book_model.specs.Reading.{live_bytes}
use Rattle.station_alone.specs.Rounds.{AnotherRound}
use Rattle.station_alone.proofs.RoundLaws.{asks-live, asks-did}
use Rattle.station_alone.proofs.rounds.is_unfinished.Goals as goal

pub returns-then-live_bytes-gt0 : goal.returns-then-live_bytes-gt0
returns-then-live_bytes-gt0 g c =
    let is : c.live_bytes.result ≡ live_bytes c.args.station.now.book = c.live_bytes.ensures ∙ ap live_bytes c.core.ensures.book in
    let some : 0 < c.live_bytes.result = grind (arith, nat_tests) in
    asks-live c.args.station.now c.requires (subst (λ (n : ℕ). 0 < n) is some)

pub returns : goal.returns
returns g c =
    let is : c.live_bytes.result ≡ live_bytes c.args.station.now.book = c.live_bytes.ensures ∙ ap live_bytes c.core.ensures.book in
    let none : c.live_bytes.result ≡ 0 = grind (arith, nat_tests) in
    let step = c.step-answer in
    subst (λ (more : Bool). AnotherRound more c.args.station.now step.new.self) (sym c.is_did.ensures)
    (asks-did c.args.station.now step.new.self step.result c.requires c.stand.ensures step.ensures.goes_on step.ensures.keeps (sym is ∙ none) step.ensures.steps)
