use Rattle.std.proofs.Common.{◌∙◌, Bor, List, ℕ, bytes_eq, rules, tests}
use Rattle.std.proofs.lemmas.Iterator.{YieldsList-from_slice}
use Rattle.std.proofs.lemmas.Iterator.Search.{any_from_yields_List}
use Rattle.station_text.proofs.Keys.{list_any-map}
use Rattle.station_text.proofs.document.is_known.Goals as goal

pub returns : goal.returns
returns c =
    let among = any_from_yields_List (λ (one : Bor (List ℕ)). bytes_eq one.now c.args.key.now) _ _ c.any.result c.any.ensures.ran (YieldsList-from_slice c.args.known.now cc) (λ x b q k. search (rules, tests)) in
    among ∙ list_any-map (λ (one : Bor (List ℕ)). one.now) (λ one. bytes_eq one c.args.key.now) c.args.known.now
