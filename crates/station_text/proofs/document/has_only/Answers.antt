use Rattle.std.proofs.Common.{◌∙◌, map, string_bytes, rules, tests}
use Rattle.std.specs.BTreeMap.{keys}
use Rattle.std.proofs.lemmas.Iterator.Consumers.{YieldsList-from_rest}
use Rattle.std.proofs.lemmas.Iterator.Search.{all_from_yields_List}
use Rattle.station_text.specs.Document.{is_known}
use Rattle.station_text.proofs.Keys.{has_only-entries}
use Rattle.station_text.proofs.document.has_only.Goals as goal

pub returns : goal.returns
returns c =
    let known = map (λ one. one.now) c.args.known.now in
    let each = all_from_yields_List (λ key. is_known known (string_bytes key)) _ _ c.all.result c.all.ensures.ran (YieldsList-from_rest (keys c.args.table.now) c.keys.ensures.rest) (λ x b q k. search (rules, tests)) in
    each ∙ has_only-entries known c.args.table.now.entries
