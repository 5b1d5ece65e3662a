use Rattle.std.proofs.Common.{◌≡◌, ◌∙◌, ap, List, ℕ, take, replicate}
use Rattle.std.proofs.lemmas.List.{take-replicate}
use Rattle.station_jobs.proofs.cycling.zero_bytes.Goals as goal

pub returns : goal.returns
returns c =
    let filled : c.from-bytes.result.items ≡ replicate 1486 0 = c.from-bytes.ensures.0 in
    c.truncate.ensures.items ∙ (ap (λ (l : List ℕ). take c.args.count l) filled ∙ take-replicate c.args.count 1486 0 c.requires)
