use Rattle.std.proofs.Common.{◌∙◌, ℕ, List, Option, IfOk, subst}
use Rattle.jrn_format.specs.declared.journal.Journal.{Journal}
use Rattle.book_model.specs.Entries.{sizes_of}
use Rattle.book_model.specs.Opening.{words_in}
use Rattle.world_law.specs.World.{World}
use Rattle.world_run.specs.Returns.{ScansTo}
use Rattle.world_run.proofs.making.World.scan.Goals as goal

pub returns : goal.returns
returns c =
    let sizes = sizes_of (words_in c.self.inside.line.halves) in
    let by_sizes = subst (λ (s : List ℕ). IfOk c.scan_bytes.result (λ (found : Option Journal). ScansTo c.bytes.result.now s found)) (c.deref.ensures.value ∙ c.in_ok-sizes.ensures) c.scan_bytes.ensures in
    let by_bytes = subst (λ (b : List ℕ). IfOk c.scan_bytes.result (λ (found : Option Journal). ScansTo b sizes found)) c.bytes.ensures by_sizes in
    subst (λ (w : World). IfOk c.scan_bytes.result (λ (found : Option Journal). ScansTo w.state.disk.bytes (sizes_of (words_in w.state.halves)) found)) c.self.view_is by_bytes
