use Rattle.std.proofs.Common.{ap, ◌∙◌, ◌++◌, ◌∷◌, [], ℕ, List, length}
use Rattle.std.specs.Int.{w32, to_le_bytes}
use Rattle.jrn_format.proofs.Fitting.{spelt_after}
use Rattle.jrn_format.proofs.writing.put_batch.Goals as goal

pub returns : goal.returns
returns c =
    let payload = c.args.payload.now in
    let count = c.in_ok-extend_from_slice.ensures.items ∙ ap (λ (bytes : List ℕ). c.push.new.self.items ++ bytes) c.to_le_bytes.ensures in
    let head = spelt_after c.args.bytes.now.items (c.args.generation ∷ []) (to_le_bytes w32 (length payload)) c.in_ok-push.ensures.items count in
    c.in_ok-push-2.ensures.items
    ∙ ap (λ (bytes : List ℕ). bytes ++ 0 ∷ []) (c.in_ok-extend_from_slice-2.ensures.items ∙ ap (λ (bytes : List ℕ). bytes ++ payload) head)
