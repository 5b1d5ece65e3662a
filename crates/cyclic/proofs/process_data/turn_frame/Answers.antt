use Rattle.std.proofs.Common.{◌≡◌, ◌+◌, ◌≤◌, ◌++◌, List, [], ◌∷◌, ℕ, length, take, replicate, ap, ◌∙◌, arith}
use Rattle.ecat_frame.specs.Frame.{Pdu, sent}
use Rattle.ecat_frame.specs.declared.command.Command.TheVariants.{Lrw}
use Rattle.cyclic.proofs.Turning.{content_is}
use Rattle.cyclic.proofs.process_data.turn_frame.Goals as goal

pub returns : goal.returns
returns c =
    let image = c.args.image.now in
    let outputs = c.args.outputs.now in
    let room : length outputs + image.inputs ≤ 1486 = omega arith in
    let count : c.outputs.result + c.inputs.result ≡ length outputs + image.inputs = omega arith in
    let content : take (c.outputs.result + c.inputs.result) c.lay.new.content ≡ outputs ++ replicate image.inputs 0 =
    ap (λ n. take n c.lay.new.content) count ∙ content_is 1486 outputs c.lay.new.content image.inputs room c.lay.ensures in
    c.in-Ok.ensures.ok
    ∙ ap (λ (l : List Pdu). l ++ sent Lrw 0 0 (take (c.outputs.result + c.inputs.result) c.lay.new.content) ∷ []) c.new-frame.ensures
    ∙ ap (λ (bytes : List ℕ). sent Lrw 0 0 bytes ∷ []) content
