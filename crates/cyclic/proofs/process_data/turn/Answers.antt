use Rattle.std.proofs.Common.{◌≡◌, ◌+◌, ap, arith, length, refl, sym, ◌∙◌}
use Rattle.ecat_frame.specs.Frame.{pdu}
use Rattle.cyclic.proofs.Exchanging.{one_reply}
use Rattle.cyclic.proofs.Sending.{handed_on}
use Rattle.cyclic.proofs.Turning.{turn_failed, turn_taken, brought, rest_is, rest_size}
use Rattle.cyclic.proofs.process_data.turn.Goals as goal

pub returns-in_err-exchange-clause-turn : goal.returns-in_err-exchange-clause-turn
returns-in_err-exchange-clause-turn g c = λ some.
    turn_failed c.args.plan.now.image c.args.outputs.now c.args.inputs.now c.expected_counter-expected.result c.expected_counter-expected.ensures
    c.turn_frame-frame.result c.turn_frame-frame.ensures (g.S.Site.seen c.args.site.now) c.in_err-exchange.field-0.0 c.from_residual.result
    (handed_on c.from_residual.result c.in_err-exchange.field-0.0 c.from_residual.ensures.1) c.exchange.new.frame (g.S.Site.seen c.exchange.new.site)
    c.in_err-exchange.ensures.exchanges

pub returns-clause-turn : goal.returns-clause-turn
returns-clause-turn g c = λ some.
    let image = c.args.plan.now.image in
    let reply = pdu c.datagram.result in
    let brings = brought image c.args.outputs.now c.turn_frame-frame.result c.exchange.new.frame c.turn_frame-frame.ensures
    (c.in_ok-exchange.ensures.exchanges.brings refl).1 reply c.datagram.ensures in
    turn_taken image c.args.outputs.now c.args.inputs.now c.copy_from_slice.new.self c.expected_counter-expected.result c.expected_counter-expected.ensures
    c.turn_frame-frame.result c.turn_frame-frame.ensures (g.S.Site.seen c.args.site.now) c.exchange.new.frame (g.S.Site.seen c.exchange.new.site)
    c.in_ok-exchange.ensures.exchanges reply brings.alone
    (c.copy_from_slice.ensures.after ∙ rest_is reply.content (length c.args.outputs.now) image.outputs c.requires.outputs)

pub returns-then-outputs-inputs-eq0-clause-nothing : goal.returns-then-outputs-inputs-eq0-clause-nothing
returns-then-outputs-inputs-eq0-clause-nothing g c = λ none. (refl, refl)

pub exchange-requires-clause-one : goal.exchange-requires-clause-one
exchange-requires-clause-one g c = ap length c.turn_frame-frame.ensures

pub returns-in_err-exchange-clause-line : goal.returns-in_err-exchange-clause-line
returns-in_err-exchange-clause-line g c = c.exchange.ensures.line

pub datagram-requires : goal.datagram-requires
datagram-requires g c =
    let reply = one_reply c.turn_frame-frame.result c.exchange.new.frame (ap length c.turn_frame-frame.ensures) (c.in_ok-exchange.ensures.exchanges.brings refl).1 in
    let one : length c.exchange.new.frame ≡ 1 = ap length reply.1 in
    omega arith

pub slice_bounds-copy_from_slice-count : goal.slice_bounds-copy_from_slice-count
slice_bounds-copy_from_slice-count g c =
    let brings = brought c.args.plan.now.image c.args.outputs.now c.turn_frame-frame.result c.exchange.new.frame c.turn_frame-frame.ensures
    (c.in_ok-exchange.ensures.exchanges.brings refl).1 (pdu c.datagram.result) c.datagram.ensures in
    let size : length c.datagram.result.content.now ≡ length c.args.outputs.now + c.args.plan.now.image.inputs = brings.length_is in
    omega arith

pub copy_from_slice-requires : goal.copy_from_slice-requires
copy_from_slice-requires g c =
    let brings = brought c.args.plan.now.image c.args.outputs.now c.turn_frame-frame.result c.exchange.new.frame c.turn_frame-frame.ensures
    (c.in_ok-exchange.ensures.exchanges.brings refl).1 (pdu c.datagram.result) c.datagram.ensures in
    let content = c.datagram.result.content.now in
    c.requires.inputs ∙ sym (ap length (rest_is content (length c.args.outputs.now) (length c.args.outputs.now) refl) ∙ rest_size content (length c.args.outputs.now) c.args.plan.now.image.inputs brings.length_is)

pub returns-clause-line : goal.returns-clause-line
returns-clause-line g c = c.exchange.ensures.line
