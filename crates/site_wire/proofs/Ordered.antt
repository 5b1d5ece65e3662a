-- A datagram for an EEPROM, as it is kept.
use Rattle.std.proofs.Common.{◌≡◌, ◌⊎◌, inl, inr, ℕ, Bool, true, false, take, length, min, refl, sym, arith}
use Rattle.std.proofs.lemmas.List.{length-take}
use Rattle.ecat_frame.specs.Command.{code_of}
use Rattle.ecat_frame.specs.Frame.{Pdu}
use Rattle.ecat_frame.proofs.Spelled.{same_pdu}
use Rattle.wire_frames.specs.Sending.{LeavesRunning, eeprom}
use Rattle.site_wire.specs.declared.order.Order.{Order}
use Rattle.site_wire.specs.Orders.{command_of, datagram_of}
use Rattle.site_wire.specs.declared.answers.Answer.{Answer}
use Rattle.site_wire.specs.Answering.{address_back, answer_of, found_of}

-- the datagram that it was made of
pub order_is : (order : Order) (d : Pdu) → command_of order ≡ d.command → order.index ≡ d.index → order.address ≡ d.address
    → take order.length order.content ≡ d.content → d.counter ≡ 0 → datagram_of order ≡ d
order_is order d command index address content fresh = same_pdu (datagram_of order) d command index address content (sym fresh)

-- what is told of what came back
pub read_is : (answer : Answer) (asked : Pdu) (sent : ℕ) (found : Pdu) → code_of answer.command ≡ found.command → answer.index ≡ found.index
    → answer.address ≡ address_back asked.address sent found.address
    → take (min answer.length 16) answer.front ≡ take (min (length found.content) 16) found.content
    → answer.counter ≡ (answer_of asked sent found).counter → found_of answer ≡ answer_of asked sent found
read_is answer asked sent found command index address content counter =
    same_pdu (found_of answer) (answer_of asked sent found) command index address content counter

-- It leaves a running line as it is.
pub order_leaves : (order : Order) → LeavesRunning (datagram_of order)
order_leaves order = eeprom (record {
  by_station = by order.is_write;
  inside = (order.inside.0, omega (arith, order.inside.1, length-take order.length order.content));
})
  where
    by : (b : Bool) → (command_of (record order { is_write = b }) ≡ 4) ⊎ (command_of (record order { is_write = b }) ≡ 5)
    by true = inr refl
    by false = inl refl
