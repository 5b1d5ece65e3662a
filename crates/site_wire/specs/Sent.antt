-- What a device has sent to the slaves of its line, and what came back.
use Rattle.std.specs.Prelude.{◌≡◌, List, [], ◌∷◌, ◌++◌, Option}
use Rattle.std.specs.Option.{option_map}
use Rattle.ecat_frame.specs.Frame.{Pdu}
use Rattle.site_wire.specs.declared.answers.Answer.{Answer}
use Rattle.site_wire.specs.declared.order.Order.{Order}
use Rattle.site_wire.specs.declared.sending.Exchange.{Exchange}
use Rattle.site_wire.specs.Answering.{found_of}
use Rattle.site_wire.specs.Orders.{datagram_of}

-- A datagram that was sent until it came back, three times at most; and what came back, if anything did.
pub record Exchanged : Type 0 where
  pub sent : Pdu
  pub answer : Option Pdu

abbrev pub exchanged : Pdu → Option Pdu → Exchanged
exchanged sent answer = record { sent = sent; answer = answer }

-- the datagrams that were sent, in order, and what came back
unfoldable pub exchanges : List Exchange → List Exchanged
exchanges [] = []
exchanges (exchange ∷ later) = exchanged (datagram_of exchange.order.value) (option_map found_of exchange.answer.value) ∷ exchanges later

-- Where a device has sent these, it has sent this, in this order, and nothing else.
abbrev pub HasSent : List Exchange → List Exchanged → Type 0
HasSent sent log = exchanges sent ≡ log

-- This datagram, and what came back of it, is noted.
pub record Notes (old : List Exchange) (order : Order) (answer : Option Answer) (new : List Exchange) : Type 0 where
  pub exchange : Exchange
  pub noted : new ≡ old ++ exchange ∷ []
  pub order_is : exchange.order.value ≡ order
  pub answer_is : exchange.answer.value ≡ answer

-- From the one to the other a device sends this, in this order, and nothing else.
pub record Sends (old new : List Exchange) (calls : List Exchanged) : Type 0 where
  pub goes_on : exchanges new ≡ exchanges old ++ calls
