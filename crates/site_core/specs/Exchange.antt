-- A frame for the EEPROM half of one slave. The half takes the datagrams in order, each as a whole. A busy half may become idle
-- before any of them. Whether it does so after the last one is left to the next frame: until then a word in flight may hold anything.
use Rattle.std.specs.Prelude.{◌≡◌, List, [], ◌∷◌, length}
use Rattle.ecat_frame.specs.Frame.{Pdu}
use Rattle.esc_model.specs.SlaveHalf.{SlaveHalf, MayRest}
use Rattle.esc_model.specs.Datagrams.{served_datagram, reply_of}

-- The half takes these datagrams: the next list has the half after each of them, and the last one the datagrams that come back.
abbrev pub GoesThrough : SlaveHalf → List Pdu → List SlaveHalf → List Pdu → Type 0
GoesThrough half [] [] [] = Unit {0}
GoesThrough half (datagram ∷ datagrams) (later ∷ laters) (reply ∷ replies) =
    (rested : SlaveHalf)
    × MayRest half rested
    × (later ≡ (served_datagram rested datagram).half)
    × (reply ≡ reply_of datagram (served_datagram rested datagram))
    × GoesThrough later datagrams laters replies
GoesThrough half datagrams laters replies = ⊥

-- A datagram that came back: only its content and its working counter may differ, and the content keeps its length.
pub record IsReply (sent reply : Pdu) : Type 0 where
  pub command : reply.command ≡ sent.command
  pub index : reply.index ≡ sent.index
  pub address : reply.address ≡ sent.address
  pub length : length reply.content ≡ length sent.content

-- Each datagram came back, in the same order.
abbrev pub AreReplies : List Pdu → List Pdu → Type 0
AreReplies [] [] = Unit {0}
AreReplies (datagram ∷ datagrams) (reply ∷ replies) = IsReply datagram reply × AreReplies datagrams replies
AreReplies datagrams replies = ⊥
