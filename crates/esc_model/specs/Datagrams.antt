-- How the EEPROM half of a slave takes a datagram of a frame (ETG.1000.4).
use Rattle.std.specs.Prelude.{◌≡◌, ◌+◌, ◌%◌}
use Rattle.ecat_frame.specs.Frame.{Pdu}
use Rattle.ecat_frame.specs.Command.{command_of}
use Rattle.esc_model.specs.SlaveHalf.{SlaveHalf, Outcome, served, MayRest}

-- the outcome if the half takes the datagram in its current state
abbrev pub served_datagram : SlaveHalf → Pdu → Outcome
served_datagram half datagram = served half (command_of datagram.command) datagram.address datagram.content

-- the datagram as it comes back with this outcome
abbrev pub reply_of : Pdu → Outcome → Pdu
reply_of datagram outcome = record datagram { content = outcome.content; counter = (datagram.counter + outcome.added) % 65536 }

-- The half takes the datagram, perhaps after it became idle.
pub record Receives (order : Pdu) (half later : SlaveHalf) : Type 0 where
  pub rested : SlaveHalf
  pub rests : MayRest half rested
  pub is : later ≡ (served_datagram rested order).half

-- The half does so, and adds 1 to the working counter.
pub record CountsDatagram (order : Pdu) (half later : SlaveHalf) : Type 0 where
  pub rested : SlaveHalf
  pub rests : MayRest half rested
  pub counted : (served_datagram rested order).added ≡ 1
  pub is : later ≡ (served_datagram rested order).half
