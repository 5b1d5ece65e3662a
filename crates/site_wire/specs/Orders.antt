-- The datagrams for the EEPROM of a slave, before any slave has counted them (ETG.1000.4).
use Rattle.std.specs.Prelude.{ℕ, List, ◌++◌, take, if◌then◌else◌}
use Rattle.std.specs.Int.{w16, w32, to_le_bytes}
use Rattle.ecat_frame.specs.Frame.{Pdu, sent}
use Rattle.ecat_frame.specs.declared.command.Command.TheVariants.{Fpwr}
use Rattle.esc_model.specs.Orders.{address_of}
use Rattle.site_wire.specs.declared.order.Order.{Order}

-- the code of its command (ETG.1000.4): 5 FPWR, 4 FPRD
abbrev pub command_of : Order → ℕ
command_of order = if order.is_write then 5 else 4

-- it, as a datagram
abbrev pub datagram_of : Order → Pdu
datagram_of order = record {
  command = command_of order;
  index = order.index;
  address = order.address;
  content = take order.length order.content;
  counter = 0;
}

-- what the command to read a word and the next one has: its number, and what is put where they come to stand
abbrev pub words_content : (word held : ℕ) → List ℕ
words_content word held = to_le_bytes w16 0x0100 ++ to_le_bytes w32 word ++ to_le_bytes w16 held ++ to_le_bytes w16 held

-- command 001, with words of data after it
abbrev pub words_order : (slave word held : ℕ) → Pdu
words_order slave word held = sent Fpwr 0 (address_of slave 0x0502) (words_content word held)
