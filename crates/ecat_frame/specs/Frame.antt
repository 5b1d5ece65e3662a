-- EtherCAT frames and their datagrams (ETG.1000.4). All numbers are low byte first.
use Rattle.std.specs.Prelude.{◌≡◌, ℕ, ◌+◌, ◌*◌, ◌^◌, ◌<◌, ◌≤◌, Bool, true, false, if◌then◌else◌, List, [], ◌∷◌, ◌++◌, length}
use Rattle.std.specs.Int.{w16, w32, to_le_bytes}
use Rattle.ecat_frame.specs.declared.command.Command.{Command}
use Rattle.ecat_frame.specs.declared.datagram.Datagram.{Datagram}
use Rattle.ecat_frame.specs.Command.{code_of}

-- A datagram by its values: a command is its code, and an address one number of 32 bits, logical or
-- with ADP in its low half and ADO in its high half.
pub record Pdu : Type 0 where
  pub command : ℕ
  pub index : ℕ
  pub address : ℕ
  pub content : List ℕ
  pub counter : ℕ

-- the values of a datagram of the code
abbrev pub pdu : Datagram → Pdu
pdu d = record { command = code_of d.command; index = d.index; address = d.address; content = d.content.now; counter = d.counter }

-- a datagram as it is sent, with a working counter of 0
abbrev pub sent : Command → (index address : ℕ) → List ℕ → Pdu
sent command index address content = record { command = code_of command; index = index; address = address; content = content; counter = 0 }

-- The values fit their fields.
pub record Fits (d : Pdu) : Type 0 where
  pub address : d.address < 2 ^ 32
  pub length : length d.content < 2 ^ 11
  pub counter : d.counter < 2 ^ 16

-- The length word: bits 0 to 10 are the content's length, bits 11 to 14 are free (three reserved bits, and
-- bit 14, set where the datagram is circulating), and bit 15 says that another datagram follows.
abbrev pub length_word : (len vacant : ℕ) → Bool → ℕ
length_word len vacant more = len + 2 ^ 11 * vacant + (if more then 2 ^ 15 else 0)

-- command, index, address, length word, IRQ, content, working counter
abbrev pub datagram_bytes : Pdu → (word irq : ℕ) → List ℕ
datagram_bytes d word irq =
    d.command ∷ d.index ∷ to_le_bytes w32 d.address ++ to_le_bytes w16 word ++ to_le_bytes w16 irq
    ++ d.content ++ to_le_bytes w16 d.counter

-- The bytes are this datagram, with any free bits and any IRQ word.
pub record IsDatagram (bytes : List ℕ) (d : Pdu) (more : Bool) : Type 0 where
  pub fits : Fits d
  pub vacant : ℕ
  pub free_fits : vacant < 2 ^ 4
  pub irq : ℕ
  pub irq_fits : irq < 2 ^ 16
  pub spelled : bytes ≡ datagram_bytes d (length_word (length d.content) vacant more) irq

-- Whether a datagram in front of these is followed by another: yes if there are any, otherwise as `more` says.
abbrev pub follows : List Pdu → Bool → Bool
follows [] more = more
follows (d ∷ ds) more = true

-- The bytes are these datagrams, one after the other, with bit 15 set on all but the last. On the last one `more` decides: it is
-- set only if the frame is cut off after it.
abbrev pub AreDatagrams : List ℕ → List Pdu → Bool → Type 0
AreDatagrams bytes [] more = bytes ≡ []
AreDatagrams bytes (d ∷ ds) more =
    (first : List ℕ) × (rest : List ℕ) × (bytes ≡ first ++ rest) × IsDatagram first d (follows ds more) × AreDatagrams rest ds more

-- the header word: bits 0 to 10 are the stated length, bit 11 is reserved, bits 12 to 15 are the type
abbrev pub header_word : (stated reserved type : ℕ) → ℕ
header_word stated reserved type = stated + 2 ^ 11 * reserved + 2 ^ 12 * type

-- The bytes begin with a header that states this length and this type, and go on with these.
pub record HasHeader (bytes : List ℕ) (stated type : ℕ) (after : List ℕ) : Type 0 where
  pub stated_fits : stated < 2 ^ 11
  pub reserved : ℕ
  pub reserved_fits : reserved < 2
  pub type_fits : type < 2 ^ 4
  pub spelled : bytes ≡ to_le_bytes w16 (header_word stated reserved type) ++ after

-- The bytes are a frame of these datagrams: a header of type 1, the datagrams, 1,498 bytes at most, and any padding.
pub record IsFrame (bytes : List ℕ) (ds : List Pdu) : Type 0 where
  pub inside : List ℕ
  pub padding : List ℕ
  pub header : HasHeader bytes (length inside) 1 (inside ++ padding)
  pub room : length inside ≤ 1498
  pub datagrams : AreDatagrams inside ds false

-- ---- The canonical encoding: all that is free is zero, and there is no padding.

-- one datagram, and whether another follows
abbrev pub spelled_datagram : Pdu → Bool → List ℕ
spelled_datagram d more = datagram_bytes d (length_word (length d.content) 0 more) 0

-- datagrams, one after the other
abbrev pub spelled : List Pdu → Bool → List ℕ
spelled [] more = []
spelled (d ∷ ds) more = spelled_datagram d (follows ds more) ++ spelled ds more

-- a whole frame
abbrev pub spelling : List Pdu → List ℕ
spelling ds = to_le_bytes w16 (header_word (length (spelled ds false)) 0 1) ++ spelled ds false
