-- What goes out over a wire (ETG.1000.4). `Takes` is what is known of the bytes that the wire was given to send.
use Rattle.std.specs.Prelude.{◌≡◌, ℕ, ◌+◌, ◌-◌, ◌*◌, ◌%◌, ◌^◌, ◌<◌, ◌≤◌, Bool, false, List, [], ◌∷◌, ◌++◌, length, replicate}
use Rattle.ecat_frame.specs.Frame.{Pdu, sent, spelling, IsFrame}
use Rattle.ecat_frame.specs.declared.command.Command.TheVariants.{Other}
use Rattle.wire_frames.specs.Came.{Reaches}

-- These datagrams, and after them the number of their frame: the address of one that no slave takes (code 0, NOP).
abbrev pub numbered : List Pdu → (number : ℕ) → List Pdu
numbered datagrams number = datagrams ++ sent (Other 0) 0 number [] ∷ []

-- a datagram as it goes to this address, before a slave has counted it
abbrev pub sent_to : Pdu → (address : ℕ) → Pdu
sent_to asked address = record asked { address = address; counter = 0 }

-- The wire was given a frame of these datagrams.
pub record IsGiven (Takes : List ℕ → Type 0) (datagrams : List Pdu) : Type 0 where
  pub bytes : List ℕ
  pub taken : Takes bytes
  pub spelled : IsFrame bytes datagrams

-- From the one to the other a frame of these datagrams goes out, until it comes back, three times at most, and nothing else goes out. One that
-- would have more than 1,500 bytes doesn't.
pub data GoesOut (Takes : List ℕ → Type 0) (datagrams : List Pdu) (old new : List (List Pdu)) (is_back : Bool) : Type 0 where
  too_long : 1500 < length (spelling datagrams) → new ≡ old → is_back ≡ false → GoesOut Takes datagrams old new is_back
  goes : (times : ℕ) → 1 ≤ times → times ≤ 3 → (is_back ≡ false → times ≡ 3) → IsGiven Takes datagrams
      → new ≡ old ++ replicate times datagrams → GoesOut Takes datagrams old new is_back

-- This datagram does, alone, to this address, with a number after it.
pub record GoesTo (Takes : List ℕ → Type 0) (asked : Pdu) (address : ℕ) (old new : List (List Pdu)) (is_back : Bool) : Type 0 where
  pub number : ℕ
  pub goes : GoesOut Takes (numbered (sent_to asked address ∷ []) number) old new is_back

-- It does so, to the address that it reaches.
pub record GoesAlone (Takes : List ℕ → Type 0) (stations : List ℕ) (asked : Pdu) (old new : List (List Pdu)) (is_back : Bool) : Type 0 where
  pub address : ℕ
  pub reaches : Reaches stations asked address
  pub goes : GoesTo Takes asked address old new is_back

-- the datagram that counts the slaves of a line: each reads its first register (code 7, BRD)
abbrev pub count_order : Pdu
count_order = sent (Other 7) 0 0 (0 ∷ [])

-- the one that reads the station address (0x0010) of the slave at this place of the line, below 64 (code 1, APRD)
abbrev pub look_order : (slave : ℕ) → Pdu
look_order slave = sent (Other 1) 0 ((2 ^ 16 - slave) % 2 ^ 16 + 2 ^ 16 * 0x0010) (0 ∷ 0 ∷ [])

-- The slaves are counted, and the station address of the one at this place is read, and nothing else goes out.
pub record LooksAround (Takes : List ℕ → Type 0) (stations : List ℕ) (slave : ℕ) (old new : List (List Pdu)) : Type 0 where
  pub mid : List (List Pdu)
  pub are_counted : Bool
  pub is_read : Bool
  pub counts : GoesAlone Takes stations count_order old mid are_counted
  pub looks : GoesAlone Takes stations (look_order slave) mid new is_read
