-- Datagrams that leave a running line as it is.
use Rattle.std.proofs.Common.{◌≡◌, ◌⊎◌, inl, inr, ℕ, ◌+◌, ◌*◌, ◌^◌, ◌<◌, List, [], ◌∷◌, ◌++◌, length, refl, sym, subst, arith}
use Rattle.std.specs.List.{All}
use Rattle.std.proofs.lemmas.List.Elements.{All-cons, All-nil}
use Rattle.ecat_frame.specs.Frame.{Pdu, sent}
use Rattle.ecat_frame.specs.declared.command.Command.{Command}
use Rattle.ecat_frame.specs.declared.command.Command.TheVariants.{Fprd, Fpwr, Other}
use Rattle.esc_model.specs.Bytes.{register_of}
use Rattle.esc_model.specs.Orders.{address_of}
use Rattle.wire_frames.specs.Sending.{InEeprom, IsForEeprom, LeavesRunning, OnlyEeprom, passes, looks, counts, eeprom}
use Rattle.esc_model.proofs.Addressing.{register_is}

-- at another address, with the same register
pub readdressed : (d e : Pdu) → LeavesRunning d → e.command ≡ d.command → e.content ≡ d.content
    → register_of e.address ≡ register_of d.address → (d.command ≡ 7 → e.address ≡ d.address) → LeavesRunning e
readdressed d e (passes is) command content register broadcast = passes (cc)
readdressed d e (counts is at short) command content register broadcast =
    let same : e.address ≡ d.address = broadcast is in
    counts (cc) (cc) (subst (λ (c : List ℕ). length c ≡ 1) (sym content) short)
readdressed d e (looks is at short) command content register broadcast =
    looks (cc) (cc) (subst (λ (c : List ℕ). length c ≡ 2) (sym content) short)
readdressed d e (eeprom it) command content register broadcast = eeprom (record {
  by_station = by it.by_station;
  inside = subst (λ (r : ℕ). InEeprom r (length e.content)) (sym register)
      (subst (λ (c : List ℕ). InEeprom (register_of d.address) (length c)) (sym content) it.inside);
})
  where
    by : (d.command ≡ 4) ⊎ (d.command ≡ 5) → (e.command ≡ 4) ⊎ (e.command ≡ 5)
    by (inl is) = inl (cc)
    by (inr is) = inr (cc)

-- a frame of such a datagram, with its number after it
pub numbered_leaves : (frame : List Pdu) (d : Pdu) (number : ℕ) → LeavesRunning d → frame ≡ ([] ++ d ∷ []) ++ sent (Other 0) 0 number [] ∷ [] → OnlyEeprom frame
numbered_leaves frame d number leaves is = subst (All LeavesRunning) (sym is)
    (All-cons LeavesRunning d (sent (Other 0) 0 number [] ∷ []) leaves
    (All-cons LeavesRunning (sent (Other 0) 0 number []) [] (passes refl) (All-nil LeavesRunning)))

-- a read of the station address at a place of the line
pub looks_there : (address place : ℕ) (content : List ℕ) → place < 2 ^ 16 → address ≡ place + 2 ^ 16 * 0x0010 → length content ≡ 2
    → LeavesRunning (sent (Other 1) 0 address content)
looks_there address place content near is short = looks refl (omega (arith, near, is)) short

-- registers of the EEPROM of a slave
pub is_for_eeprom : (command : Command) (address slave register : ℕ) (content : List ℕ) → slave < 64 → (command ≡ Fprd) ⊎ (command ≡ Fpwr)
    → InEeprom register (length content) → address ≡ address_of slave register → IsForEeprom (sent command 0 address content)
is_for_eeprom command address slave register content near way inside is = record {
  by_station = by way;
  inside = subst (λ (r : ℕ). InEeprom r (length content)) (sym place) inside;
}
  where
    by : (command ≡ Fprd) ⊎ (command ≡ Fpwr) → ((sent command 0 address content).command ≡ 4) ⊎ ((sent command 0 address content).command ≡ 5)
    by (inl e) = inl (rw e refl)
    by (inr e) = inr (rw e refl)

    place : register_of address ≡ register
    place = subst (λ (a : ℕ). register_of a ≡ register) (sym is) (register_is slave register near)

pub reported_leaves : (command : Command) (address slave register : ℕ) (content : List ℕ) → slave < 64 → (command ≡ Fprd) ⊎ (command ≡ Fpwr)
    → InEeprom register (length content) → address ≡ address_of slave register → LeavesRunning (sent command 0 address content)
reported_leaves command address slave register content near way inside is =
    eeprom (is_for_eeprom command address slave register content near way inside is)
