-- What a slave told, as it is heard over a wire.
use Rattle.std.proofs.Common.{◌≡◌, ◌⊎◌, Some, None, ℕ, ◌+◌, ◌*◌, ◌/◌, ◌%◌, ◌<◌, ◌≤◌, List, length, slice_index, Option, IfSome, IfOk, Result}
use Rattle.std.proofs.Common.{refl, sym, subst, arith, rules}
use Rattle.std.specs.Option.{ok_or}
use Rattle.ecat_frame.specs.Frame.{Pdu, sent}
use Rattle.esc_model.specs.Bytes.{station_of, register_of}
use Rattle.esc_model.specs.Orders.{address_of}
use Rattle.wire_frames.specs.Came.{Answered, Heard, Reported, back_of, IsFor}
use Rattle.wire_frames.specs.declared.asking.Reply.{Reply}
use Rattle.wire_words.specs.declared.telling.Hitch.{Hitch}

-- What is heard of a datagram to a register of a slave is told of this register.
pub heard_is_reported : (Gives : List ℕ → Type 0) (stations : List ℕ) (slave command register : ℕ) (content : List ℕ) (reply : Reply) → slave < 64
    → register < 65536 → (command ≡ 4) ⊎ (command ≡ 5)
    → Heard Gives stations (record { command = command; index = 0; address = address_of slave register; content = content; counter = 0 }) reply
    → Reported Gives (slice_index stations slave) command register content reply
heard_is_reported Gives stations slave command register content reply near fits either heard counted short =
    subst (λ (r : ℕ). Answered Gives (slice_index stations slave) command r (back_of command content reply.content)) (omega (arith, near))
    (heard counted slave (record { near = near; by_station = either; station_is = omega (arith, near); short = short }))

-- the same of an answer that may be missing
pub heard_are_reported : (Gives : List ℕ → Type 0) (stations : List ℕ) (slave command register address : ℕ) (content : List ℕ) (came : Option Reply) (hitch : Hitch)
    → slave < 64 → register < 65536 → (command ≡ 4) ⊎ (command ≡ 5) → address ≡ address_of slave register
    → IfSome came (Heard Gives stations (record { command = command; index = 0; address = address; content = content; counter = 0 }))
    → IfOk (ok_or came hitch) (Reported Gives (slice_index stations slave) command register content)
heard_are_reported Gives stations slave command register address content None hitch near fits either is_address heard = search rules
heard_are_reported Gives stations slave command register address content (Some reply) hitch near fits either is_address heard =
    heard_is_reported Gives stations slave command register content reply near fits either
    (subst (λ (at : ℕ). Heard Gives stations (record { command = command; index = 0; address = at; content = content; counter = 0 }) reply) is_address heard)
