-- What came back, as the courses hear it.
use Rattle.std.proofs.Common.{◌≡◌, ℕ, ◌+◌, ◌*◌, ◌==◌, if◌then◌else◌, false, List, Option, Some, None, Result, Ok, Err, slice_index, refl, sym, ap, subst, ◌∙◌}
use Rattle.ecat_frame.specs.Frame.{Pdu}
use Rattle.site_core.specs.declared.fault.DeviceFault.{DeviceFault}
use Rattle.site_core.specs.declared.fault.DeviceFault.TheVariants as device
use Rattle.site_core.specs.declared.answers.Issued.TheVariants as issued
use Rattle.rom_steps.specs.declared.back.WordPair.{WordPair}
use Rattle.rom_steps.specs.Courses.{IsHeard}
use Rattle.rom_steps.specs.Accesses.{rest_shown, found_in, pair_of, is_counted, issued_by}
use Rattle.rom_steps.specs.declared.back.Back.{Back}
use Rattle.rom_steps.specs.declared.back.Back.TheVariants.{Came, Lost}
use Rattle.rom_steps.specs.Back.{IsBack, counted_in, issued_in, pair_in, rested_in}

-- how a frame that was lost is heard
lost_so : {T : Type 0} (reported : Pdu → T) (lost : T) (fault : DeviceFault) → fault ≡ device.Lost → IsHeard reported lost (Err fault) (Ok lost)
lost_so {T} reported lost fault is = subst (λ (f : DeviceFault). IsHeard reported lost (Err f) (Ok lost)) (sym is) refl

pub heard_counted : (back : Back) (came : Result Pdu DeviceFault) → IsBack back came → IsHeard is_counted false came (Ok (counted_in back))
heard_counted (Came counter content) (Ok reply) is = ap (λ (n : ℕ). Ok (n == 1)) (sym is.0)
heard_counted (Came counter content) (Err fault) is = absurd is
heard_counted Lost (Ok reply) is = absurd is
heard_counted Lost (Err fault) is = lost_so is_counted false fault is

pub heard_rested : (back : Back) (came : Result Pdu DeviceFault) → IsBack back came → IsHeard found_in None came (Ok (rested_in back))
heard_rested (Came counter content) (Ok reply) is =
    ap (λ (n : ℕ). Ok (if n == 1 then rest_shown (slice_index content 1) else None)) (sym is.0)
    ∙ ap (λ (n : ℕ). Ok (if reply.counter == 1 then rest_shown n else None)) (ap (λ (l : List ℕ). slice_index l 1) is.1)
heard_rested (Came counter content) (Err fault) is = absurd is
heard_rested Lost (Ok reply) is = absurd is
heard_rested Lost (Err fault) is = lost_so found_in None fault is

pub heard_issued : (back : Back) (came : Result Pdu DeviceFault) → IsBack back came → IsHeard issued_by issued.Lost came (Ok (issued_in back))
heard_issued (Came counter content) (Ok reply) is = ap (λ (n : ℕ). Ok (if n == 1 then issued.Taken else issued.NotTaken)) (sym is.0)
heard_issued (Came counter content) (Err fault) is = absurd is
heard_issued Lost (Ok reply) is = absurd is
heard_issued Lost (Err fault) is = lost_so issued_by issued.Lost fault is

abbrev pair_at : (counter a b c d : ℕ) → Option WordPair
pair_at counter a b c d = if counter == 1 then Some (record { first = a + 256 * b; second = c + 256 * d }) else None

pub heard_pair : (back : Back) (came : Result Pdu DeviceFault) → IsBack back came → IsHeard pair_of None came (Ok (pair_in back))
heard_pair (Came counter content) (Ok reply) is =
    ap (λ (o : Option WordPair). Ok o)
    (ap (λ (n : ℕ). pair_at n (slice_index content 0) (slice_index content 1) (slice_index content 2) (slice_index content 3)) (sym is.0)
    ∙ ap (λ (n : ℕ). pair_at reply.counter n (slice_index content 1) (slice_index content 2) (slice_index content 3)) (ap (λ (l : List ℕ). slice_index l 0) is.1)
    ∙ ap (λ (n : ℕ). pair_at reply.counter (slice_index reply.content 0) n (slice_index content 2) (slice_index content 3)) (ap (λ (l : List ℕ). slice_index l 1) is.1)
    ∙ ap (λ (n : ℕ). pair_at reply.counter (slice_index reply.content 0) (slice_index reply.content 1) n (slice_index content 3)) (ap (λ (l : List ℕ). slice_index l 2) is.1)
    ∙ ap (λ (n : ℕ). pair_at reply.counter (slice_index reply.content 0) (slice_index reply.content 1) (slice_index reply.content 2) n) (ap (λ (l : List ℕ). slice_index l 3) is.1))
heard_pair (Came counter content) (Err fault) is = absurd is
heard_pair Lost (Ok reply) is = absurd is
heard_pair Lost (Err fault) is = lost_so pair_of None fault is
