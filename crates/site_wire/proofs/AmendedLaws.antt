-- What a device sends of its own keeps a real slave one of which a power cut leaves no more than of its half.
use Rattle.std.proofs.Common.{◌≡◌, ◌⊎◌, ℕ, ◌+◌, ◌-◌, ◌%◌, ◌≤◌, ◌&&◌, true, false, nat_le, List, length}
use Rattle.std.proofs.Common.{slice_index, slice_set, refl, sym, ap, subst, ◌∙◌, inl, inr, arith}
use Rattle.std.proofs.lemmas.List.{set-set, set-get_or}
use Rattle.std.proofs.lemmas.Bool.{le-leb}
use Rattle.ecat_frame.specs.Command.{command_of}
use Rattle.ecat_frame.specs.Frame.{Pdu}
use Rattle.esc_model.specs.Bytes.{register_of}
use Rattle.esc_model.specs.SlaveHalf.{SlaveHalf, Activity, Idle, Reading, Writing, is_busy, MayEnd, MayRest, MayHold, written}
use Rattle.esc_model.specs.Datagrams.{served_datagram}
use Rattle.esc_model.proofs.Resting.{MayLeave-same, MayRest-station, MayRest-leaves}
use Rattle.esc_model.proofs.Status.{idle_not_busy}
use Rattle.esc_model.proofs.WordTaking.{number_back, value_back}
use Rattle.site_wire.specs.Due.{IsOwn, clears, reads, writes}
use Rattle.site_wire.specs.RealSlaves.{IsLike}
use Rattle.site_wire.specs.After.{IsAmended, BroughtUpIsAfter, AmendedLeavesNoMore}
use Rattle.site_wire.proofs.Stored.{offered_kept, forced_kept, command_given}
use Rattle.site_wire.proofs.Validated.{validated, Doing, Nothing, Fetches, Writes, doing_of, done, begun_is, writes_command}
use Rattle.site_wire.proofs.Taking.{true_or_false, writes_here, served_other, served_write, written_idle, written_ignored, validates}
use Rattle.site_wire.proofs.Showing.{reads_only}

-- WHAT A HALF MAY HOLD, THROUGH WHAT THE REAL SLAVE DOES

abbrev DoesNoMore : Activity → Activity → Type 0
DoesNoMore shadow real = (real ≡ Idle) ⊎ ((real ≡ Reading) ⊎ (real ≡ shadow))

MayHold-then : (activity : Activity) (a b c : List ℕ) → MayHold activity a b → MayHold activity b c → MayHold activity a c
MayHold-then Idle a b c f g = g ∙ f
MayHold-then Reading a b c f g = g ∙ f
MayHold-then (Writing word value) a b c f g = (g.0, g.1 ∙ ap (λ (w : List ℕ). slice_set w word g.0) f.1 ∙ set-set a word f.0 g.0)

-- what it leaves of its words is what the shadow may hold
holds_through : (shadow real : Activity) (a b c : List ℕ) → DoesNoMore shadow real → MayHold shadow a b → MayHold real b c → MayHold shadow a c
holds_through shadow real a b c (inl idle) f g =
    let same : c ≡ b = subst (λ (t : Activity). MayHold t b c) idle g in subst (MayHold shadow a) (sym same) f
holds_through shadow real a b c (inr (inl reading)) f g =
    let same : c ≡ b = subst (λ (t : Activity). MayHold t b c) reading g in subst (MayHold shadow a) (sym same) f
holds_through shadow real a b c (inr (inr same)) f g = MayHold-then shadow a b c f (subst (λ (t : Activity). MayHold t b c) same g)

pub amended_leaves_no_more : AmendedLeavesNoMore
amended_leaves_no_more shadow real left am leaves = holds_through shadow.activity real.activity shadow.words real.words left am.activity am.words leaves

-- RESTING

-- what a half is once it has ended: idle, and with the same access
pub ended_idle : (activity : Activity) (half later : SlaveHalf) → MayEnd activity half later
    → (later.activity ≡ Idle) × (later.registers.offered ≡ half.registers.offered) × (later.registers.forced ≡ half.registers.forced)
ended_idle Idle half later ends = absurd ends
ended_idle Reading half later (inl well) = (ap (λ (h : SlaveHalf). h.activity) well, ap (λ (h : SlaveHalf). h.registers.offered) well, ap (λ (h : SlaveHalf). h.registers.forced) well)
ended_idle Reading half later (inr fails) =
    (ap (λ (h : SlaveHalf). h.activity) fails.rested_is, ap (λ (h : SlaveHalf). h.registers.offered) fails.rested_is, ap (λ (h : SlaveHalf). h.registers.forced) fails.rested_is)
ended_idle (Writing word value) half later (inl well) =
    (ap (λ (h : SlaveHalf). h.activity) well, ap (λ (h : SlaveHalf). h.registers.offered) well, ap (λ (h : SlaveHalf). h.registers.forced) well)
ended_idle (Writing word value) half later (inr fails) = (
  ap (λ (h : SlaveHalf). h.activity) fails.ends.rested_is,
  ap (λ (h : SlaveHalf). h.registers.offered) fails.ends.rested_is,
  ap (λ (h : SlaveHalf). h.registers.forced) fails.ends.rested_is,
)

pub amended_rests : (shadow real later : SlaveHalf) → IsAmended shadow real → MayRest real later → IsAmended shadow later
amended_rests shadow real later am (inl same) = subst (IsAmended shadow) (sym same) am
amended_rests shadow real later am (inr ends) =
    let e = ended_idle real.activity real later ends in
    record {
      station = MayRest-station real later (inr ends) ∙ am.station;
      offered = e.1 ∙ am.offered;
      forced = e.2 ∙ am.forced;
      words = holds_through shadow.activity real.activity shadow.words real.words later.words am.activity am.words
          (MayRest-leaves real later later.words (inr ends) (MayLeave-same later));
      activity = inl e.0;
    }

-- a half that is like it
pub amended_like : (shadow real later : SlaveHalf) → IsAmended shadow real → IsLike real later → IsAmended shadow later
amended_like shadow real later am like = record {
  station = like.station ∙ am.station;
  offered = like.registers.offered ∙ am.offered;
  forced = like.registers.forced ∙ am.forced;
  words = holds_through shadow.activity real.activity shadow.words real.words later.words am.activity am.words like.words;
  activity = subst (DoesNoMore shadow.activity) (sym like.activity) am.activity;
}

-- TAKING

module _ (half : SlaveHalf) (over : List ℕ) where
  -- what it begins is no more than what the shadow does
  begins : (shadow : SlaveHalf) → half.activity ≡ Idle → IsAmended shadow half
      → (doing_of (validated half 2 over) ≡ Writes → Writing (validated half 2 over).registers.address (validated half 2 over).registers.first ≡ shadow.activity)
      → (d : Doing) → doing_of (validated half 2 over) ≡ d → IsAmended shadow (done d (validated half 2 over))
  begins shadow idle am same Nothing is =
      record { station = am.station; offered = offered_kept half over ∙ am.offered; forced = forced_kept half over ∙ am.forced; words = am.words; activity = inl idle }
  begins shadow idle am same Fetches is =
      record { station = am.station; offered = offered_kept half over ∙ am.offered; forced = forced_kept half over ∙ am.forced; words = am.words; activity = inr (inl refl) }
  begins shadow idle am same Writes is =
      record { station = am.station; offered = offered_kept half over ∙ am.offered; forced = forced_kept half over ∙ am.forced; words = am.words; activity = inr (inr (same is)) }

-- what the device sends of its own names no other word
own_write : (shadow half : SlaveHalf) (d : Pdu) → IsOwn shadow d → doing_of (validated half 2 d.content) ≡ Writes
    → Writing (validated half 2 d.content).registers.address (validated half 2 d.content).registers.first ≡ shadow.activity
own_write shadow half d (clears at is) does =
    absurd (let e : slice_index d.content 1 % 8 ≡ 2 = sym (command_given half half 2 d.content refl (let n : length d.content ≡ 2 = ap length is in omega arith)) ∙ writes_command (validated half 2 d.content) does in
    let z : slice_index d.content 1 % 8 ≡ 0 = ap (λ (l : List ℕ). slice_index l 1 % 8) is in omega arith)
own_write shadow half d (reads word rest at is) does =
    absurd (let e : slice_index d.content 1 % 8 ≡ 2 = sym (command_given half half 2 d.content refl (let n : 2 ≤ length d.content = subst (λ (l : List ℕ). 2 ≤ length l) (sym is) (omega arith) in n)) ∙ writes_command (validated half 2 d.content) does in
    let z : slice_index d.content 1 % 8 ≡ 1 = ap (λ (l : List ℕ). slice_index l 1 % 8) is in omega arith)
own_write shadow half d (writes word value flying small fits at is) does =
    let address : (validated half 2 d.content).registers.address ≡ word = ap (λ (l : List ℕ). (validated half 2 l).registers.address) is ∙ number_back word small in
    let first : (validated half 2 d.content).registers.first ≡ value = ap (λ (l : List ℕ). (validated half 2 l).registers.first) is ∙ value_back value fits in
    writing_is address first ∙ sym flying
  where
    writing_is : {p q r s : ℕ} → p ≡ q → r ≡ s → Writing p r ≡ Writing q s
    writing_is e f = cc

own_place : (shadow : SlaveHalf) (d : Pdu) → IsOwn shadow d → (register_of d.address ≡ 0x0502) × (2 ≤ length d.content)
own_place shadow d (clears at is) = (at, let n : length d.content ≡ 2 = ap length is in omega arith)
own_place shadow d (reads word rest at is) = (at, subst (λ (l : List ℕ). 2 ≤ length l) (sym is) (omega arith))
own_place shadow d (writes word value flying small fits at is) = (at, subst (λ (l : List ℕ). 2 ≤ length l) (sym is) (omega arith))

module _ (shadow half : SlaveHalf) (d : Pdu) (am : IsAmended shadow half) where
  unchanged : writes_here half (command_of d.command) d.address d.content ≡ false → IsAmended shadow (served_datagram half d).half
  unchanged other = subst (IsAmended shadow) (sym (served_other half (command_of d.command) d.address d.content other)) am

  own_written : IsOwn shadow d → writes_here half (command_of d.command) d.address d.content ≡ true → IsAmended shadow (served_datagram half d).half
  own_written own here = by (true_or_false (is_busy half.activity))
    where
      at : register_of d.address - 0x0500 ≡ 2
      at = let e = (own_place shadow d own).0 in omega arith

      is_written : (served_datagram half d).half ≡ (written half 2 d.content).half
      is_written =
          served_write half (command_of d.command) d.address d.content here ∙ ap (λ (n : ℕ). (written half n d.content).half) at

      covers : (nat_le 2 2 && nat_le 4 (2 + length d.content)) ≡ true
      covers = let e = (own_place shadow d own).1 in rw (le-leb 2 2 (omega arith), le-leb 4 (2 + length d.content) (omega arith)) refl

      by : (is_busy half.activity ≡ true) ⊎ (is_busy half.activity ≡ false) → IsAmended shadow (served_datagram half d).half
      by (inl busy) =
          let e = (own_place shadow d own).1 in
          subst (IsAmended shadow) (sym (is_written ∙ written_ignored half 2 d.content busy (omega arith))) am
      by (inr vacant) =
          let idle : half.activity ≡ Idle = idle_not_busy half.activity vacant in
          subst (IsAmended shadow)
          (sym (is_written ∙ written_idle half 2 d.content idle ∙ validates half 2 d.content covers ∙ begun_is (validated half 2 d.content)))
          (begins half d.content shadow idle am (own_write shadow half d own) (doing_of (validated half 2 d.content)) refl)

  pub served_amended : (d.command ≡ 4) ⊎ ((d.command ≡ 5) × IsOwn shadow d) → IsAmended shadow (served_datagram half d).half
  served_amended (inl read) = unchanged (reads_only half d read)
  served_amended (inr own) = elim (true_or_false (writes_here half (command_of d.command) d.address d.content)) [
    | inl here ↦ own_written own.1 here
    | inr other ↦ unchanged other
  ]

-- the words of a slave whose word in flight holds this
pub held_is : (shadow real : SlaveHalf) (word value : ℕ) → IsAmended shadow real → shadow.activity ≡ Writing word value
    → real.words ≡ slice_set shadow.words word (slice_index real.words word)
held_is shadow real word value am flying =
    let h : MayHold (Writing word value) shadow.words real.words = subst (λ (t : Activity). MayHold t shadow.words real.words) flying am.words in
    sym (set-get_or real.words word 0) ∙ ap (λ (w : List ℕ). slice_set w word (slice_index real.words word)) h.1
    ∙ set-set shadow.words word h.0 (slice_index real.words word)

-- BROUGHT UP

pub brought_up_is_after : BroughtUpIsAfter
brought_up_is_after words station real up = record {
  amended = record { station = up.station_is; offered = up.offered; forced = up.forced; words = up.words_are; activity = inl up.idle };
  idle = λ none. up.idle;
}
