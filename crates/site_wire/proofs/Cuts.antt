-- What a power cut leaves of a real slave while a datagram is carried to it.
use Rattle.std.proofs.Common.{◌≡◌, ◌⊎◌, inl, inr, ℕ, ◌<◌, true, false, List, [], ◌∷◌, slice_index, Some, None, refl, sym, ap, subst, ◌∙◌}
use Rattle.std.specs.Prelude.{IsTrue}
use Rattle.std.specs.List.{All}
use Rattle.ecat_frame.specs.Command.{command_of}
use Rattle.ecat_frame.specs.Frame.{Pdu}
use Rattle.esc_model.specs.Bytes.{station_of}
use Rattle.esc_model.specs.Orders.{station}
use Rattle.esc_model.specs.declared.rest.Rest.TheVariants as rests
use Rattle.esc_model.specs.SlaveHalf.{SlaveHalf, Activity, Idle, Reading, Writing, is_busy, rested_by, MayHold, MayLeave}
use Rattle.esc_model.specs.Datagrams.{served_datagram}
use Rattle.esc_model.proofs.Resting.{MayLeave-same, MayLeave-idle, MayRest-idle}
use Rattle.esc_model.proofs.Serving.{Goes, Goes-served}
use Rattle.site_shadow.specs.declared.device.Resting.{Resting}
use Rattle.site_shadow.specs.declared.device.Resting.TheVariants as resting
use Rattle.site_shadow.specs.Resting.{RestsAs, Ends, keeping}
use Rattle.site_wire.specs.Due.{WritesControl, IsFit}
use Rattle.site_wire.specs.Known.{IsKnown}
use Rattle.site_wire.specs.After.{IsAmended, IsAfter}
use Rattle.site_wire.specs.RealSlaves.{Lives, IsSoFar, nothing, under_way, and_more}
use Rattle.site_wire.specs.Sent.{Exchanged, exchanged}
use Rattle.site_wire.specs.Following.{IsOwnTo, SendsFirst, is_lost, comes_back}
use Rattle.site_wire.proofs.AmendedLaws.{amended_leaves_no_more}
use Rattle.site_wire.proofs.Living.{Between, lives_keep, lives_parts, lives_once, lives_silent, so_far_all}
use Rattle.site_wire.proofs.After.{silent_after, answered_after}
use Rattle.site_wire.proofs.Carrying.{untouched, own_amended, same_activity}

-- a datagram takes nothing from what a power cut may leave
pub served_leaves : (half : SlaveHalf) (d : Pdu) (left : List ℕ) → MayLeave half left → MayLeave (served_datagram half d).half left
served_leaves half d left leaves = by goes.activity
  where
    goes : Goes half (served_datagram half d).half
    goes = Goes-served half (command_of d.command) d.address d.content

    by : ((served_datagram half d).half.activity ≡ half.activity)
        ⊎ ((half.activity ≡ Idle) × (((served_datagram half d).half.activity ≡ Reading)
        ⊎ ((served_datagram half d).half.activity ≡ Writing (served_datagram half d).half.registers.address (served_datagram half d).half.registers.first)))
        → MayLeave (served_datagram half d).half left
    by (inl same) =
        subst (λ (activity : Activity). MayHold activity (served_datagram half d).half.words left) (sym same)
        (subst (λ (words : List ℕ). MayHold half.activity words left) (sym goes.words) leaves)
    by (inr begins) =
        subst (MayLeave (served_datagram half d).half) (goes.words ∙ sym (MayLeave-idle half left begins.0 leaves)) (MayLeave-same (served_datagram half d).half)

-- nor does it add anything while the half is busy
pub busy_leaves : (half : SlaveHalf) (d : Pdu) (left : List ℕ) → IsTrue (is_busy half.activity) → MayLeave (served_datagram half d).half left → MayLeave half left
busy_leaves half d left busy leaves =
    subst (λ (activity : Activity). MayHold activity half.words left) (same_activity half d busy)
    (subst (λ (words : List ℕ). MayHold (served_datagram half d).half.activity words left)
    (Goes-served half (command_of d.command) d.address d.content).words leaves)

-- an idle half stays as it is, whatever a device says
pub idle_rests : (how : Resting) (half rested : SlaveHalf) → half.activity ≡ Idle → RestsAs how half rested → rested ≡ half
idle_rests resting.InTime half rested idle so = MayRest-idle half rested idle so
idle_rests resting.Stays half rested idle so = so
idle_rests resting.Well half rested idle so = subst (λ (a : Activity). Ends a rests.Well false half rested) idle so
idle_rests resting.Failed half rested idle so = subst (λ (a : Activity). Ends a (keeping a half.words) true half rested) idle so
idle_rests (resting.FailedWith left) half rested idle so = so ∙ ap (λ (a : Activity). rested_by a (rests.Failed left) half) idle

-- A slave at its station follows its half before the datagram.
module _ (slave : ℕ) (half : SlaveHalf) (d : Pdu) (fits : IsFit half d) (bytes : (k : ℕ) → slice_index d.content k < 256)
    (to : station_of d.address ≡ station slave) (real : SlaveHalf) (near : real.station ≡ station slave) (afterwards : IsAfter half real) where
  abbrev after : SlaveHalf
  after = (served_datagram half d).half

  -- it hasn't taken it yet
  before_it : (later : SlaveHalf) (left : List ℕ) → IsAfter half later → MayLeave later left → MayLeave after left
  before_it later left is leaves = served_leaves half d left (amended_leaves_no_more half later left is.amended leaves)

  module _ (may : IsTrue (is_busy half.activity) → ¬ WritesControl d) (news : ¬ IsKnown half d) where
    -- it is under way
    on_the_way : (later : SlaveHalf) (left : List ℕ) → Lives (exchanged d None ∷ []) real later → MayLeave later left → MayLeave after left
    on_the_way later left lives leaves =
        by (silent_after half d (record { may = may; fits = fits; news = news; bytes = bytes }) real later
        (lives_silent (exchanged d None) real later (to ∙ sym near) refl lives) afterwards)
      where
        by : IsAfter half later ⊎ IsAfter after later → MayLeave after left
        by (inl first) = before_it later left first leaves
        by (inr next) = amended_leaves_no_more after later left next.amended leaves

    -- it came back, and the device has sent a part of its own
    behind_it : (found : Pdu) (own part : List Exchanged) → All (IsOwnTo slave half) own → IsSoFar own part → (later : SlaveHalf) (left : List ℕ)
        → Lives (exchanged d (Some found) ∷ part) real later → MayLeave later left → MayLeave after left
    behind_it found own part all so_far later left lives leaves =
        let parts : Between (exchanged d (Some found) ∷ []) part real later = lives_parts (exchanged d (Some found) ∷ []) part real later lives in
        let mid = answered_after half d (record { may = may; fits = fits; news = news; bytes = bytes }) real parts.mid found
        (lives_once (exchanged d (Some found)) found real parts.mid (to ∙ sym near) refl parts.before) afterwards in
        let am = lives_keep part (IsAmended after) (IsOwnTo slave half) (own_amended slave half after (same_activity half d))
        (so_far_all (IsOwnTo slave half) (λ call is. record { to = is.to; own = is.own }) own part so_far all) parts.mid later parts.afterwards mid.amended in
        amended_leaves_no_more after later left am leaves

  pub carried_leaves : (calls part : List Exchanged) → SendsFirst slave half d calls → IsSoFar calls part → (later : SlaveHalf) (left : List ℕ)
      → Lives part real later → MayLeave later left → MayLeave after left
  carried_leaves _ _ first (nothing _) later left lives leaves =
      before_it later left (subst (IsAfter half) (sym (untouched real later lives)) afterwards) leaves
  carried_leaves _ _ (is_lost may news) (under_way _ _) later left lives leaves = on_the_way may news later left lives leaves
  carried_leaves _ _ (is_lost may news) (and_more _ _ _ (nothing _)) later left lives leaves = on_the_way may news later left lives leaves
  carried_leaves _ _ (comes_back found own may news all) (under_way _ _) later left lives leaves = on_the_way may news later left lives leaves
  carried_leaves _ _ (comes_back found own may news all) (and_more _ _ part so_far) later left lives leaves =
      behind_it may news found own part all so_far later left lives leaves
