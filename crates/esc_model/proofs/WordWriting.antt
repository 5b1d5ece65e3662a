-- How the write of a word that a half has taken ends.
use Rattle.std.proofs.Common.{◌≡◌, ℕ, false, List, slice_set, inl, inr, sym, ap, subst, ◌∙◌}
use Rattle.esc_model.specs.SlaveHalf.{SlaveHalf, Activity, Idle, Writing, MayEnd, MayRest, settled, with_errors}
use Rattle.esc_model.specs.WordAccess.{IsWell, IsWritingOrInError, IsWritten}
use Rattle.esc_model.specs.Laws.{TakenThenWell}
use Rattle.esc_model.proofs.Resting.{MayRest-idle, MayLeave-idle}
use Rattle.esc_model.proofs.Status.{no_error}

-- a write that is seen to have ended without an error has put its word in place
ended_well : (word value : ℕ) (half later : SlaveHalf) → MayEnd (Writing word value) half later → IsWell later → later ≡ with_errors (settled half word value) false false
ended_well word value half later (inl is) well = is
ended_well word value half later (inr fails) well =
    absurd (no_error later.registers.command_error later.registers.enable_error well.command_error well.enable_error fails.ends.error)

not_resting : (word value : ℕ) (half later : SlaveHalf) → half.activity ≡ Writing word value → IsWell later → later ≡ half → ⊥
not_resting word value half later writing well same =
    let e : Idle ≡ Writing word value = sym well.idle ∙ ap (λ (h : SlaveHalf). h.activity) same ∙ writing in cc

pub well_is_written : (word value : ℕ) (half later : SlaveHalf) → MayRest half later → IsWell later → IsWritingOrInError word value half → IsWritten word value half later
well_is_written word value half later (inl same) well (inl writing) = absurd (not_resting word value half later writing.0 well same)
well_is_written word value half later (inr ends) well (inl writing) = record {
  inside = writing.1;
  settled = ended_well word value half later (subst (λ (a : Activity). MayEnd a half later) writing.0 ends) well;
}
well_is_written word value half later rests well (inr refused) =
    let same : later ≡ half = MayRest-idle half later refused.0 rests in
    let first : half.registers.command_error ≡ false = sym (ap (λ (h : SlaveHalf). h.registers.command_error) same) ∙ well.command_error in
    let second : half.registers.enable_error ≡ false = sym (ap (λ (h : SlaveHalf). h.registers.enable_error) same) ∙ well.enable_error in
    absurd (no_error half.registers.command_error half.registers.enable_error first second refused.1)

pub taken_then_well : TakenThenWell
taken_then_well slave word value half mid later left takes rests well leaves =
    let is = well_is_written word value mid later rests well takes.writes in (
      rw (← takes.words) is.inside,
      MayLeave-idle later left well.idle leaves ∙ ap (λ (h : SlaveHalf). h.words) is.settled ∙ ap (λ (w : List ℕ). slice_set w word value) takes.words,
    )
