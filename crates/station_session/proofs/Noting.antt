-- Failures that were noted one after the other.
use Rattle.std.proofs.Common.{◌≡◌, ◌∙◌, List, Result, Ok, Err, inl, inr, refl, subst, sym}
use Rattle.std.specs.Prelude.{◌⊎◌, IfErr, OnErr, OnOk}
use Rattle.station_files.specs.declared.failures.Failures.{Failures}
use Rattle.station_files.specs.declared.faults.ExitStatus.{ExitStatus}
use Rattle.station_files.specs.declared.faults.ExitStatus.TheVariants.{Done}
use Rattle.station_files.specs.declared.faults.Failure.{Failure}
use Rattle.station_files.specs.declared.faults.Failure.TheVariants as failures
use Rattle.station_files.specs.declared.faults.Fault.{Fault}
use Rattle.station_files.specs.Failures.{met_by, with_failure}
use Rattle.station_files.specs.Faults.{IsFaultless}
use Rattle.station_line.specs.Answers.{IsOfAnswers, exit_status}
use Rattle.station_line.specs.declared.answered.Answered.{Answered}
use Rattle.station_line.specs.declared.answered.Answered.TheVariants.{AllAccepted}
use Rattle.station_session.specs.Noting.{Notes, noted, further, NotesWhy}

pub one_noted : (old new : Failures) (failure : Failure) → met_by new ≡ with_failure (met_by old) failure → Notes (met_by old) (met_by new)
one_noted old new failure is = subst (λ (met : List Failure). Notes (met_by old) met) (sym is) (noted (met_by old) failure)

-- one was noted, and then the fault of a result, if there is one
pub noted_also : (ended : Result (Unit {0}) Fault) (old mid new : Failures) → Notes (met_by old) (met_by mid)
    → IfErr ended (λ fault. met_by new ≡ with_failure (met_by mid) (failures.Fault fault)) → OnOk ended (new ≡ mid) → Notes (met_by old) (met_by new)
noted_also (Ok done) old mid new first is same = subst (λ (at : Failures). Notes (met_by old) (met_by at)) (sym same) first
noted_also (Err fault) old mid new first is same =
    further (met_by old) (met_by mid) (met_by new) first (one_noted mid new (failures.Fault fault) is)

-- failures of one work, and then those of another
pub both_noted : (P Q R : Type 0) (one other both : ExitStatus) (old mid new : Failures) → NotesWhy P one old mid → NotesWhy Q other mid new → (P → Q → R)
    → (IsFaultless both → IsFaultless one × IsFaultless other) → NotesWhy R both old new
both_noted P Q R one other both old mid new (inl first) (inl second) so good = inl (so first.0 second.0, second.1 ∙ first.1)
both_noted P Q R one other both old mid new (inl first) (inr second) so good =
    inr ((λ well. second.0 (good well).1), subst (λ (at : Failures). Notes (met_by at) (met_by new)) first.1 second.1)
both_noted P Q R one other both old mid new (inr first) (inl second) so good =
    inr ((λ well. first.0 (good well).0), subst (λ (at : Failures). Notes (met_by old) (met_by at)) (sym second.1) first.1)
both_noted P Q R one other both old mid new (inr first) (inr second) so good =
    inr ((λ well. first.0 (good well).0), further (met_by old) (met_by mid) (met_by new) first.1 second.1)

-- the higher of two statuses of answers is one of answers
of_both : (one other both : ExitStatus) → (both ≡ one) ⊎ (both ≡ other) → IsOfAnswers one → IsOfAnswers other → IsOfAnswers both
of_both one other both (inl is) first second = (first.0, is ∙ first.1)
of_both one other both (inr is) first second = (second.0, is ∙ second.1)

pub worse_noted : (one other both : ExitStatus) (old mid new : Failures) → NotesWhy (IsOfAnswers one) one old mid → NotesWhy (IsOfAnswers other) other mid new
    → (both ≡ one) ⊎ (both ≡ other) → (IsFaultless both → IsFaultless one × IsFaultless other) → NotesWhy (IsOfAnswers both) both old new
worse_noted one other both old mid new first second which good =
    both_noted (IsOfAnswers one) (IsOfAnswers other) (IsOfAnswers both) one other both old mid new first second (of_both one other both which) good

-- nothing was noted of answers
pub answers_noted : (answered : Answered) (status : ExitStatus) (failures : Failures) → status ≡ exit_status answered → NotesWhy (IsOfAnswers status) status failures failures
answers_noted answered status failures is = inl ((answered, is), refl)

pub end_answers : (ended : Result (Unit {0}) Fault) (status : ExitStatus) (old new : Failures) → OnOk ended (status ≡ Done) → OnErr ended (¬ IsFaultless status)
    → IfErr ended (λ fault. met_by new ≡ with_failure (met_by old) (failures.Fault fault)) → OnOk ended (new ≡ old) → NotesWhy (IsOfAnswers status) status old new
end_answers (Ok done) status old new well bad is same = inl ((AllAccepted, well), same)
end_answers (Err fault) status old new well bad is same = inr (bad, one_noted old new (failures.Fault fault) is)

-- both works ended without a fault, or one didn't
pub done_noted : (one other both : ExitStatus) (old mid new : Failures) → NotesWhy (one ≡ Done) one old mid → NotesWhy (other ≡ Done) other mid new
    → (both ≡ one) ⊎ (both ≡ other) → (IsFaultless both → IsFaultless one × IsFaultless other) → NotesWhy (both ≡ Done) both old new
done_noted one other both old mid new first second which good =
    both_noted (one ≡ Done) (other ≡ Done) (both ≡ Done) one other both old mid new first second (done_both which) good
  where
    done_both : (both ≡ one) ⊎ (both ≡ other) → one ≡ Done → other ≡ Done → both ≡ Done
    done_both (inl is) first second = is ∙ first
    done_both (inr is) first second = is ∙ second

-- the status stays, or a fault is told
pub stays : (status final : ExitStatus) (old new : Failures) → NotesWhy (final ≡ status) final old new → (final ≡ status) ⊎ (¬ IsFaultless final)
stays status final old new (inl same) = inl same.0
stays status final old new (inr why) = inr why.0

pub stays_good : (status final : ExitStatus) → (final ≡ status) ⊎ (¬ IsFaultless final) → IsFaultless final → IsFaultless status
stays_good status final (inl same) good = subst IsFaultless same good
stays_good status final (inr never) good = absurd (never good)

-- the same status, or that of a fault that was noted after it
pub then_noted : (Well : ExitStatus → Type 0) (status final : ExitStatus) (old mid new : Failures) → NotesWhy (Well status) status old mid → NotesWhy (final ≡ status) final mid new
    → NotesWhy (Well final) final old new
then_noted Well status final old mid new first second =
    both_noted (Well status) (final ≡ status) (Well final) status final final old mid new first second (λ well same. subst Well (sym same) well)
    (λ good. (stays_good status final (stays status final mid new second) good, good))
