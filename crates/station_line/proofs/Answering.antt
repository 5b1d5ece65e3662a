-- The exit status that answers give.
use Rattle.std.proofs.Common.{◌≡◌, ◌∙◌, ap, inl, inr, refl, sym}
use Rattle.std.specs.Prelude.{◌⊎◌}
use Rattle.station_files.specs.declared.faults.ExitStatus.{ExitStatus}
use Rattle.station_files.specs.declared.faults.ExitStatus.TheVariants.{Done}
use Rattle.station_line.specs.declared.answered.Answered.{Answered}
use Rattle.station_line.specs.declared.answered.Answered.TheVariants.{AllAccepted, OutOfMemory, SomeRefused}
use Rattle.station_line.specs.Answers.{AnswersGive, exit_status}

pub all_accepted : (answered : Answered) → exit_status answered ≡ Done → answered ≡ AllAccepted
all_accepted AllAccepted done = refl
all_accepted SomeRefused done = absurd cc
all_accepted OutOfMemory done = absurd cc

-- the higher of two statuses of answers is that of the worse ones
pub worst_of : (first second : Answered) (one other both : ExitStatus) → one ≡ exit_status first → other ≡ exit_status second → (both ≡ one) ⊎ (both ≡ other)
    → (both ≡ Done → (one ≡ Done) × (other ≡ Done)) → AnswersGive (λ answered. answered ≡ AllAccepted → (first ≡ AllAccepted) × (second ≡ AllAccepted)) both
worst_of first second one other both by_first by_second (inl is) done = record {
  answered = first;
  is = is ∙ by_first;
  so = λ all. (all, all_accepted second (sym by_second ∙ (done (is ∙ by_first ∙ ap exit_status all)).1));
}
worst_of first second one other both by_first by_second (inr is) done = record {
  answered = second;
  is = is ∙ by_second;
  so = λ all. (all_accepted first (sym by_first ∙ (done (is ∙ by_second ∙ ap exit_status all)).0), all);
}
