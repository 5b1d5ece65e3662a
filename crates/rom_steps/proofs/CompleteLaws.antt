-- Whole accesses, datagram by datagram.
use Rattle.std.proofs.Common.{◌≡◌, ℕ, ◌+◌, ◌<◌, ◌≤◌, List, [], ◌∷◌, ◌++◌, length, Result, Ok, IsErr, refl, sym, subst, arith, length-append}
use Rattle.std.proofs.lemmas.List.{append_assoc, append-nil}
use Rattle.rom_steps.specs.declared.step.Stop.{Stop}
use Rattle.rom_steps.specs.Courses.{Asked}
use Rattle.rom_steps.specs.declared.step.End.{End}
use Rattle.rom_steps.specs.declared.step.Step.{Step}
use Rattle.rom_steps.specs.declared.step.Step.TheVariants.{Ended, Stopped}
use Rattle.rom_steps.specs.Remaining.{Remains, left}
use Rattle.rom_steps.specs.Complete.{Went, nothing_sent, one_more_sent}
use Rattle.rom_steps.proofs.Stopping.{sends-some}

module _ (slave : ℕ) (first : Step) where
  went-remains : (log : List Asked) (last : Step) → Went slave first log last → (after : List Asked) (result : Result End Stop) → Remains slave last after result
      → Remains slave first (log ++ after) result
  went-remains log last nothing_sent after result so = so
  went-remains log last (one_more_sent {log = before} {step = step} order back at went next moves) after result so =
      subst (λ (l : List Asked). Remains slave first l result) (sym (append_assoc before (record { slave = slave; order = order; back = back } ∷ []) after))
      (went-remains before step went (record { slave = slave; order = order; back = back } ∷ after) result (moves.follows order next after result so))

  went-all : (log : List Asked) (last : Step) (result : Result End Stop) → Went slave first log last → Remains slave last [] result → Remains slave first log result
  went-all log last result went so = subst (λ (l : List Asked). Remains slave first l result) (append-nil log) (went-remains log last went [] result so)

  pub went-ended : (log : List Asked) (end : End) → Went slave first log (Ended end) → Remains slave first log (Ok end)
  went-ended log end went = went-all log (Ended end) (Ok end) went (refl, refl)

  pub went-stopped : (log : List Asked) → Went slave first log Stopped → (result : Result End Stop) → IsErr result → Remains slave first log result
  went-stopped log went result cut = went-all log Stopped result went (refl, cut)

  pub went-bounded : (log : List Asked) (last : Step) → Went slave first log last → length log + left last ≤ left first
  went-bounded log last nothing_sent = omega arith
  went-bounded log last (one_more_sent {log = before} {step = step} order back at went next moves) =
      let so = went-bounded before step went in
      let fewer : left last < left step = moves.fewer (sends-some slave step order next) in
      let long : length (before ++ record { slave = slave; order = order; back = back } ∷ []) ≡ length before + 1 =
      length-append before (record { slave = slave; order = order; back = back } ∷ []) in
      omega arith
