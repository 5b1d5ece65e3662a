use Rattle.std.proofs.Common.{◌≡◌, ◌+◌, ◌∷◌, ◌++◌, false, get_or, take, List, [], sym, subst, inl, inr}
use Rattle.std.proofs.lemmas.List.{take_more}
use Rattle.world_run.specs.declared.leaving.LeftByte.{LeftByte}
use Rattle.world_run.specs.Left.{HoldsLeft}
use Rattle.world_run.proofs.LeftLaws.{left-none, left-more, left-skipped}
use Rattle.world_run.proofs.leaving.leave.Goals as goal
use Rattle.world_run.proofs.leaving.leave.Goals.{then-left-bytes+then-is_open, else-left-bytes, else-left-bytes-via-then-left-bytes+else-is_open, else-left-bytes-via-else-left-bytes}

pub loop-left-init : goal.loop-left-init
loop-left-init c = left-none c.args.ranges.now c.args.bytes.now

pub loop-left-preserved : goal.loop-left-preserved
loop-left-preserved c =
    let ranges = c.args.ranges.now in
    let choice = c.args.choice.now in
    let i = c.loop-left.left-index in
    let left : LeftByte = get_or choice i (record { at = 0; byte = 0 }) in
    let held = c.loop-left.invariant in
    let more : (HoldsLeft ranges (take i choice ++ left ∷ []) c.args.bytes.now c.if-left-bytes.bytes → HoldsLeft ranges (take (i + 1) choice) c.args.bytes.now c.if-left-bytes.bytes) =
    (λ h. subst (λ (l : List LeftByte). HoldsLeft ranges l c.args.bytes.now c.if-left-bytes.bytes) (sym (take_more choice i (record { at = 0; byte = 0 }) c.loop-left-test.true)) h) in
    more (elim c.if-left-bytes.branch [
      | then-left-bytes+then-is_open w ↦
          rw w.bytes-is (left-more ranges (take i choice) left c.args.bytes.now c.loop-left.bytes held w.if-left-bytes.true
          (λ out. (let shut : w.is_open.result ≡ false = w.is_open.ensures.1 out in let yes = w.if-is_open.true in absurd cc)))
      | else-left-bytes w ↦ elim w.else-left-bytes.branch [
        | else-left-bytes-via-then-left-bytes+else-is_open v ↦
            rw w.bytes-is (left-skipped ranges (take i choice) left c.args.bytes.now c.loop-left.bytes held (inr (v.is_open.ensures.0 v.if-is_open.false)))
        | else-left-bytes-via-else-left-bytes v ↦
            rw w.bytes-is (left-skipped ranges (take i choice) left c.args.bytes.now c.loop-left.bytes held (inl v.if-left-bytes.false))
      ]
    ])
