use Rattle.std.proofs.Common.{◌≡◌, ◌<◌, ◌≤◌, ◌∙◌, ℕ, true, length, get_or, sym, subst, ap, arith}
use Rattle.book_model.specs.Pending.{Pending}
use Rattle.book_parts.specs.declared.work.SlaveWork.{SlaveWork}
use Rattle.book_parts.specs.Works.{work_retired, older_settled, work_at, no_work}
use Rattle.book_parts.proofs.MapLaws.{mapped-item, mapped-more, mapped-all, get-any}
use Rattle.book_parts.proofs.SettledLaws.{settled-at}
use Rattle.book_parts.proofs.retiring.retire_all.Goals as goal

pub retire-requires : goal.retire-requires
retire-requires c =
    let d = c.index-works-at.result in
    let within : c.loop-at.at < length c.args.works.now = omega (arith, c.loop-at.invariant.same) in
    let is : get_or c.loop-at.works c.loop-at.at d ≡ work_at c.args.works.now c.loop-at.at =
    mapped-item work_retired c.args.works.now c.loop-at.works c.loop-at.at d c.loop-at.invariant within ∙ get-any c.args.works.now c.loop-at.at d no_work within in
    record {
      inside = subst (λ (w : SlaveWork). w.older ≤ length w.queue.live) (sym is) (c.requires.older c.loop-at.at within);
      settled = subst (λ (w : SlaveWork). older_settled w ≡ true) (sym is) (settled-at c.args.works.now c.loop-at.at c.requires.settled within);
    }

pub loop-at-preserved : goal.loop-at-preserved
loop-at-preserved c =
    let d = c.index-works-at.result in
    mapped-more work_retired c.args.works.now c.loop-at.works c.loop-at.at d _ c.loop-at.invariant (omega (arith, c.loop-at.invariant.same))
    (let w : SlaveWork = get_or c.loop-at.works c.loop-at.at d in
    ap (λ (n : ℕ). let v : SlaveWork = record w { queue = c.retire.new.self; older = n } in v) c.len-work.ensures
    ∙ ap (λ (q : Pending). let v : SlaveWork = record w { queue = q; older = length q.live } in v) c.retire.ensures)

pub returns : goal.returns
returns c = mapped-all work_retired c.args.works.now c.loop-at.works c.loop-at.at c.loop-at.invariant (omega (arith, c.loop-at.invariant.same))
