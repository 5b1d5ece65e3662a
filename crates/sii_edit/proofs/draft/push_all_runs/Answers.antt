use Rattle.std.proofs.Common.{sym, subst}
use Rattle.sii_edit.proofs.DraftLaws.{IsRenewal, renewal_at}
use Rattle.sii_edit.proofs.DraftRuns.{drafted_runs-more}
use Rattle.sii_edit.proofs.draft.push_all_runs.Goals as goal

pub push_runs-requires : goal.push_runs-requires
push_runs-requires c =
    let plant = c.args.plant.now in
    let renewal = c.renewal-item.result in
    let fact : IsRenewal plant renewal = subst (IsRenewal plant) (sym c.renewal-item.is) (renewal_at plant c.args.renewals.now c.loop-renewal.renewal-index renewal c.requires c.loop-renewal-test.true) in
    record { slave = fact.there; fits = fact.fits }

pub loop-renewal-preserved : goal.loop-renewal-preserved
loop-renewal-preserved c =
    drafted_runs-more c.args.plant.now c.args.renewals.now c.loop-renewal.renewal-index c.renewal-item.result c.loop-renewal.runs.items c.loop-renewal-test.true c.renewal-item.is
    c.in_ok-push_runs.ensures c.loop-renewal.invariant
