use Rattle.std.proofs.Common.{◌≡◌, ◌+◌, ◌∙◌, ℕ, take, sym, ap, arith}
use Rattle.std.proofs.lemmas.List.Sums.{sum_by_more}
use Rattle.site_shadow.specs.Site.{SiteValue}
use Rattle.station_jobs.specs.declared.log.SlaveLog.{SlaveLog}
use Rattle.station_jobs.specs.Ends.{Stay}
use Rattle.script_session.specs.Parts.{issues_in, issues_of}
use Rattle.script_session.proofs.issues.issues_of.Goals as goal

pub loop-place-preserved : goal.loop-place-preserved
loop-place-preserved g c small =
    let workers = c.args.workers.now in
    let at = c.loop-place.place in
    let jobs = c.as_slice.ensures ∙ ap (λ (log : SlaveLog). log.jobs) c.log.ensures.log ∙ ap (λ (end : Stay SiteValue SlaveLog). end.log.jobs) c.index-workers-place.is in
    let here = c.issues_in-issues.ensures ∙ ap issues_in jobs in
    let more : issues_of (take (at + 1) workers) ≡ issues_of (take at workers) + c.issues_in-issues.result =
    sum_by_more (λ (end : Stay SiteValue SlaveLog). issues_in end.log.jobs) workers at c.index-workers-place.result c.loop-place-test.true
    ∙ ap (λ (n : ℕ). issues_of (take at workers) + n) (sym here) in
    let was = c.loop-place.invariant (omega (arith, more, small)) in
    omega (arith, more, was, small, c.saturating_add-words.ensures)
