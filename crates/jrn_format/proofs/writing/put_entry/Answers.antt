use Rattle.std.proofs.Common.{ap, arith, length, subst, ◌∙◌, ◌++◌, ℕ, List}
use Rattle.std.proofs.lemmas.List.{take_all}
use Rattle.std.specs.Int.{w16, w64, to_le_bytes}
use Rattle.std.specs.List.{flat_map}
use Rattle.sii_words.specs.declared.run.Run.{Run}
use Rattle.std.proofs.lemmas.List.Elements.{All-more}
use Rattle.jrn_format.specs.Batch.{RunFits, spelt_run}
use Rattle.jrn_format.proofs.Fitting.{entry_fits, spelt_after, spelt_more}
use Rattle.jrn_format.proofs.writing.put_entry.Goals as goal

pub loop-run-preserved : goal.loop-run-preserved
loop-run-preserved c = record {
  spelt = spelt_more spelt_run _ c.loop-run.out.items c.put_run.new.out.items c.as_slice-runs.result.now c.loop-run.run-index c.run-item.result c.run-item.result (omega arith) c.run-item.is c.loop-run.invariant.spelt c.in_ok-put_run.ensures.spelt;
  fit = All-more RunFits c.as_slice-runs.result.now c.loop-run.run-index c.run-item.result (omega arith) c.loop-run.invariant.fit (subst RunFits c.run-item.is c.in_ok-put_run.ensures.fits);
}

pub returns-clause-fits : goal.returns-clause-fits
returns-clause-fits c =
    entry_fits c.args.entry.now c.loop-run.run-index (omega arith) c.requires (omega (arith, ap length c.as_slice-runs.ensures)) (rw c.as_slice-runs.ensures at c.loop-run.invariant.fit)

pub returns-clause-spelt : goal.returns-clause-spelt
returns-clause-spelt c =
    let entry = c.args.entry.now in
    let runs = c.as_slice-runs.result.now in
    let number = c.in_ok-extend_from_slice.ensures.items ∙ ap (λ (bytes : List ℕ). c.args.out.now.items ++ bytes) c.to_le_bytes.ensures in
    let count = c.in_ok-put_u16.ensures ∙ ap (λ (rs : List Run). c.extend_from_slice.new.self.items ++ to_le_bytes w16 (length rs)) c.as_slice-runs.ensures in
    let last = c.loop-run.invariant.spelt
    ∙ ap (λ (rs : List Run). c.put_u16.new.out.items ++ flat_map spelt_run rs) (take_all c.loop-run.run-index runs (omega (arith, c.loop-run-test.false)) ∙ c.as_slice-runs.ensures) in
    spelt_after c.args.out.now.items (to_le_bytes w64 entry.number) _ number
    (spelt_after c.extend_from_slice.new.self.items (to_le_bytes w16 (length entry.runs)) (flat_map spelt_run entry.runs) count last)
