use Rattle.std.proofs.Common.{ap, arith, length, refl, ◌∙◌, ◌++◌, ◌<◌, ◌^◌, ℕ, List}
use Rattle.std.proofs.lemmas.List.{take_all}
use Rattle.std.specs.List.{flat_map}
use Rattle.std.specs.Int.{w16, to_le_bytes}
use Rattle.std.proofs.lemmas.List.Elements.{All-more}
use Rattle.jrn_format.proofs.Fitting.{run_fits, spelt_after, spelt_more}
use Rattle.jrn_format.proofs.writing.put_run.Goals as goal

pub loop-word-preserved : goal.loop-word-preserved
loop-word-preserved c = record {
  spelt = spelt_more (to_le_bytes w16) _ c.loop-word.out.items _ c.as_slice-words.result.now c.loop-word.word-index _ 0 (omega arith) refl c.loop-word.invariant.spelt c.in_ok-put_u16-4.ensures;
  fit = All-more (λ (word : ℕ). word < 2 ^ 16) c.as_slice-words.result.now c.loop-word.word-index 0 (omega arith) c.loop-word.invariant.fit (omega (arith, c.type_inv.words c.loop-word.word-index));
}

pub returns-clause-fits : goal.returns-clause-fits
returns-clause-fits c =
    run_fits c.args.run.now c.loop-word.word-index (omega arith) (omega arith) c.requires (omega (arith, ap length c.as_slice-words.ensures)) (rw c.as_slice-words.ensures at c.loop-word.invariant.fit)

pub returns-clause-spelt : goal.returns-clause-spelt
returns-clause-spelt c =
    let run = c.args.run.now in
    let words = c.as_slice-words.result.now in
    let count = c.in_ok-put_u16-3.ensures ∙ ap (λ (ws : List ℕ). c.put_u16-2.new.out.items ++ to_le_bytes w16 (length ws)) c.as_slice-words.ensures in
    let last = c.loop-word.invariant.spelt
    ∙ ap (λ (ws : List ℕ). c.put_u16-3.new.out.items ++ flat_map (to_le_bytes w16) ws) (take_all c.loop-word.word-index words (omega (arith, c.loop-word-test.false)) ∙ c.as_slice-words.ensures) in
    spelt_after c.args.out.now.items (to_le_bytes w16 run.slave) _ c.in_ok-put_u16.ensures
    (spelt_after c.put_u16.new.out.items (to_le_bytes w16 run.first) _ c.in_ok-put_u16-2.ensures
    (spelt_after c.put_u16-2.new.out.items (to_le_bytes w16 (length run.words)) (flat_map (to_le_bytes w16) run.words) count last))
