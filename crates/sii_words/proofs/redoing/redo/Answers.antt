use Rattle.std.proofs.Common.{◌≡◌, ℕ, ◌+◌, ◌++◌, [], ◌∷◌, List, take, sym, ap, ◌∙◌, arith}
use Rattle.std.proofs.lemmas.List.{take_more}
use Rattle.sii_words.specs.declared.run.Run.{Run}
use Rattle.sii_words.specs.Redo.{redone}
use Rattle.sii_words.proofs.RedoLaws.{SameShape-redone, redone-nil, redone-append}
use Rattle.sii_words.proofs.GivenLaws.{LiesInside-same_shape}
use Rattle.sii_words.proofs.redoing.redo.Goals as goal

pub loop-run-init : goal.loop-run-init
loop-run-init c = sym (redone-nil c.args.plant.now)

pub write_run-requires : goal.write_run-requires
write_run-requires c =
    let run = c.run-item.result in
    let done = take c.loop-run.run-index c.args.runs.now in
    rw (c.loop-run.invariant) (LiesInside-same_shape c.args.plant.now (redone c.args.plant.now done) run (SameShape-redone c.args.plant.now done)
    (rw c.run-item.is (c.requires c.loop-run.run-index run (omega arith))))

pub loop-run-preserved : goal.loop-run-preserved
loop-run-preserved c =
    let plant = c.args.plant.now in
    let run : Run = c.run-item.result in
    let done : List Run = take c.loop-run.run-index c.args.runs.now in
    let more : take (c.loop-run.run-index + 1) c.args.runs.now ≡ done ++ run ∷ [] =
    take_more c.args.runs.now c.loop-run.run-index run (omega arith) ∙ ap (λ (next : Run). done ++ next ∷ []) (sym c.run-item.is) in
    c.write_run.ensures ∙ ap (λ (p : List (List ℕ)). redone p (run ∷ [])) c.loop-run.invariant ∙ sym (redone-append plant done (run ∷ [])) ∙ ap (λ (runs : List Run). redone plant runs) (sym more)
