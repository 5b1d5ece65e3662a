use Rattle.std.proofs.Common.{◌≡◌, List, ℕ, [], take, ap, sym, subst, ◌∙◌, add-one, arith}
use Rattle.std.specs.Prelude.{nat_le}
use Rattle.std.proofs.lemmas.List.{get_or_read, take_all}
use Rattle.sii_words.specs.Plant.{words_of}
use Rattle.sii_image.specs.declared.new_layouts.NewLayout.{NewLayout}
use Rattle.sii_image.specs.NewLayouts.{with_each}
use Rattle.sii_image.specs.steps.Weight.{weight_of, weight_of_all}
use Rattle.sii_image.proofs.Fitting.{limits_weighed, weights_most}
use Rattle.sii_image.proofs.WithEach.{IsNext, heavier_with, length-with_each, next_of, weight_with-next, weight_without}
use Rattle.sii_image.proofs.limits.are_within_limits.Goals as goal
use Rattle.sii_image.proofs.limits.are_within_limits.Goals.{then-slave-slaves, else-slave-slaves}

pub weight_with-changed-requires-clause-old : goal.weight_with-changed-requires-clause-old
weight_with-changed-requires-clause-old c =
    let plant : List (List ℕ) = c.args.slaves.now in
    let new : List NewLayout = c.args.new.now in
    let k = c.loop-entry.entry-index in
    let next = c.entry-item.result in
    let step : IsNext plant new k next = subst (IsNext plant new k) (sym c.entry-item.is) (next_of 0 plant new k next c.requires.rising c.loop-entry-test.true) in
    let old : c.index-slaves-slave.result ≡ words_of plant next.slave =
    get_or_read plant c.from-slave.result c.index-slaves-slave.result c.if-slave-slaves.true c.index-slaves-slave.is [] ∙ ap (words_of plant) c.from-slave.ensures in
    omega (arith, c.loop-entry.invariant, ap weight_of old, heavier_with plant new k next step (omega (arith, c.if-slave-slaves.true, c.from-slave.ensures)))

pub weight_with-changed-requires-clause-most : goal.weight_with-changed-requires-clause-most
weight_with-changed-requires-clause-most c =
    let plant : List (List ℕ) = c.args.slaves.now in
    let front : List NewLayout = take c.loop-entry.entry-index c.args.new.now in
    omega (arith, c.requires.few, c.loop-entry.invariant, weights_most (with_each plant front), length-with_each plant front)

pub loop-entry-preserved : goal.loop-entry-preserved
loop-entry-preserved c =
    let plant : List (List ℕ) = c.args.slaves.now in
    let new : List NewLayout = c.args.new.now in
    let k = c.loop-entry.entry-index in
    let next = c.entry-item.result in
    let step : IsNext plant new k next = subst (IsNext plant new k) (sym c.entry-item.is) (next_of 0 plant new k next c.requires.rising c.loop-entry-test.true) in
    elim c.if-slave-slaves.branch [
      | then-slave-slaves w ↦
          (let old : w.index-slaves-slave.result ≡ words_of plant next.slave =
          get_or_read plant c.from-slave.result w.index-slaves-slave.result w.if-slave-slaves.true w.index-slaves-slave.is [] ∙ ap (words_of plant) c.from-slave.ensures in
          rw (w.changed-is, add-one) (weight_with-next plant new k next w.weight_with-changed.result step (omega (arith, w.if-slave-slaves.true, c.from-slave.ensures))
          (omega (arith, w.weight_with-changed.ensures, ap weight_of old, c.loop-entry.invariant))))
      | else-slave-slaves w ↦
          rw (w.changed-is, add-one) (c.loop-entry.invariant ∙ weight_without plant new k next step (omega (arith, w.if-slave-slaves.false, c.from-slave.ensures)))
    ]

pub returns : goal.returns
returns c =
    let plant : List (List ℕ) = c.args.slaves.now in
    let new : List NewLayout = c.args.new.now in
    let all : take c.loop-entry.entry-index new ≡ new = take_all c.loop-entry.entry-index new (omega (arith, c.loop-entry-test.false)) in
    let weight : c.loop-entry.changed ≡ weight_of_all (with_each plant new) = c.loop-entry.invariant ∙ ap (λ (each : List NewLayout). weight_of_all (with_each plant each)) all in
    ap (λ (w : ℕ). nat_le w 1486) weight ∙ limits_weighed (with_each plant new)
