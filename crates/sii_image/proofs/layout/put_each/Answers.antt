use Rattle.std.proofs.Common.{◌≡◌, List, ℕ, length, set, sym, ap, ◌∙◌, arith, length-set}
use Rattle.sii_image.specs.declared.new_layouts.NewLayout.{NewLayout}
use Rattle.sii_image.specs.NewLayouts.{with_each}
use Rattle.sii_image.proofs.WithEach.{put_last}
use Rattle.sii_image.proofs.layout.put_each.Goals as goal

pub loop-last-preserved : goal.loop-last-preserved
loop-last-preserved c =
    let slaves : List (List ℕ) = c.loop-last.slaves in
    let front : List NewLayout = c.pop.new.self.items in
    let last = c.in-Some.last in
    let is : c.put-changed.new.slaves ≡ set slaves last.slave last.layout = c.put-changed.ensures.slaves ∙ ap (λ (n : ℕ). set slaves n last.layout) c.from.ensures in
    record {
      few = omega (arith, ap length is, length-set slaves last.slave last.layout, c.loop-last.invariant.few);
      weight = c.put-changed.ensures.weight;
      left =
          ap (λ (p : List (List ℕ)). with_each p front) is
          ∙ sym (put_last slaves front last)
          ∙ ap (with_each slaves) (sym c.in-Some.ensures.items)
          ∙ c.loop-last.invariant.left;
    }
