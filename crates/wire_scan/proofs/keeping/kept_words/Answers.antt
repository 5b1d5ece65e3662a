use Rattle.std.proofs.Common.{◌≡◌, ℕ, ◌+◌, List, length, map, take, subst, sym, arith}
use Rattle.wire_scan.specs.Keeping.{KeepsEach}
use Rattle.wire_scan.proofs.KeptWords.{keeps_more, sizes_more}
use Rattle.wire_scan.proofs.keeping.kept_words.Goals as goal

pub loop-slave-preserved : goal.loop-slave-preserved
loop-slave-preserved c =
    let plant = c.args.slaves.now in
    let images = c.args.images.now in
    let n = c.loop-slave.slave in
    record {
      sizes = subst (λ (items : List (List ℕ)). map length items ≡ map length (take (n + 1) plant)) (sym c.in_ok-push.ensures.items)
          (sizes_more plant c.loop-slave.kept.items n c.index-slaves-slave.result c.in_ok-own.own c.loop-slave-test.true c.index-slaves-slave.is c.in_ok-own.ensures.size c.loop-slave.invariant.sizes);
      each = subst (λ (items : List (List ℕ)). KeepsEach (take (n + 1) plant) (take (n + 1) images) items) (sym c.in_ok-push.ensures.items)
          (keeps_more plant images c.loop-slave.kept.items n c.index-slaves-slave.result c.index-images-slave.result c.in_ok-own.own c.loop-slave-test.true (omega (arith, c.loop-slave-test.true, c.requires))
          c.index-slaves-slave.is c.index-images-slave.is c.loop-slave.invariant.each c.in_ok-own.ensures.own);
    }
