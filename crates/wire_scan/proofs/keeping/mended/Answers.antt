use Rattle.std.proofs.Common.{ℕ, ◌+◌, List, rules, sym, subst}
use Rattle.wire_scan.specs.Keeping.{MendsBelow}
use Rattle.wire_scan.proofs.KeptWords.{read_at, words_at}
use Rattle.wire_scan.proofs.Mending.{mends_more, unsaid}
use Rattle.wire_scan.proofs.keeping.mended.Goals as goal

pub loop-slave-preserved : goal.loop-slave-preserved
loop-slave-preserved c =
    let n = c.loop-slave.slave in
    let words = c.index-slaves-slave.result in
    record {
      images = search rules;
      below = subst (λ (begun : List (List ℕ)). MendsBelow (n + 1) c.args.mends.now c.args.slaves.now c.args.found.now c.args.kept.now begun c.push_edit.new.edits.items)
          (sym c.in_ok-push.ensures.items)
          (mends_more n c.args.mends.now c.args.slaves.now c.args.found.now c.args.kept.now c.loop-slave.images.items c.loop-slave.edits.items c.push_edit.new.edits.items
          words c.slave-has.result.now c.slave-own.result.now c.in_ok-words.words c.said_of-mend.result c.in_ok-written.field-0 c.loop-slave.invariant.images
          (sym (words_at c.args.slaves.now n words (read_at c.args.slaves.now n words c.loop-slave-test.true c.index-slaves-slave.is)))
          c.slave-has.ensures c.slave-own.ensures c.said_of-mend.ensures c.in_ok-words.ensures c.in_ok-written.ensures c.in_ok-push_edit.ensures c.loop-slave.invariant.below);
    }

pub returns-clause-commands : goal.returns-clause-commands
returns-clause-commands c =
    unsaid c.args.mends.now c.args.slaves.now c.args.found.now c.args.kept.now c.loop-slave.images.items c.in_ok-grouped.field-0.items (search rules)
