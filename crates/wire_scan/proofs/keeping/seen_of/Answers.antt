use Rattle.std.proofs.Common.{refl, arith, sym, subst, IsSome, ◌∙◌}
use Rattle.book_model.specs.Entries.{live_runs}
use Rattle.wire_scan.proofs.KeptWords.{image_read, read_at, refusal_read, words_at}
use Rattle.wire_scan.proofs.keeping.seen_of.Goals as goal

pub returns-in-None : goal.returns-in-None
returns-in-None c =
    let there = image_read c.args.images.now c.args.slave c.index-images-slave.result c.in-Some.image (omega (arith, c.requires.inside, c.requires.count)) c.index-images-slave.is c.in-Some.is in
    let words = words_at c.args.slaves.now c.args.slave c.index-slaves-slave.result (read_at c.args.slaves.now c.args.slave c.index-slaves-slave.result c.requires.inside c.index-slaves-slave.is) in (
      subst IsSome (sym there) refl,
      sym (refusal_read (live_runs c.args.batches.now) c.args.mend c.args.slaves.now c.args.images.now c.args.both.now.found c.args.both.now.kept c.args.slave c.index-slaves-slave.result c.in-Some.image
          c.slave-found.result.now c.slave-kept.result.now c.requires.redone c.requires.inside c.requires.count words there c.slave-found.ensures c.slave-kept.ensures)
          ∙ sym c.refused.ensures ∙ c.in-None.is,
    )

pub returns-in-Some-refused : goal.returns-in-Some-refused
returns-in-Some-refused c =
    let there = image_read c.args.images.now c.args.slave c.index-images-slave.result c.in-Some.image (omega (arith, c.requires.inside, c.requires.count)) c.index-images-slave.is c.in-Some.is in
    let words = words_at c.args.slaves.now c.args.slave c.index-slaves-slave.result (read_at c.args.slaves.now c.args.slave c.index-slaves-slave.result c.requires.inside c.index-slaves-slave.is) in (
      sym (refusal_read (live_runs c.args.batches.now) c.args.mend c.args.slaves.now c.args.images.now c.args.both.now.found c.args.both.now.kept c.args.slave c.index-slaves-slave.result c.in-Some.image
          c.slave-found.result.now c.slave-kept.result.now c.requires.redone c.requires.inside c.requires.count words there c.slave-found.ensures c.slave-kept.ensures)
          ∙ sym c.refused.ensures ∙ c.in-Some-refused.is,
      c.reason_of.ensures,
    )
