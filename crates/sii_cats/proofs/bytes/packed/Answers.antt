use Rattle.std.proofs.Common.{◌++◌, ap, sym, ◌∙◌}
use Rattle.std.proofs.lemmas.List.{append-nil}
use Rattle.sii_cats.specs.Bytes.{bytes_of, padded}
use Rattle.sii_cats.proofs.WordBytes.{packed_more}
use Rattle.sii_cats.proofs.bytes.packed.Goals as goal

pub loop-word-preserved : goal.loop-word-preserved
loop-word-preserved c = rw c.in_ok-push.ensures.items
    (packed_more c.loop-word.words.items c.in-Some.word c.loop-word.rest.now c.in-Some.after.now (padded c.args.bytes.now) c.in-Some.ensures.0 c.loop-word.invariant)

pub returns : goal.returns
returns c = sym (append-nil (bytes_of c.loop-word.words.items)) ∙ ap (λ rest. bytes_of c.loop-word.words.items ++ padded rest) (sym c.in_default.ensures) ∙ c.loop-word.invariant
