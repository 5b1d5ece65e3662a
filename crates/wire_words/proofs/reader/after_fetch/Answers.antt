use Rattle.std.proofs.Common.{rules, ◌≡◌, length, refl}
use Rattle.wire_words.proofs.Words.{read_fetched, under_way_yet}
use Rattle.wire_words.proofs.reader.after_fetch.Goals as goal

pub returns-clause-reported : goal.returns-clause-reported
returns-clause-reported g c = under_way_yet g.W.Wire.gives c.args.reader c.with_words.result.reader c.requires.reported c.with_words.ensures.reported

pub returns-clause-read : goal.returns-clause-read
returns-clause-read g c =
    read_fetched g.W.Wire.gives c.args.reader c.args.size c.bytes.result _ c.answer_to-fetched.result c.data_fetched.result c.of_bytes.result
    c.with_words.result.read c.bytes.ensures.number c.bytes.ensures.most refl kept counted c.requires.reported c.requires.fetches
    c.answer_to-fetched.ensures c.data_fetched.ensures c.of_bytes.ensures c.with_words.ensures.read
  where
    kept : length c.answer_to-fetched.result.content ≡ 14
    kept = search rules

    counted : c.answer_to-fetched.result.counter ≡ 1
    counted = search rules
