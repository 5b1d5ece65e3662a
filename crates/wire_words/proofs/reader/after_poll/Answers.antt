use Rattle.std.proofs.Common.{rules, ◌≡◌, ◌+◌, ◌≤◌, arith, length, refl}
use Rattle.wire_words.specs.Reading.{bytes_loaded}
use Rattle.wire_words.specs.declared.reader.Phase.TheVariants as phase
use Rattle.wire_words.proofs.Words.{read_polled, under_way_polled, under_way_yet}
use Rattle.wire_words.proofs.reader.after_poll.Goals as goal

pub returns-clause-reported : goal.returns-clause-reported
returns-clause-reported g c =
    under_way_yet g.W.Wire.gives c.polled-next.result c.with_words.result.reader
    (under_way_polled g.W.Wire.gives c.args.reader c.polled-next.result c.in-Some.status (6 + c.bytes.result) _ c.answer_to-shown.result
    (omega arith) most refl c.in-Some.ensures.some.0 c.in-Some.ensures.some.1 c.answer_to-shown.ensures c.requires.reported c.polled-next.ensures)
    c.with_words.ensures.reported
  where
    most : 6 + c.bytes.result ≤ 14
    most = let eight = c.bytes.ensures.most in omega (arith, eight)

pub returns-clause-read : goal.returns-clause-read
returns-clause-read g c =
    read_polled g.W.Wire.gives c.args.reader c.polled-next.result c.in-Some.status c.args.size (6 + c.bytes.result) _ c.answer_to-shown.result
    c.data_polled.result c.of_bytes.result c.with_words.result.read count most refl kept c.in-Some.ensures.some.0 c.in-Some.ensures.some.1
    c.requires.reported c.polled-next.ensures fetches c.answer_to-shown.ensures c.data_polled.ensures c.of_bytes.ensures c.with_words.ensures.read
  where
    count : 6 + c.bytes.result ≡ 6 + bytes_loaded c.args.size
    count = let number = c.bytes.ensures.number in omega (arith, number)

    most : 6 + c.bytes.result ≤ 14
    most = let eight = c.bytes.ensures.most in omega (arith, eight)

    kept : length c.answer_to-shown.result.content ≡ 14
    kept = search rules

    fetches : c.polled-next.result.phase ≡ phase.Fetches c.args.size
    fetches = search rules
