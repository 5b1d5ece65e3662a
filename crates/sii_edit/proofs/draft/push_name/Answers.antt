use Rattle.std.proofs.Common.{length, ap, arith}
use Rattle.sii_edit.proofs.NameLaws.{two_words}
use Rattle.sii_edit.proofs.draft.push_name.Goals as goal

pub returns : goal.returns
returns c =
    rw (← c.as_slice-words.ensures.words)
    (two_words c.args.slave c.as_slice-words.result.now c.args.name c.args.runs.now.items c.push_word.new.runs.items c.push_word-2.new.runs.items c.push_word-2.result
    (omega (arith, ap length c.as_slice-words.ensures.words, c.as_slice-words.ensures.size.0)) c.in_ok-push_word.ensures c.push_word-2.ensures)
