use Rattle.std.proofs.Common.{◌≡◌, take, ◌∙◌}
use Rattle.sii_words.proofs.CheckByteLaws.{check_byte_of-front}
use Rattle.sii_words.proofs.check_byte.check_byte_with.Goals as goal

pub returns : goal.returns
returns c =
    let front : c.copy_from_slice.new.self ≡ take 7 c.args.words.now = cc in
    c.check_byte.ensures ∙ check_byte_of-front c.args.words.now c.copy_from_slice.new.self c.args.alias front
