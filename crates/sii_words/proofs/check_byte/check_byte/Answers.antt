use Rattle.std.proofs.Common.{◌≡◌, ◌<◌, get_or, take, Fits, w16, arith}
use Rattle.std.proofs.lemmas.List.{length-take, get_or-take, take_all}
use Rattle.sii_words.proofs.ShiftRegister.{shifts_none, shifts_word, register_is_check_byte}
use Rattle.sii_words.proofs.check_byte.check_byte.Goals as goal

pub loop-word-init : goal.loop-word-init
loop-word-init c = record { fits = omega arith; shifts = shifts_none 255 }

pub loop-word-preserved : goal.loop-word-preserved
loop-word-preserved c =
    let words = take 7 c.args.words.now in
    let at = c.loop-word.word-index in
    let within : at < 7 = omega (arith, length-take 7 c.args.words.now) in
    let same : get_or words at 0 ≡ get_or c.args.words.now at 0 = get_or-take 7 c.args.words.now at 0 within in
    let fits : Fits w16 (get_or words at 0) = rw same (c.type_inv.words at) in
    record {
      fits = c.folded-remainder.type_inv;
      shifts = shifts_word words c.to_le_bytes.result at 255 c.loop-word.remainder c.folded.result c.folded-remainder.result
          c.loop-word-test.true fits c.to_le_bytes.ensures c.loop-word.invariant.shifts c.folded.ensures c.folded-remainder.ensures;
    }

pub returns : goal.returns
returns c =
    let words = take 7 c.args.words.now in
    let all = take_all c.loop-word.word-index words c.loop-word-test.false in
    let shifts = rw all at c.loop-word.invariant.shifts in
    register_is_check_byte c.args.words.now c.loop-word.remainder c.requires c.loop-word.invariant.fits shifts
