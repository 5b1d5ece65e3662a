use Rattle.std.proofs.Common.{◌≡◌, ◌/◌, ◌%◌, ◌<◌, length, get_or, refl, ap, arith}
use Rattle.sii_words.specs.Words.{IsImageSize}
use Rattle.sii_bytes.specs.Bytes.{AreWords}
use Rattle.sii_bytes.specs.Bytes.Answers.{done}
use Rattle.sii_bytes.proofs.AliasInPlace.{AreBytes, checked_in_place, set_in_place}
use Rattle.sii_bytes.proofs.alias.set_alias.Goals as goal

pub returns-clause-answer : goal.returns-clause-answer
returns-clause-answer c =
    let bytes = c.args.bytes.now in
    let entire : length bytes % 2 ≡ 0 = c.if-bytes-ne0.false in
    let read : AreWords IsImageSize bytes = (entire, c.if-not-is_image_size.ensures.0 refl) in
    let all : AreBytes bytes = c.check_byte.ensures.bytes in
    let pair = c.to_le_bytes.result in
    let fits : c.args.value < 65536 = omega (arith, c.ranges.value.fits) in
    let low : get_or pair 0 0 ≡ c.args.value % 256 = ap (λ two. get_or two 0 0) c.to_le_bytes.ensures in
    let high : get_or pair 1 0 ≡ c.args.value / 256 % 256 = ap (λ two. get_or two 1 0) c.to_le_bytes.ensures in
    done refl read (
      checked_in_place bytes read all c.check_byte.result c.check_byte.ensures.check c.if-bytes-check_byte.false,
      set_in_place bytes read all c.args.value (get_or pair 0 0) (get_or pair 1 0) c.check_byte-2.result (omega (arith, low)) (omega (arith, high))
          (omega (arith, low, high, fits)) c.check_byte-2.type_inv c.check_byte-2.ensures.check,
    )
