use Rattle.std.proofs.Common.{◌≡◌, length, Ok, inr, ap, arith, rules}
use Rattle.hex.specs.Hex.{decode_of}
use Rattle.sii_words.specs.Words.{bytes_of}
use Rattle.sii_words.proofs.WordBytes.{length-bytes_of}
use Rattle.station_text.proofs.hexadecimal.read_hex_words.Goals as goal

pub returns-then-len-ne0 : goal.returns-then-len-ne0
returns-then-len-ne0 c =
    let decoded : decode_of c.args.text.now ≡ Ok c.in_ok-bytes.bytes.items = rw (← c.as_bytes.ensures.value) c.in_ok-bytes.ensures.ok in
    let counted : c.len.result ≡ length c.in_ok-bytes.bytes.items = search rules in
    inr (λ words is.
    let same : c.in_ok-bytes.bytes.items ≡ bytes_of words = cc in
    c.if-len-ne0.true (omega (arith, counted, ap length same, length-bytes_of words)))
