use Rattle.std.proofs.Common.{rules, ◌≡◌, []}
use Rattle.std.specs.Slice.Iter.{chunks_rest}
use Rattle.hex.specs.Hex.{encode_lower}
use Rattle.station_text.proofs.HexDigits.{without_whitespace-encode_lower}
use Rattle.station_text.proofs.hexadecimal.hex_lines.Goals as goal

pub loop-line-init : goal.loop-line-init
loop-line-init c =
    let rest : chunks_rest c.into_iter-line-iterator.result ≡ encode_lower c.args.bytes.now = search rules in
    let none : c.new-text.result.items ≡ [] = search rules in
    (search rules, tt, search rules, rw (none, rest) (without_whitespace-encode_lower c.args.bytes.now))
