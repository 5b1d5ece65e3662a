use Rattle.std.proofs.Common.{◌≡◌, ◌++◌, slice_index_or, drop, ap, ◌∙◌, arith}
use Rattle.ecat_frame.specs.Command.{code_of}
use Rattle.ecat_frame.proofs.Front.{takes_datagram, code_of-command_of, cut_twice}
use Rattle.ecat_frame.proofs.reading.first_datagram.Goals as goal

pub returns-clause-entire : goal.returns-clause-entire
returns-clause-entire c =
    let bytes = c.args.bytes.now in
    let content = c.split_at.result.0.now in
    let counted = c.split_at-2.result.0.now in
    let rest = c.split_at-2.result.1.now in
    let command : code_of c.from.result ≡ slice_index_or bytes 0 0 = ap code_of c.from.ensures ∙ code_of-command_of _ in
    let after : drop 10 bytes ≡ content ++ (counted ++ rest) = cut_twice bytes content c.split_at.result.1.now counted rest _ c.split_at.ensures.front c.split_at.ensures.back c.split_at-2.ensures.front c.split_at-2.ensures.back in
    takes_datagram bytes content counted rest _ _ _ _ (λ i. omega (arith, c.type_inv.bytes i)) c.in-len10-up.len_at_least command
    c.from_le_bytes-word.ensures c.from_le_bytes.ensures c.from_le_bytes-2.ensures c.split_at.ensures.front_len c.split_at-2.ensures.front_len after
