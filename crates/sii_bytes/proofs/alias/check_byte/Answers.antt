use Rattle.std.proofs.Common.{ℕ, ◌<◌, get_or, take, Fits, w8, arith}
use Rattle.std.proofs.lemmas.List.{take_all}
use Rattle.sii_words.proofs.ShiftRegister.{shifts_none}
use Rattle.sii_bytes.proofs.AliasInPlace.{register_is_check_byte_of_bytes, shifts_one_more}
use Rattle.sii_bytes.proofs.alias.check_byte.Goals as goal

pub loop-byte-init : goal.loop-byte-init
loop-byte-init c = record { fits = omega arith; shifts = shifts_none 255 }

pub loop-byte-preserved : goal.loop-byte-preserved
loop-byte-preserved c = record {
  fits = c.folded-remainder.type_inv;
  shifts = shifts_one_more (take 14 c.args.bytes.now) c.loop-byte.byte-index 255 c.loop-byte.remainder c.folded-remainder.result
      c.loop-byte-test.true c.loop-byte.invariant.shifts c.folded-remainder.ensures;
}

pub returns-clause-check : goal.returns-clause-check
returns-clause-check c =
    let front = take 14 c.args.bytes.now in
    let all = take_all c.loop-byte.byte-index front c.loop-byte-test.false in
    let shifts = rw all at c.loop-byte.invariant.shifts in
    let bytes : (at : ℕ) → get_or c.args.bytes.now at 0 < 256
    = λ at. let fit : Fits w8 (get_or c.args.bytes.now at 0) = c.type_inv.bytes at in omega (arith, fit) in
    register_is_check_byte_of_bytes c.args.bytes.now c.loop-byte.remainder c.requires bytes c.loop-byte.invariant.fits shifts

pub returns-clause-bytes : goal.returns-clause-bytes
returns-clause-bytes c at = let fit : Fits w8 (get_or c.args.bytes.now at 0) = c.type_inv.bytes at in omega (arith, fit)
