use Rattle.std.proofs.Common.{◌≡◌, ◌++◌, drop, take}
use Rattle.sii_bytes.proofs.content.put_string.Given as goal

abbrev pub invariant-loop-place : goal.invariant-loop-place
invariant-loop-place l = l.text ≡ take l.place l.string ++ drop l.place l.fn.text
