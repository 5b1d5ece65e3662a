use Rattle.std.proofs.Common.{◌≡◌, take}
use Rattle.site_file.proofs.asking.noted.Given as goal

abbrev pub invariant-loop-byte : goal.invariant-loop-byte
invariant-loop-byte l = l.history ≡ take l.byte-index l.fn.bytes
