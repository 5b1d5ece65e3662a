use Rattle.std.proofs.Common.{◌≡◌, take}
use Rattle.std.specs.List.{flat_map}
use Rattle.sii_cats.specs.Bytes.{bytes_of}
use Rattle.sii_cats.specs.Pdos.{views, pdo_bytes}
use Rattle.sii_cats.proofs.mappings.write_all.Given as goal

abbrev pub invariant-loop-pdo : goal.invariant-loop-pdo
invariant-loop-pdo l = bytes_of l.words.items ≡ flat_map pdo_bytes (views (take l.pdo-index l.pdos))
