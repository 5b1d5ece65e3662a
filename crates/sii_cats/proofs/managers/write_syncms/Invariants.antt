use Rattle.std.proofs.Common.{◌≡◌, take}
use Rattle.std.specs.List.{flat_map}
use Rattle.sii_cats.specs.Bytes.{bytes_of}
use Rattle.sii_cats.specs.Contents.{manager_bytes}
use Rattle.sii_cats.proofs.managers.write_syncms.Given as goal

abbrev pub invariant-loop-manager : goal.invariant-loop-manager
invariant-loop-manager l = bytes_of l.words.items ≡ flat_map manager_bytes (take l.manager-index l.managers)
