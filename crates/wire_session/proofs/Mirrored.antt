-- A device on a wire whose slaves have image files is as the device inside.
use Rattle.std.proofs.Common.{◌≡◌, false}
use Rattle.site_core.specs.State.{Seen}
use Rattle.site_wire.specs.Following.{WireFollows}
use Rattle.site_wire.specs.Logged.{TellsWire}
use Rattle.site_wire.specs.declared.device.WireDevice.{WireDevice}
use Rattle.site_wire.specs.declared.device.WireLog.{WireLog}
use Rattle.wire_mirror.specs.declared.mirrored.Mirrored.{Mirrored}

module _ {L F C I : Type 0} where
  abbrev pub device_in : Mirrored (WireDevice L F C) I → WireDevice L F C
  device_in mirrored = mirrored.device

  abbrev pub follows_in : Mirrored (WireDevice L F C) I → Seen → Type 0
  follows_in mirrored seen = WireFollows mirrored.device seen

  abbrev pub well_in : Mirrored (WireDevice L F C) I → Type 0
  well_in mirrored = mirrored.device.is_over ≡ false

  abbrev pub tells_in : Mirrored (WireDevice L F C) I → WireLog → Type 0
  tells_in mirrored reported = TellsWire mirrored.device reported
