-- A site may be sent to another thread if its device may.
use denote.RattleType.{RattleType}
use denote.Struct.Struct.{Struct}
use denote.Struct.Declared.{shape}
use denote.Param.Send.{IsSend, struct_send, sendable}
use Rattle.std.proofs.Crossing.{crosses}
use Rattle.sii_words.proofs.history.History.TheLaws.TheKnot.{send-History}
use Rattle.esc_model.specs.contracts.process_half.ProcessHalf as ProcessHalf
use Rattle.esc_model.specs.contracts.rom_half.RomHalf as RomHalf
use Rattle.site_shadow.specs.contracts.disk.MemDisk as MemDisk
use Rattle.site_shadow.specs.declared.device.Device.{Ghosts}
use Rattle.site_shadow.specs.contracts.shadow.Shadow as Shadow
use Rattle.site_shadow.specs.contracts.shadow.Shadow.TheInside as Inside
use Rattle.site_shadow.specs.contracts.site.ShadowSite as ShadowSite
use Rattle.site_shadow.specs.contracts.site.ShadowSite.TheInside as SiteInside

disk-send : IsSend MemDisk.the_row
disk-send = search (sendable, crosses, send-History) depth 40

rom-send : IsSend RomHalf.the_row
rom-send = search (sendable, crosses) depth 40

process-send : IsSend ProcessHalf.the_row
process-send = search (sendable, crosses) depth 40

fields-send : IsSend (Struct (shape Inside.the_type))
fields-send = struct_send (shape Inside.the_type) (search (disk-send, sendable) depth 40, (search (rom-send, crosses, sendable) depth 40, (search sendable depth 40, (search (send-History, sendable) depth 40, (search (send-History, sendable) depth 40, (search sendable depth 40, (search sendable depth 40, tt)))))))

inside-send : IsSend Inside.the_row
inside-send = search (fields-send, sendable) depth 40

shadow-send : IsSend Shadow.the_row
shadow-send = search (inside-send, sendable) depth 40

module _ (D : RattleType) (G : Ghosts D.Denot) (device-send : IsSend D) where
  site-fields : IsSend (Struct (shape (SiteInside.the_type D G)))
  site-fields = struct_send (shape (SiteInside.the_type D G)) (search (crosses, sendable) depth 40, (search sendable depth 40, (search (process-send, crosses, sendable) depth 40, (search sendable depth 40, (search (shadow-send, sendable) depth 40, (search (device-send, sendable) depth 40, tt))))))

  site-inside : IsSend (SiteInside.the_row D G)
  site-inside = search (site-fields, sendable) depth 40

  -- a site may go where its device may
  pub site-send : IsSend (ShadowSite.the_row D G)
  site-send = search (site-inside, sendable) depth 40
