-- A desk can be shared between threads, and its dispatches can be sent to other threads.
use denote.RattleType.{RattleType}
use denote.Ref.{NamedLft}
use denote.Param.Send.{IsSend, IsSync, sendable}
use Rattle.std.proofs.Crossing.{crosses}
use Rattle.std.specs.declared.sync.ledger.Ledger as ledger
use Rattle.desk_book.specs.declared.naming.Tickets as tickets
use Rattle.sii_words.proofs.history.History.TheLaws.TheKnot.{send-History}
use Rattle.sii_image.specs.contracts.layout.Layout as Layout
use Rattle.book_parts.specs.contracts.area.Area as Area
use Rattle.book_parts.specs.contracts.ledger.Ledger as Ledger
use Rattle.book_parts.specs.contracts.shown.Shown as Shown
use Rattle.book_parts.specs.contracts.work.SlaveWork as SlaveWork
use Rattle.book_parts.specs.contracts.line.LineWork as LineWork
use Rattle.book_core.specs.contracts.book.Core as Core
use Rattle.sii_edit.proofs.command.Command.TheSendSync as command
use Rattle.sii_words.proofs.plant.Plant.TheSendSync as plant
use Rattle.jrn_format.proofs.journal.Entry.TheSendSync as entry
use Rattle.book_core.proofs.step.Step.TheSendSync as step
use Rattle.book_model.proofs.fault.Fault.TheSendSync as fault
use Rattle.std.proofs.sync.ledger.Book.TheSendSync as book
use Rattle.station_jobs.proofs.notes.Notes.TheSendSync as notes
use Rattle.desk_book.proofs.pool.Pool.TheSendSync as pool
use Rattle.desk_book.specs.contracts.served.Served as Served
use Rattle.station_threads.specs.contracts.desk.Desk as Desk
use Rattle.station_threads.specs.contracts.sides.DiskSide as DiskSide
use Rattle.station_threads.specs.contracts.sides.RomSide as RomSide
use Rattle.station_threads.specs.contracts.sides.CycleSide as CycleSide

layout-send : IsSend Layout.the_row
layout-send = search (sendable, crosses) depth 40

area-send : IsSend Area.the_row
area-send = search (sendable, crosses, send-History) depth 40

ledger-send : IsSend Ledger.the_row
ledger-send = search (command.the_field_send, entry.the_field_send, plant.the_send, layout-send, crosses, sendable) depth 40

shown-send : IsSend Shown.the_row
shown-send = search (sendable, crosses, layout-send) depth 40

work-send : IsSend SlaveWork.the_row
work-send = search (sendable, crosses, send-History) depth 40

line-send : IsSend LineWork.the_row
line-send = search (sendable, crosses, send-History, work-send) depth 40

core-send : IsSend Core.the_row
core-send = search (send-History, area-send, ledger-send, shown-send, line-send, step.the_field_send, fault.the_field_send, crosses, sendable) depth 40

module _ (T R : RattleType) (t : tickets.Ghosts T.Denot) (l : ledger.Ghosts T.Denot) (r : ledger.Ghosts R.Denot) where
  served-send : IsSend (Served.the_row T R t l r)
  served-send = search (send-History, core-send, notes.the_send, pool.the_send, book.the_send, crosses, sendable) depth 40 fits 20000

  pub desk-sync : IsSync (Desk.the_row T R t l r)
  desk-sync = search (sendable, crosses, served-send) depth 40

  module _ (a : NamedLft) where
    pub disk-send : IsSend (DiskSide.the_row a T R t l r)
    disk-send = search (sendable, crosses, desk-sync, notes.the_send) depth 40

    pub rom-send : IsSend (RomSide.the_row a T R t l r)
    rom-send = search (sendable, crosses, desk-sync, notes.the_send) depth 40

    pub cycle-send : IsSend (CycleSide.the_row a T R t l r)
    cycle-send = search (sendable, crosses, desk-sync) depth 40
