-- One who submits may go to another thread: its share, its tickets and its receipts may.
use denote.RattleType.{RattleType}
use denote.Param.Send.{IsSend, sendable}
use Rattle.std.proofs.Crossing.{crosses}
use Rattle.std.specs.declared.sync.ledger.Ledger as ledger
use Rattle.desk_book.specs.declared.naming.Tickets as tickets
use Rattle.sii_edit.proofs.command.Command.TheSendSync as command
use Rattle.desk_book.proofs.share.Share.TheSendSync as share
use Rattle.desk_book.specs.contracts.ticket.Ticket as Ticket
use Rattle.desk_book.specs.contracts.ticket.Receipt as Receipt
use Rattle.station_threads.proofs.Sent.{desk-sync}
use Rattle.desk_tests.specs.contracts.submitter.Submitter as Submitter
use Rattle.desk_tests.proofs.submitter.start_submitting.Goals as goal

ticket-send : IsSend Ticket.the_row
ticket-send = search (command.the_field_send, crosses, sendable) depth 40

receipt-send : IsSend Receipt.the_row
receipt-send = search (command.the_field_send, crosses, sendable) depth 40

module _ (T R : RattleType) (t : tickets.Ghosts T.Denot) (l : ledger.Ghosts T.Denot) (r : ledger.Ghosts R.Denot) where
  submitter-send : IsSend (Submitter.the_row T R t l r)
  submitter-send = search (share.the_send, ticket-send, receipt-send, crosses, sendable) depth 40

pub spawn-requires-send-F : goal.spawn-requires-send-F
spawn-requires-send-F g c κs lives = search (desk-sync, submitter-send, sendable, crosses) depth 40

pub spawn-requires-send-T : goal.spawn-requires-send-T
spawn-requires-send-T g c κs lives = search (submitter-send, sendable, crosses) depth 40
