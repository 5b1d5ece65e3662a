-- One who sleeps may go to another thread: the desk may be shared, and its ticket may be sent.
use denote.Param.Send.{IsSend, sendable}
use Rattle.std.proofs.Crossing.{crosses}
use Rattle.sii_edit.proofs.command.Command.TheSendSync as command
use Rattle.desk_book.specs.contracts.ticket.Ticket as Ticket
use Rattle.station_threads.proofs.Sent.{desk-sync}
use Rattle.runner_tests.proofs.wakes.Sleeper.TheSendSync as sleeper
use Rattle.runner_tests.specs.contracts.wakes.Tired as Tired
use Rattle.runner_tests.proofs.wakes.ended_in.Goals as goal

ticket-send : IsSend Ticket.the_row
ticket-send = search (command.the_field_send, crosses, sendable) depth 40

tired-send : IsSend Tired.the_row
tired-send = search (ticket-send, sleeper.the_field_send, crosses, sendable) depth 40

pub spawn-requires-send-F : goal.spawn-requires-send-F
spawn-requires-send-F g c κs within = search (desk-sync, tired-send, sendable, crosses) depth 40
