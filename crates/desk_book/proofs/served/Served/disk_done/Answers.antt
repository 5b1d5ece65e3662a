use Rattle.std.proofs.Common.{◌≡◌, ◌∙◌, true, refl, sym, ap}
use Rattle.book_model.specs.Book.{Book}
use Rattle.desk_book.specs.declared.call.Call.TheVariants.{DiskReported}
use Rattle.station_jobs.specs.Noted.{is_waiting}
use Rattle.desk_book.specs.Logs.{disk_log}
use Rattle.desk_book.proofs.OutLaws.{disk-out}
use Rattle.desk_book.proofs.KeptLaws.{keeps-disk_done}
use Rattle.desk_book.proofs.CallLaws.{is-replayed-more, are-counted-same, are-logs-more}
use Rattle.desk_book.proofs.served.Served.disk_done.Goals as goal

pub invariant_of-self : goal.invariant_of-self
invariant_of-self g c =
    let s = c.self.inside in
    let i = c.self.invariant in
    let outcome = c.args.outcome in
    let call = DiskReported outcome in
    let waits : is_waiting (disk_log s.history) ≡ true = ap is_waiting (sym i.3.of_disk) ∙ sym c.is_waiting.ensures ∙ c.if-not-is_waiting.false in
    let out : s.core.is_handed_out ≡ true = ap (λ (b : Book). b.is_handed_out) i.0.same ∙ disk-out g.T.Tickets.opened s.history i.0.answers waits in
    rw c.note.ensures (
      is-replayed-more g.T.Tickets.opened s.core c.disk_done.new.self s.history call i.0 out c.disk_done.ensures,
      are-counted-same s.core c.disk_done.new.self s.history call s.tickets.total s.refusals.total i.1 (ap (λ (b : Book). b.accepted) c.disk_done.ensures ∙ (keeps-disk_done s.core outcome).accepted) refl,
      i.2,
      are-logs-more s.history call s.disk.entries c.tell.new.self.entries s.slaves.items s.slaves.items s.cycle.entries s.cycle.entries i.3 c.tell.ensures (λ n inside. (inside, refl)) refl,
      i.4,
    )
