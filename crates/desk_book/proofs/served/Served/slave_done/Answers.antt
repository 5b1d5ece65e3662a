use Rattle.std.proofs.Common.{◌≡◌, ◌∙◌, ◌<◌, ℕ, true, length, refl, sym, ap, subst, arith}
use Rattle.book_model.specs.Book.{Book, slave_at}
use Rattle.station_jobs.specs.Noted.{is_waiting}
use Rattle.desk_book.specs.declared.call.Call.TheVariants.{SlaveReported}
use Rattle.desk_book.specs.Calls.{IsOut}
use Rattle.desk_book.specs.Logs.{rom_log}
use Rattle.desk_book.proofs.OutLaws.{rom-out}
use Rattle.desk_book.proofs.KeptLaws.{keeps-rom_done}
use Rattle.desk_book.proofs.CallLaws.{is-replayed-more, are-counted-same, are-logs-more}
use Rattle.desk_book.proofs.LogLaws.{reported-noted}
use Rattle.desk_book.proofs.served.Served.slave_done.Goals as goal

pub invariant_of-self : goal.invariant_of-self
invariant_of-self g c =
    let s = c.self.inside in
    let i = c.self.invariant in
    let slave = c.args.slave in
    let outcome = c.args.outcome in
    let call = SlaveReported slave outcome in
    let noted = reported-noted slave c.from-at.result s.slaves.items c.from-at.ensures (omega (arith, s.slaves.ok.0)) outcome c.tell_at.new.slaves.items c.tell_at.ensures in
    let inside : c.from-at.result < length s.slaves.items = omega (arith, s.slaves.ok.0) in
    let waits : is_waiting (rom_log c.from-at.result s.history) ≡ true = ap is_waiting (sym (i.3.of_slaves c.from-at.result inside)) ∙ sym c.is_waiting_at.ensures ∙ c.if-not-is_waiting_at.false in
    let out : IsOut (slave_at s.core slave).operation =
    subst (λ (b : Book). IsOut (slave_at b slave).operation) (sym i.0.same) (rom-out g.T.Tickets.opened s.history slave i.0.answers (subst (λ (k : ℕ). is_waiting (rom_log k s.history) ≡ true) c.from-at.ensures waits)) in
    rw c.note.ensures (
      is-replayed-more g.T.Tickets.opened s.core c.rom_done.new.self s.history call i.0 out c.rom_done.ensures,
      are-counted-same s.core c.rom_done.new.self s.history call s.tickets.total s.refusals.total i.1 (ap (λ (b : Book). b.accepted) c.rom_done.ensures ∙ (keeps-rom_done s.core slave outcome).accepted) refl,
      i.2,
      are-logs-more s.history call s.disk.entries s.disk.entries s.slaves.items c.tell_at.new.slaves.items s.cycle.entries s.cycle.entries i.3 refl noted refl,
      c.tell_at.ensures.count ∙ i.4,
    )
