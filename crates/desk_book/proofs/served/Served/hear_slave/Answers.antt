use Rattle.std.proofs.Common.{◌∙◌, refl, ap, arith}
use Rattle.book_model.specs.Book.{Book}
use Rattle.desk_book.specs.declared.call.Call.TheVariants.{SlaveAsked}
use Rattle.desk_book.specs.Calls.{replayed}
use Rattle.desk_book.proofs.KeptLaws.{keeps-rom_next}
use Rattle.desk_book.proofs.CallLaws.{is-replayed-more, answered-by, worn-by, are-counted-same, are-logs-more}
use Rattle.desk_book.proofs.HeardLaws.{hears-slave, wears-few, noted-call}
use Rattle.desk_book.proofs.LogLaws.{asked-noted}
use Rattle.desk_book.proofs.served.Served.hear_slave.Goals as goal

pub invariant_of-self-2 : goal.invariant_of-self-2
invariant_of-self-2 g c =
    let s = c.self.inside in
    let i = c.self.invariant in
    let slave = c.args.slave in
    let answer = c.rom_next-answer.result in
    let call = SlaveAsked slave answer in
    let asked = c.rom_next-answer.ensures in
    let noted = asked-noted slave c.from-at.result s.slaves.items c.from-at.ensures (omega (arith, s.slaves.ok.0)) answer c.reserve_at.new.slaves.items c.hand_out_at.new.slaves.items c.reserve_at.ensures.same c.hand_out_at.ensures.noted in
    rw c.note.ensures (
      is-replayed-more g.T.Tickets.opened s.core c.rom_next-answer.new.self s.history call i.0 asked.answer asked.book,
      are-counted-same s.core c.rom_next-answer.new.self s.history call s.tickets.total s.refusals.total i.1 (ap (λ (b : Book). b.accepted) asked.book ∙ (keeps-rom_next s.core slave).accepted) refl,
      i.2,
      are-logs-more s.history call s.disk.entries s.disk.entries s.slaves.items c.hand_out_at.new.slaves.items s.cycle.entries s.cycle.entries i.3 refl noted refl,
      c.hand_out_at.ensures.noted.count ∙ c.reserve_at.ensures.same.count ∙ i.4,
    )

pub returns : goal.returns
returns g c =
    let opened = g.T.Tickets.opened in
    let s = c.self.inside in
    let slave = c.args.slave in
    let answer = c.rom_next-answer.result in
    let call = SlaveAsked slave answer in
    let asked = c.rom_next-answer.ensures in
    let later = c.note.new.history in
    record {
      hears =
          hears-slave slave c.hand_out_at.result answer c.args.self.now _ c.hand_out_at.ensures.tells
          (noted-call s.history later s.tickets.total s.refusals.total s.pool s.is_out_of_memory s.seen c.args.self.now call call c.self.view_is c.note.ensures refl);
      answered = answered-by opened s.core s.history later call c.self.invariant.0 asked.answer c.note.ensures;
      wear = wears-few c.hand_out_at.result (replayed opened later) (worn-by opened s.core c.rom_next-answer.new.self s.history later call c.self.invariant.0 asked.answer asked.book c.note.ensures asked.wear);
    }
