use Rattle.std.proofs.Common.{◌∙◌, ◌+◌, ℕ, Ok, Err, refl, sym, ap}
use Rattle.book_model.specs.Book.{Book}
use Rattle.desk_book.specs.declared.call.Call.TheVariants.{Submitted}
use Rattle.desk_book.proofs.AskLaws.{own-refusal, own-number, numbered}
use Rattle.desk_book.proofs.CallLaws.{is-replayed-more, are-counted-ticket, are-counted-refusal, are-logs-same}
use Rattle.desk_book.proofs.served.Served.ask.Goals as goal

pub invariant_of-self-in-Err : goal.invariant_of-self-in-Err
invariant_of-self-in-Err g c =
    let s = c.self.inside in
    let i = c.self.invariant in
    let command = c.args.command.now in
    let refusal = c.in-Err.refusal in
    let own = own-refusal s.core command refusal c.in-Err.ensures.answer (sym c.is_out_of_memory.ensures ∙ c.if-is_out_of_memory.false) in
    rw (c.note-in-Err.ensures, c.of-in-Err.ensures, c.count_refusal.ensures.total) (
      is-replayed-more g.T.Tickets.opened s.core c.submit-answer.new.self s.history (Submitted command (Err refusal)) i.0 own c.in-Err.ensures.refused,
      are-counted-refusal s.core c.submit-answer.new.self s.history command refusal s.tickets.total s.refusals.total i.1 c.in-Err.ensures.refused c.count_refusal.ensures.few,
      ap (λ (n : ℕ). n + 1) i.2,
      are-logs-same s.history (Submitted command (Err refusal)) s.disk.entries s.slaves.items s.cycle.entries i.3 refl (λ n log. refl) refl,
      i.4,
    )

pub invariant_of-self : goal.invariant_of-self
invariant_of-self g c =
    let s = c.self.inside in
    let i = c.self.invariant in
    let command = c.args.command.now in
    let number = c.in-Ok.number in
    let own = own-number s.core command number c.in-Ok.ensures.answer in
    rw (c.note.ensures, c.of.ensures, c.count_ticket.ensures.total) (
      is-replayed-more g.T.Tickets.opened s.core c.submit-answer.new.self s.history (Submitted command (Ok number)) i.0 own c.in-Ok.ensures.accepted,
      are-counted-ticket s.core c.submit-answer.new.self s.history command number s.tickets.total s.refusals.total i.1 (ap (λ (b : Book). b.accepted) c.in-Ok.ensures.accepted) (numbered s.core command (Ok number) own).1,
      i.2,
      are-logs-same s.history (Submitted command (Ok number)) s.disk.entries s.slaves.items s.cycle.entries i.3 refl (λ n log. refl) refl,
      i.4,
    )
