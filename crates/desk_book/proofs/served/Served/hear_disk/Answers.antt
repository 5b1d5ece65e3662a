use Rattle.std.proofs.Common.{◌≡◌, ◌∙◌, List, refl, sym, ap}
use Rattle.book_model.specs.declared.next.DiskNext.{DiskNext}
use Rattle.book_model.specs.Book.{Book}
use Rattle.desk_book.specs.declared.call.Call.TheVariants.{DiskAsked}
use Rattle.desk_book.specs.Logs.{DiskEntry, with_disk_answer}
use Rattle.desk_book.proofs.KeptLaws.{keeps-disk_next}
use Rattle.desk_book.proofs.CallLaws.{is-replayed-more, answered-by, are-counted-same, are-logs-more}
use Rattle.desk_book.proofs.HeardLaws.{hears-disk, noted-call}
use Rattle.desk_book.proofs.served.Served.hear_disk.Goals as goal

pub invariant_of-self-2 : goal.invariant_of-self-2
invariant_of-self-2 g c =
    let s = c.self.inside in
    let i = c.self.invariant in
    let answer = c.of-answer.result in
    let call = DiskAsked answer in
    let asked = c.in-Ok-disk_next.ensures in
    let noted : c.hand_out.new.notes.entries ≡ with_disk_answer s.disk.entries answer =
    c.hand_out.ensures.noted
    ∙ ap (λ (l : List DiskEntry). with_disk_answer l c.in-Ok-disk_next.next) c.rooms_for.ensures.same
    ∙ ap (λ (j : DiskNext). with_disk_answer s.disk.entries j) (sym c.of-answer.ensures) in
    rw c.note.ensures (
      is-replayed-more g.T.Tickets.opened s.core c.disk_next.new.self s.history call i.0 (c.of-answer.ensures ∙ asked.answer) asked.book,
      are-counted-same s.core c.disk_next.new.self s.history call s.tickets.total s.refusals.total i.1 (ap (λ (b : Book). b.accepted) asked.book ∙ (keeps-disk_next s.core).accepted) refl,
      i.2,
      are-logs-more s.history call s.disk.entries c.hand_out.new.notes.entries s.slaves.items s.slaves.items s.cycle.entries s.cycle.entries i.3 noted (λ n inside. (inside, refl)) refl,
      i.4,
    )

pub returns : goal.returns
returns g c =
    let s = c.self.inside in
    let next = c.in-Ok-disk_next.next in
    let answer = c.of-answer.result in
    record {
      hears =
          hears-disk c.hand_out.result next c.args.self.now _ c.hand_out.ensures.tells
          (noted-call s.history c.note.new.history s.tickets.total s.refusals.total s.pool s.is_out_of_memory s.seen c.args.self.now (DiskAsked answer) (DiskAsked next) c.self.view_is c.note.ensures (ap (λ (a : DiskNext). DiskAsked a) c.of-answer.ensures));
      answered = answered-by g.T.Tickets.opened s.core s.history c.note.new.history (DiskAsked answer) c.self.invariant.0 (c.of-answer.ensures ∙ c.in-Ok-disk_next.ensures.answer) c.note.ensures;
    }
