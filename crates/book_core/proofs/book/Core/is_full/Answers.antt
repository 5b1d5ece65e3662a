use Rattle.std.proofs.Common.{◌<◌, ◌-◌, ◌^◌, ◌∙◌, length, sym, ap, arith}
use Rattle.std.specs.Option.{option_map}
use Rattle.book_model.specs.declared.refusal.TheConstants.{QUEUE}
use Rattle.book_model.specs.Book.{Book}
use Rattle.book_model.specs.Submit.{is_full}
use Rattle.book_parts.specs.Spot.{as_place}
use Rattle.book_parts.specs.Ledger.{queued}
use Rattle.book_core.proofs.SubmitLaws.{none-is, full-after, full-alone}
use Rattle.book_core.proofs.book.Core.is_full.Goals as goal
use Rattle.book_core.proofs.book.Core.is_full.Goals.{in-Some, in-None}

pub returns : goal.returns
returns c = λ runs size.
    let core = c.self.inside in
    let given = c.match-spot.spot in
    let few : length (queued core.ledger) < QUEUE = omega (arith, c.if-queued-ge-QUEUE.false, ap length c.queued.ensures.entries) in
    let more : length core.ledger.accepted < 2 ^ 64 - 1 = omega (arith, c.if-len.false, c.len.ensures, c.len.type_inv) in
    none-is given c.is_none.result c.is_none.ensures
    ∙ elim c.match-spot.branch [
      | in-Some w ↦ full-after core runs given w.in-Some.spot c.self.invariant few more (sym w.in-Some.ensures)
          (λ first entries one two. ap (option_map as_place) w.spot-is ∙ w.place_after-spot.ensures first entries (one ∙ sym w.appended_bytes.ensures) (omega (arith, two, c.queued_bytes.ensures, size)))
      | in-None w ↦ full-alone core runs given c.self.invariant few more (sym w.in-None.ensures)
          (λ entries two. ap (option_map as_place) w.spot-is ∙ w.place_of-spot.ensures entries (omega (arith, two, c.queued_bytes.ensures, size)))
    ]
    ∙ ap (λ (b : Book). is_full b runs) c.self.view_is
