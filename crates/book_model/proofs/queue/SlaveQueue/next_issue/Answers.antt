use Rattle.std.proofs.Common.{◌≡◌, ◌<◌, ◌∙◌, ℕ, sym, ap, subst, arith, length, Some, None}
use Rattle.std.specs.Vec.{vec_capacity}
use Rattle.book_model.specs.Pending.{Pending, to_do, first, issued}
use Rattle.book_model.specs.Cells.{cell_of, since}
use Rattle.book_model.specs.Queue.{room_in}
use Rattle.book_model.proofs.QueueLaws.{next-none, next-here, asks-here, may-ask}
use Rattle.book_model.proofs.queue.SlaveQueue.next_issue.Goals as goal

pub returns-then-self-len-clause-result : goal.returns-then-self-len-clause-result
returns-then-self-len-clause-result c =
    let past = rw (c.deref.ensures.value, c.deref-2.ensures.value) at c.first_due-self-inside.ensures.cursor in
    let none = sym (next-none c.self.inside.namings.items c.self.inside.words.items c.first_due-self-inside.result c.self.invariant.0 past (omega (arith, ap length c.deref.ensures.value))) in
    subst (λ (p : Pending). None ≡ first (to_do p.cells p.live)) c.self.view_is none

pub returns-then-self-len-clause-asked : goal.returns-then-self-len-clause-asked
returns-then-self-len-clause-asked c =
    let past = rw (c.deref.ensures.value, c.deref-2.ensures.value) at c.first_due-self-inside.ensures.cursor in
    let none = sym (next-none c.self.inside.namings.items c.self.inside.words.items c.first_due-self-inside.result c.self.invariant.0 past (omega (arith, ap length c.deref.ensures.value))) in
    c.self.view_is ∙ ap (issued c.args.self.now) (subst (λ (p : Pending). None ≡ first (to_do p.cells p.live)) c.self.view_is none)

pub returns-clause-result : goal.returns-clause-result
returns-clause-result c =
    let past = rw (c.deref.ensures.value, c.deref-2.ensures.value) at c.first_due-self-inside.ensures.cursor in
    let due = rw (c.deref.ensures.value, c.deref-2.ensures.value) at c.first_due-self-inside.ensures.due in
    let within : c.first_due-self-inside.result < length c.self.inside.namings.items = omega (arith, ap length c.deref.ensures.value, past.inside) in
    subst (λ (p : Pending). Some (c.index-naming.result.now.word, c.index-naming.result.now.value) ≡ first (to_do p.cells p.live)) c.self.view_is
    (next-here c.self.inside.namings.items c.self.inside.words.items c.first_due-self-inside.result c.index-naming.result.now c.self.invariant.0 past within (due within) c.index-naming.ensures)

pub returns-clause-asked : goal.returns-clause-asked
returns-clause-asked c =
    let past = rw (c.deref.ensures.value, c.deref-2.ensures.value) at c.first_due-self-inside.ensures.cursor in
    let due = rw (c.deref.ensures.value, c.deref-2.ensures.value) at c.first_due-self-inside.ensures.due in
    let within : c.first_due-self-inside.result < length c.self.inside.namings.items = omega (arith, ap length c.deref.ensures.value, past.inside) in
    let room = room_in (vec_capacity c.self.inside.namings) (length c.self.inside.namings.items) in
    let is = asks-here c.self.inside.namings.items c.self.inside.words.items room c.first_due-self-inside.result c.index-naming.result.now c.index-word.result.now c.one_more.result c.self.invariant.0 past within (due within) c.index-naming.ensures c.index-word.ensures c.one_more.ensures in
    is ∙ ap (λ (p : Pending). issued p (first (to_do p.cells p.live))) c.self.view_is

pub one_more-requires : goal.one_more-requires
one_more-requires c =
    let past = rw (c.deref.ensures.value, c.deref-2.ensures.value) at c.first_due-self-inside.ensures.cursor in
    let within : c.first_due-self-inside.result < length c.self.inside.namings.items = omega (arith, ap length c.deref.ensures.value, past.inside) in
    may-ask c.self.inside.namings.items c.self.inside.words.items c.first_due-self-inside.result c.index-naming.result.now c.index-word.result.now c.self.invariant.0 within c.index-naming.ensures c.index-word.ensures
    (subst (λ (p : Pending). (at : ℕ) → since (cell_of p.cells at).known < 255) (sym c.self.view_is) c.requires)
