use Rattle.std.proofs.Common.{◌⊎◌, inl, inr, ◌<◌, ◌≤◌, ◌∙◌, ℕ, List, ap, subst, arith, length, Some}
use Rattle.std.specs.Vec.{vec_capacity}
use Rattle.std.proofs.lemmas.List.{get_or_read, get_or_past}
use Rattle.book_model.specs.declared.due.Naming.{Naming}
use Rattle.book_model.specs.declared.due.Word.{Word}
use Rattle.book_model.specs.Cells.{nothing, cell_of}
use Rattle.book_model.specs.Queue.{room_in, no_naming, word_at, live_of, cells_from, pending_of}
use Rattle.book_model.specs.Pending.{Pending, values_of, unsettled}
use Rattle.book_model.proofs.QueueLaws.{cell-at, length-cells}
use Rattle.book_model.proofs.DownLaws.{values-fewer}
use Rattle.book_model.proofs.SettledLaws.{unsettled-some, unsettled-none}
use Rattle.book_model.proofs.queue.SlaveQueue.unsettled.Goals as goal

-- what a word is owed comes from its live namings
owes-live : (namings : List Naming) (words : List Word) (room at : ℕ) → length (cell_of (pending_of namings words room).cells at).owed ≤ length (values_of at (live_of namings))
owes-live namings words room at = one (sides at (length words))
  where
    sides : (m n : ℕ) → (m < n) ⊎ (n ≤ m)
    sides m n = grind arith

    one : (at < length words) ⊎ (length words ≤ at) → length (cell_of (cells_from (live_of namings) 0 words) at).owed ≤ length (values_of at (live_of namings))
    one (inr out) = rw (get_or_past (cells_from (live_of namings) 0 words) at nothing (omega (arith, length-cells (live_of namings) 0 words))) (omega arith)
    one (inl inside) = rw (cell-at (live_of namings) words at inside) (values-fewer at (word_at words at).mark (live_of namings))

pub returns-then-self-len-clause-number : goal.returns-then-self-len-clause-number
returns-then-self-len-clause-number c =
    let namings = c.self.inside.namings.items in
    let within : c.self.inside.settled < length namings = omega (arith, c.self.inside.namings.ok.0) in
    ap (λ (n : Naming). Some n.entry) (get_or_read namings c.self.inside.settled c.index.result.now within c.index.ensures no_naming)
    ∙ unsettled-some namings c.self.inside.words.items c.self.inside.settled (room_in (vec_capacity c.self.inside.namings) (length namings)) c.self.invariant.0 c.self.invariant.2 within
    ∙ ap unsettled c.self.view_is

pub returns-then-self-len-clause-owed : goal.returns-then-self-len-clause-owed
returns-then-self-len-clause-owed c = λ at.
    subst (λ (p : Pending). length (cell_of p.cells at).owed ≤ length (values_of at p.live)) c.self.view_is
    (owes-live c.self.inside.namings.items c.self.inside.words.items (room_in (vec_capacity c.self.inside.namings) (length c.self.inside.namings.items)) at)

pub returns-else-self-len-clause-number : goal.returns-else-self-len-clause-number
returns-else-self-len-clause-number c =
    unsettled-none c.self.inside.namings.items c.self.inside.words.items c.self.inside.settled (room_in (vec_capacity c.self.inside.namings) (length c.self.inside.namings.items)) c.self.invariant.0 c.self.invariant.2 (omega (arith, c.self.inside.namings.ok.0))
    ∙ ap unsettled c.self.view_is

pub returns-else-self-len-clause-owed : goal.returns-else-self-len-clause-owed
returns-else-self-len-clause-owed c = λ at.
    subst (λ (p : Pending). length (cell_of p.cells at).owed ≤ length (values_of at p.live)) c.self.view_is
    (owes-live c.self.inside.namings.items c.self.inside.words.items (room_in (vec_capacity c.self.inside.namings) (length c.self.inside.namings.items)) at)
