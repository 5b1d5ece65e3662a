use Rattle.std.proofs.Common.{◌≤◌, ◌-◌, ℕ, List}
use Rattle.book_parts.specs.Shown.{IsAfter}
use Rattle.book_parts.proofs.shown.Shown.bring_up.Given as goal

abbrev pub invariant-loop-self : goal.invariant-loop-self
invariant-loop-self l =
    ((base : List (List ℕ)) → IsAfter base l.accepted l.initial.self → IsAfter base l.accepted l.self)
    × (l.initial.self.count ≤ l.self.count)
    × (l.self.count ≤ l.count)

abbrev pub decreases-loop-self : goal.decreases-loop-self
decreases-loop-self l = l.count - l.self.count
