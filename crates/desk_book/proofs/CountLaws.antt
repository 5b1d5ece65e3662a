-- Shares that count 2^64 or more don't match the ledgers; and how many slaves there are.
use Rattle.std.proofs.Common.{◌≡◌, ◌∙◌, ℕ, ◌≤◌, ◌^◌, false, List, length, ap, subst, arith, IsTrue}
use Rattle.std.specs.Prelude.{sum_by}
use Rattle.sii_edit.specs.declared.command.Command.{Command}
use Rattle.sii_edit.specs.Fold.{contents}
use Rattle.sii_words.proofs.RedoLaws.{length-redone}
use Rattle.sii_edit.proofs.FoldLaws.{SameShape-contents}
use Rattle.book_model.specs.Entries.{runs_of}
use Rattle.book_model.specs.Book.{Book, base_of}
use Rattle.desk_book.specs.declared.call.Call.{Call}
use Rattle.desk_book.specs.Calls.{replayed}
use Rattle.desk_book.specs.Serving.{ShareCounts, IsReplayed, AreCounted}
use Rattle.desk_book.specs.Closing.{CountAll}

module _ (opened book : Book) (history calls : List Call) (shares : List ShareCounts) (tickets refusals : ℕ) (same : history ≡ calls) where
  pub too-many-tickets : IsReplayed opened book history → AreCounted book history tickets refusals → 2 ^ 64 ≤ sum_by (λ (s : ShareCounts). s.tickets) shares → CountAll (replayed opened calls) calls shares → IsTrue false
  too-many-tickets is are many all =
      absurd (omega (arith, are.fit, are.accepted, ap (λ (b : Book). length b.accepted) is.same, ap (λ (l : List Call). length (replayed opened l).accepted) same, all.tickets, many))

  pub too-many-refusals : AreCounted book history tickets refusals → 2 ^ 64 ≤ sum_by (λ (s : ShareCounts). s.refusals) shares → CountAll (replayed opened calls) calls shares → IsTrue false
  too-many-refusals are many all =
      let counted = subst (λ (l : List Call). AreCounted book l tickets refusals) same are in
      absurd (omega (arith, counted.refused_fit, counted.refused, all.refusals, many))

  pub all-counted : IsReplayed opened book history → AreCounted book history tickets refusals → sum_by (λ (s : ShareCounts). s.tickets) shares ≡ tickets → sum_by (λ (s : ShareCounts). s.refusals) shares ≡ refusals
      → CountAll (replayed opened calls) calls shares
  all-counted is are of_tickets of_refusals =
      let counted = subst (λ (l : List Call). AreCounted book l tickets refusals) same are in
      record {
        tickets = of_tickets ∙ are.accepted ∙ ap (λ (b : Book). length b.accepted) is.same ∙ ap (λ (l : List Call). length (replayed opened l).accepted) same;
        refusals = of_refusals ∙ counted.refused;
      }

-- The contents have as many slaves as the words that the book was opened with.
pub each-slave : (opened : Book) (commands : List Command) → length (contents (base_of opened) commands) ≡ length opened.words
each-slave opened commands = (SameShape-contents (base_of opened) commands).slaves ∙ length-redone opened.words (runs_of opened.found)
