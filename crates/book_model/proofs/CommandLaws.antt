-- The accepted commands as entries lead to the contents after them.
use Rattle.std.proofs.Common.{◌≡◌, ℕ, zero, suc, ◌+◌, List, [], ◌∷◌, ◌++◌, length, take, refl, ◌∙◌, ap, arith, add-zero}
use Rattle.sii_words.specs.Redo.{SameShape, redone}
use Rattle.sii_words.specs.Run.{runs_between}
use Rattle.sii_words.proofs.RedoLaws.{redone-append, redone-nil}
use Rattle.sii_words.proofs.RunLaws.{redone-runs_between}
use Rattle.sii_edit.specs.declared.command.Command.{Command}
use Rattle.sii_edit.specs.Fold.{after, contents, contents_after}
use Rattle.sii_edit.proofs.FoldLaws.{SameShape-contents}
use Rattle.jrn_format.specs.declared.journal.Entry.{Entry}
use Rattle.book_model.specs.Entries.{runs_of, entries_from}
use Rattle.book_model.specs.Fits.{after_entries}

same-after : (plant : List (List ℕ)) (command : Command) → SameShape plant (after plant command)
same-after plant command = SameShape-contents plant (command ∷ [])

pub entries-contents : (number : ℕ) (base : List (List ℕ)) (commands : List Command) (k : ℕ) → after_entries base (entries_from number base commands) k ≡ contents_after base commands k
entries-contents number base [] zero = redone-nil base
entries-contents number base [] (suc k) = redone-nil base
entries-contents number base (c ∷ commands) zero = redone-nil base
entries-contents number base (c ∷ commands) (suc k) =
    let next = after base c in
    redone-append base (runs_between base next) (runs_of (take k (entries_from (suc number) next commands)))
    ∙ ap (λ (p : List (List ℕ)). redone p (runs_of (take k (entries_from (suc number) next commands)))) (redone-runs_between base next (same-after base c))
    ∙ entries-contents (suc number) next commands k

pub length-entries : (number : ℕ) (base : List (List ℕ)) (commands : List Command) → length (entries_from number base commands) ≡ length commands
length-entries number base [] = refl
length-entries number base (c ∷ commands) = ap suc (length-entries (suc number) (after base c) commands)

-- the entry of one command more
abbrev pub entry_after : ℕ → List (List ℕ) → List Command → Command → Entry
entry_after number base commands command =
    record { number = number + length commands; runs = runs_between (contents base commands) (after (contents base commands) command) }

pub entries-push : (number : ℕ) (base : List (List ℕ)) (commands : List Command) (command : Command)
    → entries_from number base (commands ++ command ∷ []) ≡ entries_from number base commands ++ entry_after number base commands command ∷ []
entries-push number base [] command = rw add-zero refl
entries-push number base (c ∷ commands) command =
    ap (λ (l : List Entry). record { number = number; runs = runs_between base (after base c) } ∷ l)
    (entries-push (suc number) (after base c) commands command
    ∙ ap (λ (n : ℕ). entries_from (suc number) (after base c) commands ++ record { number = n; runs = runs_between (contents (after base c) commands) (after (contents (after base c) commands) command) } ∷ []) (omega arith))
