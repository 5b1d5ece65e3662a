-- The contents after one more of the commands.
use Rattle.std.proofs.Common.{◌≡◌, ◌∙◌, ℕ, ◌+◌, ◌<◌, List, [], ◌∷◌, ◌++◌, length, take, get_or, sym, ap, subst}
use Rattle.std.proofs.lemmas.List.{take_more}
use Rattle.sii_edit.specs.declared.command.Command.{Command}
use Rattle.sii_edit.specs.Fold.{after, contents}
use Rattle.sii_edit.proofs.FoldLaws.{contents-push}
use Rattle.book_parts.specs.Shown.{Shown, IsAfter}

abbrev followed : Shown → Command → Shown
followed shown command = record { contents = after shown.contents command; count = shown.count + 1 }

one-more : (base : List (List ℕ)) (commands : List Command) (shown : Shown) (command : Command) → shown.count < length commands → command ≡ get_or commands shown.count command
    → IsAfter base commands shown → IsAfter base commands (followed shown command)
one-more base commands shown command here at is =
    let before = take shown.count commands in
    ap (λ (p : List (List ℕ)). after p command) is
    ∙ sym (ap (contents base) (take_more commands shown.count command here ∙ ap (λ (c : Command). before ++ c ∷ []) (sym at)) ∙ contents-push base before command)

pub follows : (base : List (List ℕ)) (commands : List Command) (shown next : Shown) (command : Command) → shown.count < length commands → command ≡ get_or commands shown.count command
    → next ≡ followed shown command → IsAfter base commands shown → IsAfter base commands next
follows base commands shown next command here at new is = subst (IsAfter base commands) (sym new) (one-more base commands shown command here at is)
