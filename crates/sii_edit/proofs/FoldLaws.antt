-- The contents after commands.
use Rattle.std.proofs.Common.{◌≡◌, ℕ, List, [], ◌∷◌, ◌++◌, refl, ap, ◌∙◌, Result, Ok, Err, IsSome}
use Rattle.std.proofs.Math.Seq.{take-nil}
use Rattle.sii_edit.specs.declared.command.Command.{Command}
use Rattle.sii_edit.specs.declared.refusal.Refusal.{Refusal}
use Rattle.sii_image.specs.ProcessImage.{process_image}
use Rattle.sii_edit.specs.Command.{carried_out, outcome}
use Rattle.sii_edit.specs.Fold.{contents, contents_after, after}
use Rattle.sii_words.specs.Redo.{SameShape}
use Rattle.sii_edit.proofs.ProcessImageLaws.{with_process_image_has}
use Rattle.sii_edit.proofs.CommandLaws.{SameShape-trans, SameShape-outcome}

pub contents-append : (base : List (List ℕ)) (first second : List Command) → contents base (first ++ second) ≡ contents (contents base first) second
contents-append base [] second = refl
contents-append base (command ∷ first) second = contents-append (after base command) first second

pub contents-push : (base : List (List ℕ)) (commands : List Command) (command : Command) → contents base (commands ++ command ∷ []) ≡ after (contents base commands) command
contents-push base commands command = contents-append base commands (command ∷ [])

-- no command, and so no matter how many of them
pub none-taken : (base : List (List ℕ)) (commands : List Command) (k : ℕ) → commands ≡ [] → contents_after base commands k ≡ base
none-taken base commands k none = ap (λ (l : List Command). contents_after base l k) none ∙ ap (λ (l : List Command). contents base l) (take-nil {A = Command} k)

after_shape : (plant : List (List ℕ)) (command : Command) (validated : Result (List (List ℕ)) Refusal) → outcome plant command ≡ validated → SameShape plant (after plant command)
after_shape plant command (Ok new) is = rw is (SameShape-outcome plant new command is)
after_shape plant command (Err refusal) is = rw is (record { slaves = refl; words = λ slave. refl })

-- commands keep the shape of the plant
pub SameShape-contents : (base : List (List ℕ)) (commands : List Command) → SameShape base (contents base commands)
SameShape-contents base [] = record { slaves = refl; words = λ slave. refl }
SameShape-contents base (command ∷ commands) =
    SameShape-trans base (after base command) (contents (after base command) commands) (after_shape base command (outcome base command) refl) (SameShape-contents (after base command) commands)

after_image : (plant : List (List ℕ)) (command : Command) (validated : Result (List (List ℕ)) Refusal) → outcome plant command ≡ validated → IsSome (process_image plant) → IsSome (process_image (after plant command))
after_image plant command (Ok new) is some = rw is (with_process_image_has (carried_out plant command) new is)
after_image plant command (Err refusal) is some = rw is some

-- commands keep a process image
pub process_image-contents : (base : List (List ℕ)) (commands : List Command) → IsSome (process_image base) → IsSome (process_image (contents base commands))
process_image-contents base [] some = some
process_image-contents base (command ∷ commands) some = process_image-contents (after base command) commands (after_image base command (outcome base command) refl some)
