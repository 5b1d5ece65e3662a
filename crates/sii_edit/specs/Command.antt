-- What a command does to a plant: it gives a new plant, or is refused for the first cause that applies. The last cause is that
-- the new plant has no process image.
use Rattle.std.specs.Prelude.{ℕ, suc, ◌==◌, ◌||◌, Bool, nat_le, nat_lt, List, [], ◌∷◌, length, map, Option, None, is_some, unwrap_or, Result, Ok, Err, is_err, slice_set, if◌then◌else◌}
use Rattle.sii_words.specs.Words.{alias_of}
use Rattle.sii_words.specs.Plant.{words_of}
use Rattle.sii_cats.specs.steps.Chain.{members_of}
use Rattle.sii_image.specs.ProcessImage.{process_image}
use Rattle.sii_edit.specs.Alias.{with_alias, is_unchecked}
use Rattle.sii_edit.specs.Category.{is_absent, is_repeated, is_unfit, is_too_long, malformed_in, if_read, with_category}
use Rattle.sii_edit.specs.Image.{with_front}
use Rattle.sii_edit.specs.Guard.{is_other}
use Rattle.sii_edit.specs.Refusal.{unless, entire, of_entire, of_place, then_validated}
use Rattle.sii_edit.specs.declared.command.Expect.{Expect}
use Rattle.sii_edit.specs.declared.command.Edit.{Edit}
use Rattle.sii_edit.specs.declared.command.Edit.TheVariants.{Alias, Category, Image}
use Rattle.sii_edit.specs.declared.command.GuardedEdit.{GuardedEdit}
use Rattle.sii_edit.specs.declared.command.Command.{Command}
use Rattle.sii_edit.specs.declared.command.Command.TheVariants.{One, Swap, Group, Guarded}
use Rattle.sii_edit.specs.declared.refusal.Cause.{Cause}
use Rattle.sii_edit.specs.declared.refusal.Cause.TheVariants.{NoSlave, SameSlave, EmptyGroup, GroupTooLong, ImageTooLong, BadCheck, WrongIdentity, NoSuchCategory, SeveralCategories, BadCategory, NoRoom, BadChain, ImageOverLimit}
use Rattle.sii_edit.specs.declared.refusal.Refusal.{Refusal}

-- the slave that is edited
abbrev pub slave_of : Edit → ℕ
slave_of (Alias slave value) = slave
slave_of (Category slave kind content) = slave
slave_of (Image slave image) = slave

-- the slaves that a command may change, in the order of its edits; a swap has two
abbrev pub slaves_of : Command → List ℕ
slaves_of (One edit) = slave_of edit ∷ []
slaves_of (Swap a b) = a ∷ b ∷ []
slaves_of (Group edits) = map slave_of edits
slaves_of (Guarded edits) = map (λ (guarded : GuardedEdit). slave_of guarded.edit) edits

-- why an alias edit of a slave with these words is refused, in order
abbrev pub alias_causes : Option Expect → List ℕ → List (Bool × Cause)
alias_causes expect words =
    (is_unchecked words, BadCheck)
    ∷ (is_other expect words, WrongIdentity)
    ∷ []

-- why a category edit is refused, in order; the new content and the old chain are judged
abbrev pub category_causes : Option Expect → List ℕ → ℕ → List ℕ → List (Bool × Cause)
category_causes expect words kind content =
    (is_other expect words, WrongIdentity)
    ∷ (if_read (members_of words) (is_absent kind content), NoSuchCategory)
    ∷ (if_read (members_of words) (is_repeated kind), SeveralCategories)
    ∷ (is_unfit kind content, BadCategory kind)
    ∷ (if_read (members_of words) (is_too_long words kind content), NoRoom)
    ∷ (is_err (members_of words), BadChain)
    ∷ []

-- why an image is refused, in order; the chain that it would leave is judged, and its first malformed category is named
abbrev pub image_causes : Option Expect → List ℕ → List ℕ → List (Bool × Cause)
image_causes expect words image =
    let malformed = malformed_in (members_of (with_front words image)) in
    (nat_lt (length words) (length image), ImageTooLong)
    ∷ (is_unchecked image, BadCheck)
    ∷ (is_other expect words, WrongIdentity)
    ∷ (is_some malformed, BadCategory (unwrap_or malformed 0))
    ∷ (is_err (members_of (with_front words image)), BadChain)
    ∷ []

-- why an edit of a slave with these words is refused, in order
abbrev pub causes_against : Option Expect → Edit → List ℕ → List (Bool × Cause)
causes_against expect (Alias slave value) words = alias_causes expect words
causes_against expect (Category slave kind content) words = category_causes expect words kind content
causes_against expect (Image slave image) words = image_causes expect words image

-- the words of the slave after the edit
abbrev pub words_after : Edit → List ℕ → List ℕ
words_after (Alias slave value) words = with_alias words value
words_after (Category slave kind content) words = with_category words kind content
words_after (Image slave image) words = with_front words image

-- one edit of the words of a slave, which may have to have an expected identity
abbrev pub edited_words : Option Expect → Edit → List ℕ → Result (List ℕ) Cause
edited_words expect edit words = unless (causes_against expect edit words) (words_after edit words)

-- the line has no slave of this number
abbrev pub is_missing : List (List ℕ) → ℕ → Bool
is_missing plant slave = nat_le (length plant) slave

-- one edit of a plant: the plant with the slave's new words, or a cause
abbrev pub edited : List (List ℕ) → Option Expect → Edit → Result (List (List ℕ)) Cause
edited plant expect edit =
    unless
    ((is_missing plant (slave_of edit), NoSlave) ∷ causes_against expect edit (words_of plant (slave_of edit)))
    (slice_set plant (slave_of edit) (words_after edit (words_of plant (slave_of edit))))

-- the edits of a group from this place on, each on what the earlier ones left
abbrev pub edits_from : ℕ → List (List ℕ) → List GuardedEdit → Result (List (List ℕ)) Refusal
edits_from place plant [] = Ok plant
edits_from place plant (first ∷ others) =
    then_validated (of_place place (edited plant first.expect first.edit)) (λ new. edits_from (suc place) new others)

-- why a group with this number of edits is refused, in order
abbrev pub group_causes : ℕ → List (Bool × Cause)
group_causes count =
    (count == 0, EmptyGroup)
    ∷ (nat_lt 64 count, GroupTooLong)
    ∷ []

-- a group is judged by its number of edits, and then edit by edit
abbrev pub grouped : List (List ℕ) → List GuardedEdit → Result (List (List ℕ)) Refusal
grouped plant edits = then_validated (of_entire (unless (group_causes (length edits)) plant)) (λ start. edits_from 0 start edits)

-- an edit without an expected identity
abbrev pub unguarded : Edit → GuardedEdit
unguarded edit = record { expect = None; edit = edit }

-- why a swap is refused, in order
abbrev pub swap_causes : List (List ℕ) → ℕ → ℕ → List (Bool × Cause)
swap_causes plant a b =
    (is_missing plant a || is_missing plant b, NoSlave)
    ∷ (a == b, SameSlave)
    ∷ (is_unchecked (words_of plant a) || is_unchecked (words_of plant b), BadCheck)
    ∷ []

-- the plant with the aliases of two slaves exchanged, or a cause
abbrev pub swapped : List (List ℕ) → ℕ → ℕ → Result (List (List ℕ)) Cause
swapped plant a b =
    unless
    (swap_causes plant a b)
    (slice_set (slice_set plant a (with_alias (words_of plant a) (alias_of (words_of plant b)))) b
    (with_alias (words_of plant b) (alias_of (words_of plant a))))

-- the new plant or the refusal, before the process image is judged
abbrev pub carried_out : List (List ℕ) → Command → Result (List (List ℕ)) Refusal
carried_out plant (One edit) = of_entire (edited plant None edit)
carried_out plant (Swap a b) = of_entire (swapped plant a b)
carried_out plant (Group edits) = grouped plant (map unguarded edits)
carried_out plant (Guarded edits) = grouped plant edits

-- the contents of a line have a process image
unfoldable pub has_process_image : List (List ℕ) → Bool
has_process_image plant = is_some (process_image plant)

-- the new plant, refused if it has no process image
abbrev pub with_process_image : Result (List (List ℕ)) Refusal → Result (List (List ℕ)) Refusal
with_process_image (Ok new) = if has_process_image new then Ok new else Err (entire ImageOverLimit)
with_process_image (Err refusal) = Err refusal

-- the outcome of a command: the new plant, or the refusal
abbrev pub outcome : List (List ℕ) → Command → Result (List (List ℕ)) Refusal
outcome plant command = with_process_image (carried_out plant command)
