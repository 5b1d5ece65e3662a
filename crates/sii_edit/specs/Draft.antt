-- A draft: the slaves of a plant that get new words, in rising order.
use Rattle.std.specs.Prelude.{◌≡◌, ◌<◌, ◌==◌, ℕ, nat_lt, List, [], ◌∷◌, length, map, Option, Some, None, Result, Ok, Err, slice_set, if◌then◌else◌}
use Rattle.sii_words.specs.Plant.{words_of}
use Rattle.sii_edit.specs.declared.slave_words.Name.{Name}
use Rattle.sii_edit.specs.declared.draft.NewWords.{NewWords}
use Rattle.sii_edit.specs.declared.draft.NewWords.TheVariants.{Renamed, Rewritten}
use Rattle.sii_edit.specs.declared.draft.Renewal.{Renewal}
use Rattle.sii_edit.specs.declared.refusal.Cause.{Cause}
use Rattle.sii_edit.specs.declared.refusal.Refusal.{Refusal}
use Rattle.sii_edit.specs.Refusal.{IsCauseOf, IsRefusalOf}

-- the words of a slave with a new alias: words 4 and 7 replaced
abbrev pub named : List ℕ → Name → List ℕ
named words name = slice_set (slice_set words 4 name.alias) 7 name.seven

-- the words of a slave with a new alias, if it gets one
abbrev pub named_as : List ℕ → Option Name → List ℕ
named_as words None = words
named_as words (Some name) = named words name

-- the words of a slave once it has its new ones
abbrev pub renewed : List ℕ → NewWords → List ℕ
renewed words (Renamed name) = named words name
renewed words (Rewritten new) = new

-- the words of a slave once it has its new ones, if it gets any
abbrev pub renewed_as : List ℕ → Option NewWords → List ℕ
renewed_as words None = words
renewed_as words (Some new) = renewed words new

-- newer words put over new words
abbrev pub over : NewWords → NewWords → NewWords
over old (Rewritten words) = Rewritten words
over (Renamed first) (Renamed name) = Renamed name
over (Rewritten words) (Renamed name) = Rewritten (named words name)

-- the plant as the draft makes it
abbrev pub drafted : List (List ℕ) → List Renewal → List (List ℕ)
drafted plant [] = plant
drafted plant (first ∷ others) = slice_set (drafted plant others) first.slave (renewed (words_of plant first.slave) first.new)

-- the slaves that get new words
abbrev pub renewed_slaves : List Renewal → List ℕ
renewed_slaves draft = map (λ r. r.slave) draft

-- the new words of a slave, if it gets any
abbrev pub new_for : List Renewal → ℕ → Option NewWords
new_for [] slave = None
new_for (first ∷ others) slave = if first.slave == slave then Some first.new else new_for others slave

-- the draft once a slave is given new words, over those that it was given before
abbrev pub with_renewal : List Renewal → ℕ → NewWords → List Renewal
with_renewal [] slave new = record { slave = slave; new = new } ∷ []
with_renewal (first ∷ others) slave new =
    if nat_lt first.slave slave then first ∷ with_renewal others slave new
    else if first.slave == slave then record { slave = first.slave; new = over first.new new } ∷ others
    else record { slave = slave; new = new } ∷ first ∷ others

-- there are as many new words as old ones
abbrev pub FitsWords : List ℕ → NewWords → Type 0
FitsWords words (Renamed name) = Unit {0}
FitsWords words (Rewritten new) = length new ≡ length words

-- the draft is one of this plant: its slaves exist, and its new words fit them
abbrev pub IsDraftOf : List (List ℕ) → List Renewal → Type 0
IsDraftOf plant [] = Unit {0}
IsDraftOf plant (first ∷ others) = (first.slave < length plant) × FitsWords (words_of plant first.slave) first.new × IsDraftOf plant others

-- An edit of a slave answers what is judged: its new words, or a cause.
abbrev pub Renews : Result (List ℕ) Cause → List ℕ → Result NewWords Cause → Type 0
Renews validated words (Ok new) = validated ≡ Ok (renewed words new)
Renews validated words (Err cause) = IsCauseOf validated cause

-- A step of a draft answers what is judged: the draft then makes the new plant, or it is unchanged.
abbrev pub IsStep : List (List ℕ) → Result (List (List ℕ)) Cause → List Renewal → List Renewal → Result (Unit {0}) Cause → Type 0
IsStep plant validated old new (Ok done) = IsDraftOf plant new × (validated ≡ Ok (drafted plant new))
IsStep plant validated old new (Err cause) = IsCauseOf validated cause × (new ≡ old)

-- A command carried out in a draft answers what is judged: the draft then makes the new plant. What a refusal leaves in the
-- draft isn't used.
abbrev pub IsCarriedOut : List (List ℕ) → Result (List (List ℕ)) Refusal → List Renewal → Result (Unit {0}) Refusal → Type 0
IsCarriedOut plant validated new (Ok done) = IsDraftOf plant new × (validated ≡ Ok (drafted plant new))
IsCarriedOut plant validated new (Err refusal) = IsRefusalOf validated refusal
