-- What a category edit does to the words of a slave, and when it is refused.
use Rattle.std.specs.Prelude.{◌≡◌, ◌≢◌, ℕ, ◌==◌, ◌&&◌, ◌||◌, Bool, false, nat_lt, List, [], ◌∷◌, length, count_by, position, slice_get, All, Option, Some, None, Result, Ok, Err, is_err, if◌then◌else◌}
use Rattle.sii_cats.specs.Chain.{Member, IsChain}
use Rattle.sii_cats.specs.steps.Chain.{members_of}
use Rattle.sii_cats.specs.steps.Strings.{strings_of}
use Rattle.sii_cats.specs.steps.Pdos.{pdos_of}
use Rattle.sii_cats.specs.Splice.{chain_end, spliced, with_chain, IsEdit}

-- the content can't be read as its type asks: strings in type 10, PDOs in types 50 and 51; other contents aren't judged
abbrev pub is_malformed : ℕ → List ℕ → Bool
is_malformed kind content =
    if kind == 10 then is_err (strings_of content) else if kind == 50 then is_err (pdos_of content)
    else if kind == 51 then is_err (pdos_of content) else false

-- a category can't be given this type and content: the type is the end mark, or the content is malformed
abbrev pub is_unfit : ℕ → List ℕ → Bool
is_unfit kind content = kind == 0xFFFF || is_malformed kind content

-- the type of the first category of a chain whose content is malformed
abbrev pub first_malformed : List Member → Option ℕ
first_malformed [] = None
first_malformed (m ∷ ms) = if is_malformed m.kind m.content then Some m.kind else first_malformed ms

-- a category has this type
abbrev pub has_kind : ℕ → Member → Bool
has_kind kind m = m.kind == kind

-- how many categories of a type a chain has
abbrev pub count_of : ℕ → List Member → ℕ
count_of kind ms = count_by (has_kind kind) ms

-- a category is to be removed, and the chain has none of its type
abbrev pub is_absent : ℕ → List ℕ → List Member → Bool
is_absent kind content ms = length content == 0 && count_of kind ms == 0

-- the chain has several categories of this type
abbrev pub is_repeated : ℕ → List Member → Bool
is_repeated kind ms = nat_lt 1 (count_of kind ms)

-- The chain after the edit: the category of the type is replaced in its place, or removed if the content is empty; if there is
-- none, it is added last.
abbrev pub exchanged : ℕ → List ℕ → List Member → List Member
exchanged kind content ms = spliced (position (has_kind kind) ms) kind content ms

-- the new chain passes the end of the words
abbrev pub is_too_long : List ℕ → ℕ → List ℕ → List Member → Bool
is_too_long words kind content ms = nat_lt (length words) (chain_end (exchanged kind content ms))

-- a test of the chain; false where the chain can't be read
abbrev pub if_read : Result (List Member) (List ℕ) → (List Member → Bool) → Bool
if_read (Ok ms) test = test ms
if_read (Err rest) test = false

-- the type of the first malformed category of a chain; none where the chain can't be read
abbrev pub malformed_in : Result (List Member) (List ℕ) → Option ℕ
malformed_in (Ok ms) = first_malformed ms
malformed_in (Err rest) = None

-- the words with the new chain; the same words where the old chain can't be read
abbrev pub rechained : ℕ → List ℕ → List ℕ → Result (List Member) (List ℕ) → List ℕ
rechained kind content words (Ok ms) = with_chain words (exchanged kind content ms)
rechained kind content words (Err rest) = words

-- the words after a category edit
abbrev pub with_category : List ℕ → ℕ → List ℕ → List ℕ
with_category words kind content = rechained kind content words (members_of words)

-- the one place of a category of this type, or None where there is none
abbrev pub IsPlaceOf : ℕ → List Member → Option ℕ → Type 0
IsPlaceOf kind ms None = All (λ m. m.kind ≢ kind) ms
IsPlaceOf kind ms (Some i) = (m : Member) × (slice_get ms i ≡ Some m) × (m.kind ≡ kind)
    × ((j : ℕ) (other : Member) → slice_get ms j ≡ Some other → other.kind ≡ kind → j ≡ i)

-- The new words differ from the old ones in the one category of this type, which is replaced, added last or removed.
pub record ChangesCategory (old : List ℕ) (kind : ℕ) (content new : List ℕ) : Type 0 where
  pub chain : List Member
  pub place : Option ℕ
  pub read : IsChain old chain
  pub one : IsPlaceOf kind chain place
  pub edit : IsEdit old new (spliced place kind content chain)
