-- Category edits of words whose chain can be read.
use Rattle.std.proofs.Common.{◌≡◌, ◌≢◌, ◌⊎◌, ◌+◌, ◌<◌, ◌≤◌, ℕ, suc, ◌==◌, Bool, true, false, cond, not, nat_lt, List, [], ◌∷◌, ◌++◌, length, map, IsErrAnd, Option, Some, None, Result, Ok, Err, is_err, refl, sym, ap, ◌∙◌, inl, inr, arith, append-nil}
use Rattle.std.proofs.lemmas.Bool.{ne_eqb, le-ltb, lt-ltb}
use Rattle.std.specs.Prelude.{count_by, position}
use Rattle.std.specs.List.{position_or_len}
use Rattle.std.proofs.lemmas.List.{drop_all}
use Rattle.std.proofs.lemmas.List.Sums.{sum_by-cons}
use Rattle.sii_cats.specs.declared.categories.Category.{Category}
use Rattle.sii_cats.specs.declared.fault.CatFault.{CatFault}
use Rattle.sii_cats.specs.declared.fault.CatFault.TheVariants as fault
use Rattle.sii_cats.specs.Chain.{Member, member_of}
use Rattle.sii_cats.specs.steps.Chain.{members_of}
use Rattle.sii_cats.specs.Splice.{chain_end, spliced, with_chain, SpliceFails}
use Rattle.sii_edit.specs.declared.command.Expect.{Expect}
use Rattle.sii_edit.specs.declared.refusal.Cause.{Cause}
use Rattle.sii_edit.specs.declared.refusal.Cause.TheVariants.{WrongIdentity, NoSuchCategory, SeveralCategories, BadCategory, NoRoom, BadChain}
use Rattle.sii_edit.specs.Category.{has_kind, count_of, is_absent, is_repeated, is_unfit, is_too_long, if_read, exchanged, rechained, with_category}
use Rattle.sii_edit.specs.Command.{category_causes}
use Rattle.sii_edit.specs.Guard.{is_other}
use Rattle.sii_edit.specs.Image.{with_front}
use Rattle.sii_edit.specs.Refusal.{unless, cause_of_category, IsCauseOf, IsAnswer, IsVerdict}
use Rattle.sii_edit.proofs.ShapeLaws.{length-with_chain, within}
use Rattle.sii_edit.proofs.UnlessLaws.{unless-stop, unless-pass}

pub count-cons : {X : Type 0} (p : X → Bool) (x : X) (xs : List X) → count_by p (x ∷ xs) ≡ cond (p x) 1 0 + count_by p xs
count-cons p x xs = sum_by-cons (λ y. cond (p y) 1 0) x xs

-- the categories by their places have the types of the members
pub count-members : (words : List ℕ) (kind : ℕ) (categories : List Category) → count_of kind (map (member_of words) categories) ≡ count_by (λ c. c.kind == kind) categories
count-members words kind [] = refl
count-members words kind (c ∷ categories) =
    count-cons (has_kind kind) (member_of words c) (map (member_of words) categories)
    ∙ ap (λ (n : ℕ). cond (c.kind == kind) 1 0 + n) (count-members words kind categories)
    ∙ sym (count-cons (λ (d : Category). d.kind == kind) c categories)

position_or_len-members : (words : List ℕ) (kind : ℕ) (categories : List Category) → position_or_len (has_kind kind) (map (member_of words) categories) ≡ position_or_len (λ c. c.kind == kind) categories
position_or_len-members words kind [] = refl
position_or_len-members words kind (c ∷ categories) = ap (λ (n : ℕ). cond (not (c.kind == kind)) (1 + n) 0) (position_or_len-members words kind categories)

length-members : (words : List ℕ) (categories : List Category) → length (map (member_of words) categories) ≡ length categories
length-members words [] = refl
length-members words (c ∷ categories) = omega (arith, length-members words categories)

pub place-members : (words : List ℕ) (kind : ℕ) (categories : List Category) → position (has_kind kind) (map (member_of words) categories) ≡ position (λ c. c.kind == kind) categories
place-members words kind categories =
    ap (λ (at : ℕ). cond (nat_lt at (length (map (member_of words) categories))) (Some at) None) (position_or_len-members words kind categories)
    ∙ ap (λ (size : ℕ). cond (nat_lt (position_or_len (λ c. c.kind == kind) categories) size) (Some (position_or_len (λ c. c.kind == kind) categories)) None) (length-members words categories)

-- where there is no place, there is no category
count_step : {X : Type 0} (p : X → Bool) (xs : List X) (b : Bool) → (length xs ≤ position_or_len p xs → count_by p xs ≡ 0)
    → suc (length xs) ≤ cond (not b) (1 + position_or_len p xs) 0 → cond b 1 0 + count_by p xs ≡ 0
count_step p xs true others past = absurd (omega arith)
count_step p xs false others past = omega (arith, others (omega arith))

count_none : {X : Type 0} (p : X → Bool) (xs : List X) → length xs ≤ position_or_len p xs → count_by p xs ≡ 0
count_none p [] past = refl
count_none p (x ∷ xs) past = count-cons p x xs ∙ count_step p xs (p x) (count_none p xs) past

no_place : (test : Bool) (at : ℕ) → cond test (Some at) None ≡ None → test ≡ false
no_place true at is = cc
no_place false at is = refl

pub count-None : {X : Type 0} (p : X → Bool) (xs : List X) → position p xs ≡ None → count_by p xs ≡ 0
count-None p xs is = count_none p xs (within (length xs) (position_or_len p xs) (no_place (nat_lt (position_or_len p xs) (length xs)) (position_or_len p xs) is))

-- ---- what is judged

-- the categories that there are aren't fewer than asked for, nor more
pub not_absent : (content : List ℕ) (kind count : ℕ) (ms : List Member) (empty : Bool) → empty ≡ (length content == 0) → ((empty ≡ true) × (count ≢ 0)) ⊎ (empty ≡ false)
    → count ≡ count_of kind ms → is_absent kind content ms ≡ false
not_absent content kind count ms empty is (inl there) same =
    let some : count_of kind ms ≢ 0 = λ none. there.1 (same ∙ none) in rw (sym is ∙ there.0, ne_eqb (count_of kind ms) 0 some) refl
not_absent content kind count ms empty is (inr words) same = rw (sym is ∙ words) refl

-- an empty content, with no category of its type
pub none_left : (content : List ℕ) (count : ℕ) (empty : Bool) → empty ≡ (length content == 0) → ((empty ≡ true) × (count ≢ 0)) ⊎ (empty ≡ false) → content ≡ [] → count ≡ 0 → ⊥
none_left content count empty is (inl there) nothing none = there.1 none
none_left content count empty is (inr words) nothing none = let test : empty ≡ true = is ∙ ap (λ (ws : List ℕ). length ws == 0) nothing in cc

pub not_repeated : (kind count : ℕ) (ms : List Member) → count ≤ 1 → count ≡ count_of kind ms → is_repeated kind ms ≡ false
not_repeated kind count ms few same = le-ltb 1 (count_of kind ms) (omega arith)

-- the causes that are left then
abbrev pub left_causes : List ℕ → ℕ → List ℕ → List Member → List (Bool × Cause)
left_causes words kind content ms = (is_unfit kind content, BadCategory kind) ∷ (is_too_long words kind content ms, NoRoom) ∷ []

pub validated_left : (words : List ℕ) (kind : ℕ) (content : List ℕ) (ms : List Member) → members_of words ≡ Ok ms → is_absent kind content ms ≡ false → is_repeated kind ms ≡ false
    → unless (category_causes None words kind content) (with_category words kind content) ≡ unless (left_causes words kind content ms) (with_chain words (exchanged kind content ms))
validated_left words kind content ms read there once =
    let new : List ℕ = with_chain words (exchanged kind content ms) in
    ap (λ (r : Result (List Member) (List ℕ)). unless (
    (if_read r (is_absent kind content), NoSuchCategory)
    ∷ (if_read r (is_repeated kind), SeveralCategories)
    ∷ (is_unfit kind content, BadCategory kind)
    ∷ (if_read r (is_too_long words kind content), NoRoom)
    ∷ (is_err r, BadChain)
    ∷ []) (rechained kind content words r)) read
    ∙ unless-pass (is_absent kind content ms) NoSuchCategory ((is_repeated kind ms, SeveralCategories) ∷ left_causes words kind content ms) new there
    ∙ unless-pass (is_repeated kind ms) SeveralCategories (left_causes words kind content ms) new once

-- a cause found by the first test
first_found : {A B : Type 0} (test : Bool) (first cause : Cause) (tests : List (Bool × Cause)) (given : A) (other : B) → unless ((test, first) ∷ []) given ≡ Err cause → unless ((test, first) ∷ tests) other ≡ Err cause
first_found true first cause tests given other is = let same : first ≡ cause = cc in ap (λ (c : Cause). Err c) same
first_found false first cause tests given other is = cc

pub first_passed : {A : Type 0} (test : Bool) (first : Cause) (given new : A) → unless ((test, first) ∷ []) given ≡ Ok new → test ≡ false
first_passed true first given new is = cc
first_passed false first given new is = refl

pub answered : {A : Type 0} (validated result : Result A Cause) (cause : Cause) → IsErrAnd result (λ error. error ≡ cause) → IsCauseOf validated cause → IsAnswer validated result
answered validated (Ok given) cause gave is = absurd gave
answered validated (Err error) cause gave is = rw gave is

-- a content that is refused
pub content_refused : (validated : Result (List ℕ) Cause) (words : List ℕ) (kind : ℕ) (content : List ℕ) (ms : List Member) (new : List ℕ) (cause : Cause)
    → validated ≡ unless (left_causes words kind content ms) new → IsVerdict ((is_unfit kind content, BadCategory kind) ∷ []) (Err cause) → IsCauseOf validated cause
content_refused validated words kind content ms new cause left (inl is) =
    let nothing : Unit {0} = tt in inl (left ∙ first_found (is_unfit kind content) (BadCategory kind) cause ((is_too_long words kind content ms, NoRoom) ∷ []) nothing new is)
content_refused validated words kind content ms new cause left (inr memory) = inr memory

-- a chain that doesn't fit
pub splice_refused : (validated : Result (List ℕ) Cause) (words : List ℕ) (kind : ℕ) (content : List ℕ) (ms : List Member) (new : List ℕ) (place : Option ℕ) (why : CatFault)
    → validated ≡ unless (left_causes words kind content ms) new → is_unfit kind content ≡ false → members_of words ≡ Ok ms → place ≡ position (has_kind kind) ms
    → SpliceFails words place kind content why → IsCauseOf validated (cause_of_category why)
splice_refused validated words kind content ms new place fault.Memory left fit read here fails = inr refl
splice_refused validated words kind content ms new place (fault.RunsOut at) left fit read here fails = let no = fails.0 in cc
splice_refused validated words kind content ms new place (fault.BadCategory k) left fit read here fails = absurd fails
splice_refused validated words kind content ms new place fault.NoRoom left fit read here fails =
    let same : fails.0 ≡ ms = let other = fails.1 in cc in
    let long : length words < chain_end (exchanged kind content ms) = rw (same, here) at fails.2 in
    inl (left ∙ unless-pass (is_unfit kind content) (BadCategory kind) ((is_too_long words kind content ms, NoRoom) ∷ []) new fit
    ∙ unless-stop (is_too_long words kind content ms) NoRoom [] new (lt-ltb (length words) (chain_end (exchanged kind content ms)) long))

-- the words with the new chain
pub splice_accepted : (validated : Result (List ℕ) Cause) (words : List ℕ) (kind : ℕ) (content : List ℕ) (ms others : List Member) (place : Option ℕ) (new copy : List ℕ)
    → validated ≡ unless (left_causes words kind content ms) (with_chain words (exchanged kind content ms)) → is_unfit kind content ≡ false → members_of words ≡ Ok ms → place ≡ position (has_kind kind) ms
    → members_of words ≡ Ok others → chain_end (spliced place kind content others) ≤ length words → new ≡ with_chain words (spliced place kind content others) → copy ≡ with_front words new
    → validated ≡ Ok copy
splice_accepted validated words kind content ms others place new copy left fit read here also room made copied =
    let same : others ≡ ms = cc in
    let made' : new ≡ with_chain words (exchanged kind content ms) = rw (same, here) at made in
    let room' : chain_end (exchanged kind content ms) ≤ length words = rw (same, here) at room in
    let size : length new ≡ length words = ap length made' ∙ length-with_chain words (exchanged kind content ms) room' in
    let entire : copy ≡ new = copied ∙ ap (λ (rest : List ℕ). new ++ rest) (drop_all (length new) words (omega arith)) ∙ append-nil new in
    left ∙ unless-pass (is_unfit kind content) (BadCategory kind) ((is_too_long words kind content ms, NoRoom) ∷ []) (with_chain words (exchanged kind content ms)) fit
    ∙ unless-pass (is_too_long words kind content ms) NoRoom [] (with_chain words (exchanged kind content ms)) (le-ltb (length words) (chain_end (exchanged kind content ms)) room')
    ∙ ap (λ (w : List ℕ). Ok w) (sym (entire ∙ made'))

-- what is left of the causes where the chain can't be read
pub validated_unread : (expect : Option Expect) (words : List ℕ) (kind : ℕ) (content rest : List ℕ) → members_of words ≡ Err rest → is_other expect words ≡ false
    → unless (category_causes expect words kind content) (with_category words kind content) ≡ unless ((is_unfit kind content, BadCategory kind) ∷ (true, BadChain) ∷ []) words
validated_unread expect words kind content rest unread same =
    ap (λ (r : Result (List Member) (List ℕ)). unless (
    (is_other expect words, WrongIdentity)
    ∷ (if_read r (is_absent kind content), NoSuchCategory)
    ∷ (if_read r (is_repeated kind), SeveralCategories)
    ∷ (is_unfit kind content, BadCategory kind)
    ∷ (if_read r (is_too_long words kind content), NoRoom)
    ∷ (is_err r, BadChain)
    ∷ []) (rechained kind content words r)) unread
    ∙ unless-pass (is_other expect words) WrongIdentity ((is_unfit kind content, BadCategory kind) ∷ (true, BadChain) ∷ []) words same

-- a content that is refused before the chain is
pub content_unread : (expect : Option Expect) (words : List ℕ) (kind : ℕ) (content rest : List ℕ) (cause : Cause) → members_of words ≡ Err rest → is_other expect words ≡ false
    → IsVerdict ((is_unfit kind content, BadCategory kind) ∷ []) (Err cause) → IsCauseOf (unless (category_causes expect words kind content) (with_category words kind content)) cause
content_unread expect words kind content rest cause unread same (inl is) =
    let nothing : Unit {0} = tt in
    inl (validated_unread expect words kind content rest unread same ∙ first_found (is_unfit kind content) (BadCategory kind) cause ((true, BadChain) ∷ []) nothing words is)
content_unread expect words kind content rest cause unread same (inr memory) = inr memory
