-- What image files hold as the work begins, and the edits that write them to their slaves, slave by slave.
use Rattle.std.proofs.Common.{◌≡◌, ℕ, zero, suc, ◌+◌, ◌<◌, ◌≤◌, List, [], ◌∷◌, ◌++◌, length, Option, Some, None, slice_get, refl, ap, sym, subst, ◌∙◌, arith}
use Rattle.sii_words.specs.Plant.{words_of}
use Rattle.sii_edit.specs.declared.command.Command.{Command}
use Rattle.sii_edit.specs.declared.command.Edit.{Edit}
use Rattle.wire_scan.specs.declared.asked.Mend.{Mend}
use Rattle.wire_scan.specs.declared.asked.Mend.TheVariants.{Unsaid}
use Rattle.wire_scan.specs.Keeping.{AreMends, IsEditOf, IsUnsaid, MendsAll, MendsBelow, said_of, together, wanted_words, with_edit}

-- the words of a slave that comes behind the others
at_end : (begun : List (List ℕ)) (image : List ℕ) → words_of (begun ++ image ∷ []) (length begun) ≡ image
at_end [] image = refl
at_end (first ∷ begun) image = at_end begun image

-- and of those before it
at_before : (begun : List (List ℕ)) (image : List ℕ) (slave : ℕ) → slave < length begun → words_of (begun ++ image ∷ []) slave ≡ words_of begun slave
at_before [] image slave inside = absurd (omega (arith, inside))
at_before (first ∷ begun) image zero inside = refl
at_before (first ∷ begun) image (suc slave) inside = at_before begun image slave (omega (arith, inside))

-- of the slaves so far nothing else is said
still : (n : ℕ) (mends : List Mend) (plant found kept begun : List (List ℕ)) (image : List ℕ) (edits : List Edit) → n ≤ length begun
    → MendsBelow n mends plant found kept begun edits → MendsBelow n mends plant found kept (begun ++ image ∷ []) edits
still zero mends plant found kept begun image edits inside below = below
still (suc n) mends plant found kept begun image edits inside below =
    let same : words_of (begun ++ image ∷ []) n ≡ words_of begun n = at_before begun image n (omega (arith, inside)) in
    let P : List ℕ → Type 0 = λ w. IsEditOf n (words_of found n) w (said_of mends n) below.1 in (
      below.0,
      below.1,
      still n mends plant found kept begun image below.0 (omega (arith, inside)) below.2,
      same ∙ below.3,
      subst P (sym same) below.4,
      below.5,
    )

-- one slave more
pub mends_more : (n : ℕ) (mends : List Mend) (plant found kept begun : List (List ℕ)) (edits after : List Edit) (words has own image : List ℕ) (said : Mend) (edit : Option Edit)
    → length begun ≡ n → words ≡ words_of plant n → has ≡ words_of found n → own ≡ words_of kept n → said ≡ said_of mends n
    → image ≡ wanted_words words has own said → IsEditOf n has image said edit → after ≡ with_edit edits edit
    → MendsBelow n mends plant found kept begun edits → MendsBelow (n + 1) mends plant found kept (begun ++ image ∷ []) after
mends_more n mends plant found kept begun edits after words has own image said edit count words_are has_is own_is said_is wanted writes put below =
    let is : suc n ≡ n + 1 = omega arith in
    let now : List (List ℕ) = begun ++ image ∷ [] in
    let here : words_of now n ≡ image = subst (λ (k : ℕ). words_of now k ≡ image) count (at_end begun image) in
    let P : List ℕ → List ℕ → Mend → Type 0 = λ h i s. IsEditOf n h i s edit in
    let by_found : P (words_of found n) image said = subst (λ (h : List ℕ). P h image said) has_is writes in
    let by_image : P (words_of found n) (words_of now n) said = subst (λ (i : List ℕ). P (words_of found n) i said) (sym here) by_found in
    let by_said : P (words_of found n) (words_of now n) (said_of mends n) = subst (λ (s : Mend). P (words_of found n) (words_of now n) s) said_is by_image in
    let is_wanted : image ≡ wanted_words (words_of plant n) (words_of found n) (words_of kept n) (said_of mends n) = rw (sym words_are, sym has_is, sym own_is, sym said_is) wanted in
    subst (λ (k : ℕ). MendsBelow k mends plant found kept now after) is
    (edits, edit, still n mends plant found kept begun image edits (omega (arith, count)) below, here ∙ is_wanted, by_said, put)

-- where nothing is said there is no edit
unsaid_at : (mends : List Mend) (n : ℕ) → IsUnsaid mends → said_of mends n ≡ Unsaid
unsaid_at mends n unsaid = of_found (slice_get mends n) refl where
  of_found : (found : Option Mend) → slice_get mends n ≡ found → said_of mends n ≡ Unsaid
  of_found None is = rw is refl
  of_found (Some said) is = rw is (unsaid n said is)

no_edit : (slave : ℕ) (found image : List ℕ) (said : Mend) (edit : Option Edit) → said ≡ Unsaid → IsEditOf slave found image said edit → edit ≡ None
no_edit slave found image said None is writes = refl
no_edit slave found image said (Some edit) is writes = absurd ((subst (λ (s : Mend). IsEditOf slave found image s (Some edit)) is writes).0)

no_edits : (n : ℕ) (mends : List Mend) (plant found kept begun : List (List ℕ)) (edits : List Edit) → IsUnsaid mends
    → MendsBelow n mends plant found kept begun edits → edits ≡ []
no_edits zero mends plant found kept begun edits unsaid below = below
no_edits (suc n) mends plant found kept begun edits unsaid below =
    let none : below.1 ≡ None = no_edit n (words_of found n) (words_of begun n) (said_of mends n) below.1 (unsaid_at mends n unsaid) below.4 in
    let empty : below.0 ≡ [] = no_edits n mends plant found kept begun below.0 unsaid below.2 in
    below.5 ∙ ap (with_edit below.0) none ∙ empty

pub unsaid : (mends : List Mend) (plant found kept begun : List (List ℕ)) (commands : List Command) → MendsAll mends plant found kept begun commands → AreMends mends commands
unsaid mends plant found kept begun commands all = λ none. all.all ∙ ap together (no_edits (length plant) mends plant found kept begun all.edits none all.each)
