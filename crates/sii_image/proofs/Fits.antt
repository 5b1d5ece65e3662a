-- Items that stand one behind the other have no more cells than the list that they stand in.
use Rattle.std.proofs.Common.{ℕ, ◌+◌, ◌≤◌, List, [], ◌∷◌, Result, Ok, Err, length, drop, map, sum_by, ap, arith, length-append, length-drop}
use Rattle.std.specs.Prelude.{IfOk}
use Rattle.std.specs.Global.{Vec}
use Rattle.std.proofs.lemmas.List.Sums.{sum_by-cons}
use Rattle.sii_cats.specs.Chain.{AnswersChain, Begins, IsChain, IsEnd, Member, content_of, member_of, member_words}
use Rattle.sii_cats.specs.Items.{AreItems}
use Rattle.sii_cats.specs.declared.categories.Category.{Category}
use Rattle.sii_cats.specs.declared.fault.ChainFault.{ChainFault}
use Rattle.sii_image.specs.steps.Contents.{content_sizes}

abbrev Shortens : {X : Type 0} → (List ℕ → X → List ℕ → Type 0) → (X → ℕ) → Type 0
Shortens {X} Begins size = (cells : List ℕ) (x : X) (rest : List ℕ) → Begins cells x rest → size x + length rest ≤ length cells

items_fit : {X : Type 0} (Begins : List ℕ → X → List ℕ → Type 0) (Ends : List ℕ → Type 0) (size : X → ℕ) → Shortens Begins size
    → (cells : List ℕ) (xs : List X) → AreItems Begins Ends cells xs → sum_by size xs ≤ length cells
items_fit Begins Ends size fits cells [] h = omega arith
items_fit Begins Ends size fits cells (x ∷ xs) h = omega (arith, sum_by-cons size x xs, fits cells x h.0 h.1, items_fit Begins Ends size fits h.0 xs h.2)

member_fits : Shortens Begins (λ (m : Member). length m.content)
member_fits cells m rest h = omega (arith, ap length h.1, length-append (member_words m) rest)

-- a category takes the words of its content
members_fit : (words : List ℕ) (members : List Member) → IsChain words members → sum_by (λ m. length m.content) members ≤ length words
members_fit words members h =
    omega (arith, length-drop 64 words, items_fit Begins IsEnd (λ (m : Member). length m.content) member_fits (drop 64 words) members h)

sizes_of_members : (words : List ℕ) (categories : List Category) → content_sizes words categories ≤ sum_by (λ m. length m.content) (map (member_of words) categories)
sizes_of_members words [] = omega arith
sizes_of_members words (c ∷ categories) =
    omega (
      arith,
      sum_by-cons (λ (x : Category). length (content_of words x)) c categories,
      sum_by-cons (λ (m : Member). length m.content) (member_of words c) (map (member_of words) categories),
      sizes_of_members words categories,
    )

-- the contents of a chain's categories have no more words than there are
categories_fit : (words : List ℕ) (categories : List Category) → IsChain words (map (member_of words) categories) → content_sizes words categories ≤ length words
categories_fit words categories h = omega (arith, sizes_of_members words categories, members_fit words (map (member_of words) categories) h)

-- what reading the chain answers is no longer than the words
pub read_fits : (words : List ℕ) (read : Result (Vec Category) ChainFault) → length words ≤ 4096
    → AnswersChain (λ v. map (member_of words) v.items) words read → IfOk read (λ v. content_sizes words v.items ≤ 4096)
read_fits words (Ok v) h chain = omega (arith, categories_fit words v.items chain)
read_fits words (Err fault) h chain = tt
