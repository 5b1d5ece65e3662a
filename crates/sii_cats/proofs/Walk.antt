-- Reading the chain: the categories read so far, and the word that is reached.
use Rattle.std.proofs.Common.{◌≡◌, ℕ, ◌+◌, ◌≤◌, List, [], ◌∷◌, ◌++◌, length, map, drop, Result, Ok, Err, refl, sym, ap, subst, ◌∙◌, arith}
use Rattle.std.proofs.lemmas.List.{map_push, length-append, length-take, length-drop, flat_map_more}
use Rattle.std.proofs.lemmas.List.Elements.{All-push, All-nil}
use Rattle.sii_cats.specs.Items.{AreItems}
use Rattle.sii_cats.specs.steps.Items.{items_of}
use Rattle.sii_cats.specs.steps.Items.Front.{Ended, Item, Broken}
use Rattle.sii_cats.specs.declared.categories.Category.{Category}
use Rattle.sii_cats.specs.Chain.{Member, member_words, chain_words, end_of, content_of, member_of, categories_from, ArePlaced, Begins, IsEnd, IsCut, IsChain, IsCutAt, ChainFails}
use Rattle.sii_cats.specs.steps.Chain.{member_at, members_of, IsWalked, RunsOutAt}
use Rattle.sii_cats.specs.declared.fault.ChainFault.{ChainFault}
use Rattle.sii_cats.specs.declared.fault.ChainFault.TheVariants.{Memory, RunsOut}
use Rattle.sii_cats.proofs.Items.{with_front, goes_on, is_done, breaks, items_are, items_again, items_break, items_break_again, AreItems-ends, BreaksAt}
use Rattle.sii_cats.proofs.ChainLaw.{Anything, member_front, member_shrinks, member_broken, member_cut}

pub record Walking (words : List ℕ) (categories : List Category) (at : ℕ) : Type 0 where
  pub so_far : with_front (map (member_of words) categories) (items_of member_at (drop at words)) ≡ members_of words
  pub placed : ArePlaced words categories
  pub here : at ≡ 64 + length (chain_words (map (member_of words) categories))
  pub low : at ≤ length words

front_nil : {X : Type 0} (read : Result (List X) (List ℕ)) → with_front [] read ≡ read
front_nil (Ok xs) = refl
front_nil (Err rest) = refl

pub start : (words : List ℕ) (categories : List Category) → categories ≡ [] → 64 ≤ length words → Walking words categories 64
start words categories none h =
    subst (λ (cs : List Category). Walking words cs 64) (sym none)
    (record { so_far = front_nil (members_of words); placed = record { inside = All-nil (λ c. end_of c ≤ length words); placed = refl }; here = refl; low = h })

categories_from-push : (at : ℕ) (ms : List Member) (m : Member)
    → categories_from at (ms ++ m ∷ []) ≡ categories_from at ms ++ record { kind = m.kind; at = at + length (chain_words ms); count = length m.content } ∷ []
categories_from-push at [] m = let e : at + 0 ≡ at = omega arith in rw e refl
categories_from-push at (x ∷ ms) m =
    let e : at + length (member_words x) + length (chain_words ms) ≡ at + length (chain_words (x ∷ ms)) = omega (arith, length-append (member_words x) (chain_words ms)) in
    ap (λ cs. record { kind = x.kind; at = at; count = length x.content } ∷ cs)
    (categories_from-push (at + length (member_words x)) ms m
    ∙ ap (λ (n : ℕ). categories_from (at + length (member_words x)) ms ++ record { kind = m.kind; at = n; count = length m.content } ∷ []) e)

chain_words-push : (ms : List Member) (m : Member) → chain_words (ms ++ m ∷ []) ≡ chain_words ms ++ member_words m
chain_words-push ms m = sym (flat_map_more member_words [] ms m)

length-content_of : (words : List ℕ) (c : Category) → end_of c ≤ length words → length (content_of words c) ≡ c.count
length-content_of words c inside = omega (arith, length-take c.count (drop (c.at + 2) words), length-drop (c.at + 2) words)

same_category : (c : Category) (at count : ℕ) → at ≡ c.at → count ≡ c.count → record { kind = c.kind; at = at; count = count } ≡ c
same_category c at count e f = rw (e, f) refl

pub more : (words : List ℕ) (categories next : List Category) (at : ℕ) (c : Category) → Walking words categories at → next ≡ categories ++ c ∷ []
    → c.at ≡ at → end_of c ≤ length words → member_at (drop at words) ≡ Item (member_of words c) (drop (end_of c) words) → Walking words next (end_of c)
more words categories next at c w pushed here inside front =
    let m = member_of words c in
    let ms = map (member_of words) categories in
    let all : map (member_of words) (categories ++ c ∷ []) ≡ ms ++ m ∷ [] = map_push (member_of words) categories c in
    let count : length (content_of words c) ≡ c.count = length-content_of words c inside in
    let len : length (chain_words (ms ++ m ∷ [])) ≡ length (chain_words ms) + length (member_words m) = ap length (chain_words-push ms m) ∙ length-append (chain_words ms) (member_words m) in
    let stands : 64 + length (chain_words ms) ≡ c.at = sym w.here ∙ sym here in
    let last : record { kind = m.kind; at = 64 + length (chain_words ms); count = length m.content } ≡ c = same_category c _ _ stands count in
    subst (λ (cs : List Category). Walking words cs (end_of c)) (sym pushed) (record {
      so_far = rw all (goes_on member_at member_shrinks ms (drop at words) m (drop (end_of c) words) (members_of words) front w.so_far);
      placed = record {
        inside = All-push (λ x. end_of x ≤ length words) categories c w.placed.inside inside;
        placed = ap (λ cs. cs ++ c ∷ []) w.placed.placed ∙ ap (λ x. categories_from 64 ms ++ x ∷ []) (sym last) ∙ sym (categories_from-push 64 ms m) ∙ ap (categories_from 64) (sym all);
      };
      here = rw all (omega (arith, len, count, w.here, here));
      low = inside;
    })

pub walked : (words : List ℕ) (categories : List Category) (at : ℕ) → Walking words categories at → member_at (drop at words) ≡ Ended → IsWalked words categories at
walked words categories at w e =
    record { read = is_done member_at (map (member_of words) categories) (drop at words) (members_of words) e w.so_far; placed = w.placed; ended = w.here; low = w.low }

pub cut : (words : List ℕ) (categories : List Category) (at : ℕ) → Walking words categories at → member_at (drop at words) ≡ Broken → members_of words ≡ Err (drop at words)
cut words categories at w e = breaks member_at (map (member_of words) categories) (drop at words) (members_of words) e w.so_far

-- ---- what is answered

pub header_fault : (words : List ℕ) (categories : List Category) (at : ℕ) (fault : ChainFault) → Walking words categories at
    → ChainFails (λ k. (k ≡ at) × (member_at (drop at words) ≡ Broken)) fault → ChainFails (RunsOutAt words) fault
header_fault words categories at Memory w h = tt
header_fault words categories at (RunsOut k) w h = subst (RunsOutAt words) (sym h.0) (cut words categories at w h.1, w.low)

pub chain_is : (words : List ℕ) (ms : List Member) → members_of words ≡ Ok ms → IsChain words ms
chain_is words ms e = items_are Anything member_at Begins IsEnd member_front (drop 64 words) ms tt e

pub chain_again : (words : List ℕ) (ms : List Member) → IsChain words ms → members_of words ≡ Ok ms
chain_again words ms h = items_again Anything member_at Begins IsEnd member_front member_shrinks (drop 64 words) ms h

pub chain_fault : (words : List ℕ) (fault : ChainFault) → ChainFails (RunsOutAt words) fault → ChainFails (IsCutAt words) fault
chain_fault words Memory h = tt
chain_fault words (RunsOut at) h =
    let items = items_break Anything member_at Begins IsEnd member_front member_shrinks (drop at words) (drop 64 words) tt h.0 in (
      items.0,
      AreItems-ends Begins (BreaksAt member_at (drop at words)) (λ rest. IsCut rest × (rest ≡ drop at words) × (at ≤ length words))
          (λ rest b. (member_broken rest b.1, b.0, h.1)) (drop 64 words) items.0 items.1,
    )

cut_inside : (words : List ℕ) (at : ℕ) (cells : List ℕ) (ms : List Member) → AreItems Begins (λ rest. IsCut rest × (rest ≡ drop at words) × (at ≤ length words)) cells ms → at ≤ length words
cut_inside words at cells [] h = h.2
cut_inside words at cells (m ∷ ms) h = cut_inside words at h.0 ms h.2

pub cut_again : (words : List ℕ) (at : ℕ) → IsCutAt words at → (members_of words ≡ Err (drop at words)) × (at ≤ length words)
cut_again words at h = (
  items_break_again Anything member_at Begins IsEnd member_front member_shrinks (drop at words) (drop 64 words) h.0
      (AreItems-ends Begins (λ rest. IsCut rest × (rest ≡ drop at words) × (at ≤ length words)) (BreaksAt member_at (drop at words))
      (λ rest b. (b.1, member_cut rest b.0)) (drop 64 words) h.0 h.1),
  cut_inside words at (drop 64 words) h.0 h.1,
)
