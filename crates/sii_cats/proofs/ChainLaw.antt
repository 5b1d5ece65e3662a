-- Chains: reading the categories one by one gives what the grammar relates to the words.
use Rattle.std.proofs.Common.{◌≡◌, ℕ, ◌<◌, ◌≤◌, Bool, true, false, cond, ltb, eqb, List, [], ◌∷◌, ◌++◌, length, take, drop, refl, sym, ap, ◌∙◌, arith}
use Rattle.std.proofs.lemmas.Bool.{ltb-true, ltb-false, le-ltb, lt-ltb, eqb-true, eqb-false, eq-eqb, ne_eqb}
use Rattle.std.proofs.lemmas.List.{take_at, drop_at, take-append-drop, length-append, length-take}
use Rattle.sii_cats.specs.steps.Items.{Front}
use Rattle.sii_cats.specs.steps.Items.Front.{Ended, Item, Broken}
use Rattle.sii_cats.specs.Chain.{Member, member_words, Begins, IsEnd, IsCut}
use Rattle.sii_cats.specs.steps.Chain.{content_at, member_at}
use Rattle.sii_cats.proofs.Items.{Shrinks, IsFront}

-- any words do
abbrev pub Anything : List ℕ → Type 0
Anything cells = Unit {0}

-- a content that is whole
content_item : (kind count : ℕ) (words : List ℕ) (x : Member) (rest : List ℕ) (b : Bool)
    → cond {A = Front Member} b Broken (Item (record { kind = kind; content = take count words }) (drop count words)) ≡ Item x rest
    → (b ≡ false) × (record { kind = kind; content = take count words } ≡ x) × (drop count words ≡ rest)
content_item kind count words x rest true e = absurd cc
content_item kind count words x rest false e = (refl, cc, cc)

not_ended_by : (kind count : ℕ) (words : List ℕ) (b : Bool) → cond {A = Front Member} b Broken (Item (record { kind = kind; content = take count words }) (drop count words)) ≡ Ended → ⊥
not_ended_by kind count words true e = cc
not_ended_by kind count words false e = cc

content_not_ended : (kind : ℕ) (words : List ℕ) → content_at kind words ≡ Ended → ⊥
content_not_ended kind [] e = cc
content_not_ended kind (count ∷ words) e = not_ended_by kind count words (ltb (length words) count) e

content_broken : (kind count : ℕ) (words : List ℕ) (b : Bool) → cond {A = Front Member} b Broken (Item (record { kind = kind; content = take count words }) (drop count words)) ≡ Broken → b ≡ true
content_broken kind count words true e = refl
content_broken kind count words false e = absurd cc

-- whether the end mark stands in front
when_ended : (b : Bool) (front : Front Member) → (front ≡ Ended → ⊥) → cond b Ended front ≡ Ended → b ≡ true
when_ended true front never e = refl
when_ended false front never e = absurd (never e)

when_item : (b : Bool) (front : Front Member) (x : Member) (rest : List ℕ) → cond b Ended front ≡ Item x rest → (b ≡ false) × (front ≡ Item x rest)
when_item true front x rest e = absurd cc
when_item false front x rest e = (refl, e)

when_broken : (b : Bool) (front : Front Member) → cond b Ended front ≡ Broken → (b ≡ false) × (front ≡ Broken)
when_broken true front e = absurd cc
when_broken false front e = (refl, e)

member_ended : (cells : List ℕ) → member_at cells ≡ Ended → IsEnd cells
member_ended [] e = tt
member_ended (kind ∷ words) e = eqb-true kind 0xFFFF (when_ended (eqb kind 0xFFFF) (content_at kind words) (content_not_ended kind words) e)

member_at_end : (cells : List ℕ) → IsEnd cells → member_at cells ≡ Ended
member_at_end [] h = refl
member_at_end (kind ∷ words) h = ap (λ b. cond b Ended (content_at kind words)) (eq-eqb kind 0xFFFF h)

member_takes : (cells : List ℕ) (x : Member) (rest : List ℕ) → Anything cells → member_at cells ≡ Item x rest → Begins cells x rest × Anything rest
member_takes [] x rest good e = absurd cc
member_takes (kind ∷ []) x rest good e = let w = when_item (eqb kind 0xFFFF) Broken x rest e in let broken : Broken ≡ Item x rest = w.1 in absurd cc
member_takes (kind ∷ count ∷ words) x rest good e =
    let w = when_item (eqb kind 0xFFFF) (content_at kind (count ∷ words)) x rest e in
    let i = content_item kind count words x rest (ltb (length words) count) w.1 in
    let long : count ≤ length words = ltb-false _ _ i.0 in
    let len : length (take count words) ≡ count = omega (arith, length-take count words) in
    let made : Member = record { kind = kind; content = take count words } in
    let spelt : kind ∷ count ∷ words ≡ member_words made ++ drop count words =
    sym (ap (λ (n : ℕ). kind ∷ n ∷ (take count words ++ drop count words)) len ∙ ap (λ (t : List ℕ). kind ∷ count ∷ t) (take-append-drop count words)) in
    let entire : kind ∷ count ∷ words ≡ member_words x ++ rest = spelt ∙ ap (λ (m : Member). member_words m ++ drop count words) i.1 ∙ ap (λ (r : List ℕ). member_words x ++ r) i.2 in
    let same : kind ≡ x.kind = ap (λ (m : Member). m.kind) i.1 in
    ((λ mark. eqb-false kind 0xFFFF w.0 (same ∙ mark), entire), tt)

member_again : (cells : List ℕ) (x : Member) (rest : List ℕ) → Begins cells x rest → member_at cells ≡ Item x rest
member_again cells x rest h =
    let long : ltb (length (x.content ++ rest)) (length x.content) ≡ false = le-ltb _ _ (omega (arith, length-append x.content rest)) in
    ap member_at h.1 ∙ rw (ne_eqb x.kind 0xFFFF h.0, long, take_at x.content rest (length x.content) refl, drop_at x.content rest (length x.content) refl) refl

pub member_broken : (cells : List ℕ) → member_at cells ≡ Broken → IsCut cells
member_broken [] e = absurd cc
member_broken (kind ∷ []) e = eqb-false kind 0xFFFF (when_broken (eqb kind 0xFFFF) Broken e).0
member_broken (kind ∷ count ∷ words) e =
    let w = when_broken (eqb kind 0xFFFF) (content_at kind (count ∷ words)) e in
    (eqb-false kind 0xFFFF w.0, ltb-true _ _ (content_broken kind count words (ltb (length words) count) w.1))

pub member_cut : (cells : List ℕ) → IsCut cells → member_at cells ≡ Broken
member_cut [] h = absurd h
member_cut (kind ∷ []) h = ap (λ b. cond {A = Front Member} b Ended Broken) (ne_eqb kind 0xFFFF h)
member_cut (kind ∷ count ∷ words) h = rw (ne_eqb kind 0xFFFF h.0, lt-ltb (length words) count h.1) refl

pub member_front : IsFront Anything member_at Begins IsEnd
member_front = record { ended = member_ended; at_end = member_at_end; takes = member_takes; again = member_again }

member_shorter : (cells : List ℕ) (x : Member) (rest : List ℕ) → member_at cells ≡ Item x rest → length rest < length cells
member_shorter cells x rest e =
    let b = member_takes cells x rest tt e in
    omega (arith, ap length b.0.1, length-append x.content rest)

pub member_shrinks : Shrinks member_at
member_shrinks = record { shorter = member_shorter }
