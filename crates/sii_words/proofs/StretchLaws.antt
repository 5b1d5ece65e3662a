-- The stretches in which the words of a slave differ: what they name, where they lie, and in which order they come.
use Rattle.std.proofs.Common.{◌≡◌, ◌≢◌, ◌⊎◌, ℕ, zero, suc, ◌+◌, ◌<◌, ◌≤◌, List, [], ◌∷◌, ◌++◌, length, get_or, set, take, drop, refl, sym, ap, ◌∙◌, inl, inr, arith, All, AllPairs, Some, None, add-zero, append_assoc}
use Rattle.std.specs.Option.{option_or}
use Rattle.std.proofs.lemmas.Bool.{cases_eq}
use Rattle.std.proofs.lemmas.Bool.Decides.{nat_tests}
use Rattle.std.proofs.lemmas.List.Elements.{All-nil, All-cons, All-head, All-tail, All-append, All-weaker}
use Rattle.std.proofs.lemmas.List.Kept.{AllPairs-cons}
use Rattle.sii_words.specs.declared.run.Run.{Run}
use Rattle.sii_words.specs.Redo.{given_by, last_given}
use Rattle.sii_words.specs.Run.{with_first, stretches, StandsBefore, change}
use Rattle.sii_words.proofs.RedoLaws.{option_or-none, option_or-assoc}
use Rattle.sii_words.proofs.GivenLaws.{given_before, given_first, given_longer, given_other, given_past, longer, one_word}

-- the run has a word, and its words are words of this slave from one place up to another
pub record Within (owner from end : ℕ) (run : Run) : Type 0 where
  pub owned : run.slave ≡ owner
  pub begins : from ≤ run.first
  pub ends : run.first + length run.words ≤ end
  pub some : 0 < length run.words

with_first-joined : (slave at word : ℕ) (run : Run) (runs : List Run) → run.first ≡ suc at → with_first slave at word (run ∷ runs) ≡ longer slave at word run ∷ runs
with_first-joined slave at word run runs next = grind (arith, nat_tests)

with_first-separate : (slave at word : ℕ) (run : Run) (runs : List Run) → run.first ≢ suc at → with_first slave at word (run ∷ runs) ≡ one_word slave at word ∷ run ∷ runs
with_first-separate slave at word run runs separate = grind (arith, nat_tests)

same_front : (slave at old new : ℕ) (olds news : List ℕ) → old ≡ new → stretches slave at (old ∷ olds) (new ∷ news) ≡ stretches slave (suc at) olds news
same_front slave at old new olds news same = grind (arith, nat_tests)

other_front : (slave at old new : ℕ) (olds news : List ℕ) → old ≢ new → stretches slave at (old ∷ olds) (new ∷ news) ≡ with_first slave at new (stretches slave (suc at) olds news)
other_front slave at old new olds news other = grind (arith, nat_tests)

-- one more changed word
last_given-with_first : (slave at word : ℕ) (runs : List Run) (s w : ℕ) → All (λ run. run.slave ≡ slave) runs
    → last_given (with_first slave at word runs) s w ≡ option_or (last_given runs s w) (given_by (one_word slave at word) s w)
last_given-with_first slave at word [] s w of = refl
last_given-with_first slave at word (run ∷ runs) s w of = elim (cases_eq run.first (suc at)) [
  | inl next ↦ rw (with_first-joined slave at word run runs next, given_longer run slave at word s w (All-head (λ r. r.slave ≡ slave) run runs of) next) (sym (option_or-assoc (last_given runs s w) (given_by run s w) (given_by (one_word slave at word) s w)))
  | inr separate ↦ rw (with_first-separate slave at word run runs separate) refl
]

Within-later : (owner from end : ℕ) (run : Run) → Within owner (suc from) end run → Within owner from end run
Within-later owner from end run within = record { owned = within.owned; begins = omega arith; ends = within.ends; some = within.some }

Within-one : (owner at end word : ℕ) → at < end → Within owner at end (one_word owner at word)
Within-one owner at end word inside = record { owned = refl; begins = omega arith; ends = omega arith; some = omega arith }

Within-longer : (owner at end word : ℕ) (run : Run) → Within owner (suc at) end run → run.first ≡ suc at → Within owner at end (longer owner at word run)
Within-longer owner at end word run within next = record { owned = refl; begins = omega arith; ends = omega (arith, within.ends); some = omega arith }

Within-with_first : (owner at end word : ℕ) (runs : List Run) → at < end → All (Within owner (suc at) end) runs → All (Within owner at end) (with_first owner at word runs)
Within-with_first owner at end word [] inside within = All-cons (Within owner at end) (one_word owner at word) [] (Within-one owner at end word inside) (All-nil (Within owner at end))
Within-with_first owner at end word (run ∷ runs) inside within = elim (cases_eq run.first (suc at)) [
  | inl next ↦ rw (with_first-joined owner at word run runs next) (All-cons (Within owner at end) (longer owner at word run) runs (Within-longer owner at end word run here next) (All-tail (Within owner at end) run runs later))
  | inr separate ↦ rw (with_first-separate owner at word run runs separate) (All-cons (Within owner at end) (one_word owner at word) (run ∷ runs) (Within-one owner at end word inside) later)
]
  where
    here : Within owner (suc at) end run
    here = All-head (Within owner (suc at) end) run runs within

    later : All (Within owner at end) (run ∷ runs)
    later = All-weaker (Within owner (suc at) end) (Within owner at end) (Within-later owner at end) (run ∷ runs) within

-- the stretches of a slave lie inside its words
pub Within-stretches : (slave at end : ℕ) (olds news : List ℕ) → end ≡ at + length olds → All (Within slave at end) (stretches slave at olds news)
Within-stretches slave at end [] news size = All-nil (Within slave at end)
Within-stretches slave at end (old ∷ olds) [] size = All-nil (Within slave at end)
Within-stretches slave at end (old ∷ olds) (new ∷ news) size =
    let rest : All (Within slave (suc at) end) (stretches slave (suc at) olds news) = Within-stretches slave (suc at) end olds news (omega arith) in
    elim (cases_eq old new) [
      | inl same ↦ rw (same_front slave at old new olds news same) (All-weaker (Within slave (suc at) end) (Within slave at end) (Within-later slave at end) (stretches slave (suc at) olds news) rest)
      | inr other ↦ rw (other_front slave at old new olds news other) (Within-with_first slave at end new (stretches slave (suc at) olds news) (omega arith) rest)
    ]

-- a run of a slave gives nothing to a word outside
none_given : (owner from end : ℕ) (s w : ℕ) → (s ≢ owner) ⊎ (w < from) → (run : Run) → Within owner from end run → given_by run s w ≡ None
none_given owner from end s w (inl other) run within = given_other run s w (λ same. other (sym same ∙ within.owned))
none_given owner from end s w (inr before) run within = given_before run s w (omega (arith, within.begins))

none_last_given : (runs : List Run) (s w : ℕ) → All (λ run. given_by run s w ≡ None) runs → last_given runs s w ≡ None
none_last_given [] s w none = refl
none_last_given (run ∷ runs) s w none =
    rw (none_last_given runs s w (All-tail (λ r. given_by r s w ≡ None) run runs none)) (All-head (λ r. given_by r s w ≡ None) run runs none)

-- the stretches of a slave give nothing to another, nor to a word before their place
pub stretches-elsewhere : (slave at s w : ℕ) (olds news : List ℕ) → (s ≢ slave) ⊎ (w < at) → last_given (stretches slave at olds news) s w ≡ None
stretches-elsewhere slave at s w olds news away =
    none_last_given (stretches slave at olds news) s w
    (All-weaker (Within slave at (at + length olds)) (λ run. given_by run s w ≡ None) (none_given slave at (at + length olds) s w away) (stretches slave at olds news)
    (Within-stretches slave at (at + length olds) olds news refl))

pub same_change : (old new : ℕ) → old ≡ new → change old new ≡ None
same_change old new same = grind (arith, nat_tests)

pub other_change : (old new : ℕ) → old ≢ new → change old new ≡ Some new
other_change old new other = grind (arith, nat_tests)

pub owned_stretches : (slave at : ℕ) (olds news : List ℕ) → All (λ run. run.slave ≡ slave) (stretches slave at olds news)
owned_stretches slave at olds news =
    All-weaker (Within slave at (at + length olds)) (λ run. run.slave ≡ slave) (λ run within. within.owned) (stretches slave at olds news) (Within-stretches slave at (at + length olds) olds news refl)

-- the stretches give each word that differs its new value
pub last_given-stretches : (slave at : ℕ) (olds news : List ℕ) (k : ℕ) → length news ≡ length olds → k < length olds
    → last_given (stretches slave at olds news) slave (at + k) ≡ change (get_or olds k 0) (get_or news k 0)
last_given-stretches slave at [] news k size within = absurd (omega arith)
last_given-stretches slave at (old ∷ olds) [] k size within = absurd (omega arith)
last_given-stretches slave at (old ∷ olds) (new ∷ news) zero size within =
    let rest : last_given (stretches slave (suc at) olds news) slave at ≡ None = stretches-elsewhere slave (suc at) slave at olds news (inr (omega arith)) in
    elim (cases_eq old new) [
      | inl same ↦ rw (add-zero, same_front slave at old new olds news same, rest, same_change old new same) refl
      | inr other ↦ rw (add-zero, other_front slave at old new olds news other, last_given-with_first slave at new (stretches slave (suc at) olds news) slave at (owned_stretches slave (suc at) olds news), rest, given_first slave at new, other_change old new other) refl
    ]
last_given-stretches slave at (old ∷ olds) (new ∷ news) (suc k) size within =
    let rest : last_given (stretches slave (suc at) olds news) slave (suc at + k) ≡ change (get_or olds k 0) (get_or news k 0) = last_given-stretches slave (suc at) olds news k (omega arith) (omega arith) in
    let place : at + suc k ≡ suc at + k = omega arith in
    elim (cases_eq old new) [
      | inl same ↦ rw (place, same_front slave at old new olds news same) rest
      | inr other ↦ rw (place, other_front slave at old new olds news other, last_given-with_first slave at new (stretches slave (suc at) olds news) slave (suc at + k) (owned_stretches slave (suc at) olds news), given_past slave at new (suc at + k) (omega arith), option_or-none (last_given (stretches slave (suc at) olds news) slave (suc at + k))) rest
    ]

-- pairs of a list in order
pub AllPairs-nil : {X : Type 0} (R : X → X → Type 0) → AllPairs R []
AllPairs-nil R = λ i j d before within. absurd (omega arith)

AllPairs-head : {X : Type 0} (R : X → X → Type 0) (x : X) (xs : List X) → AllPairs R (x ∷ xs) → All (R x) xs
AllPairs-head R x xs pairs = λ k d within. pairs 0 (suc k) d (omega arith) (omega arith)

AllPairs-tail : {X : Type 0} (R : X → X → Type 0) (x : X) (xs : List X) → AllPairs R (x ∷ xs) → AllPairs R xs
AllPairs-tail R x xs pairs = λ i j d before within. pairs (suc i) (suc j) d (omega arith) (omega arith)

pub AllPairs-append : {X : Type 0} (R : X → X → Type 0) (xs ys : List X) → AllPairs R xs → AllPairs R ys → All (λ x. All (R x) ys) xs → AllPairs R (xs ++ ys)
AllPairs-append {X} R [] ys first second across = second
AllPairs-append {X} R (x ∷ xs) ys first second across =
    let here : All (R x) ys = All-head (λ (z : X). All (R z) ys) x xs across in
    let later : All (λ (z : X). All (R z) ys) xs = All-tail (λ (z : X). All (R z) ys) x xs across in
    AllPairs-cons R x (xs ++ ys) (All-append (R x) xs ys (AllPairs-head R x xs first) here) (AllPairs-append R xs ys (AllPairs-tail R x xs first) second later)

-- the run with one more word in front stands before the same runs
StandsBefore-longer : (slave at word : ℕ) (run : Run) → run.slave ≡ slave → run.first ≡ suc at → (other : Run) → StandsBefore run other → StandsBefore (longer slave at word run) other
StandsBefore-longer slave at word run of next other (inl before) = inl (omega arith)
StandsBefore-longer slave at word run of next other (inr (same, afterwards)) = inr (sym of ∙ same, omega arith)

-- a run of one word stands before those that begin behind the next word
StandsBefore-one : (slave at word : ℕ) (other : Run) → other.slave ≡ slave → suc at < other.first → StandsBefore (one_word slave at word) other
StandsBefore-one slave at word other of afterwards = inr (sym of, omega arith)

after_first : (owner from end at : ℕ) (run other : Run) → run.slave ≡ owner → at < run.first → Within owner from end other → StandsBefore run other → at < other.first
after_first owner from end at run other of afterwards within (inl before) = absurd (omega (arith, within.owned))
after_first owner from end at run other of afterwards within (inr (same, after)) = omega arith

-- those that begin after the next word all stand behind this one
ahead_of_all : (slave at word end : ℕ) (run : Run) (runs : List Run) → run.first ≢ suc at → All (Within slave (suc at) end) (run ∷ runs) → All (StandsBefore run) runs
    → All (StandsBefore (one_word slave at word)) (run ∷ runs)
ahead_of_all slave at word end run runs separate within before =
    let here : Within slave (suc at) end run = All-head (Within slave (suc at) end) run runs within in
    let afterwards : suc at < run.first = omega (arith, here.begins) in
    All-cons (StandsBefore (one_word slave at word)) run runs (StandsBefore-one slave at word run here.owned afterwards)
    (λ k d inside.
    let other : Run = get_or runs k d in
    let there : Within slave (suc at) end other = All-tail (Within slave (suc at) end) run runs within k d inside in
    StandsBefore-one slave at word other there.owned (after_first slave (suc at) end (suc at) run other here.owned afterwards there (before k d inside)))

rising-with_first : (slave at end word : ℕ) (runs : List Run) → All (Within slave (suc at) end) runs → AllPairs StandsBefore runs → AllPairs StandsBefore (with_first slave at word runs)
rising-with_first slave at end word [] within rising = AllPairs-cons StandsBefore (one_word slave at word) [] (All-nil (StandsBefore (one_word slave at word))) rising
rising-with_first slave at end word (run ∷ runs) within rising = elim (cases_eq run.first (suc at)) [
  | inl next ↦ rw (with_first-joined slave at word run runs next) (AllPairs-cons StandsBefore (longer slave at word run) runs (All-weaker (StandsBefore run) (StandsBefore (longer slave at word run)) (StandsBefore-longer slave at word run owned next) runs before) (AllPairs-tail StandsBefore run runs rising))
  | inr separate ↦ rw (with_first-separate slave at word run runs separate) (AllPairs-cons StandsBefore (one_word slave at word) (run ∷ runs) (ahead_of_all slave at word end run runs separate within before) rising)
]
  where
    before : All (StandsBefore run) runs
    before = AllPairs-head StandsBefore run runs rising

    owned : run.slave ≡ slave
    owned = (All-head (Within slave (suc at) end) run runs within).owned

pub rising-stretches : (slave at : ℕ) (olds news : List ℕ) → AllPairs StandsBefore (stretches slave at olds news)
rising-stretches slave at [] news = AllPairs-nil StandsBefore
rising-stretches slave at (old ∷ olds) [] = AllPairs-nil StandsBefore
rising-stretches slave at (old ∷ olds) (new ∷ news) = elim (cases_eq old new) [
  | inl same ↦ rw (same_front slave at old new olds news same) (rising-stretches slave (suc at) olds news)
  | inr other ↦ rw (other_front slave at old new olds news other) (rising-with_first slave at (suc at + length olds) new (stretches slave (suc at) olds news) (Within-stretches slave (suc at) (suc at + length olds) olds news refl) (rising-stretches slave (suc at) olds news))
]

-- the same words have no stretches
pub stretches-same : (slave at : ℕ) (words : List ℕ) → stretches slave at words words ≡ []
stretches-same slave at [] = refl
stretches-same slave at (word ∷ words) = rw (same_front slave at word word words words refl) (stretches-same slave (suc at) words)

-- the stretches after a word that stays begin after it
begins_after : (slave at word : ℕ) (olds news : List ℕ) → (0 < length olds → get_or olds 0 0 ≡ get_or news 0 0) → length olds ≡ length news
    → with_first slave at word (stretches slave (suc at) olds news) ≡ one_word slave at word ∷ stretches slave (suc at) olds news
begins_after slave at word [] news stays size = refl
begins_after slave at word (old ∷ olds) [] stays size = refl
begins_after slave at word (old ∷ olds) (new ∷ news) stays size =
    rw (same_front slave (suc at) old new olds news (stays (omega arith))) (separate (stretches slave (suc (suc at)) olds news) (Within-stretches slave (suc (suc at)) (suc (suc at) + length olds) olds news refl))
  where
    separate : (runs : List Run) → All (Within slave (suc (suc at)) (suc (suc at) + length olds)) runs → with_first slave at word runs ≡ one_word slave at word ∷ runs
    separate [] within = refl
    separate (run ∷ runs) within = with_first-separate slave at word run runs (λ next. absurd (omega (arith, (All-head (Within slave (suc (suc at)) (suc (suc at) + length olds)) run runs within).begins)))

-- words that differ up to one that stays, or to the end, are one run
pub stretches-block : (slave at n : ℕ) (olds news : List ℕ) → length olds ≡ length news → n < length olds
    → ((k : ℕ) → k < suc n → get_or olds k 0 ≢ get_or news k 0) → (suc n < length olds → get_or olds (suc n) 0 ≡ get_or news (suc n) 0)
    → stretches slave at olds news ≡ record { slave = slave; first = at; words = take (suc n) news } ∷ stretches slave (at + suc n) (drop (suc n) olds) (drop (suc n) news)
stretches-block slave at n [] news size within differ stays = absurd (omega arith)
stretches-block slave at n (old ∷ olds) [] size within differ stays = absurd (omega arith)
stretches-block slave at zero (old ∷ olds) (new ∷ news) size within differ stays =
    let place : at + 1 ≡ suc at = omega arith in
    rw (other_front slave at old new olds news (differ 0 (omega arith)), begins_after slave at new olds news (λ some. stays (omega arith)) (omega arith), place) refl
stretches-block slave at (suc n) (old ∷ olds) (new ∷ news) size within differ stays =
    let rest = stretches-block slave (suc at) n olds news (omega arith) (omega arith) (λ k below. differ (suc k) (omega arith)) (λ more. stays (omega arith)) in
    let place : suc at + suc n ≡ at + suc (suc n) = omega arith in
    rw (other_front slave at old new olds news (differ 0 (omega arith)), rest, place) (with_first-joined slave at new (record { slave = slave; first = suc at; words = take (suc n) news }) (stretches slave (at + suc (suc n)) (drop (suc n) olds) (drop (suc n) news)) refl)

-- the next stretch, as many words as differ
pub next_stretch : (done all : List Run) (slave at count : ℕ) (olds news : List ℕ) → length olds ≡ length news → 0 < length olds
    → get_or olds 0 0 ≢ get_or news 0 0 → count ≤ length olds → ((k : ℕ) → k < count → get_or olds k 0 ≢ get_or news k 0)
    → (count < length olds → get_or olds count 0 ≡ get_or news count 0) → done ++ stretches slave at olds news ≡ all
    → (done ++ record { slave = slave; first = at; words = take count news } ∷ []) ++ stretches slave (at + count) (drop count olds) (drop count news) ≡ all
next_stretch done all slave at zero olds news size some first most differ stays is = absurd (first (stays some))
next_stretch done all slave at (suc n) olds news size some first most differ stays is =
    append_assoc done (record { slave = slave; first = at; words = take (suc n) news } ∷ []) (stretches slave (at + suc n) (drop (suc n) olds) (drop (suc n) news))
    ∙ ap (λ (runs : List Run). done ++ runs) (sym (stretches-block slave at n olds news size (omega arith) differ stays)) ∙ is

-- one word that may change, and no other after it
last_word : (slave at old new : ℕ) (words : List ℕ) → stretches slave at (old ∷ words) (new ∷ words) ≡ stretches slave at (old ∷ []) (new ∷ [])
last_word slave at old new words = elim (cases_eq old new) [
  | inl same ↦ rw (same_front slave at old new words words same, stretches-same slave (suc at) words, same_front slave at old new [] [] same) refl
  | inr other ↦ rw (other_front slave at old new words words other, stretches-same slave (suc at) words, other_front slave at old new [] [] other) refl
]

-- one word that may change, and a word after it that stays
first_word : (slave at old new word : ℕ) (olds news : List ℕ) → length olds ≡ length news
    → stretches slave at (old ∷ word ∷ olds) (new ∷ word ∷ news) ≡ stretches slave at (old ∷ []) (new ∷ []) ++ stretches slave (suc at) (word ∷ olds) (word ∷ news)
first_word slave at old new word olds news size = elim (cases_eq old new) [
  | inl same ↦ rw (same_front slave at old new (word ∷ olds) (word ∷ news) same, same_front slave at old new [] [] same) refl
  | inr other ↦ rw (other_front slave at old new (word ∷ olds) (word ∷ news) other, other_front slave at old new [] [] other) (begins_after slave at new (word ∷ olds) (word ∷ news) (λ some. refl) (omega arith))
]

-- words 4 and 7 that may change
pub stretches-two_words : (slave four seven : ℕ) (words : List ℕ) → 7 < length words
    → stretches slave 0 words (set (set words 4 four) 7 seven) ≡ stretches slave 4 (get_or words 4 0 ∷ []) (four ∷ []) ++ stretches slave 7 (get_or words 7 0 ∷ []) (seven ∷ [])
stretches-two_words slave four seven (a ∷ b ∷ c ∷ d ∷ e ∷ f ∷ g ∷ h ∷ words) long =
    same_front slave 0 a a (b ∷ c ∷ d ∷ e ∷ f ∷ g ∷ h ∷ words) (b ∷ c ∷ d ∷ four ∷ f ∷ g ∷ seven ∷ words) refl
    ∙ same_front slave 1 b b (c ∷ d ∷ e ∷ f ∷ g ∷ h ∷ words) (c ∷ d ∷ four ∷ f ∷ g ∷ seven ∷ words) refl
    ∙ same_front slave 2 c c (d ∷ e ∷ f ∷ g ∷ h ∷ words) (d ∷ four ∷ f ∷ g ∷ seven ∷ words) refl
    ∙ same_front slave 3 d d (e ∷ f ∷ g ∷ h ∷ words) (four ∷ f ∷ g ∷ seven ∷ words) refl
    ∙ first_word slave 4 e four f (g ∷ h ∷ words) (g ∷ seven ∷ words) (omega arith)
    ∙ ap (λ (runs : List Run). stretches slave 4 (e ∷ []) (four ∷ []) ++ runs) (
    same_front slave 5 f f (g ∷ h ∷ words) (g ∷ seven ∷ words) refl
    ∙ same_front slave 6 g g (h ∷ words) (seven ∷ words) refl
    ∙ last_word slave 7 h seven words
    )
stretches-two_words slave four seven words long = absurd (omega arith)
