-- One run: what it gives to a word, and redo of it.
use Rattle.std.proofs.Common.{◌≡◌, ◌≢◌, ◌⊎◌, ℕ, zero, suc, ◌+◌, ◌-◌, ◌<◌, ◌≤◌, List, [], ◌∷◌, ◌++◌, length, get_or, slice_get, refl, sym, ap, ◌∙◌, inl, inr, arith, Some, None, unwrap_or, ne_of_lt, slice_set, length-set, length-append, get_or-set_same, get_or-set_other}
use Rattle.std.specs.Option.{option_or}
use Rattle.std.proofs.lemmas.Bool.{cases_eq, cases_lt, cases_order}
use Rattle.std.proofs.lemmas.Bool.Decides.{nat_tests}
use Rattle.std.proofs.lemmas.Option.{slice_get_past}
use Rattle.sii_words.specs.Plant.{words_of, with_word}
use Rattle.sii_words.specs.declared.run.Run.{Run}
use Rattle.sii_words.specs.Redo.{given_by, last_given, redone, LiesInside, SameShape}
use Rattle.sii_words.proofs.RedoLaws.{redone-nil, redone-same, redone-append, option_or-none, same_plants, word-redone, length-redone, length-words_of-redone, SameShape-redone}

-- a run of one word
abbrev pub one_word : ℕ → ℕ → ℕ → Run
one_word slave at word = record { slave = slave; first = at; words = word ∷ [] }

-- the run with one more word in front
abbrev pub longer : ℕ → ℕ → ℕ → Run → Run
longer slave at word run = record { slave = slave; first = at; words = word ∷ run.words }

-- what a run gives to a word from its first on, to one before, and to a word of another slave
pub given_word : (run : Run) (slave at : ℕ) → run.slave ≡ slave → run.first ≤ at → given_by run slave at ≡ slice_get run.words (at - run.first)
given_word run slave at same first = grind (arith, nat_tests)

pub given_before : (run : Run) (slave at : ℕ) → at < run.first → given_by run slave at ≡ None
given_before run slave at before = grind (arith, nat_tests)

pub given_other : (run : Run) (slave at : ℕ) → run.slave ≢ slave → given_by run slave at ≡ None
given_other run slave at other = grind (arith, nat_tests)

next_get : (word : ℕ) (words : List ℕ) (n k : ℕ) → n ≡ suc k → slice_get (word ∷ words) n ≡ slice_get words k
next_get word words n k more = rw more refl

first_get : (word : ℕ) (words : List ℕ) (n : ℕ) → n ≡ 0 → slice_get (word ∷ words) n ≡ Some word
first_get word words n none = rw none refl

-- a longer run gives what the run does, and its first word
pub given_longer : (run : Run) (slave at word s w : ℕ) → run.slave ≡ slave → run.first ≡ suc at
    → given_by (longer slave at word run) s w ≡ option_or (given_by run s w) (given_by (one_word slave at word) s w)
given_longer run slave at word s w of first = elim (cases_eq slave s) [
  | inr other ↦ rw (given_other (longer slave at word run) s w other, given_other run s w (λ same. other (sym of ∙ same)), given_other (one_word slave at word) s w other) refl
  | inl same ↦ elim (cases_order w at) [
    | inl here ↦ rw (given_word (longer slave at word run) s w same (omega arith), first_get word run.words (w - at) (omega arith), given_before run s w (omega arith), given_word (one_word slave at word) s w same (omega arith), first_get word [] (w - at) (omega arith)) refl
    | inr (inl before) ↦ rw (given_before (longer slave at word run) s w before, given_before run s w (omega arith), given_before (one_word slave at word) s w before) refl
    | inr (inr after) ↦ rw (given_word (longer slave at word run) s w same (omega arith), next_get word run.words (w - at) (w - run.first) (omega arith), given_word run s w (of ∙ same) (omega arith), given_word (one_word slave at word) s w same (omega arith), next_get word [] (w - at) (w - run.first) (omega arith), option_or-none (slice_get run.words (w - run.first))) refl
  ]
]

-- the first word of a run
pub given_first : (slave at word : ℕ) → given_by (one_word slave at word) slave at ≡ Some word
given_first slave at word = given_word (one_word slave at word) slave at refl (omega arith) ∙ first_get word [] (at - at) (omega arith)

pub given_past : (slave at word w : ℕ) → at < w → given_by (one_word slave at word) slave w ≡ None
given_past slave at word w past = given_word (one_word slave at word) slave w refl (omega arith) ∙ next_get word [] (w - at) (w - suc at) (omega arith)

-- what stands at the end of a list, and behind it
get_last : (words : List ℕ) (word n : ℕ) → n ≡ length words → slice_get (words ++ word ∷ []) n ≡ Some word
get_last [] word n end = rw end refl
get_last (first ∷ words) word n end = rw end (get_last words word (length words) refl)

get_inside : (words : List ℕ) (word n : ℕ) → n < length words → slice_get (words ++ word ∷ []) n ≡ slice_get words n
get_inside [] word n inside = absurd (omega arith)
get_inside (first ∷ words) word zero inside = refl
get_inside (first ∷ words) word (suc n) inside = get_inside words word n (omega arith)

-- a run with one more word behind gives what the run does, and its last word
given_appended : (run : Run) (word s w : ℕ)
    → given_by (record { slave = run.slave; first = run.first; words = run.words ++ word ∷ [] }) s w ≡ option_or (given_by (one_word run.slave (run.first + length run.words) word) s w) (given_by run s w)
given_appended run word s w = elim (cases_eq run.slave s) [
  | inr other ↦ rw (given_other appended s w other, given_other last s w other, given_other run s w other) refl
  | inl same ↦ elim (cases_lt w run.first) [
    | inl before ↦ rw (given_before appended s w before, given_before last s w (omega arith), given_before run s w before) refl
    | inr there ↦ rw (given_word appended s w same there, given_word run s w same there) (after same there (cases_order w (run.first + length run.words)))
  ]
]
  where
    appended : Run
    appended = record { slave = run.slave; first = run.first; words = run.words ++ word ∷ [] }

    last : Run
    last = one_word run.slave (run.first + length run.words) word

    after : run.slave ≡ s → run.first ≤ w → (w ≡ run.first + length run.words) ⊎ ((w < run.first + length run.words) ⊎ (run.first + length run.words < w))
        → slice_get (run.words ++ word ∷ []) (w - run.first) ≡ option_or (given_by (one_word run.slave (run.first + length run.words) word) s w) (slice_get run.words (w - run.first))
    after same there (inl is) =
        rw (get_last run.words word (w - run.first) (omega arith), given_word last s w same (omega arith), first_get word [] (w - (run.first + length run.words)) (omega arith)) refl
    after same there (inr (inl inside)) =
        rw (get_inside run.words word (w - run.first) (omega arith), given_before last s w inside) refl
    after same there (inr (inr past)) =
        rw (slice_get_past (run.words ++ word ∷ []) (w - run.first) (omega (arith, length-append run.words (word ∷ []))), slice_get_past run.words (w - run.first) (omega arith), given_word last s w same (omega arith), slice_get_past (word ∷ []) (w - (run.first + length run.words)) (omega arith)) refl

-- a run without words changes nothing
none_in_empty : (slave first s w : ℕ) → given_by (record { slave = slave; first = first; words = [] }) s w ≡ None
none_in_empty slave first s w = elim (cases_eq slave s) [
  | inr other ↦ given_other (record { slave = slave; first = first; words = [] }) s w other
  | inl same ↦ elim (cases_lt w first) [
    | inl before ↦ given_before (record { slave = slave; first = first; words = [] }) s w before
    | inr there ↦ given_word (record { slave = slave; first = first; words = [] }) s w same there ∙ slice_get_past [] (w - first) (omega arith)
  ]
]

pub redone-empty_run : (plant : List (List ℕ)) (slave first : ℕ) → redone plant (record { slave = slave; first = first; words = [] } ∷ []) ≡ plant
redone-empty_run plant slave first =
    redone-same plant (record { slave = slave; first = first; words = [] } ∷ []) [] (none_in_empty slave first) ∙ redone-nil plant

-- a run of one word changes this word
pub redone-one : (plant : List (List ℕ)) (slave at word : ℕ) → slave < length plant → at < length (words_of plant slave)
    → redone plant (one_word slave at word ∷ []) ≡ with_word plant slave at word
redone-one plant slave at word there inside =
    same_plants (redone plant runs) (with_word plant slave at word) (omega (arith, length-redone plant runs, length-set plant slave changed))
    (λ s within. length-words_of-redone plant runs s (here s within) ∙ sym (size s (cases_eq s slave)))
    (λ s w within w_within. word-redone plant runs s w (here s within) (omega (arith, length-words_of-redone plant runs s (here s within))) ∙ one s w (cases_eq s slave) (cases_order w at))
  where
    runs : List Run
    runs = one_word slave at word ∷ []

    changed : List ℕ
    changed = slice_set (words_of plant slave) at word

    here : (s : ℕ) → s < length (redone plant (one_word slave at word ∷ [])) → s < length plant
    here s within = omega (arith, length-redone plant (one_word slave at word ∷ []))

    size : (s : ℕ) → (s ≡ slave) ⊎ (s ≢ slave) → length (words_of (with_word plant slave at word) s) ≡ length (words_of plant s)
    size s (inl same) = rw same (ap length (get_or-set_same plant slave (slice_set (words_of plant slave) at word) [] there) ∙ length-set (words_of plant slave) at word)
    size s (inr other) = ap length (get_or-set_other plant slave s (slice_set (words_of plant slave) at word) [] other)

    one : (s w : ℕ) → (s ≡ slave) ⊎ (s ≢ slave) → (w ≡ at) ⊎ ((w < at) ⊎ (at < w))
        → unwrap_or (last_given (one_word slave at word ∷ []) s w) (get_or (words_of plant s) w 0) ≡ get_or (words_of (with_word plant slave at word) s) w 0
    one s w (inr other) order = rw (given_other (one_word slave at word) s w (λ same. other (sym same)), get_or-set_other plant slave s (slice_set (words_of plant slave) at word) [] other) refl
    one s w (inl same) (inl is) = rw (same, is, given_first slave at word, get_or-set_same plant slave (slice_set (words_of plant slave) at word) [] there) (sym (get_or-set_same (words_of plant slave) at word 0 inside))
    one s w (inl same) (inr (inl before)) = rw (same, given_before (one_word slave at word) slave w before, get_or-set_same plant slave (slice_set (words_of plant slave) at word) [] there) (sym (get_or-set_other (words_of plant slave) at w word 0 (ne_of_lt before)))
    one s w (inl same) (inr (inr past)) = rw (same, given_past slave at word w past, get_or-set_same plant slave (slice_set (words_of plant slave) at word) [] there) (sym (get_or-set_other (words_of plant slave) at w word 0 (λ is. absurd (omega arith))))

-- one word more of a run
pub redone-more : (plant : List (List ℕ)) (run : Run) (word : ℕ) → run.slave < length plant → run.first + length run.words < length (words_of plant run.slave)
    → with_word (redone plant (run ∷ [])) run.slave (run.first + length run.words) word ≡ redone plant (record { slave = run.slave; first = run.first; words = run.words ++ word ∷ [] } ∷ [])
redone-more plant run word there inside =
    let at : ℕ = run.first + length run.words in
    let last : Run = one_word run.slave at word in
    let shape : SameShape plant (redone plant (run ∷ [])) = SameShape-redone plant (run ∷ []) in
    sym (redone-one (redone plant (run ∷ [])) run.slave at word (omega (arith, shape.slaves)) (omega (arith, shape.words run.slave)))
    ∙ sym (redone-append plant (run ∷ []) (last ∷ []))
    ∙ redone-same plant (run ∷ last ∷ []) (record { slave = run.slave; first = run.first; words = run.words ++ word ∷ [] } ∷ []) (λ s w. sym (given_appended run word s w))

-- runs that lie inside a plant lie inside each one of its shape
pub LiesInside-same_shape : (plant other : List (List ℕ)) (run : Run) → SameShape plant other → LiesInside plant run → LiesInside other run
LiesInside-same_shape plant other run shape inside = record { slave = omega (arith, shape.slaves, inside.slave); words = omega (arith, shape.words run.slave, inside.words) }
