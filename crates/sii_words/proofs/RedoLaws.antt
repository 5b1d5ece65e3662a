-- Redo, word by word: what it makes of a plant is determined by the values last given.
use Rattle.std.proofs.Common.{◌≡◌, ◌⊎◌, ℕ, zero, suc, ◌+◌, ◌<◌, ◌≤◌, List, [], ◌∷◌, ◌++◌, length, get_or, refl, sym, ap, ap₂, ◌∙◌, inl, inr, arith, Option, Some, None, unwrap_or, ext_get_or, add-suc, suc-add, add-zero, zero-add}
use Rattle.std.specs.Option.{option_or}
use Rattle.std.proofs.lemmas.Bool.{cases_lt}
use Rattle.std.proofs.lemmas.List.{get_or_past}
use Rattle.sii_words.specs.Plant.{words_of}
use Rattle.sii_words.specs.declared.run.Run.{Run}
use Rattle.sii_words.specs.Redo.{given_by, last_given, redone_words, redone_from, redone, SameShape, AgreeElsewhere}

pub option_or-none : {A : Type 0} (given : Option A) → option_or given None ≡ given
option_or-none None = refl
option_or-none (Some value) = refl

pub option_or-assoc : {A : Type 0} (a b c : Option A) → option_or (option_or a b) c ≡ option_or a (option_or b c)
option_or-assoc None b c = refl
option_or-assoc (Some value) b c = refl

unwrap_or-option_or : {A : Type 0} (a b : Option A) (word : A) → unwrap_or (option_or a b) word ≡ unwrap_or a (unwrap_or b word)
unwrap_or-option_or None b word = refl
unwrap_or-option_or (Some value) b word = refl

-- later runs go first
pub last_given-append : (xs ys : List Run) (slave at : ℕ) → last_given (xs ++ ys) slave at ≡ option_or (last_given ys slave at) (last_given xs slave at)
last_given-append [] ys slave at = sym (option_or-none (last_given ys slave at))
last_given-append (x ∷ xs) ys slave at =
    ap (λ (given : Option ℕ). option_or given (given_by x slave at)) (last_given-append xs ys slave at)
    ∙ option_or-assoc (last_given ys slave at) (last_given xs slave at) (given_by x slave at)

-- redo keeps how many slaves and words there are
pub length-redone_words : (runs : List Run) (slave at : ℕ) (words : List ℕ) → length (redone_words runs slave at words) ≡ length words
length-redone_words runs slave at [] = refl
length-redone_words runs slave at (word ∷ words) = omega (arith, length-redone_words runs slave (suc at) words)

length-redone_from : (runs : List Run) (slave : ℕ) (plant : List (List ℕ)) → length (redone_from runs slave plant) ≡ length plant
length-redone_from runs slave [] = refl
length-redone_from runs slave (words ∷ plant) = omega (arith, length-redone_from runs (suc slave) plant)

pub length-redone : (plant : List (List ℕ)) (runs : List Run) → length (redone plant runs) ≡ length plant
length-redone plant runs = length-redone_from runs 0 plant

-- a word of a slave from a place on
word_redone_from : (runs : List Run) (slave at : ℕ) (words : List ℕ) (k : ℕ) → k < length words
    → get_or (redone_words runs slave at words) k 0 ≡ unwrap_or (last_given runs slave (at + k)) (get_or words k 0)
word_redone_from runs slave at [] k within = absurd (omega arith)
word_redone_from runs slave at (word ∷ words) zero within = rw (add-zero) refl
word_redone_from runs slave at (word ∷ words) (suc k) within =
    rw (add-suc at k, ← suc-add at k) (word_redone_from runs slave (suc at) words k (omega arith))

words_redone_from : (runs : List Run) (first : ℕ) (plant : List (List ℕ)) (slave : ℕ) → slave < length plant
    → get_or (redone_from runs first plant) slave [] ≡ redone_words runs (first + slave) 0 (get_or plant slave [])
words_redone_from runs first [] slave within = absurd (omega arith)
words_redone_from runs first (words ∷ plant) zero within = rw (add-zero) refl
words_redone_from runs first (words ∷ plant) (suc slave) within =
    rw (add-suc first slave, ← suc-add first slave) (words_redone_from runs (suc first) plant slave (omega arith))

-- the words of one slave
pub words_of-redone : (plant : List (List ℕ)) (runs : List Run) (slave : ℕ) → slave < length plant
    → words_of (redone plant runs) slave ≡ redone_words runs slave 0 (words_of plant slave)
words_of-redone plant runs slave within = rw zero-add at (words_redone_from runs 0 plant slave within)

-- one word
pub word-redone : (plant : List (List ℕ)) (runs : List Run) (slave at : ℕ) → slave < length plant → at < length (words_of plant slave)
    → get_or (words_of (redone plant runs) slave) at 0 ≡ unwrap_or (last_given runs slave at) (get_or (words_of plant slave) at 0)
word-redone plant runs slave at slave_within within =
    ap (λ (words : List ℕ). get_or words at 0) (words_of-redone plant runs slave slave_within)
    ∙ rw zero-add at (word_redone_from runs slave 0 (words_of plant slave) at within)

pub length-words_of-redone : (plant : List (List ℕ)) (runs : List Run) (slave : ℕ) → slave < length plant
    → length (words_of (redone plant runs) slave) ≡ length (words_of plant slave)
length-words_of-redone plant runs slave within =
    ap length (words_of-redone plant runs slave within) ∙ length-redone_words runs slave 0 (words_of plant slave)

-- two plants of one shape are equal where their words are
pub same_plants : (plant other : List (List ℕ)) → length plant ≡ length other
    → ((slave : ℕ) → slave < length plant → length (words_of plant slave) ≡ length (words_of other slave))
    → ((slave at : ℕ) → slave < length plant → at < length (words_of plant slave) → get_or (words_of plant slave) at 0 ≡ get_or (words_of other slave) at 0)
    → plant ≡ other
same_plants plant other slaves shape words =
    ext_get_or [] plant other slaves (λ slave within. ext_get_or 0 (words_of plant slave) (words_of other slave) (shape slave within) (λ at inside. words slave at within inside))

-- redo of more runs is redo of the first ones and then of the others
redone_words-append : (xs ys : List Run) (slave at : ℕ) (words : List ℕ)
    → redone_words (xs ++ ys) slave at words ≡ redone_words ys slave at (redone_words xs slave at words)
redone_words-append xs ys slave at [] = refl
redone_words-append xs ys slave at (word ∷ words) =
    ap₂ (λ (w : ℕ) (ws : List ℕ). w ∷ ws)
    (ap (λ (given : Option ℕ). unwrap_or given word) (last_given-append xs ys slave at) ∙ unwrap_or-option_or (last_given ys slave at) (last_given xs slave at) word)
    (redone_words-append xs ys slave (suc at) words)

redone_from-append : (xs ys : List Run) (slave : ℕ) (plant : List (List ℕ))
    → redone_from (xs ++ ys) slave plant ≡ redone_from ys slave (redone_from xs slave plant)
redone_from-append xs ys slave [] = refl
redone_from-append xs ys slave (words ∷ plant) =
    ap₂ (λ (w : List ℕ) (p : List (List ℕ)). w ∷ p) (redone_words-append xs ys slave 0 words) (redone_from-append xs ys (suc slave) plant)

pub redone-append : (plant : List (List ℕ)) (xs ys : List Run) → redone plant (xs ++ ys) ≡ redone (redone plant xs) ys
redone-append plant xs ys = redone_from-append xs ys 0 plant

-- no runs, no change
redone_words-nil : (slave at : ℕ) (words : List ℕ) → redone_words [] slave at words ≡ words
redone_words-nil slave at [] = refl
redone_words-nil slave at (word ∷ words) = ap (λ (ws : List ℕ). word ∷ ws) (redone_words-nil slave (suc at) words)

redone_from-nil : (slave : ℕ) (plant : List (List ℕ)) → redone_from [] slave plant ≡ plant
redone_from-nil slave [] = refl
redone_from-nil slave (words ∷ plant) =
    ap₂ (λ (w : List ℕ) (p : List (List ℕ)). w ∷ p) (redone_words-nil slave 0 words) (redone_from-nil (suc slave) plant)

pub redone-nil : (plant : List (List ℕ)) → redone plant [] ≡ plant
redone-nil plant = redone_from-nil 0 plant

-- redo keeps the shape
pub SameShape-redone : (plant : List (List ℕ)) (runs : List Run) → SameShape plant (redone plant runs)
SameShape-redone plant runs = record { slaves = length-redone plant runs; words = λ slave. size slave (cases_lt slave (length plant)) }
  where
    size : (slave : ℕ) → (slave < length plant) ⊎ (length plant ≤ slave) → length (words_of (redone plant runs) slave) ≡ length (words_of plant slave)
    size slave (inl within) = length-words_of-redone plant runs slave within
    size slave (inr past) = rw (get_or_past (redone plant runs) slave [] (omega (arith, length-redone plant runs)), get_or_past plant slave [] past) refl

-- redo depends on the values last given alone
redone_words-same : (xs ys : List Run) (slave at : ℕ) (words : List ℕ) → ((w : ℕ) → last_given xs slave w ≡ last_given ys slave w)
    → redone_words xs slave at words ≡ redone_words ys slave at words
redone_words-same xs ys slave at [] same = refl
redone_words-same xs ys slave at (word ∷ words) same =
    ap₂ (λ (w : ℕ) (ws : List ℕ). w ∷ ws) (ap (λ (given : Option ℕ). unwrap_or given word) (same at)) (redone_words-same xs ys slave (suc at) words same)

redone_from-same : (xs ys : List Run) (first : ℕ) (plant : List (List ℕ)) → ((slave at : ℕ) → last_given xs slave at ≡ last_given ys slave at)
    → redone_from xs first plant ≡ redone_from ys first plant
redone_from-same xs ys first [] same = refl
redone_from-same xs ys first (words ∷ plant) same =
    ap₂ (λ (w : List ℕ) (p : List (List ℕ)). w ∷ p) (redone_words-same xs ys first 0 words (same first)) (redone_from-same xs ys (suc first) plant same)

pub redone-same : (plant : List (List ℕ)) (xs ys : List Run) → ((slave at : ℕ) → last_given xs slave at ≡ last_given ys slave at)
    → redone plant xs ≡ redone plant ys
redone-same plant xs ys same = redone_from-same xs ys 0 plant same

-- a word that a run names may hold anything before
unwrap_or-elsewhere : (given : Option ℕ) (word other : ℕ) → (given ≡ None → other ≡ word) → unwrap_or given other ≡ unwrap_or given word
unwrap_or-elsewhere None word other same = same refl
unwrap_or-elsewhere (Some value) word other same = refl

pub redone-elsewhere : (plant other : List (List ℕ)) (runs : List Run) → AgreeElsewhere runs plant other → redone other runs ≡ redone plant runs
redone-elsewhere plant other runs agree =
    let shape = agree.shape in
    same_plants (redone other runs) (redone plant runs) (omega (arith, length-redone other runs, length-redone plant runs, shape.slaves))
    (λ slave within. length-words_of-redone other runs slave (there slave within) ∙ shape.words slave ∙ sym (length-words_of-redone plant runs slave (here slave within)))
    (λ slave at within inside. word slave at (there slave within) (omega (arith, length-words_of-redone other runs slave (there slave within))))
  where
    there : (slave : ℕ) → slave < length (redone other runs) → slave < length other
    there slave within = omega (arith, length-redone other runs)

    here : (slave : ℕ) → slave < length (redone other runs) → slave < length plant
    here slave within = omega (arith, length-redone other runs, agree.shape.slaves)

    word : (slave at : ℕ) → slave < length other → at < length (words_of other slave) → get_or (words_of (redone other runs) slave) at 0 ≡ get_or (words_of (redone plant runs) slave) at 0
    word slave at within inside =
        rw (word-redone other runs slave at within inside, word-redone plant runs slave at (omega (arith, agree.shape.slaves)) (omega (arith, agree.shape.words slave)))
        (unwrap_or-elsewhere (last_given runs slave at) (get_or (words_of plant slave) at 0) (get_or (words_of other slave) at 0) (agree.words slave at))

-- What is still to do may be a part of what is live. If it leads to what redo of the live runs gives, so do the live runs.
pub redone-from_part : (plant base : List (List ℕ)) (live part : List Run) → ((slave at : ℕ) → last_given live slave at ≡ None → last_given part slave at ≡ None)
    → redone plant part ≡ redone base live → redone plant live ≡ redone base live
redone-from_part plant base live part names leads = redone-elsewhere base plant live (record { shape = shape; words = λ slave at none. word slave at none (cases_lt slave (length plant)) })
  where
    same_slaves : length plant ≡ length base
    same_slaves = sym (length-redone plant part) ∙ ap length leads ∙ length-redone base live

    same_words : (slave : ℕ) → length (words_of plant slave) ≡ length (words_of base slave)
    same_words slave = sym ((SameShape-redone plant part).words slave) ∙ ap (λ (p : List (List ℕ)). length (words_of p slave)) leads ∙ (SameShape-redone base live).words slave

    shape : SameShape base plant
    shape = record { slaves = same_slaves; words = same_words }

    inside : (slave at : ℕ) → last_given live slave at ≡ None → slave < length plant → (at < length (words_of plant slave)) ⊎ (length (words_of plant slave) ≤ at) → get_or (words_of plant slave) at 0 ≡ get_or (words_of base slave) at 0
    inside slave at none within (inl there) =
        let mine : get_or (words_of (redone plant part) slave) at 0 ≡ get_or (words_of plant slave) at 0 = rw (word-redone plant part slave at within there, names slave at none) refl in
        let base_word : get_or (words_of (redone base live) slave) at 0 ≡ get_or (words_of base slave) at 0 = rw (word-redone base live slave at (omega (arith, same_slaves)) (omega (arith, same_words slave)), none) refl in
        sym mine ∙ ap (λ (p : List (List ℕ)). get_or (words_of p slave) at 0) leads ∙ base_word
    inside slave at none within (inr past) = rw (get_or_past (words_of plant slave) at 0 past, get_or_past (words_of base slave) at 0 (omega (arith, same_words slave))) refl

    word : (slave at : ℕ) → last_given live slave at ≡ None → (slave < length plant) ⊎ (length plant ≤ slave) → get_or (words_of plant slave) at 0 ≡ get_or (words_of base slave) at 0
    word slave at none (inl within) = inside slave at none within (cases_lt at (length (words_of plant slave)))
    word slave at none (inr past) = rw (get_or_past plant slave [] past, get_or_past base slave [] (omega (arith, same_slaves))) refl
