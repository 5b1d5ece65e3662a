-- The runs between two plants: what they name, where they lie, and in which order they come.
use Rattle.std.proofs.Common.{◌≡◌, ◌≢◌, ◌⊎◌, ℕ, zero, suc, ◌+◌, ◌-◌, ◌<◌, ◌≤◌, List, [], ◌∷◌, ◌++◌, length, get_or, drop, refl, sym, ap, ◌∙◌, inl, inr, arith, All, AllPairs, None, unwrap_or, add-zero, zero-add, add-one, append_assoc}
use Rattle.std.proofs.Math.Nat.{sub-zero}
use Rattle.std.proofs.lemmas.Bool.{cases_eq, cases_lt}
use Rattle.std.proofs.lemmas.List.{drop_more}
use Rattle.std.proofs.lemmas.Option.{slice_get_past}
use Rattle.std.proofs.lemmas.List.Elements.{All-nil, All-append, All-weaker}
use Rattle.sii_words.specs.Plant.{words_of}
use Rattle.sii_words.specs.declared.run.Run.{Run}
use Rattle.sii_words.specs.Redo.{given_by, last_given, redone, LiesInside, SameShape, AreSeparate}
use Rattle.sii_words.specs.Run.{stretches, runs_from, runs_between, StandsBefore, change}
use Rattle.sii_words.proofs.RedoLaws.{last_given-append, option_or-none, same_plants, word-redone, length-redone, length-words_of-redone}
use Rattle.sii_words.proofs.StretchLaws.{AllPairs-append, AllPairs-nil, Within, Within-stretches, last_given-stretches, other_change, owned_stretches, rising-stretches, same_change, stretches-elsewhere}
use Rattle.sii_words.proofs.GivenLaws.{given_before, given_other, given_word}

-- the runs from a slave on give nothing to a slave before it
none_from : (first s w : ℕ) (olds news : List (List ℕ)) → s < first → last_given (runs_from first olds news) s w ≡ None
none_from first s w [] news before = refl
none_from first s w (old ∷ olds) [] before = refl
none_from first s w (old ∷ olds) (new ∷ news) before =
    rw (last_given-append (stretches first 0 old new) (runs_from (suc first) olds news) s w, none_from (suc first) s w olds news (omega arith), stretches-elsewhere first 0 s w old new (inl (omega arith))) refl

-- the runs of one slave among those of all
last_given-runs_from : (first j w : ℕ) (olds news : List (List ℕ)) → length news ≡ length olds → j < length olds
    → last_given (runs_from first olds news) (first + j) w ≡ last_given (stretches (first + j) 0 (get_or olds j []) (get_or news j [])) (first + j) w
last_given-runs_from first j w [] news size within = absurd (omega arith)
last_given-runs_from first j w (old ∷ olds) [] size within = absurd (omega arith)
last_given-runs_from first zero w (old ∷ olds) (new ∷ news) size within =
    rw (add-zero, last_given-append (stretches first 0 old new) (runs_from (suc first) olds news) first w, none_from (suc first) first w olds news (omega arith)) refl
last_given-runs_from first (suc j) w (old ∷ olds) (new ∷ news) size within =
    let place : first + suc j ≡ suc first + j = omega arith in
    rw (place, last_given-append (stretches first 0 old new) (runs_from (suc first) olds news) (suc first + j) w, stretches-elsewhere first 0 (suc first + j) w old new (inl (omega arith)), option_or-none (last_given (runs_from (suc first) olds news) (suc first + j) w))
    (last_given-runs_from (suc first) j w olds news (omega arith) (omega arith))

-- each word that differs gets its new value, and no other is named
pub last_given-runs_between : (old new : List (List ℕ)) (slave at : ℕ) → SameShape old new → slave < length old → at < length (words_of old slave)
    → last_given (runs_between old new) slave at ≡ change (get_or (words_of old slave) at 0) (get_or (words_of new slave) at 0)
last_given-runs_between old new slave at shape within inside =
    let one = rw zero-add at (last_given-runs_from 0 slave at old new shape.slaves within) in
    one ∙ rw zero-add at (last_given-stretches slave 0 (words_of old slave) (words_of new slave) at (shape.words slave) inside)

unwrap_or-change : (old new : ℕ) → unwrap_or (change old new) old ≡ new
unwrap_or-change old new = elim (cases_eq old new) [
  | inl same ↦ rw (same_change old new same) same
  | inr other ↦ rw (other_change old new other) refl
]

-- the runs lead there
pub redone-runs_between : (old new : List (List ℕ)) → SameShape old new → redone old (runs_between old new) ≡ new
redone-runs_between old new shape =
    let runs : List Run = runs_between old new in
    same_plants (redone old runs) new (length-redone old runs ∙ sym shape.slaves)
    (λ slave within. length-words_of-redone old runs slave (inside slave within) ∙ sym (shape.words slave))
    (λ slave at within there. word slave at (inside slave within) (omega (arith, length-words_of-redone old runs slave (inside slave within))))
  where
    inside : (slave : ℕ) → slave < length (redone old (runs_between old new)) → slave < length old
    inside slave within = omega (arith, length-redone old (runs_between old new))

    word : (slave at : ℕ) → slave < length old → at < length (words_of old slave) → get_or (words_of (redone old (runs_between old new)) slave) at 0 ≡ get_or (words_of new slave) at 0
    word slave at within there =
        rw (word-redone old (runs_between old new) slave at within there, last_given-runs_between old new slave at shape within there)
        (unwrap_or-change (get_or (words_of old slave) at 0) (get_or (words_of new slave) at 0))

-- the run has a word, and its words are words of one of these slaves, numbered from the first on
record Among (first : ℕ) (plant : List (List ℕ)) (run : Run) : Type 0 where
  begins : first ≤ run.slave
  ends : run.slave < first + length plant
  words : run.first + length run.words ≤ length (get_or plant (run.slave - first) [])
  some : 0 < length run.words

get_first : (plant : List (List ℕ)) (words : List ℕ) (n : ℕ) → n ≡ 0 → get_or (words ∷ plant) n [] ≡ words
get_first plant words n none = rw none refl

get_next : (plant : List (List ℕ)) (words : List ℕ) (n k : ℕ) → n ≡ suc k → get_or (words ∷ plant) n [] ≡ get_or plant k []
get_next plant words n k more = rw more refl

Among-first : (first : ℕ) (words : List ℕ) (plant : List (List ℕ)) (run : Run) → Within first 0 (length words) run → Among first (words ∷ plant) run
Among-first first words plant run within = record {
  begins = omega (arith, within.owned);
  ends = omega (arith, within.owned);
  words = rw (get_first plant words (run.slave - first) (omega (arith, within.owned))) within.ends;
  some = within.some;
}

Among-next : (first : ℕ) (words : List ℕ) (plant : List (List ℕ)) (run : Run) → Among (suc first) plant run → Among first (words ∷ plant) run
Among-next first words plant run among = record {
  begins = omega (arith, among.begins);
  ends = omega (arith, among.ends);
  words = rw (get_next plant words (run.slave - first) (run.slave - suc first) (omega (arith, among.begins))) among.words;
  some = among.some;
}

Among-runs_from : (first : ℕ) (olds news : List (List ℕ)) → All (Among first olds) (runs_from first olds news)
Among-runs_from first [] news = All-nil (Among first [])
Among-runs_from first (old ∷ olds) [] = All-nil (Among first (old ∷ olds))
Among-runs_from first (old ∷ olds) (new ∷ news) =
    All-append (Among first (old ∷ olds)) (stretches first 0 old new) (runs_from (suc first) olds news)
    (All-weaker (Within first 0 (length old)) (Among first (old ∷ olds)) (Among-first first old olds) (stretches first 0 old new) (Within-stretches first 0 (length old) old new (sym (zero-add (length old)))))
    (All-weaker (Among (suc first) olds) (Among first (old ∷ olds)) (Among-next first old olds) (runs_from (suc first) olds news) (Among-runs_from (suc first) olds news))

LiesInside-from_Among : (plant : List (List ℕ)) (run : Run) → Among 0 plant run → LiesInside plant run
LiesInside-from_Among plant run among = record { slave = omega (arith, among.ends); words = rw sub-zero at among.words }

-- the runs lie inside the plant
pub LiesInside-runs_between : (old new : List (List ℕ)) → All (LiesInside old) (runs_between old new)
LiesInside-runs_between old new =
    All-weaker (Among 0 old) (LiesInside old) (LiesInside-from_Among old) (runs_between old new) (Among-runs_from 0 old new)

-- each has a word
pub some-runs_between : (old new : List (List ℕ)) → All (λ run. 0 < length run.words) (runs_between old new)
some-runs_between old new =
    All-weaker (Among 0 old) (λ run. 0 < length run.words) (λ run among. among.some) (runs_between old new) (Among-runs_from 0 old new)

-- all of one slave's runs stand before those of later slaves
slave_before : (first : ℕ) (plant : List (List ℕ)) (run other : Run) → run.slave ≡ first → Among (suc first) plant other → StandsBefore run other
slave_before first plant run other of among = inl (omega (arith, among.begins))

rising-runs_from : (first : ℕ) (olds news : List (List ℕ)) → AllPairs StandsBefore (runs_from first olds news)
rising-runs_from first [] news = AllPairs-nil StandsBefore
rising-runs_from first (old ∷ olds) [] = AllPairs-nil StandsBefore
rising-runs_from first (old ∷ olds) (new ∷ news) =
    AllPairs-append StandsBefore (stretches first 0 old new) (runs_from (suc first) olds news) (rising-stretches first 0 old new) (rising-runs_from (suc first) olds news)
    (All-weaker (λ run. run.slave ≡ first) (λ run. All (StandsBefore run) (runs_from (suc first) olds news))
    (λ run of. All-weaker (Among (suc first) olds) (StandsBefore run) (λ other among. slave_before first olds run other of among) (runs_from (suc first) olds news) (Among-runs_from (suc first) olds news))
    (stretches first 0 old new) (owned_stretches first 0 old new))

-- they rise, with at least one word between two of a slave
pub rising-runs_between : (old new : List (List ℕ)) → AllPairs StandsBefore (runs_between old new)
rising-runs_between old new = rising-runs_from 0 old new

-- the next slave
pub next_slave : (done all : List Run) (slave : ℕ) (olds news : List (List ℕ)) → length olds ≡ length news → slave < length olds
    → done ++ runs_from slave (drop slave olds) (drop slave news) ≡ all
    → (done ++ stretches slave 0 (words_of olds slave) (words_of news slave)) ++ runs_from (slave + 1) (drop (slave + 1) olds) (drop (slave + 1) news) ≡ all
next_slave done all slave olds news size within is =
    let mine : List Run = stretches slave 0 (words_of olds slave) (words_of news slave) in
    let more : runs_from slave (drop slave olds) (drop slave news) ≡ mine ++ runs_from (slave + 1) (drop (slave + 1) olds) (drop (slave + 1) news) =
    rw (drop_more olds slave [] within, drop_more news slave [] (omega arith), add-one) refl in
    append_assoc done mine (runs_from (slave + 1) (drop (slave + 1) olds) (drop (slave + 1) news)) ∙ ap (λ (runs : List Run). done ++ runs) (sym more) ∙ is

-- runs of which one stands before the other name no word both
AreSeparate-from_StandsBefore : (run other : Run) → StandsBefore run other → AreSeparate run other
AreSeparate-from_StandsBefore run other before = λ slave at named. one slave at named before (cases_eq run.slave slave) (cases_lt at other.first)
  where
    one : (slave at : ℕ) → given_by run slave at ≢ None → StandsBefore run other → (run.slave ≡ slave) ⊎ (run.slave ≢ slave) → (at < other.first) ⊎ (other.first ≤ at) → given_by other slave at ≡ None
    one slave at named earlier (inr away) place = absurd (named (given_other run slave at away))
    one slave at named (inl lower) (inl mine) place = given_other other slave at (λ same. absurd (omega arith))
    one slave at named (inr (same, after)) (inl mine) (inl ahead) = given_before other slave at ahead
    one slave at named (inr (same, after)) (inl mine) (inr there) =
        absurd (named (given_word run slave at mine (omega arith) ∙ slice_get_past run.words (at - run.first) (omega arith)))

-- no word is named twice
pub separate-runs_between : (old new : List (List ℕ)) → AllPairs AreSeparate (runs_between old new)
separate-runs_between old new = λ i j d before within.
    AreSeparate-from_StandsBefore (get_or (runs_between old new) i d) (get_or (runs_between old new) j d) (rising-runs_between old new i j d before within)
