-- Category edits: the new words, and their chain.
use Rattle.std.proofs.Common.{◌≡◌, ◌≢◌, ℕ, zero, suc, ◌+◌, ◌-◌, ◌<◌, ◌≤◌, All, List, [], ◌∷◌, ◌++◌, length, take, drop, Option, Some, None, Result, Ok, Err, refl, sym, ap, subst, ◌∙◌, append_assoc, arith}
use Rattle.std.specs.Prelude.{slice_get, IfSome, IfOk, MatchOption, map}
use Rattle.std.proofs.lemmas.Grind.{flat_map-append}
use Rattle.std.proofs.lemmas.List.{append-nil, length-append, length-drop, take-append-drop, take_at, drop_at, drop-drop, set_split, length-take-le}
use Rattle.std.proofs.lemmas.List.Elements.{All-nil, All-cons, All-head, All-tail, All-append, All-take, All-drop, All-set, All-push}
use Rattle.sii_cats.specs.Items.{AreItems}
use Rattle.sii_cats.specs.declared.categories.Category.{Category}
use Rattle.sii_cats.specs.Chain.{Member, member_words, chain_words, member_of, end_of, categories_from, Begins, IsEnd, IsChain}
use Rattle.sii_cats.specs.steps.Chain.{members_of, IsWalked}
use Rattle.sii_cats.specs.Splice.{spliced, chain_end, closing, with_chain, IsEdit, IsCategoryEdit, GivesSplice, SpliceFails, new_words}
use Rattle.sii_cats.specs.steps.Splice.{GivesRebuilt, RebuiltFails}
use Rattle.sii_cats.specs.declared.fault.CatFault.{CatFault}
use Rattle.sii_cats.specs.declared.fault.CatFault.TheVariants.{Memory, RunsOut, BadCategory, NoRoom}
use Rattle.sii_cats.proofs.Walk.{chain_is}

-- no category has the end mark's type
abbrev pub AreTyped : List Member → Type 0
AreTyped ms = All (λ m. m.kind ≢ 0xFFFF) ms

-- ---- the words of a chain

pub chain_parts : (cells : List ℕ) (ms : List Member) → AreItems Begins IsEnd cells ms
    → (rest : List ℕ) × (cells ≡ chain_words ms ++ rest) × IsEnd rest × AreTyped ms
chain_parts cells [] h = (cells, refl, h, All-nil (λ m. m.kind ≢ 0xFFFF))
chain_parts cells (m ∷ ms) h =
    let others = chain_parts h.0 ms h.2 in (
      others.0,
      h.1.1 ∙ ap (λ (t : List ℕ). member_words m ++ t) others.1 ∙ sym (append_assoc (member_words m) (chain_words ms) others.0),
      others.2,
      All-cons (λ x. x.kind ≢ 0xFFFF) m ms h.1.0 others.3,
    )

pub chain_of_parts : (ms : List Member) (rest : List ℕ) → AreTyped ms → IsEnd rest → AreItems Begins IsEnd (chain_words ms ++ rest) ms
chain_of_parts [] rest typed ended = ended
chain_of_parts (m ∷ ms) rest typed ended = (
  chain_words ms ++ rest,
  (All-head (λ x. x.kind ≢ 0xFFFF) m ms typed, append_assoc (member_words m) (chain_words ms) rest),
  chain_of_parts ms rest (All-tail (λ x. x.kind ≢ 0xFFFF) m ms typed) ended,
)

-- ---- where a category stands

pub stands_at : (at : ℕ) (ms : List Member) (i : ℕ) (c : Category) → slice_get (categories_from at ms) i ≡ Some c
    → (m : Member) × (ms ≡ take i ms ++ m ∷ drop (suc i) ms) × (c.at ≡ at + length (chain_words (take i ms))) × (c.count ≡ length m.content)
stands_at at [] i c e = absurd cc
stands_at at (m ∷ ms) zero c e =
    let made : Category = record { kind = m.kind; at = at; count = length m.content } in
    let same : made ≡ c = cc in
    (m, refl, omega (arith, ap (λ (x : Category). x.at) same), sym (ap (λ (x : Category). x.count) same))
stands_at at (m ∷ ms) (suc i) c e =
    let found = stands_at (at + length (member_words m)) ms i c e in
    (found.0, ap (λ (xs : List Member). m ∷ xs) found.1, omega (arith, found.2, length-append (member_words m) (chain_words (take i ms))), found.3)

-- the categories before and after the place that is edited
abbrev pub before : Option ℕ → List Member → List Member
before None ms = ms
before (Some i) ms = take i ms

abbrev pub after : Option ℕ → List Member → List Member
after None ms = []
after (Some i) ms = drop (suc i) ms

-- What stands before and behind the gap.
pub record IsGap (words : List ℕ) (end : ℕ) (member : Option ℕ) (ms : List Member) (gap : ℕ × ℕ) : Type 0 where
  pub front : take gap.0 words ≡ take 64 words ++ chain_words (before member ms)
  pub kept : take (end - gap.1) (drop gap.1 words) ≡ chain_words (after member ms)
  pub first : gap.0 ≤ gap.1
  pub last : gap.1 ≤ end

gap_at_end : (words rest : List ℕ) (end : ℕ) (ms : List Member) → 64 ≤ length words → words ≡ take 64 words ++ (chain_words ms ++ rest) → end ≡ chain_end ms → IsGap words end None ms (end, end)
gap_at_end words rest end ms long parts e =
    let head : length (take 64 words) ≡ 64 = length-take-le 64 words long in
    let len : length (take 64 words ++ chain_words ms) ≡ end = omega (arith, length-append (take 64 words) (chain_words ms), head, e) in
    let none : end - end ≡ 0 = omega arith in
    record {
      front = ap (take end) (parts ∙ sym (append_assoc (take 64 words) (chain_words ms) rest)) ∙ take_at (take 64 words ++ chain_words ms) rest end len;
      kept = ap (λ (n : ℕ). take n (drop end words)) none;
      first = omega arith;
      last = omega arith;
    }

regroup_first : (h a t rest : List ℕ) → h ++ ((a ++ t) ++ rest) ≡ (h ++ a) ++ (t ++ rest)
regroup_first h a t rest = simp append_assoc

regroup_second : (h m b rest : List ℕ) → h ++ ((m ++ b) ++ rest) ≡ (h ++ m) ++ (b ++ rest)
regroup_second h m b rest = simp append_assoc

gap_inside : (words rest : List ℕ) (end i : ℕ) (ms : List Member) (c : Category) → 64 ≤ length words → words ≡ take 64 words ++ (chain_words ms ++ rest) → end ≡ chain_end ms
    → slice_get (categories_from 64 ms) i ≡ Some c → IsGap words end (Some i) ms (c.at, end_of c)
gap_inside words rest end i ms c long parts e found =
    let s = stands_at 64 ms i c found in
    let m = s.0 in
    let head = take 64 words in
    let a = chain_words (take i ms) in
    let b = chain_words (drop (suc i) ms) in
    let mw = member_words m in
    let head_len : length (take 64 words) ≡ 64 = length-take-le 64 words long in
    let entire : chain_words ms ≡ a ++ (mw ++ b) = ap chain_words s.1 ∙ flat_map-append member_words (take i ms) (m ∷ drop (suc i) ms) in
    let split : words ≡ head ++ ((a ++ (mw ++ b)) ++ rest) = parts ∙ ap (λ (t : List ℕ). take 64 words ++ (t ++ rest)) entire in
    let one : words ≡ (head ++ a) ++ ((mw ++ b) ++ rest) = split ∙ regroup_first head a (mw ++ b) rest in
    let two : words ≡ ((head ++ a) ++ mw) ++ (b ++ rest) = one ∙ regroup_second (head ++ a) mw b rest in
    let len_a : length (head ++ a) ≡ c.at = omega (arith, length-append head a, head_len, s.2) in
    let len_m : length ((head ++ a) ++ mw) ≡ end_of c = omega (arith, length-append (head ++ a) mw, len_a, s.3) in
    let len_all : length (chain_words ms) ≡ length a + (length mw + length b) = ap length entire ∙ length-append a (mw ++ b) ∙ ap (λ (n : ℕ). length a + n) (length-append mw b) in
    let left : length b ≡ end - end_of c = omega (arith, len_all, len_m, length-append head a, length-append (head ++ a) mw, head_len, e) in
    record {
      front = ap (take c.at) one ∙ take_at (head ++ a) ((mw ++ b) ++ rest) c.at len_a;
      kept = ap (λ (t : List ℕ). take (end - end_of c) t) (ap (drop (end_of c)) two ∙ drop_at ((head ++ a) ++ mw) (b ++ rest) (end_of c) len_m) ∙ take_at b rest (end - end_of c) left;
      first = omega arith;
      last = omega (arith, len_all, len_m, length-append head a, length-append (head ++ a) mw, head_len, e);
    }

gap_by : (words rest : List ℕ) (end : ℕ) (member : Option ℕ) (ms : List Member) (gap : ℕ × ℕ) → 64 ≤ length words → words ≡ take 64 words ++ (chain_words ms ++ rest) → end ≡ chain_end ms
    → MatchOption member (gap ≡ (end, end)) (λ i. (c : Category) × (slice_get (categories_from 64 ms) i ≡ Some c) × (gap ≡ (c.at, end_of c))) → IsGap words end member ms gap
gap_by words rest end None ms gap long split e h = subst (IsGap words end None ms) (sym h) (gap_at_end words rest end ms long split e)
gap_by words rest end (Some i) ms gap long split e h = subst (IsGap words end (Some i) ms) (sym h.2) (gap_inside words rest end i ms h.0 long split e h.1)

pub gap_is : (words : List ℕ) (end : ℕ) (member : Option ℕ) (ms : List Member) (gap : ℕ × ℕ) → 64 ≤ length words → IsChain words ms → end ≡ chain_end ms
    → MatchOption member (gap ≡ (end, end)) (λ i. (c : Category) × (slice_get (categories_from 64 ms) i ≡ Some c) × (gap ≡ (c.at, end_of c))) → IsGap words end member ms gap
gap_is words end member ms gap long chain e h =
    let parts = chain_parts (drop 64 words) ms chain in
    let split : words ≡ take 64 words ++ (chain_words ms ++ parts.0) = sym (take-append-drop 64 words) ∙ ap (λ (t : List ℕ). take 64 words ++ t) parts.1 in
    gap_by words parts.0 end member ms gap long split e h

-- ---- the edited chain

-- its words
pub edited_words : (member : Option ℕ) (kind : ℕ) (content : List ℕ) (ms : List Member) → IfSome member (λ i. i < length ms) → (member ≡ None → content ≢ [])
    → chain_words (spliced member kind content ms) ≡ (chain_words (before member ms) ++ new_words kind content) ++ chain_words (after member ms)
edited_words None kind [] ms inside some = absurd (some refl refl)
edited_words None kind (word ∷ words) ms inside some =
    let m : Member = record { kind = kind; content = word ∷ words } in
    flat_map-append member_words ms (m ∷ []) ∙ sym (append_assoc (chain_words ms) (member_words m) [])
edited_words (Some i) kind [] ms inside some =
    flat_map-append member_words (take i ms) (drop (suc i) ms) ∙ ap (λ (t : List ℕ). t ++ chain_words (drop (suc i) ms)) (sym (append-nil (chain_words (take i ms))))
edited_words (Some i) kind (word ∷ words) ms inside some =
    let m : Member = record { kind = kind; content = word ∷ words } in
    ap chain_words (set_split ms i m inside) ∙ flat_map-append member_words (take i ms) (m ∷ drop (suc i) ms)
    ∙ sym (append_assoc (chain_words (take i ms)) (member_words m) (chain_words (drop (suc i) ms)))

pub spliced_typed : (member : Option ℕ) (kind : ℕ) (content : List ℕ) (ms : List Member) → (content ≢ [] → kind ≢ 0xFFFF) → (member ≡ None → content ≢ []) → AreTyped ms → AreTyped (spliced member kind content ms)
spliced_typed None kind content ms typed some h = All-push (λ m. m.kind ≢ 0xFFFF) ms (record { kind = kind; content = content }) h (typed (some refl))
spliced_typed (Some i) kind [] ms typed some h = All-append (λ m. m.kind ≢ 0xFFFF) (take i ms) (drop (suc i) ms) (All-take (λ m. m.kind ≢ 0xFFFF) i ms h) (All-drop (λ m. m.kind ≢ 0xFFFF) (suc i) ms h)
spliced_typed (Some i) kind (word ∷ words) ms typed some h = All-set (λ m. m.kind ≢ 0xFFFF) ms i (record { kind = kind; content = word ∷ words }) (typed (λ e. cc)) h

-- ---- the new words

pub length-closing : (words : List ℕ) → length (closing words) ≡ length words
length-closing [] = refl
length-closing (word ∷ words) = refl

pub closing_ends : (words : List ℕ) → IsEnd (closing words)
closing_ends [] = tt
closing_ends (word ∷ words) = refl

pub closing_mark : (words : List ℕ) → 0 < length words → slice_get (closing words) 0 ≡ Some 0xFFFF
closing_mark [] h = absurd (omega arith)
closing_mark (word ∷ words) h = refl

pub drop-closing : (words : List ℕ) → drop 1 (closing words) ≡ drop 1 words
drop-closing [] = refl
drop-closing (word ∷ words) = refl

pub slice_get_after : (front words : List ℕ) → slice_get (front ++ words) (length front) ≡ slice_get words 0
slice_get_after [] words = refl
slice_get_after (word ∷ front) words = slice_get_after front words

pub edit_is : (old new : List ℕ) (ms : List Member) → 64 ≤ length old → chain_end ms ≤ length old → AreTyped ms → new ≡ with_chain old ms → IsEdit old new ms
edit_is old new ms long room typed made =
    let head : length (take 64 old) ≡ 64 = length-take-le 64 old long in
    let front = take 64 old ++ chain_words ms in
    let len : length front ≡ chain_end ms = omega (arith, length-append (take 64 old) (chain_words ms), head) in
    let left = drop (length front) old in
    let left_len = length-drop (length front) old in
    let regrouped : new ≡ take 64 old ++ (chain_words ms ++ closing left) = made ∙ append_assoc (take 64 old) (chain_words ms) (closing left) in
    let tail : drop (length front) new ≡ closing left = ap (drop (length front)) made ∙ drop_at front (closing left) (length front) refl in
    record {
      size = ap length made ∙ omega (arith, length-append front (closing left), length-closing left, left_len, len, room);
      before = ap (take 64) regrouped ∙ take_at (take 64 old) (chain_words ms ++ closing left) 64 head;
      chain = subst (λ (cells : List ℕ). AreItems Begins IsEnd cells ms) (sym (ap (drop 64) regrouped ∙ drop_at (take 64 old) (chain_words ms ++ closing left) 64 head))
          (chain_of_parts ms (closing left) typed (closing_ends left));
      mark = λ h. ap (slice_get new) (sym len) ∙ ap (λ (ws : List ℕ). slice_get ws (length front)) made ∙ slice_get_after front (closing left)
          ∙ closing_mark left (omega (arith, left_len, len, h));
      after =
          let next : suc (chain_end ms) ≡ length front + 1 = omega (arith, len) in
          ap (λ (n : ℕ). drop n new) next ∙ sym (drop-drop 1 (length front) new) ∙ ap (drop 1) tail ∙ drop-closing left ∙ drop-drop 1 (length front) old ∙ ap (λ (n : ℕ). drop n old) (sym next);
    }

-- ---- splicing

pub gap_of : (words : List ℕ) (categories read : List Category) (end : ℕ) (member : Option ℕ) (gap : ℕ × ℕ) → 64 ≤ length words → IsWalked words categories end → read ≡ categories
    → MatchOption member (gap ≡ (end, end)) (λ i. (c : Category) × (slice_get read i ≡ Some c) × (gap ≡ (c.at, end_of c))) → IsGap words end member (map (member_of words) categories) gap
gap_of words categories read end member gap long w same h =
    let ms = map (member_of words) categories in
    gap_is words end member ms gap long (chain_is words ms w.read) w.ended
    (subst (λ (cs : List Category). MatchOption member (gap ≡ (end, end)) (λ i. (c : Category) × (slice_get cs i ≡ Some c) × (gap ≡ (c.at, end_of c)))) (same ∙ w.placed.placed) h)

regroup_front : (h c n d : List ℕ) → ((h ++ c) ++ n) ++ d ≡ h ++ ((c ++ n) ++ d)
regroup_front h c n d = simp append_assoc

pub front_is : (words : List ℕ) (end : ℕ) (member : Option ℕ) (ms : List Member) (gap : ℕ × ℕ) (kind : ℕ) (content : List ℕ) → IsGap words end member ms gap
    → IfSome member (λ i. i < length ms) → (member ≡ None → content ≢ [])
    → take gap.0 words ++ new_words kind content ++ take (end - gap.1) (drop gap.1 words) ≡ take 64 words ++ chain_words (spliced member kind content ms)
front_is words end member ms gap kind content g inside some =
    let new = new_words kind content in
    ap (λ (t : List ℕ). t ++ new ++ take (end - gap.1) (drop gap.1 words)) g.front
    ∙ ap (λ (t : List ℕ). (take 64 words ++ chain_words (before member ms)) ++ new ++ t) g.kept
    ∙ regroup_front (take 64 words) (chain_words (before member ms)) new (chain_words (after member ms))
    ∙ ap (λ (t : List ℕ). take 64 words ++ t) (sym (edited_words member kind content ms inside some))

length_front : (words : List ℕ) (ds : List Member) (front : List ℕ) → 64 ≤ length words → front ≡ take 64 words ++ chain_words ds → length front ≡ chain_end ds
length_front words ds front long e = ap length e ∙ length-append (take 64 words) (chain_words ds) ∙ ap (λ (n : ℕ). n + length (chain_words ds)) (length-take-le 64 words long)

splice_fault : (words : List ℕ) (member : Option ℕ) (kind : ℕ) (content : List ℕ) (ms : List Member) (front : List ℕ) (fault : CatFault) → members_of words ≡ Ok ms → length front ≡ chain_end (spliced member kind content ms)
    → RebuiltFails words front fault → SpliceFails words member kind content fault
splice_fault words member kind content ms front Memory read len h = tt
splice_fault words member kind content ms front (RunsOut at) read len h = absurd h
splice_fault words member kind content ms front (BadCategory k) read len h = h
splice_fault words member kind content ms front NoRoom read len h = (ms, read, omega (arith, len, h))

pub splice_is : {V : Type 0} (view : V → List ℕ) (words : List ℕ) (member : Option ℕ) (kind : ℕ) (content : List ℕ) (ms : List Member) (front : List ℕ) (result : Result V CatFault) → 64 ≤ length words
    → members_of words ≡ Ok ms → front ≡ take 64 words ++ chain_words (spliced member kind content ms) → GivesRebuilt view words front result → GivesSplice view words member kind content result
splice_is view words member kind content ms front (Ok v) long read e h =
    let len = length_front words (spliced member kind content ms) front long e in
    (ms, read, omega (arith, len, h.0), h.1 ∙ ap (λ (f : List ℕ). f ++ closing (drop (length f) words)) e)
splice_is view words member kind content ms front (Err fault) long read e h =
    splice_fault words member kind content ms front fault read (length_front words (spliced member kind content ms) front long e) h

pub splice_edits : {V : Type 0} (view : V → List ℕ) (words : List ℕ) (member : Option ℕ) (kind : ℕ) (content : List ℕ) (result : Result V CatFault) → 64 ≤ length words
    → (content ≢ [] → kind ≢ 0xFFFF) → (member ≡ None → content ≢ []) → GivesSplice view words member kind content result → IfOk result (λ v. IsCategoryEdit words (view v) member kind content)
splice_edits view words member kind content (Ok v) long typed some h =
    let ms = h.0 in
    let chain = chain_is words ms h.1 in
    let parts = chain_parts (drop 64 words) ms chain in
    (ms, chain, edit_is words (view v) (spliced member kind content ms) long h.2 (spliced_typed member kind content ms typed some parts.3) h.3)
splice_edits view words member kind content (Err fault) long typed some h = tt
