-- Category edits: the words that they leave are those of the relation.
use Rattle.std.proofs.Common.{◌≡◌, ◌≢◌, ◌+◌, ◌<◌, ◌≤◌, ℕ, zero, suc, ◌==◌, ◌||◌, Bool, true, false, cond, nat_lt, List, [], ◌∷◌, ◌++◌, length, take, drop, get_or, All, Option, Some, None, Result, Ok, Err, is_err, refl, sym, ap, subst, ◌∙◌, append_assoc, arith}
use Rattle.std.proofs.lemmas.Bool.{eq-eqb, eqb-true, eqb-false}
use Rattle.std.specs.Prelude.{slice_get, position}
use Rattle.std.proofs.lemmas.List.{length-append, length-drop, drop_at, take_at, drop-drop, length-take-le}
use Rattle.std.proofs.lemmas.List.Quantifiers.{position-Some}
use Rattle.std.proofs.lemmas.List.Elements.{All-nil, All-cons, All-append, All-take, All-drop, All-set, All-push}
use Rattle.sii_cats.specs.Items.{AreItems}
use Rattle.sii_cats.specs.Chain.{Member, chain_words, Begins, IsEnd, IsChain}
use Rattle.sii_cats.specs.steps.Chain.{members_of}
use Rattle.sii_cats.specs.Splice.{chain_end, closing, spliced, with_chain, IsEdit}
use Rattle.sii_cats.specs.Laws.{ReadingsAgree}
use Rattle.sii_edit.specs.declared.command.Expect.{Expect}
use Rattle.sii_edit.specs.Category.{has_kind, count_of, exchanged, rechained, if_read, is_malformed, is_repeated, is_too_long, is_unfit, with_category, IsPlaceOf, ChangesCategory}
use Rattle.sii_edit.specs.Command.{category_causes}
use Rattle.sii_edit.specs.Refusal.{unless}
use Rattle.sii_edit.proofs.CategoryLaws.{count-cons, count-None}
use Rattle.sii_edit.proofs.ShapeLaws.{length-with_chain, within}
use Rattle.sii_edit.proofs.UnlessLaws.{none_holds, unless-ok}
use Rattle.sii_cats.proofs.Edits.{AreTyped, closing_ends, drop-closing, chain_of_parts, closing_mark, slice_get_after}

-- ---- the place of a category

test_is : (kind : ℕ) (m : Member) → m.kind ≡ kind → cond {A = ℕ} (has_kind kind m) 1 0 ≡ 1
test_is kind m is = ap (λ (test : Bool). cond {A = ℕ} test 1 0) (eq-eqb m.kind kind is)

test_isnt : (kind : ℕ) (m : Member) → cond {A = ℕ} (has_kind kind m) 1 0 ≡ 0 → m.kind ≢ kind
test_isnt kind m isnt = λ is. let one = test_is kind m is in absurd (omega arith)

none_of : (kind : ℕ) (ms : List Member) → count_of kind ms ≡ 0 → All (λ m. m.kind ≢ kind) ms
none_of kind [] none = All-nil (λ m. m.kind ≢ kind)
none_of kind (m ∷ ms) none =
    let sum = count-cons (has_kind kind) m ms in
    All-cons (λ x. x.kind ≢ kind) m ms (test_isnt kind m (omega arith)) (none_of kind ms (omega arith))

counted : (kind : ℕ) (ms : List Member) (i : ℕ) (m : Member) → slice_get ms i ≡ Some m → m.kind ≡ kind → 1 ≤ count_of kind ms
counted kind [] i m found is = absurd cc
counted kind (x ∷ ms) zero m found is =
    let same : x ≡ m = cc in
    omega (arith, count-cons (has_kind kind) x ms, test_is kind x (ap (λ (y : Member). y.kind) same ∙ is))
counted kind (x ∷ ms) (suc i) m found is = omega (arith, count-cons (has_kind kind) x ms, counted kind ms i m found is)

one_place : (kind : ℕ) (ms : List Member) (i j : ℕ) (m n : Member) → count_of kind ms ≤ 1 → slice_get ms i ≡ Some m → m.kind ≡ kind → slice_get ms j ≡ Some n → n.kind ≡ kind → j ≡ i
one_place kind [] i j m n few found is other also = absurd cc
one_place kind (x ∷ ms) zero zero m n few found is other also = refl
one_place kind (x ∷ ms) zero (suc j) m n few found is other also =
    let same : x ≡ m = cc in
    absurd (omega (arith, count-cons (has_kind kind) x ms, test_is kind x (ap (λ (y : Member). y.kind) same ∙ is), counted kind ms j n other also))
one_place kind (x ∷ ms) (suc i) zero m n few found is other also =
    let same : x ≡ n = cc in
    absurd (omega (arith, count-cons (has_kind kind) x ms, test_is kind x (ap (λ (y : Member). y.kind) same ∙ also), counted kind ms i m found is))
one_place kind (x ∷ ms) (suc i) (suc j) m n few found is other also =
    ap suc (one_place kind ms i j m n (omega (arith, count-cons (has_kind kind) x ms)) found is other also)

read_at : (ms : List Member) (i : ℕ) (d : Member) → i < length ms → slice_get ms i ≡ Some (get_or ms i d)
read_at [] i d inside = absurd (omega arith)
read_at (m ∷ ms) zero d inside = refl
read_at (m ∷ ms) (suc i) d inside = read_at ms i d (omega arith)

kind_is : (kind : ℕ) (m : Member) → has_kind kind m ≡ true → m.kind ≡ kind
kind_is kind m test = eqb-true m.kind kind test

pub place_is : (kind : ℕ) (ms : List Member) (place : Option ℕ) → position (has_kind kind) ms ≡ place → count_of kind ms ≤ 1 → IsPlaceOf kind ms place
place_is kind ms None is few = none_of kind ms (count-None (has_kind kind) ms is)
place_is kind ms (Some i) is few =
    let nothing : Member = record { kind = 0; content = [] } in
    let found = position-Some (has_kind kind) ms i nothing is in
    let m : Member = get_or ms i nothing in
    let there : slice_get ms i ≡ Some m = read_at ms i nothing found.0 in
    let typed : m.kind ≡ kind = kind_is kind m found.1 in
    (m, there, typed, λ j other at also. one_place kind ms i j m other few there typed at also)

-- ---- the new chain

typed_chain : (cells : List ℕ) (ms : List Member) → AreItems Begins IsEnd cells ms → AreTyped ms
typed_chain cells [] items = All-nil (λ m. m.kind ≢ 0xFFFF)
typed_chain cells (m ∷ ms) items = All-cons (λ x. x.kind ≢ 0xFFFF) m ms items.1.0 (typed_chain items.0 ms items.2)

typed_spliced : (place : Option ℕ) (kind : ℕ) (content : List ℕ) (ms : List Member) → kind ≢ 0xFFFF → AreTyped ms → AreTyped (spliced place kind content ms)
typed_spliced None kind content ms fit typed = All-push (λ m. m.kind ≢ 0xFFFF) ms (record { kind = kind; content = content }) typed fit
typed_spliced (Some i) kind [] ms fit typed =
    All-append (λ m. m.kind ≢ 0xFFFF) (take i ms) (drop (suc i) ms) (All-take (λ m. m.kind ≢ 0xFFFF) i ms typed) (All-drop (λ m. m.kind ≢ 0xFFFF) (suc i) ms typed)
typed_spliced (Some i) kind (word ∷ words) ms fit typed = All-set (λ m. m.kind ≢ 0xFFFF) ms i (record { kind = kind; content = word ∷ words }) fit typed

pub edit_is : (old new : List ℕ) (ms : List Member) → chain_end ms ≤ length old → AreTyped ms → new ≡ with_chain old ms → IsEdit old new ms
edit_is old new ms room typed made =
    let head : List ℕ = take 64 old in
    let head_size : length head ≡ 64 = length-take-le 64 old (omega arith) in
    let front : List ℕ = head ++ chain_words ms in
    let size : length front ≡ chain_end ms = omega (arith, length-append head (chain_words ms)) in
    let left : List ℕ = drop (length front) old in
    let left_size = length-drop (length front) old in
    let parts : new ≡ head ++ (chain_words ms ++ closing left) = made ∙ append_assoc head (chain_words ms) (closing left) in
    let tail : drop (length front) new ≡ closing left = ap (drop (length front)) made ∙ drop_at front (closing left) (length front) refl in
    let next : suc (chain_end ms) ≡ length front + 1 = omega arith in
    record {
      size = ap length made ∙ length-with_chain old ms room;
      before = ap (take 64) parts ∙ take_at head (chain_words ms ++ closing left) 64 head_size;
      chain = subst (λ (cells : List ℕ). AreItems Begins IsEnd cells ms) (sym (ap (drop 64) parts ∙ drop_at head (chain_words ms ++ closing left) 64 head_size))
          (chain_of_parts ms (closing left) typed (closing_ends left));
      mark = λ some. ap (slice_get new) (sym size) ∙ ap (λ (ws : List ℕ). slice_get ws (length front)) made ∙ slice_get_after front (closing left) ∙ closing_mark left (omega arith);
      after = ap (λ (n : ℕ). drop n new) next ∙ sym (drop-drop 1 (length front) new) ∙ ap (drop 1) tail ∙ drop-closing left ∙ drop-drop 1 (length front) old ∙ ap (λ (n : ℕ). drop n old) (sym next);
    }

-- what is accepted is the relation
pub exchange_is : (words : List ℕ) (kind : ℕ) (content : List ℕ) (ms : List Member) (new : List ℕ) → IsChain words ms → count_of kind ms ≤ 1 → kind ≢ 0xFFFF
    → chain_end (exchanged kind content ms) ≤ length words → new ≡ with_chain words (exchanged kind content ms) → ChangesCategory words kind content new
exchange_is words kind content ms new chain few fit room made =
    let place : Option ℕ = position (has_kind kind) ms in
    record {
      chain = ms;
      place = place;
      read = chain;
      one = place_is kind ms place refl few;
      edit = edit_is words new (exchanged kind content ms) room (typed_spliced place kind content ms fit (typed_chain (drop 64 words) ms chain)) made;
    }

first_fails : (a b : Bool) → (a || b) ≡ false → a ≡ false
first_fails true b fails = fails
first_fails false b fails = refl

other_kind : (kind : ℕ) (malformed : Bool) → (kind == 0xFFFF || malformed) ≡ false → kind ≢ 0xFFFF
other_kind kind malformed fails = let test = first_fails (kind == 0xFFFF) malformed fails in eqb-false kind 0xFFFF test

few_of : (count : ℕ) → nat_lt 1 count ≡ false → count ≤ 1
few_of count fails = within count 1 fails

read_changes : (laws : ReadingsAgree) (kind : ℕ) (content words new : List ℕ) (read : Result (List Member) (List ℕ)) → members_of words ≡ read → is_err read ≡ false
    → if_read read (is_repeated kind) ≡ false → is_unfit kind content ≡ false → if_read read (is_too_long words kind content) ≡ false → new ≡ rechained kind content words read
    → ChangesCategory words kind content new
read_changes laws kind content words new (Ok ms) is readable once fit room made =
    exchange_is words kind content ms new ((laws.chain words ms).0 is) (few_of (count_of kind ms) once) (other_kind kind (is_malformed kind content) fit)
    (within (chain_end (exchanged kind content ms)) (length words) room) made
read_changes laws kind content words new (Err rest) is readable once fit room made = cc

pub category_changes : ReadingsAgree → (expect : Option Expect) (kind : ℕ) (content words new : List ℕ) → unless (category_causes expect words kind content) (with_category words kind content) ≡ Ok new
    → ChangesCategory words kind content new
category_changes laws expect kind content words new validated =
    let passed = none_holds (category_causes expect words kind content) (with_category words kind content) new validated in
    read_changes laws kind content words new (members_of words) refl passed.1.1.1.1.1.0 passed.1.1.0 passed.1.1.1.0 passed.1.1.1.1.0
    (unless-ok (category_causes expect words kind content) (with_category words kind content) new validated)
