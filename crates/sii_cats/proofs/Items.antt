-- Items: reading them one by one gives what the grammar relates to the cells.
use Rattle.std.proofs.Common.{◌≡◌, ℕ, zero, suc, ◌-◌, ◌+◌, ◌<◌, ◌≤◌, List, [], ◌∷◌, ◌++◌, length, Result, Ok, Err, refl, sym, ap, subst, ◌∙◌, append_assoc, arith}
use Rattle.std.specs.Prelude.{IsErr}
use Rattle.std.specs.List.{flat_map}
use Rattle.std.proofs.lemmas.List.{append-nil}
use Rattle.sii_cats.specs.Items.{AreItems}
use Rattle.sii_cats.specs.steps.Items.{Front, ◌>>=◌, items_after, items_below, items_of, counted}
use Rattle.sii_cats.specs.steps.Items.Front.{Ended, Item, Broken}

abbrev done : {A : Type 0} → A → Result A (List ℕ)
done x = Ok x

pub ok_is : {A : Type 0} (x y : A) → done x ≡ done y → x ≡ y
ok_is x y e = cc

-- a step that did not fail
pub bind_ok : {A B E : Type 0} (r : Result A E) (f : A → Result B E) (y : B) → (r >>= f) ≡ Ok y → (x : A) × (r ≡ Ok x) × (f x ≡ Ok y)
bind_ok (Ok x) f y e = (x, refl, e)
bind_ok (Err d) f y e = absurd cc

-- what is left behind an item is shorter
pub record Shrinks {X : Type 0} (front : List ℕ → Front X) : Type 0 where
  pub shorter : (cells : List ℕ) (x : X) (rest : List ℕ) → front cells ≡ Item x rest → length rest < length cells

same_after : {X : Type 0} (cells : List ℕ) (f g : List ℕ → Result (List X) (List ℕ)) (a : Front X)
    → ((x : X) (rest : List ℕ) → a ≡ Item x rest → f rest ≡ g rest) → items_after cells a f ≡ items_after cells a g
same_after cells f g Ended h = refl
same_after cells f g (Item x rest) h = ap (λ r. r >>= λ xs. Ok (x ∷ xs)) (h x rest refl)
same_after cells f g Broken h = refl

-- any bound above the number of cells gives the same items
enough : {X : Type 0} (front : List ℕ → Front X) → Shrinks front → (m n : ℕ) (cells : List ℕ) → length cells < m → length cells < n
    → items_below front m cells ≡ items_below front n cells
unfolding items_below
enough front s zero n cells h k = absurd (omega arith)
enough front s (suc m) zero cells h k = absurd (omega arith)
enough front s (suc m) (suc n) cells h k =
    same_after cells (items_below front m) (items_below front n) (front cells)
    (λ x rest e. let lt : length rest < length cells = s.shorter cells x rest e in enough front s m n rest (omega arith) (omega arith))

pub items_of-item : {X : Type 0} (front : List ℕ → Front X) → Shrinks front → (cells : List ℕ) (x : X) (rest : List ℕ)
    → front cells ≡ Item x rest → items_of front cells ≡ (items_of front rest >>= λ xs. Ok (x ∷ xs))
unfolding items_of items_below
items_of-item front s cells x rest e =
    let lt : length rest < length cells = s.shorter cells x rest e in
    ap (λ a. items_after cells a (items_below front (length cells))) e
    ∙ ap (λ r. r >>= λ xs. Ok (x ∷ xs)) (enough front s (length cells) (suc (length rest)) rest (omega arith) (omega arith))

pub items_of-ended : {X : Type 0} (front : List ℕ → Front X) (cells : List ℕ) → front cells ≡ Ended → items_of front cells ≡ Ok []
unfolding items_of items_below
items_of-ended front cells e = ap (λ a. items_after cells a (items_below front (length cells))) e

pub items_of-broken : {X : Type 0} (front : List ℕ → Front X) (cells : List ℕ) → front cells ≡ Broken → items_of front cells ≡ Err cells
unfolding items_of items_below
items_of-broken front cells e = ap (λ a. items_after cells a (items_below front (length cells))) e

-- ---- a loop over the items: those read before, and those of the rest

abbrev pub with_front : {X : Type 0} → List X → Result (List X) (List ℕ) → Result (List X) (List ℕ)
with_front before read = read >>= λ xs. Ok (before ++ xs)

one_more : {X : Type 0} (before : List X) (x : X) (read : Result (List X) (List ℕ))
    → with_front before (read >>= λ xs. Ok (x ∷ xs)) ≡ with_front (before ++ x ∷ []) read
one_more before x (Ok xs) = ap (λ all. Ok all) (sym (append_assoc before (x ∷ []) xs))
one_more before x (Err rest) = refl

pub goes_on : {X : Type 0} (front : List ℕ → Front X) → Shrinks front → (before : List X) (cells : List ℕ) (x : X) (rest : List ℕ) (total : Result (List X) (List ℕ))
    → front cells ≡ Item x rest → with_front before (items_of front cells) ≡ total → with_front (before ++ x ∷ []) (items_of front rest) ≡ total
goes_on front s before cells x rest total e so_far =
    sym (ap (with_front before) (items_of-item front s cells x rest e) ∙ one_more before x (items_of front rest)) ∙ so_far

pub is_done : {X : Type 0} (front : List ℕ → Front X) (before : List X) (cells : List ℕ) (total : Result (List X) (List ℕ))
    → front cells ≡ Ended → with_front before (items_of front cells) ≡ total → total ≡ Ok before
is_done front before cells total e so_far =
    sym so_far ∙ ap (with_front before) (items_of-ended front cells e) ∙ ap (λ all. Ok all) (append-nil before)

pub breaks : {X : Type 0} (front : List ℕ → Front X) (before : List X) (cells : List ℕ) (total : Result (List X) (List ℕ))
    → front cells ≡ Broken → with_front before (items_of front cells) ≡ total → total ≡ Err cells
breaks front before cells total e so_far = sym so_far ∙ ap (with_front before) (items_of-broken front cells e)

-- ---- a loop that counts the items

abbrev pub with_read : {X : Type 0} → List X → Result (List X × List ℕ) (List ℕ) → Result (List X × List ℕ) (List ℕ)
with_read before read = read >>= λ x. Ok (before ++ x.0, x.1)

one_more_read : {X : Type 0} (before : List X) (x : X) (read : Result (List X × List ℕ) (List ℕ))
    → with_read before (read >>= λ y. Ok (x ∷ y.0, y.1)) ≡ with_read (before ++ x ∷ []) read
one_more_read before x (Ok y) = ap (λ all. Ok (all, y.1)) (sym (append_assoc before (x ∷ []) y.0))
one_more_read before x (Err rest) = refl

pub counts_on : {X : Type 0} (one : List ℕ → Result (X × List ℕ) (List ℕ)) (before : List X) (count i : ℕ) (cells : List ℕ) (x : X) (rest : List ℕ) (total : Result (List X × List ℕ) (List ℕ))
    → i < count → one cells ≡ Ok (x, rest) → with_read before (counted one (count - i) cells) ≡ total → with_read (before ++ x ∷ []) (counted one (count - (i + 1)) rest) ≡ total
unfolding counted
counts_on one before count i cells x rest total lt e so_far =
    let k : count - i ≡ suc (count - (i + 1)) = omega arith in
    let step : with_read before (counted one (count - i) cells) ≡ with_read (before ++ x ∷ []) (counted one (count - (i + 1)) rest) =
    rw (k, e) (one_more_read before x (counted one (count - (i + 1)) rest)) in
    sym step ∙ so_far

pub counts_out : {X : Type 0} (one : List ℕ → Result (X × List ℕ) (List ℕ)) (before : List X) (count i : ℕ) (cells : List ℕ) (total : Result (List X × List ℕ) (List ℕ))
    → count ≤ i → with_read before (counted one (count - i) cells) ≡ total → total ≡ Ok (before, cells)
unfolding counted
counts_out one before count i cells total le so_far =
    let k : count - i ≡ 0 = omega arith in
    let last : with_read before (counted one (count - i) cells) ≡ Ok (before, cells) = rw k (ap (λ all. Ok (all, cells)) (append-nil before)) in
    sym so_far ∙ last

pub err_is : {A E : Type 0} (r : Result A E) → IsErr r → (e : E) × (r ≡ Err e)
err_is (Ok x) h = absurd cc
err_is (Err e) h = (e, refl)

broken_total : {X : Type 0} (one : List ℕ → Result (X × List ℕ) (List ℕ)) (before : List X) (count i : ℕ) (cells : List ℕ) (total : Result (List X × List ℕ) (List ℕ)) (rest : List ℕ)
    → count - i ≡ suc (count - (i + 1)) → one cells ≡ Err rest → with_read before (counted one (count - i) cells) ≡ total → IsErr total
unfolding counted
broken_total one before count i cells total rest k e so_far =
    let last : with_read before (counted one (count - i) cells) ≡ Err rest = rw (k, e) refl in
    subst IsErr (sym last ∙ so_far) refl

-- where one isn't read, all aren't
pub count_breaks : {X : Type 0} (one : List ℕ → Result (X × List ℕ) (List ℕ)) (before : List X) (count i : ℕ) (cells : List ℕ) (total : Result (List X × List ℕ) (List ℕ))
    → i < count → IsErr (one cells) → with_read before (counted one (count - i) cells) ≡ total → IsErr total
unfolding counted
count_breaks one before count i cells total lt h so_far =
    let k : count - i ≡ suc (count - (i + 1)) = omega arith in
    let e = err_is (one cells) h in
    broken_total one before count i cells total e.0 k e.1 so_far

-- ---- what is read is what the grammar relates, for cells that are good (as bytes are, each below 256)

-- The front is read as the grammar says.
pub record IsFront {X : Type 0} (Good : List ℕ → Type 0) (front : List ℕ → Front X) (Begins : List ℕ → X → List ℕ → Type 0) (Ends : List ℕ → Type 0) : Type 0 where
  pub ended : (cells : List ℕ) → front cells ≡ Ended → Ends cells
  pub at_end : (cells : List ℕ) → Ends cells → front cells ≡ Ended
  pub takes : (cells : List ℕ) (x : X) (rest : List ℕ) → Good cells → front cells ≡ Item x rest → Begins cells x rest × Good rest
  pub again : (cells : List ℕ) (x : X) (rest : List ℕ) → Begins cells x rest → front cells ≡ Item x rest

after_are : {X : Type 0} (Good : List ℕ → Type 0) (front : List ℕ → Front X) (Begins : List ℕ → X → List ℕ → Type 0) (Ends : List ℕ → Type 0) → IsFront Good front Begins Ends
    → (others : List ℕ → Result (List X) (List ℕ)) → ((rest : List ℕ) (ys : List X) → Good rest → others rest ≡ Ok ys → AreItems Begins Ends rest ys)
    → (cells : List ℕ) (xs : List X) (a : Front X) → Good cells → front cells ≡ a → items_after cells a others ≡ Ok xs → AreItems Begins Ends cells xs
after_are Good front Begins Ends law others more cells xs Ended good e h =
    subst (AreItems Begins Ends cells) (ok_is [] xs h) (law.ended cells e)
after_are Good front Begins Ends law others more cells xs (Item x rest) good e h =
    let read = bind_ok (others rest) (λ ys. Ok (x ∷ ys)) xs h in
    let first = law.takes cells x rest good e in
    subst (AreItems Begins Ends cells) (ok_is (x ∷ read.0) xs read.2) (rest, first.0, more rest read.0 first.1 read.1)
after_are Good front Begins Ends law others more cells xs Broken good e h = absurd cc

items_below_are : {X : Type 0} (Good : List ℕ → Type 0) (front : List ℕ → Front X) (Begins : List ℕ → X → List ℕ → Type 0) (Ends : List ℕ → Type 0) → IsFront Good front Begins Ends
    → (n : ℕ) (cells : List ℕ) (xs : List X) → Good cells → items_below front n cells ≡ Ok xs → AreItems Begins Ends cells xs
unfolding items_below
items_below_are Good front Begins Ends law zero cells xs good h = absurd cc
items_below_are Good front Begins Ends law (suc n) cells xs good h =
    after_are Good front Begins Ends law (items_below front n) (λ rest ys g e. items_below_are Good front Begins Ends law n rest ys g e) cells xs (front cells) good refl h

pub items_are : {X : Type 0} (Good : List ℕ → Type 0) (front : List ℕ → Front X) (Begins : List ℕ → X → List ℕ → Type 0) (Ends : List ℕ → Type 0) → IsFront Good front Begins Ends
    → (cells : List ℕ) (xs : List X) → Good cells → items_of front cells ≡ Ok xs → AreItems Begins Ends cells xs
unfolding items_of
items_are Good front Begins Ends law cells xs good h = items_below_are Good front Begins Ends law (suc (length cells)) cells xs good h

pub items_again : {X : Type 0} (Good : List ℕ → Type 0) (front : List ℕ → Front X) (Begins : List ℕ → X → List ℕ → Type 0) (Ends : List ℕ → Type 0) → IsFront Good front Begins Ends → Shrinks front
    → (cells : List ℕ) (xs : List X) → AreItems Begins Ends cells xs → items_of front cells ≡ Ok xs
items_again Good front Begins Ends law s cells [] h = items_of-ended front cells (law.at_end cells h)
items_again Good front Begins Ends law s cells (x ∷ xs) h =
    items_of-item front s cells x h.0 (law.again cells x h.0 h.1)
    ∙ ap (λ r. r >>= λ ys. Ok (x ∷ ys)) (items_again Good front Begins Ends law s h.0 xs h.2)

-- ---- where items can't be read

bind_err : {A B E : Type 0} (r : Result A E) (f : A → B) (e : E) → (r >>= λ x. Ok (f x)) ≡ Err e → r ≡ Err e
bind_err (Ok x) f e h = absurd cc
bind_err (Err d) f e h = cc

-- the items in front of what can't be read
abbrev pub BreaksAt : {X : Type 0} → (List ℕ → Front X) → List ℕ → List ℕ → Type 0
BreaksAt front broken rest = (rest ≡ broken) × (front rest ≡ Broken)

after_break : {X : Type 0} (Good : List ℕ → Type 0) (front : List ℕ → Front X) (Begins : List ℕ → X → List ℕ → Type 0) (Ends : List ℕ → Type 0) → IsFront Good front Begins Ends
    → Shrinks front → (others : List ℕ → Result (List X) (List ℕ)) (broken cells : List ℕ)
    → ((rest : List ℕ) → length rest < length cells → Good rest → others rest ≡ Err broken → (ys : List X) × AreItems Begins (BreaksAt front broken) rest ys)
    → (a : Front X) → Good cells → front cells ≡ a → items_after cells a others ≡ Err broken → (xs : List X) × AreItems Begins (BreaksAt front broken) cells xs
after_break Good front Begins Ends law s others broken cells more Ended good e h = absurd cc
after_break Good front Begins Ends law s others broken cells more (Item x rest) good e h =
    let first = law.takes cells x rest good e in
    let later = more rest (s.shorter cells x rest e) first.1 (bind_err (others rest) (λ ys. x ∷ ys) broken h) in
    (x ∷ later.0, (rest, first.0, later.1))
after_break Good front Begins Ends law s others broken cells more Broken good e h = ([], (cc, e))

items_below_break : {X : Type 0} (Good : List ℕ → Type 0) (front : List ℕ → Front X) (Begins : List ℕ → X → List ℕ → Type 0) (Ends : List ℕ → Type 0) → IsFront Good front Begins Ends
    → Shrinks front → (n : ℕ) (broken cells : List ℕ) → length cells < n → Good cells → items_below front n cells ≡ Err broken → (xs : List X) × AreItems Begins (BreaksAt front broken) cells xs
unfolding items_below
items_below_break Good front Begins Ends law s zero broken cells lt good h = absurd (omega arith)
items_below_break Good front Begins Ends law s (suc n) broken cells lt good h =
    after_break Good front Begins Ends law s (items_below front n) broken cells
    (λ rest shorter g e. items_below_break Good front Begins Ends law s n broken rest (omega arith) g e) (front cells) good refl h

pub items_break : {X : Type 0} (Good : List ℕ → Type 0) (front : List ℕ → Front X) (Begins : List ℕ → X → List ℕ → Type 0) (Ends : List ℕ → Type 0) → IsFront Good front Begins Ends
    → Shrinks front → (broken cells : List ℕ) → Good cells → items_of front cells ≡ Err broken → (xs : List X) × AreItems Begins (BreaksAt front broken) cells xs
unfolding items_of
items_break Good front Begins Ends law s broken cells good h = items_below_break Good front Begins Ends law s (suc (length cells)) broken cells (omega arith) good h

-- where one can't be read after the items, they can't be read
pub items_break_again : {X : Type 0} (Good : List ℕ → Type 0) (front : List ℕ → Front X) (Begins : List ℕ → X → List ℕ → Type 0) (Ends : List ℕ → Type 0) → IsFront Good front Begins Ends
    → Shrinks front → (broken cells : List ℕ) (xs : List X) → AreItems Begins (BreaksAt front broken) cells xs → items_of front cells ≡ Err broken
items_break_again Good front Begins Ends law s broken cells [] h = items_of-broken front cells h.1 ∙ ap (λ rest. Err rest) h.0
items_break_again Good front Begins Ends law s broken cells (x ∷ xs) h =
    items_of-item front s cells x h.0 (law.again cells x h.0 h.1)
    ∙ ap (λ r. r >>= λ ys. Ok (x ∷ ys)) (items_break_again Good front Begins Ends law s broken h.0 xs h.2)

-- the same items before another kind of end
pub AreItems-ends : {X : Type 0} (Begins : List ℕ → X → List ℕ → Type 0) (E F : List ℕ → Type 0) → ((rest : List ℕ) → E rest → F rest)
    → (cells : List ℕ) (xs : List X) → AreItems Begins E cells xs → AreItems Begins F cells xs
AreItems-ends Begins E F f cells [] h = f cells h
AreItems-ends Begins E F f cells (x ∷ xs) h = (h.0, h.1, AreItems-ends Begins E F f h.0 xs h.2)

-- One item is read as it is spelt.
pub record IsReader {X : Type 0} (Good : List ℕ → Type 0) (one : List ℕ → Result (X × List ℕ) (List ℕ)) (spell : X → List ℕ) : Type 0 where
  pub takes : (cells : List ℕ) (x : X × List ℕ) → Good cells → one cells ≡ Ok x → (cells ≡ spell x.0 ++ x.1) × Good x.1
  pub again : (x : X) (rest : List ℕ) → one (spell x ++ rest) ≡ Ok (x, rest)

pub counted_takes : {X : Type 0} (Good : List ℕ → Type 0) (one : List ℕ → Result (X × List ℕ) (List ℕ)) (spell : X → List ℕ) → IsReader Good one spell
    → (n : ℕ) (cells : List ℕ) (x : List X × List ℕ) → Good cells → counted one n cells ≡ Ok x → (cells ≡ flat_map spell x.0 ++ x.1) × (length x.0 ≡ n) × Good x.1
unfolding counted
counted_takes {X} Good one spell law zero cells x good e =
    let made : List X × List ℕ = ([], cells) in
    subst (λ (y : List X × List ℕ). (cells ≡ flat_map spell y.0 ++ y.1) × (length y.0 ≡ 0) × Good y.1) (ok_is made x e) (refl, refl, good)
counted_takes {X} Good one spell law (suc n) cells x good e =
    let first = bind_ok (one cells) (λ f. counted one n f.1 >>= λ o. Ok (f.0 ∷ o.0, o.1)) x e in
    let others = bind_ok (counted one n first.0.1) (λ o. Ok (first.0.0 ∷ o.0, o.1)) x first.2 in
    let a = law.takes cells first.0 good first.1 in
    let b = counted_takes Good one spell law n first.0.1 others.0 a.1 others.1 in
    let made : List X × List ℕ = (first.0.0 ∷ others.0.0, others.0.1) in
    let entire : cells ≡ (spell first.0.0 ++ flat_map spell others.0.0) ++ others.0.1 =
    a.0 ∙ ap (λ (t : List ℕ). spell first.0.0 ++ t) b.0 ∙ sym (append_assoc (spell first.0.0) (flat_map spell others.0.0) others.0.1) in
    let len : suc (length others.0.0) ≡ suc n = ap suc b.1 in
    subst (λ (y : List X × List ℕ). (cells ≡ flat_map spell y.0 ++ y.1) × (length y.0 ≡ suc n) × Good y.1) (ok_is made x others.2) (entire, len, b.2)

pub counted_again : {X : Type 0} (Good : List ℕ → Type 0) (one : List ℕ → Result (X × List ℕ) (List ℕ)) (spell : X → List ℕ) → IsReader Good one spell
    → (xs : List X) (rest : List ℕ) → counted one (length xs) (flat_map spell xs ++ rest) ≡ Ok (xs, rest)
unfolding counted
counted_again Good one spell law [] rest = refl
counted_again Good one spell law (x ∷ xs) rest =
    let regrouped : (spell x ++ flat_map spell xs) ++ rest ≡ spell x ++ (flat_map spell xs ++ rest) = append_assoc (spell x) (flat_map spell xs) rest in
    ap (λ cells. one cells >>= λ f. counted one (length xs) f.1 >>= λ o. Ok (f.0 ∷ o.0, o.1)) regrouped
    ∙ rw (law.again x (flat_map spell xs ++ rest), counted_again Good one spell law xs rest) refl
