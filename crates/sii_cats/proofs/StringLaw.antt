-- Strings: reading them one by one gives what the grammar relates to the bytes.
use Rattle.std.proofs.Common.{◌≡◌, ℕ, ◌≤◌, Bool, true, false, cond, ltb, List, [], ◌∷◌, ◌++◌, length, take, drop, Ok, Err, refl, sym, ap, subst, ◌∙◌, arith}
use Rattle.std.proofs.lemmas.Bool.{ltb-false, le-ltb}
use Rattle.std.proofs.lemmas.List.{take_at, drop_at, take-append-drop, length-append, length-take}
use Rattle.std.specs.List.{flat_map}
use Rattle.sii_cats.specs.steps.Items.{◌>>=◌, counted}
use Rattle.sii_cats.specs.Strings.{AreStrings, string_bytes}
use Rattle.sii_cats.specs.steps.Strings.{string_at, strings_in}
use Rattle.sii_cats.proofs.Items.{ok_is, bind_ok, IsReader, counted_takes, counted_again}
use Rattle.sii_cats.proofs.ChainLaw.{Anything}

guard_ok : {A E : Type 0} (b : Bool) (d : E) (x y : A) → cond b (Err d) (Ok x) ≡ Ok y → (b ≡ false) × (x ≡ y)
guard_ok true d x y e = absurd cc
guard_ok false d x y e = (refl, cc)

string_takes : (cells : List ℕ) (x : List ℕ × List ℕ) → Anything cells → string_at cells ≡ Ok x → (cells ≡ string_bytes x.0 ++ x.1) × Anything x.1
string_takes [] x good e = absurd cc
string_takes (count ∷ bytes) x good e =
    let made : List ℕ × List ℕ = (take count bytes, drop count bytes) in
    let g = guard_ok (ltb (length bytes) count) (count ∷ bytes) made x e in
    let long : count ≤ length bytes = ltb-false _ _ g.0 in
    let len : length (take count bytes) ≡ count = omega (arith, length-take count bytes) in
    let spelt : count ∷ bytes ≡ string_bytes (take count bytes) ++ drop count bytes =
    sym (ap (λ (n : ℕ). n ∷ (take count bytes ++ drop count bytes)) len ∙ ap (λ (t : List ℕ). count ∷ t) (take-append-drop count bytes)) in
    subst (λ (y : List ℕ × List ℕ). (count ∷ bytes ≡ string_bytes y.0 ++ y.1) × Anything y.1) g.1 (spelt, tt)

string_again : (x rest : List ℕ) → string_at (string_bytes x ++ rest) ≡ Ok (x, rest)
string_again x rest =
    let long : ltb (length (x ++ rest)) (length x) ≡ false = le-ltb _ _ (omega (arith, length-append x rest)) in
    rw (long, take_at x rest (length x) refl, drop_at x rest (length x) refl) refl

string_reader : IsReader Anything string_at string_bytes
string_reader = record { takes = string_takes; again = string_again }

pub strings_are : (bytes : List ℕ) (strings : List (List ℕ)) → strings_in bytes ≡ Ok strings → AreStrings bytes strings
strings_are [] strings e = sym (ok_is [] strings e)
strings_are (count ∷ bytes) strings e =
    let read = bind_ok (counted string_at count bytes) (λ x. Ok x.0) strings e in
    let spelt = counted_takes Anything string_at string_bytes string_reader count bytes read.0 tt read.1 in
    subst (λ (ss : List (List ℕ)). (count ≡ length ss) × (rest : List ℕ) × (bytes ≡ flat_map string_bytes ss ++ rest)) (ok_is read.0.0 strings read.2)
    (sym spelt.1, read.0.1, spelt.0)

pub strings_again : (bytes : List ℕ) (strings : List (List ℕ)) → AreStrings bytes strings → strings_in bytes ≡ Ok strings
strings_again [] strings h = ap (λ (ss : List (List ℕ)). Ok ss) (sym h)
strings_again (count ∷ bytes) strings h =
    ap (λ n. counted string_at n bytes >>= λ x. Ok x.0) h.0
    ∙ ap (λ cells. counted string_at (length strings) cells >>= λ x. Ok x.0) h.2
    ∙ ap (λ r. r >>= λ x. Ok x.0) (counted_again Anything string_at string_bytes string_reader strings h.1)
