-- Values that are written to the first places of a list.
use Rattle.std.proofs.Common.{◌≡◌, ℕ, ◌+◌, ◌<◌, ◌≤◌, List, [], ◌∷◌, ◌++◌, length, map, take, drop, get_or, set, sym, ap, ◌∙◌, arith}
use Rattle.std.proofs.Math.Seq.{set-append_seam}
use Rattle.std.proofs.lemmas.List.{append_assoc, drop_more, length-map, length-take-le, map-append, take_more}

-- one place more
pub written_more : {X Y : Type 0} (f : X → Y) (xs : List X) (old out : List Y) (i : ℕ) (x dx : X) (dy : Y) → i < length xs → length xs ≤ length old
    → out ≡ map f (take i xs) ++ drop i old → x ≡ get_or xs i dx → set out i (f x) ≡ map f (take (i + 1) xs) ++ drop (i + 1) old
written_more {X} {Y} f xs old out i x dx dy within room is read =
    let front = map f (take i xs) in
    let long : length front ≡ i = length-map (take i xs) f ∙ length-take-le i xs (omega arith) in
    let next : drop i old ≡ get_or old i dy ∷ drop (i + 1) old = drop_more old i dy (omega arith) in
    let seam : set (front ++ get_or old i dy ∷ drop (i + 1) old) (length front) (f x) ≡ front ++ f x ∷ drop (i + 1) old = set-append_seam front (get_or old i dy) (drop (i + 1) old) (f x) in
    let more : map f (take (i + 1) xs) ≡ front ++ f x ∷ [] =
    ap (map f) (take_more xs i dx within) ∙ map-append f (take i xs) (get_or xs i dx ∷ []) ∙ ap (λ (it : X). front ++ f it ∷ []) (sym read) in
    ap (λ (l : List Y). set l i (f x)) (is ∙ ap (λ (l : List Y). front ++ l) next)
    ∙ ap (λ (n : ℕ). set (front ++ get_or old i dy ∷ drop (i + 1) old) n (f x)) (sym long)
    ∙ seam
    ∙ sym (append_assoc front (f x ∷ []) (drop (i + 1) old))
    ∙ ap (λ (l : List Y). l ++ drop (i + 1) old) (sym more)
