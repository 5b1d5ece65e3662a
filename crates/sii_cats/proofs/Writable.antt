-- A fact of each item of a list, for the running code's items and for their values in contracts.
use Rattle.std.proofs.Common.{List, map, All, subst, arith}
use Rattle.std.proofs.lemmas.List.{get_or-map, length-map}

pub All-from_map : {X Y : Type 0} (P : X → Type 0) (f : Y → X) (ys : List Y) → All P (map f ys) → All (λ y. P (f y)) ys
All-from_map P f ys h = λ k d lt. subst P (get_or-map f ys k d (f d) lt) (h k (f d) (let len = length-map ys f in omega arith))
