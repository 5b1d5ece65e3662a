-- The words of slaves that are copied one by one.
use Rattle.std.proofs.Common.{◌≡◌, ℕ, zero, suc, ◌+◌, ◌<◌, ◌≤◌, List, [], ◌∷◌, ◌++◌, Option, length, take, get_or}
use Rattle.std.proofs.Common.{add-one, slice_get, unwrap_or, sym, ap, ◌∙◌, subst, arith}
use Rattle.std.specs.Option.{option_map}
use Rattle.std.proofs.lemmas.List.{length-map}
use Rattle.esc_model.specs.SlaveHalf.{SlaveHalf}
use Rattle.book_model.specs.Opening.{words_in}
use Rattle.site_shadow.specs.Line.{half_of, halves_of}

-- a half with a number of words that a device may have
pub held : (halves : List (Option SlaveHalf)) (slave : ℕ) (half : Option SlaveHalf) (size : ℕ) → half ≡ get_or halves slave half → slave < length halves
    → size ≡ unwrap_or (option_map (λ (h : SlaveHalf). length h.words) (slice_get (halves_of halves) slave)) 0 → 64 ≤ size → 1 ≤ length (half_of half).words
held [] slave half size is inside same most = absurd (omega arith)
held (h ∷ halves) zero half size is inside same most =
    let here : size ≡ length (half_of half).words = same ∙ ap (λ (x : Option SlaveHalf). length (half_of x).words) (sym is) in
    omega (arith, here, most)
held (h ∷ halves) (suc slave) half size is inside same most = held halves slave half size is (omega arith) same most

more : (halves : List (Option SlaveHalf)) (slave : ℕ) (half : Option SlaveHalf) → half ≡ get_or halves slave half → slave < length halves
    → words_in (take (suc slave) (halves_of halves)) ≡ words_in (take slave (halves_of halves)) ++ (half_of half).words ∷ []
more [] slave half is inside = absurd (omega arith)
more (h ∷ halves) zero half is inside = ap (λ (x : Option SlaveHalf). (half_of x).words ∷ []) (sym is)
more (h ∷ halves) (suc slave) half is inside = ap (λ (rest : List (List ℕ)). (half_of h).words ∷ rest) (more halves slave half is (omega arith))

-- one more slave after the others
pub words_more : (halves : List (Option SlaveHalf)) (all : List SlaveHalf) (slave count : ℕ) (half : Option SlaveHalf) (words : List ℕ) (items : List (List ℕ)) → halves_of halves ≡ all
    → half ≡ get_or halves slave half → slave < count → count ≡ length all → items ≡ words_in (take slave all) → words ≡ (half_of half).words → items ++ words ∷ [] ≡ words_in (take (slave + 1) all)
words_more halves all slave count half words items same is below many before here =
    let long : length (halves_of halves) ≡ length all = ap length same in
    let inside : slave < length halves = omega (arith, below, many, long, length-map halves half_of) in
    ap (λ (xs : List (List ℕ)). xs ++ words ∷ []) before ∙ ap (λ (w : List ℕ). words_in (take slave all) ++ w ∷ []) here
    ∙ subst (λ (hs : List SlaveHalf). words_in (take slave hs) ++ (half_of half).words ∷ [] ≡ words_in (take (suc slave) hs)) same (sym (more halves slave half is inside))
    ∙ ap (λ (n : ℕ). words_in (take n all)) (sym (add-one slave))
