-- The check bytes of one slave after another.
use Rattle.std.proofs.Common.{◌≡◌, ℕ, ◌+◌, ◌<◌, List, [], ◌∷◌, ◌++◌, length, take, subst}
use Rattle.std.specs.List.{AllZip}
use Rattle.std.proofs.lemmas.List.{take_more}
use Rattle.sii_words.specs.Plant.{words_of}
use Rattle.station_listing.specs.ImageListing.{SaysCheck}
use Rattle.station_listing.specs.declared.listing.CheckByte.{CheckByte}

-- one more pair
pushed : (plants : List (List ℕ)) (checks : List CheckByte) (words : List ℕ) (check : CheckByte) → AllZip SaysCheck plants checks
    → SaysCheck words check → AllZip SaysCheck (plants ++ words ∷ []) (checks ++ check ∷ [])
pushed [] [] words check all here = (here, tt)
pushed [] (c ∷ checks) words check all here = absurd all
pushed (p ∷ plants) [] words check all here = absurd all
pushed (p ∷ plants) (c ∷ checks) words check all here = (all.0, pushed plants checks words check all.1 here)

-- one more slave
pub next_check : (plant : List (List ℕ)) (slave : ℕ) (words : List ℕ) (checks items : List CheckByte) (check : CheckByte)
    → slave < length plant → words ≡ words_of plant slave → items ≡ checks ++ check ∷ [] → AllZip SaysCheck (take slave plant) checks
    → SaysCheck words check → AllZip SaysCheck (take (slave + 1) plant) items
next_check plant slave words checks items check inside is pushes all here =
    let P : List ℕ → Type 0 = λ w. SaysCheck w check in
    let said : AllZip SaysCheck (take slave plant ++ words_of plant slave ∷ []) (checks ++ check ∷ [])
    = pushed (take slave plant) checks (words_of plant slave) check all (subst P is here) in
    rw (take_more plant slave [] inside) (rw pushes said)
