-- Files that are written one after the other.
use Rattle.std.proofs.Common.{◌≡◌, ◌≢◌, ℕ, ◌+◌, ◌<◌, List, [], ◌∷◌, ◌++◌, Option, IfSome, IsSomeAnd, Contains, length}
use Rattle.std.proofs.Common.{map, take, get_or, String, Vec, Global, string_bytes, sym, ap, ◌∙◌, subst, arith}
use Rattle.std.proofs.lemmas.List.{get_or-map, length-map, map_more}
use Rattle.std.proofs.lemmas.List.Elements.{Contains-append_left, Contains-append_right, Contains-get_or}
use Rattle.station_files.specs.Files.{Known, HasBytes, ChangesOnly, ChangesAmong, HoldsAll}

-- another file stays as it was
stays : (old new : Known) (name other bytes : List ℕ) → ChangesOnly old new name → other ≢ name → HasBytes old other bytes → HasBytes new other bytes
stays old new name other bytes changes separate held = let P : Option (Option (List ℕ)) → Type 0 = λ found. IfSome found (λ held. IsSomeAnd held (λ there. bytes ≡ there)) in subst P (sym (changes other separate)) held

-- one more file is written
pub holds_one_more : (old new : Known) (names contents : List (List ℕ)) (name bytes : List ℕ) → HoldsAll old names contents → ChangesOnly old new name → HasBytes new name bytes → HoldsAll new (names ++ name ∷ []) (contents ++ bytes ∷ [])
holds_one_more old new [] [] name bytes held changes here = ((λ absent. here), tt)
holds_one_more old new [] (b ∷ contents) name bytes held changes here = absurd held
holds_one_more old new (n ∷ names) [] name bytes held changes here = absurd held
holds_one_more old new (n ∷ names) (b ∷ contents) name bytes held changes here = (
  (λ absent.
      let separate : n ≢ name = λ same. absent (Contains-append_right names (name ∷ []) n (0, omega arith, sym same)) in
      stays old new name n b changes separate (held.0 (λ later. absent (Contains-append_left names (name ∷ []) n later)))),
  holds_one_more old new names contents name bytes held.1 changes here,
)

-- the next file is written
pub write_step : (old new : Known) (images : List (String Global)) (files : List (Vec ℕ Global)) (i : ℕ) (image : String Global) (file : Vec ℕ Global) (name bytes : List ℕ) → i < length images → i < length files
    → image ≡ get_or images i image → file ≡ get_or files i file → name ≡ string_bytes image → bytes ≡ file.items
    → HoldsAll old (map (λ n. string_bytes n) (take i images)) (map (λ f. f.items) (take i files)) → ChangesOnly old new name → HasBytes new name bytes
    → HoldsAll new (map (λ n. string_bytes n) (take (i + 1) images)) (map (λ f. f.items) (take (i + 1) files))
write_step old new images files i image file name bytes in_images in_files is_image is_file named spelt held changes here =
    let e1 : name ≡ string_bytes (get_or images i image) = named ∙ ap (λ n. string_bytes n) is_image in
    let e2 : bytes ≡ (get_or files i file).items = spelt ∙ ap (λ (f : Vec ℕ Global). f.items) is_file in
    rw (map_more (λ (n : String Global). string_bytes n) images i image in_images, map_more (λ (f : Vec ℕ Global). f.items) files i file in_files, ← e1, ← e2)
    (holds_one_more old new (map (λ n. string_bytes n) (take i images)) (map (λ f. f.items) (take i files)) name bytes held changes here)

-- a file that isn't named stays as it was
pub others_step : (start old new : Known) (images : List (String Global)) (i : ℕ) (image : String Global) (name : List ℕ) → i < length images → image ≡ get_or images i image → name ≡ string_bytes image
    → ChangesAmong start old (map (λ n. string_bytes n) images) → ChangesOnly old new name → ChangesAmong start new (map (λ n. string_bytes n) images)
others_step start old new images i image name inside is_image named before changes = λ other absent.
    let names : List (List ℕ) = map (λ n. string_bytes n) images in
    let e : name ≡ string_bytes (get_or images i image) = named ∙ ap (λ n. string_bytes n) is_image in
    let at : get_or names i (string_bytes image) ≡ string_bytes (get_or images i image) = get_or-map (λ (n : String Global). string_bytes n) images i image (string_bytes image) inside in
    let counted : i < length names = rw (length-map images (λ (n : String Global). string_bytes n)) inside in
    let there : Contains names (get_or names i (string_bytes image)) = Contains-get_or names i (string_bytes image) counted in
    let P : List ℕ → Type 0 = λ n. Contains names n in
    let separate : other ≢ name = λ same. absent (subst P (at ∙ sym e ∙ sym same) there) in
    changes other separate ∙ before other absent
