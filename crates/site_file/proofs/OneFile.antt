-- What one of several files is asked.
use Rattle.std.proofs.Common.{◌≡◌, Bool, true, false, List, [], ◌∷◌, ◌++◌, if◌then◌else◌, refl, ap, ◌∙◌}
use Rattle.std.proofs.lemmas.Bool.{eqb-true, eq-eqb}
use Rattle.std.specs.List.{AllByRecursion}
use Rattle.site_file.specs.declared.asking.LineFile.{LineFile}
use Rattle.site_file.specs.declared.asking.LineFile.TheVariants.{Journal, Image}
use Rattle.site_file.specs.Calls.{Asked}
use Rattle.site_file.specs.Held.{is_same, of_file}

pub is_same-true : (a b : LineFile) → is_same a b ≡ true → a ≡ b
is_same-true Journal Journal e = refl
is_same-true Journal (Image slave) e = absurd cc
is_same-true (Image slave) Journal e = absurd cc
is_same-true (Image slave) (Image other) e = ap Image (eqb-true slave other e)

pub of_file-append : (name : LineFile) (calls others : List Asked) → of_file name (calls ++ others) ≡ of_file name calls ++ of_file name others
of_file-append name [] others = refl
of_file-append name (call ∷ calls) others =
    let rest : of_file name (calls ++ others) ≡ of_file name calls ++ of_file name others = of_file-append name calls others in
    elim (is_same name call.file) as (λ b. (if b then call ∷ of_file name (calls ++ others) else of_file name (calls ++ others))
    ≡ (if b then call ∷ of_file name calls else of_file name calls) ++ of_file name others)
    [ true ↦ ap (λ (l : List Asked). call ∷ l) rest | false ↦ rest ]

abbrev pub AllOf : LineFile → List Asked → Type 0
AllOf file calls = AllByRecursion (λ call. call.file ≡ file) calls

pub of_file-same : (name file : LineFile) (calls : List Asked) → AllOf file calls → is_same name file ≡ true → of_file name calls ≡ calls
of_file-same name file [] all same = refl
of_file-same name file (call ∷ calls) all same =
    let here : is_same name call.file ≡ true = ap (λ (f : LineFile). is_same name f) all.0 ∙ same in
    ap (λ (b : Bool). if b then call ∷ of_file name calls else of_file name calls) here
    ∙ ap (λ (l : List Asked). call ∷ l) (of_file-same name file calls all.1 same)

pub of_file-other : (name file : LineFile) (calls : List Asked) → AllOf file calls → is_same name file ≡ false → of_file name calls ≡ []
of_file-other name file [] all other = refl
of_file-other name file (call ∷ calls) all other =
    let here : is_same name call.file ≡ false = ap (λ (f : LineFile). is_same name f) all.0 ∙ other in
    ap (λ (b : Bool). if b then call ∷ of_file name calls else of_file name calls) here ∙ of_file-other name file calls all.1 other

pub is_same-refl : (a : LineFile) → is_same a a ≡ true
is_same-refl Journal = refl
is_same-refl (Image slave) = eq-eqb slave slave refl
