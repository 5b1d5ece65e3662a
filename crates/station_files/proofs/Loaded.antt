-- Values that are loaded from files one by one.
use Rattle.std.proofs.Common.{◌≡◌, ℕ, zero, suc, ◌+◌, ◌<◌, List, [], ◌∷◌, ◌++◌, Result, Ok, Err, IfErr, IfSome, IsSomeAnd}
use Rattle.std.proofs.Common.{Option, Some, None, length, map, take, drop, get_or, String, Global, string_bytes, refl, sym, ap, ◌∙◌, subst, inl}
use Rattle.std.proofs.Common.{inr, arith}
use Rattle.std.proofs.lemmas.List.{take_more}
use Rattle.std.specs.List.{AllZip}
use Rattle.std.specs.Prelude.{IsErrAnd}
use Rattle.station_files.specs.Files.{Known, Holds, HasBytes}
use Rattle.station_files.specs.LineFiles.{IsNoLine, RefusesLine, RefusesLineText, SpellsWords, RefusesWords, RefusesFirst, RefusesSlaves}
use Rattle.station_files.specs.LineFiles.{RefusesPlant, RefusesLayout}
use Rattle.station_files.specs.declared.faults.Fault.{Fault}
use Rattle.station_files.specs.declared.faults.Fault.TheVariants.{OddLength, BadSize, ImageOverLimit, Memory, Disk, Lost, Stopped, SlaveDead}
use Rattle.station_files.specs.declared.faults.Fault.TheVariants.{NotAJournal, BadVersion, BadJournal, WrongLine, Unserved, File, BadHex, BadLine}
use Rattle.station_files.specs.declared.faults.Fault.TheVariants.{BadScript, Exists, Busy, SameFile, NotAFile, TooLong, OtherDevice}
use Rattle.sii_words.proofs.Quantifiers.{zip_snoc}

-- one more item is loaded, from unchanged files
pub loads_one_more : {A B : Type 0} (R : Known → A → B → Type 0) (old new : Known) (xs : List A) (i : ℕ) (item : A) (ys : List B) (y : B) → i < length xs → item ≡ get_or xs i item → new ≡ old → AllZip (R old) (take i xs) ys → R new item y → AllZip (R old) (take (i + 1) xs) (ys ++ y ∷ [])
loads_one_more {A} {B} R old new xs i item ys y inside same still all here =
    let P : A → Type 0 = λ v. R old v y in
    let Q : Known → Type 0 = λ files. R files item y in
    rw (take_more xs i item inside) (zip_snoc (R old) (take i xs) ys (get_or xs i item) y all (subst P same (subst Q still here)))

-- the names before an item, its own name, and those after it
split_at : {A B : Type 0} (f : A → B) (xs : List A) (i : ℕ) (d : A) → i < length xs → map f xs ≡ map f (take i xs) ++ f (get_or xs i d) ∷ map f (drop (suc i) xs)
split_at f [] i d inside = absurd (omega (arith, inside))
split_at f (x ∷ xs) zero d inside = refl
split_at f (x ∷ xs) (suc i) d inside = ap (λ ys. f x ∷ ys) (split_at f xs i d (omega (arith, inside)))

refuses_first : (files : Known) (names : List (List ℕ)) (fault : Fault) → RefusesFirst files names fault → RefusesSlaves files names fault
refuses_first files names Memory first = tt
refuses_first files names fault first = first

-- the first file that is refused
pub first_refused : (old new : Known) (images : List (String Global)) (i : ℕ) (item : String Global) (name : List ℕ) (plant : List (List ℕ)) (fault : Fault) → i < length images → item ≡ get_or images i item → name ≡ string_bytes item → new ≡ old
    → AllZip (SpellsWords old) (map (λ image. string_bytes image) (take i images)) plant → RefusesWords new name fault → RefusesSlaves old (map (λ image. string_bytes image) images) fault
first_refused old new images i item name plant fault inside same named still good refused =
    let P : Known → Type 0 = λ files. RefusesWords files name fault in
    let Q : List ℕ → Type 0 = λ n. RefusesWords old n fault in
    refuses_first old (map (λ image. string_bytes image) images) fault (record {
      before = map (λ image. string_bytes image) (take i images);
      name = string_bytes (get_or images i item);
      after = map (λ image. string_bytes image) (drop (suc i) images);
      in_order = split_at (λ image. string_bytes image) images i item inside;
      words = plant;
      good = good;
      bad = subst Q (named ∙ ap (λ image. string_bytes image) same) (subst P still refused);
    })

-- a property of the bytes that were read is a property of the file
pub of_held : (P : List ℕ → Type 0) (files : Known) (name bytes : List ℕ) → HasBytes files name bytes → P bytes → Holds files name P
of_held P files name bytes same here = of_found (files name) same where
  of_found : (found : Option (Option (List ℕ))) → IfSome found (λ held. IsSomeAnd held (λ there. bytes ≡ there)) → IfSome found (λ held. IsSomeAnd held P)
  of_found (Some (Some held)) is = subst P is here
  of_found (Some None) is = absurd is
  of_found None is = tt

-- the fault for a text that was read is a fault for the line file
pub line_refused : (files : Known) (name bytes : List ℕ) (fault : Fault) → HasBytes files name bytes → RefusesLineText bytes fault → RefusesLine files name fault
line_refused files name bytes Memory held refused = tt
line_refused files name bytes BadLine held refused = of_held IsNoLine files name bytes held refused
line_refused files name bytes File held refused = tt
line_refused files name bytes fault held refused = absurd refused

-- no line is refused for its process image before it is known
pub plant_refused : (files : Known) (name : List ℕ) (fault : Fault) → RefusesPlant files name fault → RefusesLayout files name fault
plant_refused files name File refused = tt
plant_refused files name Memory refused = tt
plant_refused files name ImageOverLimit (inl line) = absurd line
plant_refused files name ImageOverLimit (inr slaves) = absurd slaves.2.bad
plant_refused files name OddLength refused = refused
plant_refused files name BadSize refused = refused
plant_refused files name BadHex refused = refused
plant_refused files name BadLine refused = refused
plant_refused files name (BadScript command) refused = refused
plant_refused files name Disk refused = refused
plant_refused files name Lost refused = refused
plant_refused files name Stopped refused = refused
plant_refused files name (SlaveDead slave) refused = refused
plant_refused files name NotAJournal refused = refused
plant_refused files name (BadVersion found) refused = refused
plant_refused files name (BadJournal at) refused = refused
plant_refused files name WrongLine refused = refused
plant_refused files name Unserved refused = refused
plant_refused files name Exists refused = refused
plant_refused files name Busy refused = refused
plant_refused files name SameFile refused = refused
plant_refused files name NotAFile refused = refused
plant_refused files name TooLong refused = refused
plant_refused files name OtherDevice refused = refused

-- the error of a call that is passed on
pub handed_on : {A : Type 0} (P : Fault → Type 0) (result : Result A Fault) (fault : Fault) → IsErrAnd result (λ error. error ≡ fault) → P fault → IfErr result P
handed_on P (Ok x) fault gave holds = absurd gave
handed_on P (Err error) fault gave holds = subst P (sym gave) holds
