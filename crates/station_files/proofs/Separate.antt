-- Files that stand apart, as they are found one by one.
use Rattle.std.proofs.Common.{◌≡◌, ℕ, zero, suc, ◌+◌, ◌-◌, ◌<◌, List, [], ◌∷◌, ◌++◌, IfSome, Option, Some, None, length}
use Rattle.std.proofs.Common.{map, take, drop, get_or, String, Global, string_bytes, refl, sym, ap, ◌∙◌, subst, inl, arith}
use Rattle.std.proofs.lemmas.Bool.{false≢true}
use Rattle.std.proofs.lemmas.List.{drop_more, get_or-drop, get_or_default, length-drop, map_more, take_more}
use Rattle.std.specs.List.{AllByRecursion, AllZip, HoldsAt, slice_index_or}
use Rattle.station_files.specs.declared.location.Location.{Location}
use Rattle.station_files.specs.declared.same_files.Clash.{Clash}
use Rattle.station_files.specs.Locations.{AreSeparate, IsClash, Leads, IsSame, LeadsTo, MeetAt, Meets, NoneMeet, OutputIsSeparate, Place, StandSeparate, place_of, standard_output}
use Rattle.station_files.specs.Files.{IsEntryOf, Known}
use Rattle.station_files.specs.declared.store.Entry.TheVariants.{Absent, Other}
use Rattle.std.specs.Prelude.{◌↔◌, Bool, false, IsSome, IsTrue}
use Rattle.sii_words.proofs.Quantifiers.{all_snoc, zip_snoc}

-- ---- lists of pairs

pub zip_length : {A B : Type 0} (R : A → B → Type 0) (xs : List A) (ys : List B) → AllZip R xs ys → length xs ≡ length ys
zip_length R [] [] all = refl
zip_length R [] (b ∷ ys) all = absurd all
zip_length R (a ∷ xs) [] all = absurd all
zip_length R (a ∷ xs) (b ∷ ys) all = ap suc (zip_length R xs ys all.1)

zip_at : {A B : Type 0} (R : A → B → Type 0) (xs : List A) (ys : List B) (k : ℕ) (x : A) (y : B) → AllZip R xs ys → k < length xs → R (slice_index_or xs k x) (slice_index_or ys k y)
zip_at R [] ys k x y all inside = absurd (omega (arith, inside))
zip_at R (a ∷ xs) [] k x y all inside = absurd all
zip_at R (a ∷ xs) (b ∷ ys) zero x y all inside = all.0
zip_at R (a ∷ xs) (b ∷ ys) (suc k) x y all inside = zip_at R xs ys k x y all.1 (omega (arith, inside))

-- one more name was followed
pub leads_one_more : (leads : Leads) (names : List (String Global)) (i : ℕ) (item : String Global) (name : List ℕ) (found : List Location) (here : Location) → i < length names → item ≡ get_or names i item → name ≡ string_bytes item
    → AllZip (LeadsTo leads) (map (λ (one : String Global). string_bytes one) (take i names)) found → LeadsTo leads name here
    → AllZip (LeadsTo leads) (map (λ (one : String Global). string_bytes one) (take (i + 1) names)) (found ++ here ∷ [])
leads_one_more leads names i item name found here inside same named all leads_here =
    let is : name ≡ string_bytes (get_or names i item) = named ∙ ap (λ (one : String Global). string_bytes one) same in
    rw (map_more (λ (one : String Global). string_bytes one) names i item inside, ← is) (zip_snoc (LeadsTo leads) (map (λ (one : String Global). string_bytes one) (take i names)) found name here all leads_here)

-- ---- one file after the other

-- one more file meets none after it
pub none_more : (count one : ℕ) (found : List Location) (here : Location) → one < count → one < length found → here ≡ get_or found one here
    → AllByRecursion (λ (other : Location). ¬ Meets (place_of here) (place_of other)) (drop (one + 1) found) → NoneMeet (count - (one + 1)) (drop (one + 1) found) → NoneMeet (count - one) (drop one found)
none_more count one found here in_count inside is separate rest =
    let e : count - one ≡ suc (count - (one + 1)) = omega (arith, in_count) in
    let split : drop one found ≡ get_or found one here ∷ drop (one + 1) found = drop_more found one here inside in
    let P : ℕ → Type 0 = λ n. NoneMeet n (drop one found) in
    let Q : List Location → Type 0 = λ l. NoneMeet (suc (count - (one + 1))) l in
    let R : Location → Type 0 = λ l. AllByRecursion (λ (other : Location). ¬ Meets (place_of l) (place_of other)) (drop (one + 1) found) in
    subst P (sym e) (subst Q (sym split) (subst R is separate, rest))

-- the next of the others isn't met either
pub none_yet : (here : Location) (others : List Location) (i : ℕ) (item : Location) → i < length others → item ≡ get_or others i item → AllByRecursion (λ (other : Location). ¬ Meets (place_of here) (place_of other)) (take i others)
    → ¬ Meets (place_of here) (place_of item) → AllByRecursion (λ (other : Location). ¬ Meets (place_of here) (place_of other)) (take (i + 1) others)
none_yet here others i item inside is all separate =
    let P : Location → Type 0 = λ (other : Location). ¬ Meets (place_of here) (place_of other) in
    rw (take_more others i item inside) (all_snoc P (take i others) (get_or others i item) all (subst P is separate))

-- the file that is met, as one of the whole list
pub met_at : (count one at : ℕ) (found : List Location) (here : Location) → one < count → one < length found → here ≡ get_or found one here → at < length (drop (one + 1) found)
    → HoldsAt (λ (other : Location). Meets (place_of here) (place_of other)) (drop (one + 1) found) at → MeetAt count found (record { one = one; other = one + 1 + at })
met_at count one at found here in_count inside is after meets =
    let left : length (drop (one + 1) found) ≡ length found - (one + 1) = length-drop (one + 1) found in
    record {
      written = in_count;
      in_order = omega arith;
      inside = omega (arith, after, left, inside);
      meet = λ a b.
          let P : Location → Type 0 = λ l. Meets (place_of l) (place_of (get_or found (one + 1 + at) b)) in
          let Q : Location → Type 0 = λ l. Meets (place_of here) (place_of l) in
          subst P (is ∙ get_or_default found one here a inside) (subst Q (get_or-drop (one + 1) found at b) (meets b));
    }

-- ---- what was found of the files says the same of their names

both_known : (P : Place → Place → Type 0) (one other : Option Place) (a b : Place) → IfSome one (λ place. a ≡ place) → IfSome other (λ place. b ≡ place) → P a b → IfSome one (λ x. IfSome other (λ y. P x y))
both_known P (Some x) (Some y) a b is_a is_b here = subst (λ (p : Place). P p y) is_a (subst (λ (q : Place). P a q) is_b here)
both_known P (Some x) None a b is_a is_b here = tt
both_known P None other a b is_a is_b here = tt

-- the file that standard output goes to, as it was found, isn't the one of this name
pub output_separate : (files : Known) (leads : Leads) (name : List ℕ) (here there : Location) (same : Bool) → LeadsTo leads standard_output here → LeadsTo leads name there → (IsTrue same ↔ IsSame (place_of here) (place_of there)) → same ≡ false
    → OutputIsSeparate files leads name
output_separate files leads name here there same to_here to_there says is =
    given_anyway (files name) _
    (both_known (λ a b. ¬ IsSame a b) (leads standard_output) (leads name) (place_of here) (place_of there) to_here.known to_there.known (λ one. cc (says.1 one, is)))
  where
    given_anyway : (held : Option (Option (List ℕ))) (P : Type 0) → P → IfSome held (λ found. IsSome found → P)
    given_anyway None P here = tt
    given_anyway (Some found) P here = λ some. here

-- what is no file may be both
pub absent_output : (files read : Known) (leads : Leads) (name : List ℕ) → read ≡ files → IfSome (read name) (λ found. IsEntryOf found Absent) → OutputIsSeparate files leads name
absent_output files read leads name same is =
    let P : Known → Type 0 = λ known. OutputIsSeparate known leads name in
    subst P same (no_file (read name) _ is)
  where
    no_file : (held : Option (Option (List ℕ))) (P : Type 0) → IfSome held (λ found. IsEntryOf found Absent) → IfSome held (λ found. IsSome found → P)
    no_file None P is = tt
    no_file (Some None) P is = λ some. absurd (false≢true some)
    no_file (Some (Some bytes)) P is = absurd is

pub other_output : (files read : Known) (leads : Leads) (name : List ℕ) → read ≡ files → IfSome (read name) (λ found. IsEntryOf found Other) → OutputIsSeparate files leads name
other_output files read leads name same is =
    let P : Known → Type 0 = λ known. OutputIsSeparate known leads name in
    subst P same (no_file (read name) _ is)
  where
    no_file : (held : Option (Option (List ℕ))) (P : Type 0) → IfSome held (λ found. IsEntryOf found Other) → IfSome held (λ found. IsSome found → P)
    no_file None P is = tt
    no_file (Some None) P is = absurd is
    no_file (Some (Some bytes)) P is = absurd is

stand_separate : (leads : Leads) (one other : List ℕ) (here there : Location) → LeadsTo leads one here → LeadsTo leads other there → ¬ Meets (place_of here) (place_of there) → StandSeparate leads one other
stand_separate leads one other here there to_here to_there separate = record {
  names = λ same. separate (inl (inl (to_here.name_is ∙ same ∙ sym to_there.name_is)));
  places = both_known (λ a b. ¬ Meets a b) (leads one) (leads other) (place_of here) (place_of there) to_here.known to_there.known separate;
}

all_separate : (leads : Leads) (one : List ℕ) (here : Location) (names : List (List ℕ)) (found : List Location) → LeadsTo leads one here → AllZip (LeadsTo leads) names found
    → AllByRecursion (λ (other : Location). ¬ Meets (place_of here) (place_of other)) found → AllByRecursion (StandSeparate leads one) names
all_separate leads one here [] found to_here all separate = tt
all_separate leads one here (name ∷ names) [] to_here all separate = absurd all
all_separate leads one here (name ∷ names) (there ∷ found) to_here all separate = (stand_separate leads one name here there to_here all.0 separate.0, all_separate leads one here names found to_here all.1 separate.1)

pub are_separate : (leads : Leads) (count : ℕ) (names : List (List ℕ)) (found : List Location) → AllZip (LeadsTo leads) names found → NoneMeet count found → AreSeparate leads count names
are_separate leads zero names found all none = tt
are_separate leads (suc count) [] found all none = tt
are_separate leads (suc count) (name ∷ names) [] all none = absurd all
are_separate leads (suc count) (name ∷ names) (here ∷ found) all none = (all_separate leads name here names found all.0 all.1 none.0, are_separate leads count names found all.1 none.1)

-- with some file that was found, in place of one that wasn't
pub is_clash : (leads : Leads) (count : ℕ) (names : List (List ℕ)) (found : List Location) (clash : Clash) → AllZip (LeadsTo leads) names found → MeetAt count found clash → IsClash leads count names clash
is_clash leads count names [] clash all meet = absurd (omega (arith, meet.inside))
is_clash leads count names (some ∷ found) clash all meet =
    let many : length names ≡ length (some ∷ found) = zip_length (LeadsTo leads) names (some ∷ found) all in
    let inside : clash.other < length names = omega (arith, meet.inside, many) in
    record {
      written = meet.written;
      in_order = meet.in_order;
      inside = inside;
      meet = λ a b.
          let one = zip_at (LeadsTo leads) names (some ∷ found) clash.one a some all (omega (arith, inside, meet.in_order)) in
          let other = zip_at (LeadsTo leads) names (some ∷ found) clash.other b some all inside in
          both_known Meets (leads (slice_index_or names clash.one a)) (leads (slice_index_or names clash.other b)) (place_of (slice_index_or (some ∷ found) clash.one some)) (place_of (slice_index_or (some ∷ found) clash.other some))
          one.known other.known (meet.meet some some);
    }
