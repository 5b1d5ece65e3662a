-- The keys of a table.
use Rattle.std.proofs.Common.{◌≡◌, ◌||◌, ◌&&◌, Bool, true, false, List, [], ◌∷◌, ℕ, map, String, Global, string_bytes, Ordering, Less, Equal, Greater, nat_cmp, Option, Some, None, ◌≢◌, refl, ap, sym, ◌∙◌, subst}
use Rattle.std.proofs.lemmas.Bool.{and_parts, false≢true}
use Rattle.std.proofs.lemmas.Map.Text.{is_eq-slice_cmp}
use Rattle.std.specs.Cmp.Lexicographic.{bytes_decides, slice_cmp}
use Rattle.std.specs.List.{list_any, list_all}
use Rattle.std.specs.Map.{keys_of}
use Rattle.std.specs.Ordering.{is_eq, match_ordering}
use Rattle.toml.specs.Data.{Data, Members, no_members, member, get_member}
use Rattle.toml.specs.View.{members_view}
use Rattle.toml.specs.declared.value.Value.{Value}
use Rattle.station_text.specs.Document.{is_known, has_only, HasOnly}

-- whether an item passes, seen through a function
pub list_any-map : {X Y : Type 0} (f : X → Y) (test : Y → Bool) (xs : List X) → list_any (λ x. test (f x)) xs ≡ list_any test (map f xs)
list_any-map f test [] = refl
list_any-map f test (x ∷ xs) = ap (λ rest. test (f x) || rest) (list_any-map f test xs)

-- the keys of a map are the keys of the table that it represents
pub has_only-entries : (known : List (List ℕ)) (entries : List (String Global × Value)) → list_all (λ key. is_known known (string_bytes key)) (keys_of entries) ≡ has_only known (members_view entries)
has_only-entries known [] = refl
has_only-entries known (entry ∷ entries) = ap (λ rest. is_known known (string_bytes entry.0) && rest) (has_only-entries known entries)

same_key_is : (key other : List ℕ) → slice_cmp nat_cmp key other ≡ Equal → key ≡ other
same_key_is key other is = (bytes_decides key other).0 (sym (is_eq-slice_cmp key other) ∙ ap is_eq is)

found_known : (known : List (List ℕ)) (key other : List ℕ) (value : Data) (rest : Members) (order : Ordering) → slice_cmp nat_cmp key other ≡ order → is_known known other ≡ true → (get_member key rest ≢ None → is_known known key ≡ true)
    → match_ordering order (get_member key rest) (Some value) (get_member key rest) ≢ None → is_known known key ≡ true
found_known known key other value rest Less is here after found = after found
found_known known key other value rest Equal is here after found =
    let P : List ℕ → Type 0 = λ k. is_known known k ≡ true in
    subst P (sym (same_key_is key other is)) here
found_known known key other value rest Greater is here after found = after found

-- a key with a value is a known key
known_at : (known : List (List ℕ)) (key : List ℕ) (table : Members) → HasOnly known table → get_member key table ≢ None → is_known known key ≡ true
known_at known key no_members only found = absurd (found refl)
known_at known key (member other value rest) only found =
    let (here, after) = and_parts (is_known known other) (has_only known rest) only in
    found_known known key other value rest (slice_cmp nat_cmp key other) refl here (known_at known key rest after) found

-- a key that isn't known has no value
pub unknown_at : (known : List (List ℕ)) (key : List ℕ) (table : Members) → HasOnly known table → is_known known key ≡ false → get_member key table ≡ None
unknown_at known key table only unknown = none (get_member key table) (λ found. false≢true (sym unknown ∙ known_at known key table only found))
  where
    none : (found : Option Data) → (found ≢ None → ⊥) → found ≡ None
    none None never = refl
    none (Some value) never = absurd (never (λ is. cc))
