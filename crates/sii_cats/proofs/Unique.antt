-- Each content, and each chain, has at most one reading.
use Rattle.std.proofs.Common.{◌≡◌, ℕ, ◌<◌, ◌^◌, List, [], ◌∷◌, length, get_or, drop, Result, Ok, Err, refl, sym, ap, ◌∙◌, arith, inl, inr}
use Rattle.std.proofs.lemmas.List.{get_or_past, length-drop}
use Rattle.std.proofs.lemmas.Bool.{cases_lt}
use Rattle.sii_cats.specs.Bytes.{bytes_of}
use Rattle.sii_cats.specs.steps.Items.{items_of}
use Rattle.sii_cats.specs.Contents.{unit_bytes}
use Rattle.sii_cats.specs.steps.Contents.{manager_at}
use Rattle.sii_cats.specs.steps.Pdos.{pdo_at}
use Rattle.sii_cats.specs.steps.Strings.{strings_in}
use Rattle.sii_cats.specs.Chain.{Member}
use Rattle.sii_cats.specs.steps.Chain.{members_of}
use Rattle.sii_cats.specs.Laws.{UniqueContents, UniqueChain, CutsAreUnique, ReadingsAgree, AreWords}
use Rattle.sii_cats.specs.declared.units.FmmuUnit.{FmmuUnit}
use Rattle.sii_cats.proofs.Fields.{managers_are, managers_again, pdos_are, pdos_again}
use Rattle.sii_cats.proofs.StringLaw.{strings_are, strings_again}
use Rattle.sii_cats.proofs.Walk.{chain_is, chain_again, cut_again}
use Rattle.sii_cats.proofs.WordBytes.{IsBytes-bytes_of}

abbrev read_as : {A : Type 0} → A → Result A (List ℕ)
read_as x = Ok x

same_ok : {A : Type 0} (read : Result A (List ℕ)) (x y : A) → read ≡ read_as x → read ≡ read_as y → x ≡ y
same_ok read x y e f = let g : read_as x ≡ read_as y = sym e ∙ f in cc

one_unit : (units others : List FmmuUnit) → unit_bytes units ≡ unit_bytes others → units ≡ others
one_unit [] [] e = refl
one_unit [] (o ∷ others) e = absurd cc
one_unit (u ∷ units) [] e = absurd cc
one_unit (u ∷ units) (o ∷ others) e =
    let first : u.byte ≡ o.byte = cc in
    let rest : unit_bytes units ≡ unit_bytes others = cc in
    ap (λ (b : ℕ). record { byte = b } ∷ units) first ∙ ap (λ (us : List FmmuUnit). o ∷ us) (one_unit units others rest)

pub contents : UniqueContents
contents = record {
  units = λ cells x y e f. one_unit x y (sym e ∙ f);
  managers = λ cells x y h k. same_ok (items_of manager_at cells) x y (managers_again cells x h) (managers_again cells y k);
  pdos = λ cells x y h k. same_ok (items_of pdo_at cells) x y (pdos_again cells x h) (pdos_again cells y k);
  strings = λ cells x y h k. same_ok (strings_in cells) x y (strings_again cells x h) (strings_again cells y k);
}

pub chains : UniqueChain
chains = λ words x y h k. same_ok (members_of words) x y (chain_again words x h) (chain_again words y k)

abbrev rest_as : {A : Type 0} → List ℕ → Result A (List ℕ)
rest_as rest = Err rest

same_err : (read : Result (List Member) (List ℕ)) (a b : List ℕ) → read ≡ Err a → read ≡ Err b → a ≡ b
same_err read a b e f = let g : rest_as {A = List Member} a ≡ rest_as {A = List Member} b = sym e ∙ f in cc

not_both : (read : Result (List Member) (List ℕ)) (ms : List Member) (rest : List ℕ) → read ≡ Err rest → read ≡ Ok ms → ⊥
not_both read ms rest e f = let g : rest_as {A = List Member} rest ≡ read_as ms = sym e ∙ f in cc

pub cuts : CutsAreUnique
cuts = record {
  one = λ words at k h g.
      let a = cut_again words at h in
      let b = cut_again words k g in
      let same = same_err (members_of words) (drop at words) (drop k words) a.0 b.0 in
      omega (arith, ap length same, length-drop at words, length-drop k words, a.1, b.1);
  no_chain = λ words at ms h g. not_both (members_of words) ms (drop at words) (cut_again words at h).0 (chain_again words ms g);
}

fits_at : (words : List ℕ) → AreWords words → (i : ℕ) → get_or words i 0 < 2 ^ 16
fits_at words h i = elim (cases_lt i (length words)) [ inl lt ↦ h i 0 lt | inr le ↦ let past = get_or_past words i 0 le in omega arith ]

pub readings_agree : ReadingsAgree
readings_agree = record {
  managers = λ words x fits. (managers_are (bytes_of words) x (IsBytes-bytes_of words (fits_at words fits)), managers_again (bytes_of words) x);
  pdos = λ words x fits. (pdos_are (bytes_of words) x (IsBytes-bytes_of words (fits_at words fits)), pdos_again (bytes_of words) x);
  strings = λ words x. (strings_are (bytes_of words) x, strings_again (bytes_of words) x);
  chain = λ words ms. (chain_is words ms, chain_again words ms);
}
