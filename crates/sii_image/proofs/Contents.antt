-- The PDOs of the categories of one type, added up one category after the other.
use Rattle.std.specs.Prelude.{◌==◌, filter}
use Rattle.std.proofs.Common.{◌≡◌, ◌≢◌, ℕ, ◌+◌, ◌-◌, ◌*◌, ◌<◌, ◌≤◌, List, [], ◌∷◌, ◌++◌, length, map, get_or, replicate, drop, Bool, cond, Result, Ok, Err, refl, sym, ap, ◌∙◌, append_assoc, arith}
use Rattle.std.proofs.lemmas.Bool.{eq-eqb, ne_eqb}
use Rattle.std.proofs.lemmas.List.{drop_more, get_or-replicate, length-replicate}
use Rattle.std.proofs.lemmas.List.Sums.{sum_by-cons}
use Rattle.sii_cats.specs.Chain.{Member, content_of, member_of}
use Rattle.sii_cats.specs.steps.Items.{◌>>=◌}
use Rattle.sii_cats.specs.Pdos.{Mapping}
use Rattle.sii_cats.specs.steps.Pdos.{pdos_of}
use Rattle.sii_cats.specs.declared.categories.Category.{Category}
use Rattle.sii_cats.proofs.Items.{with_front}
use Rattle.sii_image.specs.ProcessData.{pdos_in}
use Rattle.sii_image.specs.steps.Contents.{content_sizes, contents_among}
use Rattle.sii_image.specs.steps.Sums.{AreWithin, sums_of, with_pdos}
use Rattle.sii_image.proofs.Sums.{with_pdos-append}

-- The PDOs of the categories before the rest are added up.
pub record Summing (words : List ℕ) (kind : ℕ) (categories : List Category) (sums : List ℕ) (rest : List Category) : Type 0 where
  pub read : List Mapping
  pub joined : with_front read (pdos_in (contents_among words kind rest)) ≡ pdos_in (contents_among words kind categories)
  pub sums_are : sums ≡ sums_of read
  pub few : content_sizes words rest ≤ 4096
  pub within : AreWithin sums (64 * (4096 - content_sizes words rest))

AreWithin-more : (sums : List ℕ) (most more : ℕ) → most ≤ more → AreWithin sums most → AreWithin sums more
AreWithin-more sums most more le h = λ n lt. omega (arith, le, h n lt)

joined_on : (before pdos : List Mapping) (read : Result (List Mapping) (List ℕ)) → with_front before (read >>= λ others. Ok (pdos ++ others)) ≡ with_front (before ++ pdos) read
joined_on before pdos (Ok others) = ap (λ (all : List Mapping). Ok all) (sym (append_assoc before pdos others))
joined_on before pdos (Err words) = refl

among : List ℕ → ℕ → Category → List Category → Bool → List (List ℕ)
among words kind c rest named =
    let others : List Member = filter (λ m. m.kind == kind) (map (member_of words) rest) in
    map (λ m. m.content) (cond named (member_of words c ∷ others) others)

-- no category yet
front_nil : (read : Result (List Mapping) (List ℕ)) → with_front [] read ≡ read
front_nil (Ok pdos) = refl
front_nil (Err words) = refl

pub sums_start : (words : List ℕ) (kind : ℕ) (categories : List Category) → content_sizes words categories ≤ 4096 → Summing words kind categories (replicate 16 0) categories
sums_start words kind categories few = record {
  read = [];
  joined = front_nil (pdos_in (contents_among words kind categories));
  sums_are = refl;
  few = few;
  within = λ n lt. let none = get_or-replicate {A = ℕ} 16 n 0 0 (omega (arith, lt, length-replicate {A = ℕ} 16 0)) in omega (arith, none);
}

-- the words of the next content and of those after it
pub next_size : (words : List ℕ) (categories : List Category) (i : ℕ) (d : Category) → i < length categories
    → content_sizes words (drop i categories) ≡ length (content_of words (get_or categories i d)) + content_sizes words (drop (i + 1) categories)
next_size words categories i d h =
    ap (content_sizes words) (drop_more categories i d h) ∙ sum_by-cons (λ (x : Category). length (content_of words x)) (get_or categories i d) (drop (i + 1) categories)

found : (words : List ℕ) (kind : ℕ) (categories : List Category) (i : ℕ) (d : Category) → i < length categories → (get_or categories i d).kind ≡ kind
    → contents_among words kind (drop i categories) ≡ content_of words (get_or categories i d) ∷ contents_among words kind (drop (i + 1) categories)
unfolding among
found words kind categories i d h named =
    let c : Category = get_or categories i d in
    ap (contents_among words kind) (drop_more categories i d h) ∙ ap (among words kind c (drop (i + 1) categories)) (eq-eqb c.kind kind named)

pub passed : (words : List ℕ) (kind : ℕ) (categories : List Category) (i : ℕ) (d : Category) → i < length categories → (get_or categories i d).kind ≢ kind
    → contents_among words kind (drop i categories) ≡ contents_among words kind (drop (i + 1) categories)
unfolding among
passed words kind categories i d h other =
    let c : Category = get_or categories i d in
    ap (contents_among words kind) (drop_more categories i d h) ∙ ap (among words kind c (drop (i + 1) categories)) (ne_eqb c.kind kind other)

-- one more category of the type
pub sums_more : (words : List ℕ) (kind : ℕ) (categories : List Category) (sums new : List ℕ) (i : ℕ) (d : Category) → i < length categories
    → Summing words kind categories sums (drop i categories) → (get_or categories i d).kind ≡ kind
    → (pdos : List Mapping) × (pdos_of (content_of words (get_or categories i d)) ≡ Ok pdos) × (new ≡ with_pdos sums pdos)
    → ((most : ℕ) → AreWithin sums most → AreWithin new (most + 64 * length (content_of words (get_or categories i d))))
    → Summing words kind categories new (drop (i + 1) categories)
sums_more words kind categories sums new i d h s named added grown =
    let content : List ℕ = content_of words (get_or categories i d) in
    let pdos = added.0 in
    let others : List (List ℕ) = contents_among words kind (drop (i + 1) categories) in
    let size = next_size words categories i d h in
    let more : with_front s.read (pdos_in (contents_among words kind (drop i categories))) ≡ with_front (s.read ++ pdos) (pdos_in others) =
    ap (λ contents. with_front s.read (pdos_in contents)) (found words kind categories i d h named)
    ∙ ap (λ r. with_front s.read (r >>= λ ps. pdos_in others >>= λ qs. Ok (ps ++ qs))) added.1
    ∙ joined_on s.read pdos (pdos_in others) in
    record {
      read = s.read ++ pdos;
      joined = sym more ∙ s.joined;
      sums_are = added.2 ∙ ap (λ (front : List ℕ). with_pdos front pdos) s.sums_are ∙ sym (with_pdos-append _ s.read pdos);
      few = omega (arith, s.few, size);
      within = AreWithin-more new (64 * (4096 - content_sizes words (drop i categories)) + 64 * length content) (64 * (4096 - content_sizes words (drop (i + 1) categories)))
          (omega (arith, s.few, size)) (grown (64 * (4096 - content_sizes words (drop i categories))) s.within);
    }

-- a category of another type
pub sums_pass : (words : List ℕ) (kind : ℕ) (categories : List Category) (sums : List ℕ) (i : ℕ) (d : Category) → i < length categories
    → Summing words kind categories sums (drop i categories) → (get_or categories i d).kind ≢ kind → Summing words kind categories sums (drop (i + 1) categories)
sums_pass words kind categories sums i d h s other =
    let size = next_size words categories i d h in
    record {
      read = s.read;
      joined = ap (λ contents. with_front s.read (pdos_in contents)) (sym (passed words kind categories i d h other)) ∙ s.joined;
      sums_are = s.sums_are;
      few = omega (arith, s.few, size);
      within = AreWithin-more sums (64 * (4096 - content_sizes words (drop i categories))) (64 * (4096 - content_sizes words (drop (i + 1) categories))) (omega (arith, s.few, size)) s.within;
    }
