-- Sync managers and PDOs where they lie among words: what their bytes are read as.
use Rattle.std.proofs.Common.{◌≡◌, ℕ, zero, suc, ◌-◌, ◌*◌, ◌/◌, ◌%◌, ◌<◌, ◌≤◌, List, [], ◌∷◌, ◌++◌, length, get_or, take, drop, Result, Ok, refl, sym, ap, ◌∙◌, arith}
use Rattle.std.proofs.lemmas.List.{take_all, take-append-drop, length-take-le}
use Rattle.std.specs.Prelude.{IsErr}
use Rattle.sii_cats.specs.Bytes.{bytes_of}
use Rattle.sii_cats.specs.steps.Items.{counted}
use Rattle.sii_cats.specs.steps.Items.Front.{Ended, Item, Broken}
use Rattle.sii_cats.specs.declared.mappings.PdoEntry.{PdoEntry}
use Rattle.sii_cats.specs.steps.Contents.{manager_at}
use Rattle.sii_cats.specs.Pdos.{Mapping, entries_in}
use Rattle.sii_cats.specs.steps.Pdos.{entry_at, pdo_at, with_entries}
use Rattle.sii_cats.proofs.Items.{err_is}
use Rattle.sii_cats.proofs.Fields.{manager_at_end, pdo_at_end}
use Rattle.sii_cats.proofs.WordBytes.{length-bytes_of, number_again}

-- ---- sync managers

pub managers_end : (words : List ℕ) → length words < 4 → manager_at (bytes_of words) ≡ Ended
managers_end words h = manager_at_end (bytes_of words) (omega (arith, length-bytes_of words))

-- ---- PDOs

-- entries that are whole
entries_stand : (n : ℕ) (entries after : List ℕ) → length entries ≡ 4 * n → counted entry_at n (bytes_of (entries ++ after)) ≡ Ok (entries_in entries, bytes_of after)
unfolding counted
entries_stand zero [] after h = refl
entries_stand zero (word ∷ words) after h = absurd (omega arith)
entries_stand (suc n) (index ∷ named ∷ typed ∷ flags ∷ entries) after h =
    rw (number_again index, number_again flags, entries_stand n entries after (omega arith)) refl
entries_stand (suc n) short after h = absurd (omega arith)

-- entries that are cut off
entries_cut : (n : ℕ) (words : List ℕ) → length words < 4 * n → IsErr (counted entry_at n (bytes_of words))
unfolding counted
entries_cut zero words h = absurd (omega arith)
entries_cut (suc n) (index ∷ named ∷ typed ∷ flags ∷ words) h =
    let e = err_is (counted entry_at n (bytes_of words)) (entries_cut n words (omega arith)) in
    rw e.1 refl
entries_cut (suc n) short h = refl

with_entries_cut : (pdo : List PdoEntry → Mapping) (read : Result (List PdoEntry × List ℕ) (List ℕ)) → IsErr read → with_entries pdo read ≡ Broken
with_entries_cut pdo read h = let e = err_is read h in ap (with_entries pdo) e.1

-- the words after the first four
abbrev pub after_head : List ℕ → List ℕ
after_head words = take (length words - 4) (drop 4 words)

all_after : (index number timed flags : ℕ) (rest : List ℕ) → after_head (index ∷ number ∷ timed ∷ flags ∷ rest) ≡ rest
all_after index number timed flags rest = take_all (length (index ∷ number ∷ timed ∷ flags ∷ rest) - 4) rest (omega arith)

-- a PDO that is whole: after its head stand so many words of entries
pub pdo_stands : (words : List ℕ) (size : ℕ) → 4 ≤ length words → size ≡ 4 * (get_or words 1 0 % 256) → size ≤ length (after_head words)
    → pdo_at (bytes_of words) ≡ Item (record {
      index = get_or words 0 0;
      entries = entries_in (take size (after_head words));
      manager = get_or words 1 0 / 256;
      synchronization = get_or words 2 0 % 256;
      name = get_or words 2 0 / 256;
      flags = get_or words 3 0;
    }) (bytes_of (drop size (after_head words)))
pdo_stands (index ∷ number ∷ timed ∷ flags ∷ rest) size long is fits =
    let entire : after_head (index ∷ number ∷ timed ∷ flags ∷ rest) ≡ rest = all_after index number timed flags rest in
    let there : size ≤ length rest = omega (arith, fits, ap length entire) in
    let parts : rest ≡ take size rest ++ drop size rest = sym (take-append-drop size rest) in
    let len : length (take size rest) ≡ 4 * (number % 256) = omega (arith, length-take-le size rest there, is) in
    let read : counted entry_at (number % 256) (bytes_of rest) ≡ Ok (entries_in (take size rest), bytes_of (drop size rest)) =
    ap (λ (ws : List ℕ). counted entry_at (number % 256) (bytes_of ws)) parts ∙ entries_stand (number % 256) (take size rest) (drop size rest) len in
    rw (entire, read, number_again index, number_again flags) refl
pdo_stands short size long is fits = absurd (omega arith)

pub pdo_cut : (words : List ℕ) → 4 ≤ length words → length (after_head words) < 4 * (get_or words 1 0 % 256) → pdo_at (bytes_of words) ≡ Broken
pdo_cut (index ∷ number ∷ timed ∷ flags ∷ rest) long h =
    let few : length rest < 4 * (number % 256) = omega (arith, h, ap length (all_after index number timed flags rest)) in
    with_entries_cut _ (counted entry_at (number % 256) (bytes_of rest)) (entries_cut (number % 256) rest few)
pdo_cut short long h = absurd (omega arith)

pub pdos_end : (words : List ℕ) → length words < 4 → pdo_at (bytes_of words) ≡ Ended
pdos_end words h = pdo_at_end (bytes_of words) (omega (arith, length-bytes_of words))
