-- Runs, commands and payloads: what is read is spelt so, and what is spelt is read again.
use Rattle.std.proofs.Common.{◌≡◌, ℕ, zero, suc, ◌^◌, ◌<◌, Bool, true, false, cond, eqb, List, [], ◌∷◌, ◌++◌, length, Option, Some, None, refl, sym, ap, subst, ◌∙◌, append_assoc, arith}
use Rattle.std.specs.List.{flat_map, AllByRecursion}
use Rattle.std.specs.Int.{w16, w64, to_le_bytes}
use Rattle.std.proofs.lemmas.Bool.{eqb-true, eqb-false, ne_eqb}
use Rattle.std.proofs.lemmas.List.{append-nil, nil_from_length}
use Rattle.sii_words.specs.declared.run.Run.{Run}
use Rattle.jrn_format.specs.declared.journal.Entry.{Entry}
use Rattle.jrn_format.specs.Batch.{spelt_run, spelt_entry, spelt_payload, RunFits, EntryFits, PayloadFits}
use Rattle.jrn_format.specs.steps.Reading.{◌>>=◌, number_at, counted, run_at, entry_at, entries_of}
use Rattle.jrn_format.proofs.Numbers.{IsBytes, bind_some, guard_some, some_is, Takes, Takes-then, IsReader, reader16, reader64}

counted_takes : {X : Type 0} (one : List ℕ → Option (X × List ℕ)) (spell : X → List ℕ) (Fits : X → Type 0) → IsReader one spell Fits
    → (n : ℕ) (bytes : List ℕ) (x : List X × List ℕ) → IsBytes bytes → counted one n bytes ≡ Some x → Takes bytes (flat_map spell x.0) x.1 × (length x.0 ≡ n) × AllByRecursion Fits x.0
unfolding counted
counted_takes {X} one spell Fits law zero bytes x good e =
    let made : List X × List ℕ = ([], bytes) in
    subst (λ (y : List X × List ℕ). Takes bytes (flat_map spell y.0) y.1 × (length y.0 ≡ 0) × AllByRecursion Fits y.0) (some_is made x e) (record { parts = refl; rest_fits = good }, refl, tt)
counted_takes {X} one spell Fits law (suc n) bytes x good e =
    let first = bind_some (one bytes) (λ f. counted one n f.1 >>= λ o. Some (f.0 ∷ o.0, o.1)) x e in
    let others = bind_some (counted one n first.0.1) (λ o. Some (first.0.0 ∷ o.0, o.1)) x first.2 in
    let a = law.takes bytes first.0 good first.1 in
    let b = counted_takes one spell Fits law n first.0.1 others.0 a.0.rest_fits others.1 in
    let made : List X × List ℕ = (first.0.0 ∷ others.0.0, others.0.1) in
    let both = Takes-then bytes (spell first.0.0) first.0.1 (flat_map spell others.0.0) others.0.1 a.0 b.0 in
    let len : suc (length others.0.0) ≡ suc n = ap suc b.1 in
    subst (λ (y : List X × List ℕ). Takes bytes (flat_map spell y.0) y.1 × (length y.0 ≡ suc n) × AllByRecursion Fits y.0) (some_is made x others.2) (both, len, (a.1, b.2))

counted_again : {X : Type 0} (one : List ℕ → Option (X × List ℕ)) (spell : X → List ℕ) (Fits : X → Type 0) → IsReader one spell Fits
    → (xs : List X) (rest : List ℕ) → AllByRecursion Fits xs → counted one (length xs) (flat_map spell xs ++ rest) ≡ Some (xs, rest)
unfolding counted
counted_again one spell Fits law [] rest fits = refl
counted_again one spell Fits law (x ∷ xs) rest fits =
    let regrouped : (spell x ++ flat_map spell xs) ++ rest ≡ spell x ++ (flat_map spell xs ++ rest) = append_assoc (spell x) (flat_map spell xs) rest in
    ap (λ bytes. one bytes >>= λ f. counted one (length xs) f.1 >>= λ o. Some (f.0 ∷ o.0, o.1)) regrouped
    ∙ rw (law.again x (flat_map spell xs ++ rest) fits.0, counted_again one spell Fits law xs rest fits.1) refl

-- ---- runs

run_takes : (bytes : List ℕ) (x : Run × List ℕ) → IsBytes bytes → run_at bytes ≡ Some x → Takes bytes (spelt_run x.0) x.1 × RunFits x.0
unfolding run_at
run_takes bytes x good e =
    let a = bind_some (number_at w16 bytes) (λ slave. number_at w16 slave.1 >>= λ first. number_at w16 first.1 >>= λ count. counted (number_at w16) count.0 count.1 >>= λ words. cond (eqb count.0 0) None (Some (record { slave = slave.0; first = first.0; words = words.0 }, words.1))) x e in
    let b = bind_some (number_at w16 a.0.1) (λ first. number_at w16 first.1 >>= λ count. counted (number_at w16) count.0 count.1 >>= λ words. cond (eqb count.0 0) None (Some (record { slave = a.0.0; first = first.0; words = words.0 }, words.1))) x a.2 in
    let c = bind_some (number_at w16 b.0.1) (λ count. counted (number_at w16) count.0 count.1 >>= λ words. cond (eqb count.0 0) None (Some (record { slave = a.0.0; first = b.0.0; words = words.0 }, words.1))) x b.2 in
    let d = bind_some (counted (number_at w16) c.0.0 c.0.1) (λ words. cond (eqb c.0.0 0) None (Some (record { slave = a.0.0; first = b.0.0; words = words.0 }, words.1))) x c.2 in
    let made : Run × List ℕ = (record { slave = a.0.0; first = b.0.0; words = d.0.0 }, d.0.1) in
    let g = guard_some (eqb c.0.0 0) (Some made) x d.2 in
    let slave = reader16.takes bytes a.0 good a.1 in
    let first = reader16.takes a.0.1 b.0 slave.0.rest_fits b.1 in
    let count = reader16.takes b.0.1 c.0 first.0.rest_fits c.1 in
    let words = counted_takes (number_at w16) (to_le_bytes w16) (λ n. n < 2 ^ 16) reader16 c.0.0 c.0.1 d.0 count.0.rest_fits d.1 in
    let some : c.0.0 ≡ 0 → ⊥ = eqb-false c.0.0 0 g.0 in
    let counts : Takes b.0.1 (to_le_bytes w16 (length d.0.0)) c.0.1 = rw words.1 count.0 in
    let e0 = Takes-then bytes (to_le_bytes w16 a.0.0) a.0.1 (to_le_bytes w16 b.0.0) b.0.1 slave.0 first.0 in
    let e1 = Takes-then bytes (to_le_bytes w16 a.0.0 ++ to_le_bytes w16 b.0.0) b.0.1 (to_le_bytes w16 (length d.0.0)) c.0.1 e0 counts in
    let e2 = Takes-then bytes (to_le_bytes w16 a.0.0 ++ to_le_bytes w16 b.0.0 ++ to_le_bytes w16 (length d.0.0)) c.0.1 (flat_map (to_le_bytes w16) d.0.0) d.0.1 e1 words.0 in
    subst (λ (y : Run × List ℕ). Takes bytes (spelt_run y.0) y.1 × RunFits y.0) {x = made} (some_is made x g.1)
    (e2, record { slave = slave.1; first = first.1; some = omega (arith, some, words.1); count = omega (arith, words.1, count.1); words = words.2 })

run_again : (run : Run) (rest : List ℕ) → RunFits run → run_at (spelt_run run ++ rest) ≡ Some (run, rest)
unfolding run_at
run_again run rest fits =
    let words = flat_map (to_le_bytes w16) run.words in
    let some : eqb (length run.words) 0 ≡ false = ne_eqb (length run.words) 0 (λ none. omega (arith, fits.some)) in
    let regrouped : spelt_run run ++ rest ≡ to_le_bytes w16 run.slave ++ (to_le_bytes w16 run.first ++ (to_le_bytes w16 (length run.words) ++ (words ++ rest))) = simp append_assoc in
    ap run_at regrouped
    ∙ rw (
      reader16.again run.slave (to_le_bytes w16 run.first ++ (to_le_bytes w16 (length run.words) ++ (words ++ rest))) fits.slave,
      reader16.again run.first (to_le_bytes w16 (length run.words) ++ (words ++ rest)) fits.first,
      reader16.again (length run.words) (words ++ rest) fits.count,
      counted_again (number_at w16) (to_le_bytes w16) (λ n. n < 2 ^ 16) reader16 run.words rest fits.words,
      some,
    ) refl

pub run_reader : IsReader run_at spelt_run RunFits
run_reader = record { takes = run_takes; again = run_again }

-- ---- commands

entry_takes : (bytes : List ℕ) (x : Entry × List ℕ) → IsBytes bytes → entry_at bytes ≡ Some x → Takes bytes (spelt_entry x.0) x.1 × EntryFits x.0
unfolding entry_at
entry_takes bytes x good e =
    let a = bind_some (number_at w64 bytes) (λ number. number_at w16 number.1 >>= λ count. counted run_at count.0 count.1 >>= λ runs. Some (record { number = number.0; runs = runs.0 }, runs.1)) x e in
    let b = bind_some (number_at w16 a.0.1) (λ count. counted run_at count.0 count.1 >>= λ runs. Some (record { number = a.0.0; runs = runs.0 }, runs.1)) x a.2 in
    let c = bind_some (counted run_at b.0.0 b.0.1) (λ runs. Some (record { number = a.0.0; runs = runs.0 }, runs.1)) x b.2 in
    let made : Entry × List ℕ = (record { number = a.0.0; runs = c.0.0 }, c.0.1) in
    let number = reader64.takes bytes a.0 good a.1 in
    let count = reader16.takes a.0.1 b.0 number.0.rest_fits b.1 in
    let runs = counted_takes run_at spelt_run RunFits run_reader b.0.0 b.0.1 c.0 count.0.rest_fits c.1 in
    let counts : Takes a.0.1 (to_le_bytes w16 (length c.0.0)) b.0.1 = rw runs.1 count.0 in
    let e0 = Takes-then bytes (to_le_bytes w64 a.0.0) a.0.1 (to_le_bytes w16 (length c.0.0)) b.0.1 number.0 counts in
    let e1 = Takes-then bytes (to_le_bytes w64 a.0.0 ++ to_le_bytes w16 (length c.0.0)) b.0.1 (flat_map spelt_run c.0.0) c.0.1 e0 runs.0 in
    subst (λ (y : Entry × List ℕ). Takes bytes (spelt_entry y.0) y.1 × EntryFits y.0) {x = made} (some_is made x c.2)
    (e1, record { number = number.1; count = omega (arith, runs.1, count.1); runs = runs.2 })

entry_again : (entry : Entry) (rest : List ℕ) → EntryFits entry → entry_at (spelt_entry entry ++ rest) ≡ Some (entry, rest)
unfolding entry_at
entry_again entry rest fits =
    let runs = flat_map spelt_run entry.runs in
    let regrouped : spelt_entry entry ++ rest ≡ to_le_bytes w64 entry.number ++ (to_le_bytes w16 (length entry.runs) ++ (runs ++ rest)) = simp append_assoc in
    ap entry_at regrouped
    ∙ rw (
      reader64.again entry.number (to_le_bytes w16 (length entry.runs) ++ (runs ++ rest)) fits.number,
      reader16.again (length entry.runs) (runs ++ rest) fits.count,
      counted_again run_at spelt_run RunFits run_reader entry.runs rest fits.runs,
    ) refl

pub entry_reader : IsReader entry_at spelt_entry EntryFits
entry_reader = record { takes = entry_takes; again = entry_again }

-- ---- payloads

ended_some : {A : Type 0} (b : Bool) (x y : A) → cond b (Some x) None ≡ Some y → (b ≡ true) × (x ≡ y)
ended_some true x y e = (refl, cc)
ended_some false x y e = absurd cc

pub payload_takes : (payload : List ℕ) (entries : List Entry) → IsBytes payload → length payload < 2 ^ 32 → entries_of payload ≡ Some entries → (payload ≡ spelt_payload entries) × PayloadFits entries
unfolding entries_of
payload_takes payload entries good short e =
    let a = bind_some (number_at w16 payload) (λ count. counted entry_at count.0 count.1 >>= λ found. cond (eqb count.0 0) None (cond (eqb (length found.1) 0) (Some found.0) None)) entries e in
    let b = bind_some (counted entry_at a.0.0 a.0.1) (λ found. cond (eqb a.0.0 0) None (cond (eqb (length found.1) 0) (Some found.0) None)) entries a.2 in
    let g = guard_some (eqb a.0.0 0) (cond (eqb (length b.0.1) 0) (Some b.0.0) None) entries b.2 in
    let h = ended_some (eqb (length b.0.1) 0) b.0.0 entries g.1 in
    let count = reader16.takes payload a.0 good a.1 in
    let found = counted_takes entry_at spelt_entry EntryFits entry_reader a.0.0 a.0.1 b.0 count.0.rest_fits b.1 in
    let counts : Takes payload (to_le_bytes w16 (length b.0.0)) a.0.1 = rw found.1 count.0 in
    let entire = Takes-then payload (to_le_bytes w16 (length b.0.0)) a.0.1 (flat_map spelt_entry b.0.0) b.0.1 counts found.0 in
    let nothing : b.0.1 ≡ [] = nil_from_length b.0.1 (eqb-true _ _ h.0) in
    let some : a.0.0 ≡ 0 → ⊥ = eqb-false a.0.0 0 g.0 in
    let spelt : payload ≡ spelt_payload b.0.0 = entire.parts ∙ ap (λ (r : List ℕ). spelt_payload b.0.0 ++ r) nothing ∙ append-nil (spelt_payload b.0.0) in
    subst (λ (v : List Entry). (payload ≡ spelt_payload v) × PayloadFits v) h.1
    (spelt, record { some = omega (arith, some, found.1); count = omega (arith, found.1, count.1); each = found.2; bytes = subst (λ (t : List ℕ). length t < 2 ^ 32) spelt short })

pub payload_again : (entries : List Entry) → PayloadFits entries → entries_of (spelt_payload entries) ≡ Some entries
unfolding entries_of
payload_again entries fits =
    let some : eqb (length entries) 0 ≡ false = ne_eqb (length entries) 0 (λ none. omega (arith, fits.some)) in
    let read : counted entry_at (length entries) (flat_map spelt_entry entries) ≡ Some (entries, []) =
    ap (counted entry_at (length entries)) (sym (append-nil (flat_map spelt_entry entries))) ∙ counted_again entry_at spelt_entry EntryFits entry_reader entries [] fits.each in
    rw (reader16.again (length entries) (flat_map spelt_entry entries) fits.count, read, some) refl
