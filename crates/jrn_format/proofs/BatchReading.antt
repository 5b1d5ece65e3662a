-- Batches: what is read after an open gate is spelt so, and what is spelt is read again.
use Rattle.std.proofs.Common.{◌≡◌, ℕ, suc, ◌<◌, Bool, true, false, cond, ltb, List, [], ◌∷◌, ◌++◌, length, take, drop, Option, Some, None, refl, sym, ap, subst, ◌∙◌, append_assoc, arith}
use Rattle.std.specs.Int.{w32, to_le_bytes}
use Rattle.std.proofs.lemmas.Bool.{ltb-true, lt-ltb}
use Rattle.std.proofs.lemmas.List.{take_at, drop_at, take-append-drop, length-append, length-take, length-drop}
use Rattle.jrn_format.specs.declared.journal.Entry.{Entry}
use Rattle.jrn_format.specs.declared.journal.Batch.{Batch}
use Rattle.jrn_format.specs.declared.journal.Spelling.{Spelling}
use Rattle.jrn_format.specs.declared.journal.Spelling.TheVariants.{Plain, WithGeneration}
use Rattle.jrn_format.specs.Batch.{spelt_payload, spelt_generation, spelt_after, GenerationFits, CanStand}
use Rattle.jrn_format.specs.steps.Reading.{◌>>=◌, number_at, entries_of, generation_at, batch_at}
use Rattle.jrn_format.proofs.Numbers.{IsBytes, IsBytes-take, IsBytes-drop, bind_some, some_is, Takes, Takes-then, reader32}
use Rattle.jrn_format.proofs.Payload.{payload_takes, payload_again}

generation_takes : (spelling : Spelling) (bytes : List ℕ) (x : ℕ × List ℕ) → IsBytes bytes → generation_at spelling bytes ≡ Some x → Takes bytes (spelt_generation spelling x.0) x.1 × GenerationFits spelling x.0
unfolding generation_at
generation_takes Plain bytes x good e =
    let made : ℕ × List ℕ = (0, bytes) in
    subst (λ (y : ℕ × List ℕ). Takes bytes (spelt_generation Plain y.0) y.1 × (y.0 ≡ 0)) (some_is made x e) (record { parts = refl; rest_fits = good }, refl)
generation_takes WithGeneration [] x good e = absurd cc
generation_takes WithGeneration (generation ∷ rest) x good e =
    let made : ℕ × List ℕ = (generation, rest) in
    subst (λ (y : ℕ × List ℕ). Takes (generation ∷ rest) (spelt_generation WithGeneration y.0) y.1 × (y.0 < 256)) (some_is made x e) (record { parts = refl; rest_fits = λ i. good (suc i) }, good 0)

generation_again : (spelling : Spelling) (generation : ℕ) (rest : List ℕ) → GenerationFits spelling generation → generation_at spelling (spelt_generation spelling generation ++ rest) ≡ Some (generation, rest)
unfolding generation_at
generation_again Plain generation rest fits = ap (λ (g : ℕ). Some (g, rest)) (sym fits)
generation_again WithGeneration generation rest fits = refl

found_some : (b : Bool) (o : Option (List Entry)) (y : List Entry) → cond b o None ≡ Some y → (b ≡ true) × (o ≡ Some y)
found_some true o y e = (refl, e)
found_some false o y e = absurd cc

-- what reading a batch gives
pub record TakesBatch (spelling : Spelling) (half : ℕ) (bytes : List ℕ) (batch : Batch) (rest : List ℕ) : Type 0 where
  pub can_stand : CanStand spelling half batch
  pub takes : Takes bytes (spelt_after spelling batch.generation batch.entries) rest
  pub more : 0 < length rest

pub batch_takes : (spelling : Spelling) (half : ℕ) (bytes : List ℕ) (x : Batch × List ℕ) → IsBytes bytes → batch_at spelling half bytes ≡ Some x → TakesBatch spelling half bytes x.0 x.1
unfolding batch_at
batch_takes spelling half bytes x good e =
    let a = bind_some (generation_at spelling bytes) (λ generation. number_at w32 generation.1 >>= λ count. cond (ltb count.0 (length count.1)) (entries_of (take count.0 count.1)) None >>= λ entries. Some (record { half = half; generation = generation.0; entries = entries }, drop count.0 count.1)) x e in
    let b = bind_some (number_at w32 a.0.1) (λ count. cond (ltb count.0 (length count.1)) (entries_of (take count.0 count.1)) None >>= λ entries. Some (record { half = half; generation = a.0.0; entries = entries }, drop count.0 count.1)) x a.2 in
    let c = bind_some (cond (ltb b.0.0 (length b.0.1)) (entries_of (take b.0.0 b.0.1)) None) (λ entries. Some (record { half = half; generation = a.0.0; entries = entries }, drop b.0.0 b.0.1)) x b.2 in
    let g = found_some (ltb b.0.0 (length b.0.1)) (entries_of (take b.0.0 b.0.1)) c.0 c.1 in
    let short : b.0.0 < length b.0.1 = ltb-true _ _ g.0 in
    let generation = generation_takes spelling bytes a.0 good a.1 in
    let count = reader32.takes a.0.1 b.0 generation.0.rest_fits b.1 in
    let len : length (take b.0.0 b.0.1) ≡ b.0.0 = omega (arith, length-take b.0.0 b.0.1) in
    let payload = payload_takes (take b.0.0 b.0.1) c.0 (IsBytes-take b.0.0 b.0.1 count.0.rest_fits) (omega (arith, len, count.1)) g.1 in
    let size : b.0.0 ≡ length (spelt_payload c.0) = sym len ∙ ap length payload.0 in
    let counts : Takes a.0.1 (to_le_bytes w32 (length (spelt_payload c.0))) b.0.1 = subst (λ (n : ℕ). Takes a.0.1 (to_le_bytes w32 n) b.0.1) size count.0 in
    let parts : b.0.1 ≡ spelt_payload c.0 ++ drop b.0.0 b.0.1 = sym (take-append-drop b.0.0 b.0.1) ∙ ap (λ (t : List ℕ). t ++ drop b.0.0 b.0.1) payload.0 in
    let last : Takes b.0.1 (spelt_payload c.0) (drop b.0.0 b.0.1) = record { parts = parts; rest_fits = IsBytes-drop b.0.0 b.0.1 count.0.rest_fits } in
    let e0 = Takes-then bytes (spelt_generation spelling a.0.0) a.0.1 (to_le_bytes w32 (length (spelt_payload c.0))) b.0.1 generation.0 counts in
    let e1 = Takes-then bytes (spelt_generation spelling a.0.0 ++ to_le_bytes w32 (length (spelt_payload c.0))) b.0.1 (spelt_payload c.0) (drop b.0.0 b.0.1) e0 last in
    let made : Batch × List ℕ = (record { half = half; generation = a.0.0; entries = c.0 }, drop b.0.0 b.0.1) in
    subst (λ (y : Batch × List ℕ). TakesBatch spelling half bytes y.0 y.1) {x = made} (some_is made x c.2) (record {
      can_stand = record { of_half = refl; generation = generation.1; payload = payload.1 };
      takes = e1;
      more = omega (arith, short, length-drop b.0.0 b.0.1);
    })

same_batch : (batch : Batch) (half : ℕ) → batch.half ≡ half → record { half = half; generation = batch.generation; entries = batch.entries } ≡ batch
same_batch batch half e = rw (← e) refl

pub batch_again : (spelling : Spelling) (half : ℕ) (batch : Batch) (rest : List ℕ) → CanStand spelling half batch → 0 < length rest
    → batch_at spelling half (spelt_after spelling batch.generation batch.entries ++ rest) ≡ Some (batch, rest)
unfolding batch_at
batch_again spelling half batch rest can more =
    let payload = spelt_payload batch.entries in
    let regrouped : spelt_after spelling batch.generation batch.entries ++ rest ≡ spelt_generation spelling batch.generation ++ (to_le_bytes w32 (length payload) ++ (payload ++ rest)) =
    append_assoc (spelt_generation spelling batch.generation ++ to_le_bytes w32 (length payload)) payload rest ∙ append_assoc (spelt_generation spelling batch.generation) (to_le_bytes w32 (length payload)) (payload ++ rest) in
    let short : ltb (length payload) (length (payload ++ rest)) ≡ true = lt-ltb _ _ (omega (arith, length-append payload rest)) in
    ap (batch_at spelling half) regrouped
    ∙ rw (
      generation_again spelling batch.generation (to_le_bytes w32 (length payload) ++ (payload ++ rest)) can.generation,
      reader32.again (length payload) (payload ++ rest) can.payload.bytes,
      short,
      take_at payload rest (length payload) refl,
      drop_at payload rest (length payload) refl,
      payload_again batch.entries can.payload,
    ) (ap (λ (b : Batch). Some (b, rest)) (same_batch batch half can.of_half))
