-- Reading an area batch by batch.
use Rattle.std.proofs.Common.{◌≡◌, ℕ, zero, suc, ◌-◌, ◌+◌, ◌<◌, ◌≤◌, Bool, true, false, cond, ltb, eqb, List, [], ◌∷◌, ◌++◌, length, take, drop, Option, Some, None, Result, Ok, Err, refl, sym, ap, ◌∙◌, append_assoc, arith}
use Rattle.std.specs.Int.{w32, byte_len, from_le_bytes}
use Rattle.std.proofs.lemmas.List.{append-nil, length-drop}
use Rattle.jrn_format.specs.declared.journal.Batch.{Batch}
use Rattle.jrn_format.specs.declared.journal.Spelling.{Spelling}
use Rattle.jrn_format.specs.declared.journal.Spelling.TheVariants.{Plain, WithGeneration}
use Rattle.jrn_format.specs.declared.fault.JournalFault.{JournalFault}
use Rattle.jrn_format.specs.declared.fault.JournalFault.TheVariants.{Memory, NotAJournal, BadVersion, WrongLine, BadJournal}
use Rattle.jrn_format.specs.Memory.{UnlessMemory}
use Rattle.jrn_format.specs.steps.Reading.{◌>>=◌, ◌>>>◌, Front, number_at, entries_of, generation_at, batch_at, batch_is_within, validated, front_of, batches_after, batches_below, batches_of}
use Rattle.jrn_format.specs.steps.Reading.Front.{Closed, Live, Bad}
use Rattle.jrn_format.proofs.Numbers.{bind_some, some_is, guard_some}

-- ---- what is left behind a batch is shorter

number_shorter : (bytes : List ℕ) (x : ℕ × List ℕ) → number_at w32 bytes ≡ Some x → length x.1 ≤ length bytes
number_shorter bytes x e =
    let made : ℕ × List ℕ = (from_le_bytes w32 (take 4 bytes), drop 4 bytes) in
    let g = guard_some (ltb (length bytes) (byte_len w32)) (Some made) x e in
    let rest : drop 4 bytes ≡ x.1 = ap (λ (y : ℕ × List ℕ). y.1) (some_is made x g.1) in
    omega (arith, ap length rest, length-drop 4 bytes)

generation_shorter : (spelling : Spelling) (bytes : List ℕ) (x : ℕ × List ℕ) → generation_at spelling bytes ≡ Some x → length x.1 ≤ length bytes
unfolding generation_at
generation_shorter Plain bytes x e =
    let made : ℕ × List ℕ = (0, bytes) in
    let rest : bytes ≡ x.1 = ap (λ (y : ℕ × List ℕ). y.1) (some_is made x e) in
    omega (arith, ap length rest)
generation_shorter WithGeneration [] x e = absurd cc
generation_shorter WithGeneration (generation ∷ after) x e =
    let made : ℕ × List ℕ = (generation, after) in
    let rest : after ≡ x.1 = ap (λ (y : ℕ × List ℕ). y.1) (some_is made x e) in
    omega (arith, ap length rest)

batch_shorter : (spelling : Spelling) (half : ℕ) (bytes : List ℕ) (x : Batch × List ℕ) → batch_at spelling half bytes ≡ Some x → length x.1 ≤ length bytes
unfolding batch_at
batch_shorter spelling half bytes x e =
    let a = bind_some (generation_at spelling bytes) (λ generation. number_at w32 generation.1 >>= λ count. cond (ltb count.0 (length count.1)) (entries_of (take count.0 count.1)) None >>= λ entries. Some (record { half = half; generation = generation.0; entries = entries }, drop count.0 count.1)) x e in
    let b = bind_some (number_at w32 a.0.1) (λ count. cond (ltb count.0 (length count.1)) (entries_of (take count.0 count.1)) None >>= λ entries. Some (record { half = half; generation = a.0.0; entries = entries }, drop count.0 count.1)) x a.2 in
    let c = bind_some (cond (ltb b.0.0 (length b.0.1)) (entries_of (take b.0.0 b.0.1)) None) (λ entries. Some (record { half = half; generation = a.0.0; entries = entries }, drop b.0.0 b.0.1)) x b.2 in
    let made : Batch × List ℕ = (record { half = half; generation = a.0.0; entries = c.0 }, drop b.0.0 b.0.1) in
    let rest : drop b.0.0 b.0.1 ≡ x.1 = ap (λ (y : Batch × List ℕ). y.1) (some_is made x c.2) in
    omega (arith, ap length rest, length-drop b.0.0 b.0.1, generation_shorter spelling bytes a.0 a.1, number_shorter a.0.1 b.0 b.1)

chosen_live : (b : Bool) (made batch : Batch) (after rest : List ℕ) → cond b (Live made after) (Bad WrongLine) ≡ Live batch rest → (b ≡ true) × (made ≡ batch) × (after ≡ rest)
chosen_live true made batch after rest e = (refl, cc, cc)
chosen_live false made batch after rest e = absurd cc

pub validated_live : (sizes : List ℕ) (at : ℕ) (read : Option (Batch × List ℕ)) (batch : Batch) (rest : List ℕ) → validated sizes at read ≡ Live batch rest
    → (x : Batch × List ℕ) × (read ≡ Some x) × (batch_is_within sizes x.0 ≡ true) × (x.0 ≡ batch) × (x.1 ≡ rest)
validated_live sizes at None batch rest e = absurd cc
validated_live sizes at (Some x) batch rest e =
    let p = chosen_live (batch_is_within sizes x.0) x.0 batch x.1 rest e in
    (x, refl, p.0, p.1, p.2)

pub opened_live : (b : Bool) (front : Front) (batch : Batch) (rest : List ℕ) → cond b front Closed ≡ Live batch rest → (b ≡ true) × (front ≡ Live batch rest)
opened_live true front batch rest e = (refl, e)
opened_live false front batch rest e = absurd cc

pub front_shorter : (spelling : Spelling) (half : ℕ) (sizes : List ℕ) (end : ℕ) (bytes : List ℕ) (batch : Batch) (rest : List ℕ)
    → front_of spelling half sizes end bytes ≡ Live batch rest → length rest < length bytes
unfolding front_of
front_shorter spelling half sizes end [] batch rest e = absurd cc
front_shorter spelling half sizes end (gate ∷ after) batch rest e =
    let at = end - (length after + 1) in
    let p = opened_live (eqb gate 0xA5) (validated sizes at (batch_at spelling half after)) batch rest e in
    let q = validated_live sizes at (batch_at spelling half after) batch rest p.1 in
    omega (arith, batch_shorter spelling half after q.0 q.1, ap length q.4)

-- ---- one step

same_after : (front : Front) (f g : List ℕ → Result (List Batch) JournalFault) → ((batch : Batch) (rest : List ℕ) → front ≡ Live batch rest → f rest ≡ g rest)
    → batches_after front f ≡ batches_after front g
same_after Closed f g h = refl
same_after (Live batch rest) f g h = ap (λ read. read >>> λ batches. Ok (batch ∷ batches)) (h batch rest refl)
same_after (Bad fault) f g h = refl

-- any bound above the number of bytes gives the same
enough : (spelling : Spelling) (half : ℕ) (sizes : List ℕ) (end m n : ℕ) (area : List ℕ) → length area < m → length area < n
    → batches_below spelling half sizes end m area ≡ batches_below spelling half sizes end n area
unfolding batches_below
enough spelling half sizes end zero n area h k = absurd (omega arith)
enough spelling half sizes end (suc m) zero area h k = absurd (omega arith)
enough spelling half sizes end (suc m) (suc n) area h k =
    same_after (front_of spelling half sizes end area) (batches_below spelling half sizes end m) (batches_below spelling half sizes end n)
    (λ batch rest e. let lt : length rest < length area = front_shorter spelling half sizes end area batch rest e in enough spelling half sizes end m n rest (omega arith) (omega arith))

pub batches_of-live : (spelling : Spelling) (half : ℕ) (sizes : List ℕ) (end : ℕ) (area : List ℕ) (batch : Batch) (rest : List ℕ) → front_of spelling half sizes end area ≡ Live batch rest
    → batches_of spelling half sizes end area ≡ (batches_of spelling half sizes end rest >>> λ batches. Ok (batch ∷ batches))
unfolding batches_of batches_below
batches_of-live spelling half sizes end area batch rest e =
    let lt : length rest < length area = front_shorter spelling half sizes end area batch rest e in
    ap (λ front. batches_after front (batches_below spelling half sizes end (length area))) e
    ∙ ap (λ read. read >>> λ batches. Ok (batch ∷ batches)) (enough spelling half sizes end (length area) (suc (length rest)) rest (omega arith) (omega arith))

pub batches_of-closed : (spelling : Spelling) (half : ℕ) (sizes : List ℕ) (end : ℕ) (area : List ℕ) → front_of spelling half sizes end area ≡ Closed → batches_of spelling half sizes end area ≡ Ok []
unfolding batches_of batches_below
batches_of-closed spelling half sizes end area e = ap (λ front. batches_after front (batches_below spelling half sizes end (length area))) e

pub batches_of-bad : (spelling : Spelling) (half : ℕ) (sizes : List ℕ) (end : ℕ) (area : List ℕ) (fault : JournalFault) → front_of spelling half sizes end area ≡ Bad fault
    → batches_of spelling half sizes end area ≡ Err fault
unfolding batches_of batches_below
batches_of-bad spelling half sizes end area fault e = ap (λ front. batches_after front (batches_below spelling half sizes end (length area))) e

-- ---- a loop: the batches read before, and those of the rest

abbrev pub with_before : List Batch → Result (List Batch) JournalFault → Result (List Batch) JournalFault
with_before before read = read >>> λ batches. Ok (before ++ batches)

one_more : (before : List Batch) (batch : Batch) (read : Result (List Batch) JournalFault)
    → with_before before (read >>> λ batches. Ok (batch ∷ batches)) ≡ with_before (before ++ batch ∷ []) read
one_more before batch (Ok batches) = ap (λ all. Ok all) (sym (append_assoc before (batch ∷ []) batches))
one_more before batch (Err fault) = refl

-- What a loop keeps: what was read and what is still read are all, and what is left is no longer than the area.
pub record Going (spelling : Spelling) (half : ℕ) (sizes : List ℕ) (end : ℕ) (area : List ℕ) (before : List Batch) (rest : List ℕ) : Type 0 where
  pub so_far : with_before before (batches_of spelling half sizes end rest) ≡ batches_of spelling half sizes end area
  pub room : length rest ≤ end

read_nothing : (read : Result (List Batch) JournalFault) → with_before [] read ≡ read
read_nothing (Ok batches) = refl
read_nothing (Err fault) = refl

pub begins : (spelling : Spelling) (half : ℕ) (sizes : List ℕ) (end : ℕ) (area : List ℕ) (before : List Batch) → before ≡ [] → length area ≤ end → Going spelling half sizes end area before area
begins spelling half sizes end area before none room =
    record { so_far = ap (λ batches. with_before batches (batches_of spelling half sizes end area)) none ∙ read_nothing (batches_of spelling half sizes end area); room = room }

pub goes_on : (spelling : Spelling) (half : ℕ) (sizes : List ℕ) (end : ℕ) (area : List ℕ) (before : List Batch) (bytes : List ℕ) (batch : Batch) (rest : List ℕ)
    → front_of spelling half sizes end bytes ≡ Live batch rest → Going spelling half sizes end area before bytes → Going spelling half sizes end area (before ++ batch ∷ []) rest
goes_on spelling half sizes end area before bytes batch rest e going =
    let lt : length rest < length bytes = front_shorter spelling half sizes end bytes batch rest e in
    record {
      so_far = sym (ap (with_before before) (batches_of-live spelling half sizes end bytes batch rest e) ∙ one_more before batch (batches_of spelling half sizes end rest)) ∙ going.so_far;
      room = omega (arith, going.room);
    }

pub is_done : (spelling : Spelling) (half : ℕ) (sizes : List ℕ) (end : ℕ) (area : List ℕ) (before : List Batch) (bytes : List ℕ)
    → front_of spelling half sizes end bytes ≡ Closed → Going spelling half sizes end area before bytes → batches_of spelling half sizes end area ≡ Ok before
is_done spelling half sizes end area before bytes e going =
    sym going.so_far ∙ ap (with_before before) (batches_of-closed spelling half sizes end bytes e) ∙ ap (λ all. Ok all) (append-nil before)

pub UnlessMemory-weaker : (fault : JournalFault) (P Q : Type 0) → (P → Q) → UnlessMemory fault P → UnlessMemory fault Q
UnlessMemory-weaker Memory P Q f h = tt
UnlessMemory-weaker NotAJournal P Q f h = f h
UnlessMemory-weaker (BadVersion found) P Q f h = f h
UnlessMemory-weaker WrongLine P Q f h = f h
UnlessMemory-weaker (BadJournal at) P Q f h = f h

pub breaks_off : (spelling : Spelling) (half : ℕ) (sizes : List ℕ) (end : ℕ) (area : List ℕ) (before : List Batch) (bytes : List ℕ) (fault : JournalFault)
    → UnlessMemory fault (front_of spelling half sizes end bytes ≡ Bad fault) → Going spelling half sizes end area before bytes
    → UnlessMemory fault (batches_of spelling half sizes end area ≡ Err fault)
breaks_off spelling half sizes end area before bytes fault h going =
    UnlessMemory-weaker fault (front_of spelling half sizes end bytes ≡ Bad fault) (batches_of spelling half sizes end area ≡ Err fault)
    (λ e. sym going.so_far ∙ ap (with_before before) (batches_of-bad spelling half sizes end bytes fault e)) h
