-- What is read of an area is what the grammar gives, in both directions.
use Rattle.std.proofs.Common.{◌≡◌, ◌≢◌, ℕ, suc, ◌-◌, ◌+◌, ◌<◌, Bool, true, false, cond, eqb, List, [], ◌∷◌, ◌++◌, length, Option, Some, None, refl, sym, ap, subst, ◌∙◌, arith}
use Rattle.std.proofs.lemmas.Bool.{eqb-true, eqb-false, ne_eqb, false_from_ne_true, cond-true, cond-false}
use Rattle.jrn_format.specs.declared.journal.Batch.{Batch}
use Rattle.jrn_format.specs.declared.journal.Spelling.{Spelling}
use Rattle.jrn_format.specs.declared.fault.JournalFault.{JournalFault}
use Rattle.jrn_format.specs.declared.fault.JournalFault.TheVariants.{WrongLine, BadJournal}
use Rattle.jrn_format.specs.Batch.{spelt_after, spelt_batch, CanStand, IsWithin}
use Rattle.jrn_format.specs.Area.{IsClosed, IsOpen, HasBatch}
use Rattle.jrn_format.specs.steps.Reading.{Front, batch_at, batch_is_within, validated, front_of}
use Rattle.jrn_format.specs.steps.Reading.Front.{Closed, Live, Bad}
use Rattle.jrn_format.proofs.Numbers.{IsBytes}
use Rattle.jrn_format.proofs.BatchReading.{batch_takes, batch_again}
use Rattle.jrn_format.proofs.AreaReading.{validated_live, opened_live}
use Rattle.jrn_format.proofs.Within.{batch_tests, not_within}

-- ---- the front: a closed gate

closed_cons : (gate : ℕ) (after : List ℕ) → gate ≢ 0xA5 → IsClosed (gate ∷ after)
closed_cons gate after ne = (gate, after, ne, refl)

not_closed_by : (sizes : List ℕ) (at : ℕ) (b : Bool) (read : Option (Batch × List ℕ)) → cond b (validated sizes at read) Closed ≡ Closed → b ≡ false
not_closed_by sizes at false read e = refl
not_closed_by sizes at true None e = absurd cc
not_closed_by sizes at true (Some x) e = absurd (never (batch_is_within sizes x.0) x.0 x.1 e)
  where
    never : (b : Bool) (batch : Batch) (rest : List ℕ) → cond b (Live batch rest) (Bad WrongLine) ≡ Closed → ⊥
    never true batch rest e = cc
    never false batch rest e = cc

pub front_closed : (spelling : Spelling) (half : ℕ) (sizes : List ℕ) (end : ℕ) (bytes : List ℕ) → 0 < length bytes → front_of spelling half sizes end bytes ≡ Closed → IsClosed bytes
unfolding front_of
front_closed spelling half sizes end [] some e = absurd (omega arith)
front_closed spelling half sizes end (gate ∷ after) some e =
    closed_cons gate after (eqb-false gate 0xA5 (not_closed_by sizes (end - (length after + 1)) (eqb gate 0xA5) (batch_at spelling half after) e))

pub closed_front : (spelling : Spelling) (half : ℕ) (sizes : List ℕ) (end : ℕ) (bytes : List ℕ) → IsClosed bytes → front_of spelling half sizes end bytes ≡ Closed
unfolding front_of
closed_front spelling half sizes end bytes h =
    ap (front_of spelling half sizes end) h.3 ∙ cond-false (eqb h.0 0xA5) (validated sizes (end - (length h.1 + 1)) (batch_at spelling half h.1)) Closed (ne_eqb h.0 0xA5 h.2)

-- ---- a batch

-- what a batch in front leaves behind it
pub record TakesLive (spelling : Spelling) (half : ℕ) (sizes bytes : List ℕ) (batch : Batch) (rest : List ℕ) : Type 0 where
  pub can_stand : CanStand spelling half batch
  pub spelt : bytes ≡ spelt_batch spelling batch ++ rest
  pub within : IsWithin sizes batch
  pub more : 0 < length rest
  pub rest_fits : IsBytes rest

live_takes : (spelling : Spelling) (half : ℕ) (sizes : List ℕ) (gate : ℕ) (after : List ℕ) (x : Batch × List ℕ) → IsBytes (gate ∷ after) → gate ≡ 0xA5 → batch_at spelling half after ≡ Some x
    → batch_is_within sizes x.0 ≡ true → TakesLive spelling half sizes (gate ∷ after) x.0 x.1
live_takes spelling half sizes gate after x good is_open read within =
    let taken = batch_takes spelling half after x (λ i. good (suc i)) read in
    record {
      can_stand = taken.can_stand;
      spelt = ap (λ (g : ℕ). g ∷ after) is_open ∙ ap (λ (t : List ℕ). 0xA5 ∷ t) taken.takes.parts;
      within = (batch_tests sizes).sound x.0 within;
      more = taken.more;
      rest_fits = taken.takes.rest_fits;
    }

pub front_live : (spelling : Spelling) (half : ℕ) (sizes : List ℕ) (end : ℕ) (bytes : List ℕ) (batch : Batch) (rest : List ℕ) → IsBytes bytes
    → front_of spelling half sizes end bytes ≡ Live batch rest → TakesLive spelling half sizes bytes batch rest
unfolding front_of
front_live spelling half sizes end [] batch rest good e = absurd cc
front_live spelling half sizes end (gate ∷ after) batch rest good e =
    let at = end - (length after + 1) in
    let p = opened_live (eqb gate 0xA5) (validated sizes at (batch_at spelling half after)) batch rest e in
    let q = validated_live sizes at (batch_at spelling half after) batch rest p.1 in
    let taken = live_takes spelling half sizes gate after q.0 good (eqb-true gate 0xA5 p.0) q.1 q.2 in
    subst (λ (r : List ℕ). TakesLive spelling half sizes (gate ∷ after) batch r) q.4 (subst (λ (b : Batch). TakesLive spelling half sizes (gate ∷ after) b q.0.1) q.3 taken)

validated_front : (spelling : Spelling) (half : ℕ) (sizes : List ℕ) (end : ℕ) (batch : Batch) (rest : List ℕ) → CanStand spelling half batch → 0 < length rest
    → front_of spelling half sizes end (spelt_batch spelling batch ++ rest) ≡ cond (batch_is_within sizes batch) (Live batch rest) (Bad WrongLine)
unfolding front_of
validated_front spelling half sizes end batch rest can more =
    ap (validated sizes (end - (length (spelt_after spelling batch.generation batch.entries ++ rest) + 1))) (batch_again spelling half batch rest can more)

pub live_front : (spelling : Spelling) (half : ℕ) (sizes : List ℕ) (end : ℕ) (batch : Batch) (rest : List ℕ) → CanStand spelling half batch → IsWithin sizes batch → 0 < length rest
    → front_of spelling half sizes end (spelt_batch spelling batch ++ rest) ≡ Live batch rest
live_front spelling half sizes end batch rest can within more =
    validated_front spelling half sizes end batch rest can more ∙ cond-true (batch_is_within sizes batch) (Live batch rest) (Bad WrongLine) ((batch_tests sizes).complete batch within)

-- ---- a fault

-- why the front can't be read
pub data IsBadFront (spelling : Spelling) (half : ℕ) (sizes : List ℕ) (end : ℕ) (bytes : List ℕ) (fault : JournalFault) : Type 0 where
  no_batch : IsOpen bytes → ((batch : Batch) → HasBatch spelling half bytes batch → ⊥) → fault ≡ BadJournal (end - length bytes) → IsBadFront spelling half sizes end bytes fault
  not_there : (batch : Batch) → HasBatch spelling half bytes batch → (IsWithin sizes batch → ⊥) → fault ≡ WrongLine → IsBadFront spelling half sizes end bytes fault

no_batch_read : (spelling : Spelling) (half : ℕ) (after : List ℕ) → batch_at spelling half after ≡ None → (batch : Batch) → HasBatch spelling half (0xA5 ∷ after) batch → ⊥
no_batch_read spelling half after none batch h =
    let read = batch_again spelling half batch (h.gate ∷ h.after) h.can_stand (omega arith) in
    let same : after ≡ spelt_after spelling batch.generation batch.entries ++ h.gate ∷ h.after = let entire = h.spelt in cc in
    let some : batch_at spelling half after ≡ Some (batch, h.gate ∷ h.after) = ap (batch_at spelling half) same ∙ read in
    cc

cons_of : (rest : List ℕ) → 0 < length rest → (gate : ℕ) × (after : List ℕ) × (rest ≡ gate ∷ after)
cons_of [] more = absurd (omega arith)
cons_of (gate ∷ after) more = (gate, after, refl)

has_batch : (spelling : Spelling) (half : ℕ) (after : List ℕ) (x : Batch × List ℕ) → IsBytes after → batch_at spelling half after ≡ Some x → HasBatch spelling half (0xA5 ∷ after) x.0
has_batch spelling half after x good read =
    let taken = batch_takes spelling half after x good read in
    let more = cons_of x.1 taken.more in
    record {
      can_stand = taken.can_stand;
      gate = more.0;
      after = more.1;
      spelt = ap (λ (t : List ℕ). 0xA5 ∷ t) taken.takes.parts ∙ ap (λ (r : List ℕ). spelt_batch spelling x.0 ++ r) more.2;
    }

opened_bad : (b : Bool) (front : Front) (fault : JournalFault) → cond b front Closed ≡ Bad fault → (b ≡ true) × (front ≡ Bad fault)
opened_bad true front fault e = (refl, e)
opened_bad false front fault e = absurd cc

chosen_bad : (b : Bool) (batch : Batch) (rest : List ℕ) (fault : JournalFault) → cond b (Live batch rest) (Bad WrongLine) ≡ Bad fault → (b ≡ false) × (fault ≡ WrongLine)
chosen_bad true batch rest fault e = absurd cc
chosen_bad false batch rest fault e = (refl, cc)

validated_bad : (spelling : Spelling) (half : ℕ) (sizes : List ℕ) (end : ℕ) (after : List ℕ) (read : Option (Batch × List ℕ)) (fault : JournalFault) → IsBytes after → batch_at spelling half after ≡ read
    → validated sizes (end - (length after + 1)) read ≡ Bad fault → IsBadFront spelling half sizes end (0xA5 ∷ after) fault
validated_bad spelling half sizes end after None fault good read e =
    let one : length after + 1 ≡ suc (length after) = omega arith in
    let same : fault ≡ BadJournal (end - (length after + 1)) = cc in
    no_batch (after, refl) (no_batch_read spelling half after read) (same ∙ ap (λ (n : ℕ). BadJournal (end - n)) one)
validated_bad spelling half sizes end after (Some x) fault good read e =
    let p = chosen_bad (batch_is_within sizes x.0) x.0 x.1 fault e in
    not_there x.0 (has_batch spelling half after x good read) (not_within sizes x.0 p.0) p.1

pub front_bad : (spelling : Spelling) (half : ℕ) (sizes : List ℕ) (end : ℕ) (bytes : List ℕ) (fault : JournalFault) → IsBytes bytes → front_of spelling half sizes end bytes ≡ Bad fault
    → IsBadFront spelling half sizes end bytes fault
unfolding front_of
front_bad spelling half sizes end [] fault good e = absurd cc
front_bad spelling half sizes end (gate ∷ after) fault good e =
    let p = opened_bad (eqb gate 0xA5) (validated sizes (end - (length after + 1)) (batch_at spelling half after)) fault e in
    subst (λ (g : ℕ). IsBadFront spelling half sizes end (g ∷ after) fault) (sym (eqb-true gate 0xA5 p.0))
    (validated_bad spelling half sizes end after (batch_at spelling half after) fault (λ i. good (suc i)) refl p.1)

unread : (spelling : Spelling) (half : ℕ) (after : List ℕ) (read : Option (Batch × List ℕ)) → IsBytes after → ((batch : Batch) → HasBatch spelling half (0xA5 ∷ after) batch → ⊥)
    → batch_at spelling half after ≡ read → read ≡ None
unread spelling half after None good none e = refl
unread spelling half after (Some x) good none e = absurd (none x.0 (has_batch spelling half after x good e))

open_front : (spelling : Spelling) (half : ℕ) (sizes : List ℕ) (end : ℕ) (after : List ℕ) → IsBytes after → ((batch : Batch) → HasBatch spelling half (0xA5 ∷ after) batch → ⊥)
    → front_of spelling half sizes end (0xA5 ∷ after) ≡ Bad (BadJournal (end - (length after + 1)))
unfolding front_of
open_front spelling half sizes end after good none =
    ap (validated sizes (end - (length after + 1))) (unread spelling half after (batch_at spelling half after) good none refl)

pub malformed_front : (spelling : Spelling) (half : ℕ) (sizes : List ℕ) (end : ℕ) (bytes : List ℕ) (at : ℕ) → IsBytes bytes → IsOpen bytes → ((batch : Batch) → HasBatch spelling half bytes batch → ⊥)
    → at + length bytes ≡ end → front_of spelling half sizes end bytes ≡ Bad (BadJournal at)
malformed_front spelling half sizes end bytes at good is_open none place =
    let after = is_open.0 in
    let opened : 0xA5 ∷ after ≡ bytes = sym is_open.1 in
    let here : end - (length after + 1) ≡ at = omega (arith, place, ap length opened) in
    let good_after : IsBytes after = λ i. subst IsBytes is_open.1 good (suc i) in
    let none_after : (batch : Batch) → HasBatch spelling half (0xA5 ∷ after) batch → ⊥ = subst (λ (t : List ℕ). (batch : Batch) → HasBatch spelling half t batch → ⊥) is_open.1 none in
    ap (front_of spelling half sizes end) is_open.1 ∙ open_front spelling half sizes end after good_after none_after ∙ ap (λ (n : ℕ). Bad (BadJournal n)) here

pub outside_front : (spelling : Spelling) (half : ℕ) (sizes : List ℕ) (end : ℕ) (bytes : List ℕ) (batch : Batch) → HasBatch spelling half bytes batch → (IsWithin sizes batch → ⊥)
    → front_of spelling half sizes end bytes ≡ Bad WrongLine
outside_front spelling half sizes end bytes batch has out =
    ap (front_of spelling half sizes end) has.spelt
    ∙ validated_front spelling half sizes end batch (has.gate ∷ has.after) has.can_stand (omega arith)
    ∙ cond-false (batch_is_within sizes batch) (Live batch (has.gate ∷ has.after)) (Bad WrongLine) (false_from_ne_true (batch_is_within sizes batch) (λ e. out ((batch_tests sizes).sound batch e)))
