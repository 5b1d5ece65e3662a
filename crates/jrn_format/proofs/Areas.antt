-- A whole area: it is read as the grammar says, and it can't be read exactly where the grammar says so.
use Rattle.std.proofs.Common.{◌≡◌, ℕ, zero, suc, ◌-◌, ◌+◌, ◌<◌, ◌≤◌, List, [], ◌∷◌, ◌++◌, length, Result, Ok, Err, refl, sym, ap, subst, ◌∙◌, append_assoc, arith}
use Rattle.std.specs.List.{AllByRecursion}
use Rattle.std.proofs.lemmas.List.{length-append, append-nil, get_or-append-add}
use Rattle.jrn_format.specs.declared.journal.Batch.{Batch}
use Rattle.jrn_format.specs.declared.journal.Spelling.{Spelling}
use Rattle.jrn_format.specs.declared.fault.JournalFault.{JournalFault}
use Rattle.jrn_format.specs.declared.fault.JournalFault.TheVariants.{WrongLine, BadJournal}
use Rattle.jrn_format.specs.Batch.{spelt_batch, CanStand, IsWithin}
use Rattle.jrn_format.specs.Area.{spelt_batches, IsClosed, StartsWith, IsLive, IsUnreadableArea}
use Rattle.jrn_format.specs.Area.IsUnreadableArea.{malformed, outside}
use Rattle.jrn_format.specs.steps.Reading.{◌>>>◌, Front, front_of, batches_of}
use Rattle.jrn_format.specs.steps.Reading.Front.{Closed, Live, Bad}
use Rattle.jrn_format.proofs.Numbers.{IsBytes}
use Rattle.jrn_format.proofs.AreaReading.{front_shorter, batches_of-live, batches_of-closed, batches_of-bad}
use Rattle.jrn_format.proofs.AreaGrammar.{IsBadFront, front_closed, closed_front, front_live, live_front, front_bad, malformed_front, outside_front}
use Rattle.jrn_format.proofs.AreaGrammar.IsBadFront.{no_batch, not_there}

-- ---- steps that did not fail

abbrev read : {A : Type 0} → A → Result A JournalFault
read x = Ok x

pub ok_is : {A : Type 0} (x y : A) → read x ≡ read y → x ≡ y
ok_is x y e = cc

pub bind_ok : {A B : Type 0} (r : Result A JournalFault) (f : A → Result B JournalFault) (y : B) → (r >>> f) ≡ Ok y → (x : A) × (r ≡ Ok x) × (f x ≡ Ok y)
bind_ok (Ok x) f y e = (x, refl, e)
bind_ok (Err fault) f y e = absurd cc

more_err : (r : Result (List Batch) JournalFault) (batch : Batch) (fault : JournalFault) → (r >>> λ batches. Ok (batch ∷ batches)) ≡ Err fault → r ≡ Err fault
more_err (Ok batches) batch fault e = absurd cc
more_err (Err other) batch fault e = cc

-- ---- what is read is live

pub starts_cons : (spelling : Spelling) (half : ℕ) (area : List ℕ) (batch : Batch) (bytes : List ℕ) (batches : List Batch) (rest : List ℕ)
    → CanStand spelling half batch → area ≡ spelt_batch spelling batch ++ bytes → StartsWith spelling half bytes batches rest → StartsWith spelling half area (batch ∷ batches) rest
starts_cons spelling half area batch bytes batches rest can e starts = record {
  can_stand = (can, starts.can_stand);
  spelt = e ∙ ap (λ (t : List ℕ). spelt_batch spelling batch ++ t) starts.spelt ∙ sym (append_assoc (spelt_batch spelling batch) (spelt_batches spelling batches) rest);
}

ends_there : (spelling : Spelling) (half : ℕ) (sizes : List ℕ) (end : ℕ) (area : List ℕ) (front : Front) → front_of spelling half sizes end area ≡ front
    → batches_of spelling half sizes end area ≡ Ok [] → front_of spelling half sizes end area ≡ Closed
ends_there spelling half sizes end area Closed e h = e
ends_there spelling half sizes end area (Live batch rest) e h =
    let step = bind_ok (batches_of spelling half sizes end rest) (λ batches. Ok (batch ∷ batches)) [] (sym (batches_of-live spelling half sizes end area batch rest e) ∙ h) in
    let never = ok_is (batch ∷ step.0) [] step.2 in absurd cc
ends_there spelling half sizes end area (Bad fault) e h = let never = sym (batches_of-bad spelling half sizes end area fault e) ∙ h in absurd cc

-- the first batch, and what is read after it
record GoesOn (spelling : Spelling) (half : ℕ) (sizes : List ℕ) (end : ℕ) (area : List ℕ) (batch : Batch) (batches : List Batch) : Type 0 where
  rest : List ℕ
  front : front_of spelling half sizes end area ≡ Live batch rest
  others : batches_of spelling half sizes end rest ≡ Ok batches

goes_there : (spelling : Spelling) (half : ℕ) (sizes : List ℕ) (end : ℕ) (area : List ℕ) (batch : Batch) (batches : List Batch) (front : Front) → front_of spelling half sizes end area ≡ front
    → batches_of spelling half sizes end area ≡ Ok (batch ∷ batches) → GoesOn spelling half sizes end area batch batches
goes_there spelling half sizes end area batch batches Closed e h =
    let never = ok_is [] (batch ∷ batches) (sym (batches_of-closed spelling half sizes end area e) ∙ h) in absurd cc
goes_there spelling half sizes end area batch batches (Live first rest) e h =
    let step = bind_ok (batches_of spelling half sizes end rest) (λ all. Ok (first ∷ all)) (batch ∷ batches) (sym (batches_of-live spelling half sizes end area first rest e) ∙ h) in
    let same = ok_is (first ∷ step.0) (batch ∷ batches) step.2 in
    let same_first : first ≡ batch = cc in
    let same_others : step.0 ≡ batches = cc in
    record { rest = rest; front = e ∙ ap (λ (b : Batch). Live b rest) same_first; others = step.1 ∙ ap (λ (bs : List Batch). Ok bs) same_others }
goes_there spelling half sizes end area batch batches (Bad fault) e h = let never = sym (batches_of-bad spelling half sizes end area fault e) ∙ h in absurd cc

pub area_live : (spelling : Spelling) (half : ℕ) (sizes : List ℕ) (end : ℕ) (area : List ℕ) (batches : List Batch) → IsBytes area → 0 < length area
    → batches_of spelling half sizes end area ≡ Ok batches → IsLive spelling half area batches × AllByRecursion (IsWithin sizes) batches
area_live spelling half sizes end area [] good some e =
    let closed = ends_there spelling half sizes end area (front_of spelling half sizes end area) refl e in
    (record { rest = area; starts = record { can_stand = tt; spelt = refl }; ends = front_closed spelling half sizes end area some closed }, tt)
area_live spelling half sizes end area (batch ∷ batches) good some e =
    let first = goes_there spelling half sizes end area batch batches (front_of spelling half sizes end area) refl e in
    let taken = front_live spelling half sizes end area batch first.rest good first.front in
    let others = area_live spelling half sizes end first.rest batches taken.rest_fits taken.more first.others in (
      record { rest = others.0.rest; starts = starts_cons spelling half area batch first.rest batches others.0.rest taken.can_stand taken.spelt others.0.starts; ends = others.0.ends },
      (taken.within, others.1),
    )

-- ---- where nothing is read, the area is cut

cut_cons : (spelling : Spelling) (half : ℕ) (sizes : List ℕ) (end : ℕ) (area : List ℕ) (batch : Batch) (bytes : List ℕ) (fault : JournalFault)
    → CanStand spelling half batch → area ≡ spelt_batch spelling batch ++ bytes → IsWithin sizes batch
    → IsUnreadableArea spelling half sizes end bytes fault → IsUnreadableArea spelling half sizes end area fault
cut_cons spelling half sizes end area batch bytes fault can e within (malformed batches rest at starts withins is_open none place is) =
    malformed (batch ∷ batches) rest at (starts_cons spelling half area batch bytes batches rest can e starts) (within, withins) is_open none place is
cut_cons spelling half sizes end area batch bytes fault can e within (outside batches rest last starts withins has out is) =
    outside (batch ∷ batches) rest last (starts_cons spelling half area batch bytes batches rest can e starts) (within, withins) has out is

cut_here : (spelling : Spelling) (half : ℕ) (sizes : List ℕ) (end : ℕ) (area : List ℕ) (fault : JournalFault) → length area ≤ end
    → IsBadFront spelling half sizes end area fault → IsUnreadableArea spelling half sizes end area fault
cut_here spelling half sizes end area fault room (no_batch is_open none is) =
    malformed [] area (end - length area) (record { can_stand = tt; spelt = refl }) tt is_open none (omega arith) is
cut_here spelling half sizes end area fault room (not_there batch has out is) =
    outside [] area batch (record { can_stand = tt; spelt = refl }) tt has out is

cut_below : (spelling : Spelling) (half : ℕ) (sizes : List ℕ) (end n : ℕ) (area : List ℕ) (fault : JournalFault) (front : Front) → length area < n → IsBytes area → length area ≤ end
    → front_of spelling half sizes end area ≡ front → batches_of spelling half sizes end area ≡ Err fault → IsUnreadableArea spelling half sizes end area fault
cut_below spelling half sizes end zero area fault front small good room e h = absurd (omega arith)
cut_below spelling half sizes end (suc n) area fault Closed small good room e h = let never = sym (batches_of-closed spelling half sizes end area e) ∙ h in absurd cc
cut_below spelling half sizes end (suc n) area fault (Live batch rest) small good room e h =
    let taken = front_live spelling half sizes end area batch rest good e in
    let later = more_err (batches_of spelling half sizes end rest) batch fault (sym (batches_of-live spelling half sizes end area batch rest e) ∙ h) in
    let lt : length rest < length area = front_shorter spelling half sizes end area batch rest e in
    cut_cons spelling half sizes end area batch rest fault taken.can_stand taken.spelt taken.within
    (cut_below spelling half sizes end n rest fault (front_of spelling half sizes end rest) (omega arith) taken.rest_fits (omega arith) refl later)
cut_below spelling half sizes end (suc n) area fault (Bad other) small good room e h =
    let both = sym (batches_of-bad spelling half sizes end area other e) ∙ h in
    let same : other ≡ fault = cc in
    cut_here spelling half sizes end area fault room (front_bad spelling half sizes end area fault good (e ∙ ap (λ (f : JournalFault). Bad f) same))

pub area_cut : (spelling : Spelling) (half : ℕ) (sizes : List ℕ) (end : ℕ) (area : List ℕ) (fault : JournalFault) → IsBytes area → length area ≤ end
    → batches_of spelling half sizes end area ≡ Err fault → IsUnreadableArea spelling half sizes end area fault
area_cut spelling half sizes end area fault good room h =
    cut_below spelling half sizes end (suc (length area)) area fault (front_of spelling half sizes end area) (omega arith) good room refl h

-- ---- the other way round

nothing_before : (r : Result (List Batch) JournalFault) → r ≡ (r >>> λ more. Ok ([] ++ more))
nothing_before (Ok batches) = refl
nothing_before (Err fault) = refl

one_before : (batch : Batch) (batches : List Batch) (r : Result (List Batch) JournalFault)
    → ((r >>> λ more. Ok (batches ++ more)) >>> λ all. Ok (batch ∷ all)) ≡ (r >>> λ more. Ok ((batch ∷ batches) ++ more))
one_before batch batches (Ok more) = refl
one_before batch batches (Err fault) = refl

-- the batches in front are read, whatever follows them
reads_through : (spelling : Spelling) (half : ℕ) (sizes : List ℕ) (end : ℕ) (batches : List Batch) (rest : List ℕ) → AllByRecursion (CanStand spelling half) batches → AllByRecursion (IsWithin sizes) batches
    → 0 < length rest → batches_of spelling half sizes end (spelt_batches spelling batches ++ rest) ≡ (batches_of spelling half sizes end rest >>> λ more. Ok (batches ++ more))
reads_through spelling half sizes end [] rest can within some = nothing_before (batches_of spelling half sizes end rest)
reads_through spelling half sizes end (batch ∷ batches) rest can within some =
    let after = spelt_batches spelling batches ++ rest in
    let more : 0 < length after = omega (arith, length-append (spelt_batches spelling batches) rest) in
    ap (batches_of spelling half sizes end) (append_assoc (spelt_batch spelling batch) (spelt_batches spelling batches) rest)
    ∙ batches_of-live spelling half sizes end (spelt_batch spelling batch ++ after) batch after (live_front spelling half sizes end batch after can.0 within.0 more)
    ∙ ap (λ r. r >>> λ all. Ok (batch ∷ all)) (reads_through spelling half sizes end batches rest can.1 within.1 some)
    ∙ one_before batch batches (batches_of spelling half sizes end rest)

closed_some : (rest : List ℕ) → IsClosed rest → 0 < length rest
closed_some rest h = omega (arith, ap length h.3)

pub live_area : (spelling : Spelling) (half : ℕ) (sizes : List ℕ) (end : ℕ) (area : List ℕ) (batches : List Batch) → IsLive spelling half area batches → AllByRecursion (IsWithin sizes) batches
    → batches_of spelling half sizes end area ≡ Ok batches
live_area spelling half sizes end area batches live within =
    ap (batches_of spelling half sizes end) live.starts.spelt
    ∙ reads_through spelling half sizes end batches live.rest live.starts.can_stand within (closed_some live.rest live.ends)
    ∙ ap (λ r. r >>> λ more. Ok (batches ++ more)) (batches_of-closed spelling half sizes end live.rest (closed_front spelling half sizes end live.rest live.ends))
    ∙ ap (λ (bs : List Batch). Ok bs) (append-nil batches)

pub IsBytes-after : (front rest : List ℕ) → IsBytes (front ++ rest) → IsBytes rest
IsBytes-after front rest h i = rw (← get_or-append-add front rest i 0) (h (length front + i))

stops : (spelling : Spelling) (half : ℕ) (sizes : List ℕ) (end : ℕ) (area : List ℕ) (batches : List Batch) (rest : List ℕ) (fault : JournalFault) → StartsWith spelling half area batches rest
    → AllByRecursion (IsWithin sizes) batches → 0 < length rest → front_of spelling half sizes end rest ≡ Bad fault → batches_of spelling half sizes end area ≡ Err fault
stops spelling half sizes end area batches rest fault starts within some bad =
    ap (batches_of spelling half sizes end) starts.spelt
    ∙ reads_through spelling half sizes end batches rest starts.can_stand within some
    ∙ ap (λ r. r >>> λ more. Ok (batches ++ more)) (batches_of-bad spelling half sizes end rest fault bad)

pub cut_area : (spelling : Spelling) (half : ℕ) (sizes : List ℕ) (end : ℕ) (area : List ℕ) (fault : JournalFault) → IsBytes area → IsUnreadableArea spelling half sizes end area fault
    → batches_of spelling half sizes end area ≡ Err fault
cut_area spelling half sizes end area fault good (malformed batches rest at starts within is_open none place is) =
    let good_rest = IsBytes-after (spelt_batches spelling batches) rest (subst IsBytes starts.spelt good) in
    stops spelling half sizes end area batches rest (BadJournal at) starts within (omega (arith, ap length is_open.1)) (malformed_front spelling half sizes end rest at good_rest is_open none place)
    ∙ ap (λ (f : JournalFault). Err f) (sym is)
cut_area spelling half sizes end area fault good (outside batches rest batch starts within has out is) =
    stops spelling half sizes end area batches rest WrongLine starts within (omega (arith, ap length has.spelt)) (outside_front spelling half sizes end rest batch has out)
    ∙ ap (λ (f : JournalFault). Err f) (sym is)
