-- Batches go live and are retired, in halves.
use Rattle.std.proofs.Common.{◌≡◌, ◌≢◌, inl, inr, ℕ, zero, suc, ◌+◌, ◌≤◌, Bool, true, false, List, [], ◌∷◌, ◌++◌, refl, sym, ◌∙◌, ap, subst, arith, append_assoc, Some, None}
use Rattle.std.specs.Prelude.{if◌then◌else◌, IsSome}
use Rattle.std.proofs.lemmas.List.{append-nil}
use Rattle.std.proofs.lemmas.Bool.Decides.{nat_tests}
use Rattle.std.proofs.lemmas.List.Concat.{flat_map-append}
use Rattle.jrn_format.specs.declared.journal.Entry.{Entry}
use Rattle.jrn_format.specs.declared.journal.Batch.{Batch}
use Rattle.jrn_format.specs.declared.journal.Spelling.TheVariants.{WithGeneration}
use Rattle.jrn_format.specs.Batch.{spelt_after, spelt_batch, CanStand}
use Rattle.jrn_format.specs.Area.{spelt_batches, IsLive}
use Rattle.jrn_format.specs.Journal.{AreLive}
use Rattle.jrn_format.proofs.HalvesGrammar.{All-join}
use Rattle.jrn_format.specs.Halves.{Halves, other, live, Place, InOlder, InNewer, next_generation, half_of, batches_in, batch_in, with_batch, IsSplit, HalvesStand, HasNext, StandsBeside, older_area, newer_area, retired, left_of, fits, place_in, place_of, size, entries_size}

-- ---- what is live

-- the halves are the journal's live batches
pub stand-live : (halves : Halves) (area older newer : List ℕ) → IsSplit halves.at area older newer → HalvesStand halves older newer → AreLive area (live halves)
stand-live halves area older newer split stand = by_half halves.at refl
  where
    by_half : (at : ℕ) → halves.at ≡ at → AreLive area (live halves)
    by_half zero is = record {
      first = older;
      second = newer;
      halves = subst (λ (n : ℕ). IsSplit n area older newer) is split;
      firsts = halves.older;
      seconds = halves.newer;
      first_live = subst (λ (n : ℕ). IsLive WithGeneration n older halves.older) is stand.older_live;
      second_live = subst (λ (n : ℕ). IsLive WithGeneration (other n) newer halves.newer) is stand.newer_live;
      in_order = inl ((halves.generation, stand.older_of, stand.newer_of), refl);
    }
    by_half (suc n) is = record {
      first = newer;
      second = older;
      halves = subst (λ (n : ℕ). IsSplit n area older newer) is split;
      firsts = halves.newer;
      seconds = halves.older;
      first_live = subst (λ (n : ℕ). IsLive WithGeneration (other n) newer halves.newer) is stand.newer_live;
      second_live = subst (λ (m : ℕ). IsLive WithGeneration m older halves.older) (is ∙ omega (arith, stand.at)) stand.older_live;
      in_order = inr ((halves.generation, stand.older_of, stand.newer_of), refl);
    }

-- ---- one batch more

-- whatever a torn gate holds, the area is live with the batch or without it
pub next_live : (half : ℕ) (area : List ℕ) (batches : List Batch) (batch : Batch) (gate : ℕ) → HasNext half area batches batch gate
    → (gate ≢ 0xA5 → IsLive WithGeneration half area batches) × (gate ≡ 0xA5 → IsLive WithGeneration half area (batches ++ batch ∷ []))
next_live half area batches batch gate next =
    let spelt = spelt_batches WithGeneration in
    let body = spelt_after WithGeneration batch.generation batch.entries in
    let all : spelt (batches ++ batch ∷ []) ≡ spelt batches ++ spelt_batch WithGeneration batch =
    flat_map-append (spelt_batch WithGeneration) batches (batch ∷ []) ∙ ap (λ (t : List ℕ). spelt batches ++ t) (append-nil (spelt_batch WithGeneration batch)) in
    let tail : List ℕ = next.closing ∷ next.after in
    let entire : area ≡ spelt batches ++ (gate ∷ (body ++ tail)) = next.is in (
      λ closed. record { rest = gate ∷ (body ++ tail); starts = record { can_stand = next.can_stand; spelt = entire }; ends = (gate, body ++ tail, closed, refl) },
      λ opened. record {
        rest = tail;
        starts = record {
          can_stand = All-join (CanStand WithGeneration half) batches (batch ∷ []) next.can_stand (next.can, tt);
          spelt =
              let one : area ≡ spelt batches ++ (spelt_batch WithGeneration batch ++ tail) = entire ∙ ap (λ (g : ℕ). spelt batches ++ (g ∷ (body ++ tail))) opened in
              one ∙ sym (append_assoc (spelt batches) (spelt_batch WithGeneration batch) tail) ∙ ap (λ (t : List ℕ). t ++ tail) (sym all);
        };
        ends = (next.closing, next.after, next.closed, refl);
      },
    )

-- the live list has a batch that becomes live last
pub with_batch-live : (halves : Halves) (place : Place) (batch : Batch) → (place ≡ InOlder → halves.newer ≡ []) → live (with_batch halves place batch) ≡ live halves ++ batch ∷ []
with_batch-live halves InOlder batch none =
    ap (λ (n : List Batch). (halves.older ++ batch ∷ []) ++ n) (none refl) ∙ append-nil (halves.older ++ batch ∷ [])
    ∙ ap (λ (o : List Batch). o ++ batch ∷ []) (sym (append-nil halves.older) ∙ ap (λ (n : List Batch). halves.older ++ n) (sym (none refl)))
with_batch-live halves InNewer batch none = sym (append_assoc halves.older halves.newer (batch ∷ []))

pub other_twice : (n : ℕ) → n ≤ 1 → other (other n) ≡ n
other_twice zero le = refl
other_twice (suc n) le = omega arith

-- the half of a place with its batches, beside the other one
pub stand-with : (halves : Halves) (place : Place) (area beside : List ℕ) → StandsBeside halves place beside → IsLive WithGeneration (half_of halves place) area (batches_in halves place)
    → HalvesStand halves (older_area place area beside) (newer_area place area beside)
stand-with halves InOlder area beside stands lives = record { at = stands.at; generation = stands.generation; older_live = lives; newer_live = stands.beside_live; older_of = stands.older_of; newer_of = stands.newer_of }
stand-with halves InNewer area beside stands lives = record {
  at = stands.at;
  generation = stands.generation;
  older_live = subst (λ (n : ℕ). IsLive WithGeneration n beside halves.older) (other_twice halves.at stands.at) stands.beside_live;
  newer_live = lives;
  older_of = stands.older_of;
  newer_of = stands.newer_of;
}

-- and with one more
pub stand-more : (halves : Halves) (place : Place) (entries : List Entry) (area beside : List ℕ) → StandsBeside halves place beside
    → IsLive WithGeneration (half_of halves place) area (batches_in halves place ++ batch_in halves place entries ∷ [])
    → HalvesStand (with_batch halves place (batch_in halves place entries)) (older_area place area beside) (newer_area place area beside)
stand-more halves InOlder entries area beside stands lives = record {
  at = stands.at;
  generation = stands.generation;
  older_live = lives;
  newer_live = stands.beside_live;
  older_of = All-join (λ (b : Batch). b.generation ≡ halves.generation) halves.older (batch_in halves InOlder entries ∷ []) stands.older_of (refl, tt);
  newer_of = stands.newer_of;
}
stand-more halves InNewer entries area beside stands lives = record {
  at = stands.at;
  generation = stands.generation;
  older_live = subst (λ (n : ℕ). IsLive WithGeneration n beside halves.older) (other_twice halves.at stands.at) stands.beside_live;
  newer_live = lives;
  older_of = stands.older_of;
  newer_of = All-join (λ (b : Batch). b.generation ≡ next_generation halves) halves.newer (batch_in halves InNewer entries ∷ []) stands.newer_of (refl, tt);
}

-- the batch after its gate becomes live
pub goes-live : (halves : Halves) (place : Place) (entries : List Entry) (area beside : List ℕ) → StandsBeside halves place beside
    → HasNext (half_of halves place) area (batches_in halves place) (batch_in halves place entries) 0xA5
    → HalvesStand (with_batch halves place (batch_in halves place entries)) (older_area place area beside) (newer_area place area beside)
goes-live halves place entries area beside stands next =
    stand-more halves place entries area beside stands ((next_live (half_of halves place) area (batches_in halves place) (batch_in halves place entries) 0xA5 next).1 refl)

-- ---- the older half is retired

-- closing the first gate of the older half takes all of it away, and nothing of the newer
pub retired-live : (halves : Halves) (area older newer rest : List ℕ) (gate : ℕ) → older ≡ gate ∷ rest → gate ≢ 0xA5 → IsSplit halves.at area older newer → HalvesStand halves older newer → AreLive area halves.newer
retired-live halves area older newer rest gate is closed split stand =
    let without : Halves = record halves { older = [] } in
    let stands : HalvesStand without older newer = record {
      at = stand.at;
      generation = stand.generation;
      older_live = record { rest = older; starts = record { can_stand = tt; spelt = refl }; ends = (gate, rest, closed, is) };
      newer_live = stand.newer_live;
      older_of = tt;
      newer_of = stand.newer_of;
    } in
    stand-live without area older newer split stands

-- ---- a queue that fits still fits after a retire

fits_alone : (room : ℕ) (batches : List Batch) (entries : List Entry) → fits room batches entries ≡ true → fits room [] entries ≡ true
fits_alone room batches entries enough = let t : size batches + entries_size entries + 1 ≤ room = grind (arith, nat_tests) in grind (arith, nat_tests)

either : (c d : Bool) → (c ≡ true → d ≡ true) → IsSome (if c then Some InOlder else if d then Some InNewer else None) → IsSome (if d then Some InOlder else if d then Some InNewer else None)
either true d more some = rw (more refl) refl
either false true more some = refl
either false false more some = some

alone : (c d : Bool) → IsSome (if c then Some InNewer else None) → IsSome (if c then Some InOlder else if d then Some InNewer else None)
alone true d some = refl
alone false true some = refl
alone false false some = some

left-room : (room : ℕ) (halves : Halves) (newer : List Batch) (entries : List Entry) → IsSome (place_in room halves.older newer entries) → IsSome (place_of room (left_of halves newer) entries)
left-room room halves [] entries some = either (fits room halves.older entries) (fits room [] entries) (fits_alone room halves.older entries) some
left-room room halves (batch ∷ newer) entries some = alone (fits room (batch ∷ newer) entries) (fits room [] entries) some

pub place-retired : (room : ℕ) (halves : Halves) (entries : List Entry) → IsSome (place_of room halves entries) → IsSome (place_of room (retired halves) entries)
place-retired room halves entries some = left-room room halves halves.newer entries some
