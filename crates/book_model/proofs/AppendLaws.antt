-- Each step of an append and of a retire leads from one state of the disk to the next.
use Rattle.std.proofs.Common.{◌≡◌, ◌≢◌, ◌⊎◌, inl, inr, ℕ, zero, suc, ◌+◌, ◌*◌, ◌%◌, ◌<◌, ◌≤◌, List, [], ◌∷◌, ◌++◌, length, take, drop, refl, sym, ◌∙◌, ap, subst, arith, append_assoc, length-append, take-append-drop}
use Rattle.std.specs.List.{AllByRecursion}
use Rattle.std.proofs.lemmas.List.{length-take-le}
use Rattle.jrn_format.specs.declared.journal.Entry.{Entry}
use Rattle.jrn_format.specs.declared.journal.Batch.{Batch}
use Rattle.jrn_format.specs.declared.journal.Spelling.TheVariants.{WithGeneration}
use Rattle.jrn_format.specs.Batch.{spelt_after, CanStand}
use Rattle.jrn_format.specs.Area.{spelt_batches, IsLive}
use Rattle.jrn_format.specs.Halves.{Halves, other, Place, InOlder, InNewer, half_of, batches_in, batch_in, with_batch, next_generation, left_of, retired, HalvesStand, HasNext, StandsBeside}
use Rattle.jrn_format.proofs.HalvesLaws.{other_twice, stand-more, next_live}
use Rattle.jrn_format.proofs.FileLaws.{swap_joined, as_halves, regate, payload_written, at_other, closed_area, at_half, empty_again, small}
use Rattle.site_core.specs.Disk.{Disk, WriteFailed, overlaid, write_begun, written, synced}
use Rattle.book_model.specs.Frame.{JournalFrame, head, room, IsFramed, gate_at, IsOne}
use Rattle.book_model.specs.Phases.{AtRest, HasPayload, HasBatch, HasGate, HasClosing}
use Rattle.book_model.proofs.StopLaws.{torn_file, written_file, written_size, failed-agrees, framed_size}

pub half_small : (halves : Halves) (place : Place) → halves.at ≤ 1 → half_of halves place ≤ 1
half_small halves InOlder le = le
half_small halves InNewer le = at_other halves.at

-- a write begins where nothing is unsynced
pub one-range : (disk : Disk) (start count n : ℕ) → disk.unsynced ≡ [] → n ≡ count → IsOne (write_begun disk start count) start n
one-range disk start count n none same = rw (none, same) refl

-- ---- an append

-- the file as the half of a place and the other one
pub record PlaceIs (frame : JournalFrame) (halves : Halves) (place : Place) (bytes : List ℕ) : Type 0 where
  pub gate : ℕ
  pub closed : gate ≢ 0xA5
  pub after : List ℕ
  pub beside : List ℕ
  pub can : AllByRecursion (CanStand WithGeneration (half_of halves place)) (batches_in halves place)
  pub framed : IsFramed frame (half_of halves place) (spelt_batches WithGeneration (batches_in halves place) ++ (gate ∷ after)) beside bytes
  pub stands : StandsBeside halves place beside

of_live : (frame : JournalFrame) (half at : ℕ) (area beside bytes : List ℕ) (batches : List Batch) (lives : IsLive WithGeneration half area batches) → IsFramed frame at area beside bytes
    → IsFramed frame at (spelt_batches WithGeneration batches ++ (lives.ends.0 ∷ lives.ends.1)) beside bytes
of_live frame half at area beside bytes batches lives framed =
    subst (λ (a : List ℕ). IsFramed frame at a beside bytes) (lives.starts.spelt ∙ ap (λ (t : List ℕ). spelt_batches WithGeneration batches ++ t) lives.ends.3) framed

pub place_is : (frame : JournalFrame) (halves : Halves) (place : Place) (disk : Disk) → (place ≡ InOlder → halves.newer ≡ []) → AtRest frame halves disk → PlaceIs frame halves place disk.bytes
place_is frame halves InOlder disk none r =
    let lives = r.stands.older_live in
    record {
      gate = lives.ends.0;
      closed = lives.ends.2;
      after = lives.ends.1;
      beside = r.newer;
      can = lives.starts.can_stand;
      framed = of_live frame halves.at halves.at r.older r.newer disk.bytes halves.older lives r.framed;
      stands = record { at = r.stands.at; generation = r.stands.generation; beside_live = r.stands.newer_live; older_of = r.stands.older_of; newer_of = r.stands.newer_of; in_older = none };
    }
place_is frame halves InNewer disk none r =
    let lives = r.stands.newer_live in
    let framed : IsFramed frame (other halves.at) r.newer r.older disk.bytes = record {
      file = record {
        equal = sym r.framed.file.equal;
        is = r.framed.file.is ∙ ap (λ (l : List ℕ). head frame ++ (l ++ frame.last)) (sym (swap_joined halves.at r.newer r.older r.stands.at));
      };
      room = sym r.framed.file.equal ∙ r.framed.room;
    } in
    record {
      gate = lives.ends.0;
      closed = lives.ends.2;
      after = lives.ends.1;
      beside = r.older;
      can = lives.starts.can_stand;
      framed = of_live frame (other halves.at) (other halves.at) r.newer r.older disk.bytes halves.newer lives framed;
      stands = record {
        at = r.stands.at;
        generation = r.stands.generation;
        beside_live = subst (λ (n : ℕ). IsLive WithGeneration n r.older halves.older) (sym (other_twice halves.at r.stands.at)) r.stands.older_live;
        older_of = r.stands.older_of;
        newer_of = r.stands.newer_of;
        in_older = none;
      };
    }

-- 1. a payload is begun where there is room for it
pub payload-begun : (frame : JournalFrame) (halves : Halves) (place : Place) (count : ℕ) (disk : Disk) → (place ≡ InOlder → halves.newer ≡ []) → AtRest frame halves disk
    → length (spelt_batches WithGeneration (batches_in halves place)) + 1 + count ≤ room frame
    → (payload : List ℕ) × (length payload ≡ count) × HasPayload frame halves place payload (write_begun disk (gate_at frame halves place + 1) count)
payload-begun frame halves place count disk none r enough =
    let p = place_is frame halves place disk none r in
    let spelt = spelt_batches WithGeneration (batches_in halves place) in
    let size = p.framed.room in
    let fits : count ≤ length p.after = omega (arith, size, enough, length-append spelt (p.gate ∷ p.after)) in
    let long : length (take count p.after) ≡ count = length-take-le count p.after fits in
    let split : spelt ++ (p.gate ∷ p.after) ≡ (spelt ++ p.gate ∷ []) ++ (take count p.after ++ drop count p.after) =
    ap (λ (l : List ℕ). spelt ++ (p.gate ∷ l)) (sym (take-append-drop count p.after)) ∙ sym (append_assoc spelt (p.gate ∷ []) (take count p.after ++ drop count p.after)) in (
      take count p.after,
      long,
      record {
        gate = p.gate;
        closed = p.closed;
        can = p.can;
        rest = drop count p.after;
        beside = p.beside;
        framed = subst (λ (a : List ℕ). IsFramed frame (half_of halves place) a p.beside disk.bytes) split p.framed;
        one = one-range disk (gate_at frame halves place + 1) count (length (take count p.after)) r.synced long;
        entire = r.entire;
        stands = p.stands;
      },
    )

gate_end : (frame : JournalFrame) (halves : Halves) (place : Place) (gate : ℕ)
    → gate_at frame halves place + 1 ≡ 8 + half_of halves place * room frame + length (spelt_batches WithGeneration (batches_in halves place) ++ gate ∷ [])
gate_end frame halves place gate = omega (arith, length-append (spelt_batches WithGeneration (batches_in halves place)) (gate ∷ []))

-- 2. and written
pub payload-done : (frame : JournalFrame) (halves : Halves) (place : Place) (payload over : List ℕ) (disk : Disk) → HasPayload frame halves place payload disk → length over ≡ length payload
    → HasPayload frame halves place over (written disk (gate_at frame halves place + 1) over)
payload-done frame halves place payload over disk p long =
    let half = half_of halves place in
    let spelt = spelt_batches WithGeneration (batches_in halves place) ++ p.gate ∷ [] in
    let start = gate_end frame halves place p.gate in
    let small = half_small halves place p.stands.at in
    let file = written_file frame half spelt payload over p.rest p.beside disk.bytes small p.framed long in
    record {
      gate = p.gate;
      closed = p.closed;
      can = p.can;
      rest = p.rest;
      beside = p.beside;
      framed = subst (λ (n : ℕ). IsFramed frame half (spelt ++ (over ++ p.rest)) p.beside (overlaid disk.bytes n over)) (sym start) file;
      one = rw long p.one;
      entire =
          let same = ap (λ (n : ℕ). length (overlaid disk.bytes n over)) start ∙ written_size frame half spelt payload over p.rest p.beside disk.bytes small p.framed long in
          omega (arith, same, p.entire);
      stands = p.stands;
    }

-- or failed: its range holds anything
pub payload-failed : (frame : JournalFrame) (halves : Halves) (place : Place) (payload : List ℕ) (disk new : Disk) → HasPayload frame halves place payload disk → WriteFailed disk (gate_at frame halves place + 1) (length payload) new
    → (other_bytes : List ℕ) × (length other_bytes ≡ length payload) × HasPayload frame halves place other_bytes new
payload-failed frame halves place payload disk new p failed =
    let half = half_of halves place in
    let spelt = spelt_batches WithGeneration (batches_in halves place) ++ p.gate ∷ [] in
    let small = half_small halves place p.stands.at in
    let agrees = failed-agrees disk new (gate_at frame halves place + 1) (length payload) failed in
    let t = torn_file frame half spelt payload p.rest p.beside disk.bytes new.bytes small p.framed (rw (gate_end frame halves place p.gate) at agrees) in
    let same = framed_size frame half (spelt ++ (payload ++ p.rest)) p.beside disk.bytes (spelt ++ (t.middle ++ p.rest)) new.bytes small p.framed t.framed in (
      t.middle,
      t.long,
      record {
        gate = p.gate;
        closed = p.closed;
        can = p.can;
        rest = p.rest;
        beside = p.beside;
        framed = t.framed;
        one = failed.unsynced ∙ p.one ∙ rw t.long refl;
        entire = omega (arith, same, p.entire, failed.synced_length);
        stands = p.stands;
      },
    )

-- 3. a payload that was written is synced
pub payload-synced : (frame : JournalFrame) (halves : Halves) (place : Place) (entries : List Entry) (disk : Disk) → CanStand WithGeneration (half_of halves place) (batch_in halves place entries)
    → HasPayload frame halves place (spelt_after WithGeneration (batch_in halves place entries).generation (batch_in halves place entries).entries ++ 0 ∷ []) disk
    → HasBatch frame halves place entries (synced disk)
payload-synced frame halves place entries disk next p =
    let half = half_of halves place in
    let spelt = spelt_batches WithGeneration (batches_in halves place) in
    let batch = batch_in halves place entries in
    let over = spelt_after WithGeneration batch.generation batch.entries ++ 0 ∷ [] in
    let is : (spelt ++ p.gate ∷ []) ++ (over ++ p.rest) ≡ spelt ++ (p.gate ∷ (over ++ p.rest)) = append_assoc spelt (p.gate ∷ []) (over ++ p.rest) in
    record {
      gate = p.gate;
      closed = p.closed;
      rest = over ++ p.rest;
      beside = p.beside;
      next = subst (λ (a : List ℕ). HasNext half a (batches_in halves place) batch p.gate) is (payload_written half (batches_in halves place) batch p.gate p.rest p.can next);
      framed = subst (λ (a : List ℕ). IsFramed frame half a p.beside disk.bytes) is p.framed;
      synced = refl;
      entire = omega arith;
      stands = p.stands;
    }

-- 4. its gate is begun
pub gate-begun : (frame : JournalFrame) (halves : Halves) (place : Place) (entries : List Entry) (disk : Disk) → HasBatch frame halves place entries disk
    → (gate : ℕ) × HasGate frame halves place entries gate (write_begun disk (gate_at frame halves place) 1)
gate-begun frame halves place entries disk n =
    (n.gate, record { rest = n.rest; beside = n.beside; next = n.next; framed = n.framed; one = one-range disk (gate_at frame halves place) 1 1 n.synced refl; entire = n.entire; stands = n.stands })

-- 5. and written
pub gate-done : (frame : JournalFrame) (halves : Halves) (place : Place) (entries : List Entry) (gate over : ℕ) (disk : Disk) → HasGate frame halves place entries gate disk
    → HasGate frame halves place entries over (written disk (gate_at frame halves place) (over ∷ []))
gate-done frame halves place entries gate over disk g =
    let half = half_of halves place in
    let spelt = spelt_batches WithGeneration (batches_in halves place) in
    let small = half_small halves place g.stands.at in
    record {
      rest = g.rest;
      beside = g.beside;
      next = regate half (batches_in halves place) (batch_in halves place entries) gate over g.rest g.next;
      framed = written_file frame half spelt (gate ∷ []) (over ∷ []) g.rest g.beside disk.bytes small g.framed refl;
      one = g.one;
      entire = let same = written_size frame half spelt (gate ∷ []) (over ∷ []) g.rest g.beside disk.bytes small g.framed refl in omega (arith, same, g.entire);
      stands = g.stands;
    }

pub single : (middle : List ℕ) → length middle ≡ 1 → (gate : ℕ) × (middle ≡ gate ∷ [])
single [] long = absurd (omega arith)
single (g ∷ []) long = (g, refl)
single (g ∷ h ∷ middle) long = absurd (omega arith)

-- or failed: it holds anything
pub gate-failed : (frame : JournalFrame) (halves : Halves) (place : Place) (entries : List Entry) (gate : ℕ) (disk new : Disk) → HasGate frame halves place entries gate disk → WriteFailed disk (gate_at frame halves place) 1 new
    → (torn : ℕ) × HasGate frame halves place entries torn new
gate-failed frame halves place entries gate disk new g failed =
    let half = half_of halves place in
    let spelt = spelt_batches WithGeneration (batches_in halves place) in
    let small = half_small halves place g.stands.at in
    let t = torn_file frame half spelt (gate ∷ []) g.rest g.beside disk.bytes new.bytes small g.framed (failed-agrees disk new (gate_at frame halves place) 1 failed) in
    let s = single t.middle t.long in
    let framed : IsFramed frame half (spelt ++ (s.0 ∷ g.rest)) g.beside new.bytes = subst (λ (m : List ℕ). IsFramed frame half (spelt ++ (m ++ g.rest)) g.beside new.bytes) s.1 t.framed in
    let same = framed_size frame half (spelt ++ (gate ∷ g.rest)) g.beside disk.bytes (spelt ++ (s.0 ∷ g.rest)) new.bytes small g.framed framed in (
      s.0,
      record {
        rest = g.rest;
        beside = g.beside;
        next = regate half (batches_in halves place) (batch_in halves place entries) gate s.0 g.rest g.next;
        framed = framed;
        one = failed.unsynced ∙ g.one;
        entire = omega (arith, same, g.entire, failed.synced_length);
        stands = g.stands;
      },
    )

-- 6. an open gate is synced: the batch is live
pub gate-synced : (frame : JournalFrame) (halves : Halves) (place : Place) (entries : List Entry) (disk : Disk) → HasGate frame halves place entries 0xA5 disk
    → AtRest frame (with_batch halves place (batch_in halves place entries)) (synced disk)
gate-synced frame halves InOlder entries disk g =
    let area = spelt_batches WithGeneration halves.older ++ (0xA5 ∷ g.rest) in
    let lives = (next_live halves.at area halves.older (batch_in halves InOlder entries) 0xA5 g.next).1 refl in
    record { older = area; newer = g.beside; framed = g.framed; stands = stand-more halves InOlder entries area g.beside g.stands lives; synced = refl; entire = omega arith }
gate-synced frame halves InNewer entries disk g =
    let area = spelt_batches WithGeneration halves.newer ++ (0xA5 ∷ g.rest) in
    let lives = (next_live (other halves.at) area halves.newer (batch_in halves InNewer entries) 0xA5 g.next).1 refl in
    record {
      older = g.beside;
      newer = area;
      framed = record { file = as_halves halves InNewer (head frame) area g.beside frame.last disk.bytes g.stands.at g.framed.file; room = sym g.framed.file.equal ∙ g.framed.room };
      stands = stand-more halves InNewer entries area g.beside g.stands lives;
      synced = refl;
      entire = omega arith;
    }

-- ---- a retire

-- 1. the first gate of the older half is begun
opened_area : (half : ℕ) (area : List ℕ) (batches : List Batch) → batches ≢ [] → IsLive WithGeneration half area batches → (rest : List ℕ) × (area ≡ 0xA5 ∷ rest)
opened_area half area [] some lives = absurd (some refl)
opened_area half area (b ∷ batches) some lives = ((spelt_after WithGeneration b.generation b.entries ++ spelt_batches WithGeneration batches) ++ lives.rest, lives.starts.spelt)

pub close-begun : (frame : JournalFrame) (halves : Halves) (disk : Disk) → AtRest frame halves disk → halves.older ≢ [] → HasClosing frame halves 0xA5 (write_begun disk (8 + halves.at * room frame) 1)
close-begun frame halves disk r some =
    let o = opened_area halves.at r.older halves.older some r.stands.older_live in
    record {
      rest = o.0;
      newer = r.newer;
      framed = subst (λ (a : List ℕ). IsFramed frame halves.at a r.newer disk.bytes) o.1 r.framed;
      one = one-range disk (8 + halves.at * room frame) 1 1 r.synced refl;
      entire = r.entire;
      stands = subst (λ (a : List ℕ). HalvesStand halves a r.newer) o.1 r.stands;
    }

first_byte : (frame : JournalFrame) (at : ℕ) → 8 + at * room frame ≡ 8 + at * room frame + length {A = ℕ} []
first_byte frame at = omega arith

-- 2. and written
pub close-done : (frame : JournalFrame) (halves : Halves) (gate over : ℕ) (disk : Disk) → HasClosing frame halves gate disk → HasClosing frame halves over (written disk (8 + halves.at * room frame) (over ∷ []))
close-done frame halves gate over disk c =
    let start = first_byte frame halves.at in
    record {
      rest = c.rest;
      newer = c.newer;
      framed = subst (λ (n : ℕ). IsFramed frame halves.at (over ∷ c.rest) c.newer (overlaid disk.bytes n (over ∷ []))) (sym start)
          (written_file frame halves.at [] (gate ∷ []) (over ∷ []) c.rest c.newer disk.bytes c.stands.at c.framed refl);
      one = c.one;
      entire =
          let same = ap (λ (n : ℕ). length (overlaid disk.bytes n (over ∷ []))) start ∙ written_size frame halves.at [] (gate ∷ []) (over ∷ []) c.rest c.newer disk.bytes c.stands.at c.framed refl in
          omega (arith, same, c.entire);
      stands = c.stands;
    }

-- or failed
pub close-failed : (frame : JournalFrame) (halves : Halves) (gate : ℕ) (disk new : Disk) → HasClosing frame halves gate disk → WriteFailed disk (8 + halves.at * room frame) 1 new
    → (torn : ℕ) × HasClosing frame halves torn new
close-failed frame halves gate disk new c failed =
    let agrees = failed-agrees disk new (8 + halves.at * room frame) 1 failed in
    let t = torn_file frame halves.at [] (gate ∷ []) c.rest c.newer disk.bytes new.bytes c.stands.at c.framed (rw (first_byte frame halves.at) at agrees) in
    let s = single t.middle t.long in
    let framed : IsFramed frame halves.at (s.0 ∷ c.rest) c.newer new.bytes = subst (λ (m : List ℕ). IsFramed frame halves.at (m ++ c.rest) c.newer new.bytes) s.1 t.framed in
    let same = framed_size frame halves.at (gate ∷ c.rest) c.newer disk.bytes (s.0 ∷ c.rest) new.bytes c.stands.at c.framed framed in
    (s.0, record { rest = c.rest; newer = c.newer; framed = framed; one = failed.unsynced ∙ c.one; entire = omega (arith, same, c.entire, failed.synced_length); stands = c.stands })

pub close-synced : (frame : JournalFrame) (halves : Halves) (gate : ℕ) (disk : Disk) → HasClosing frame halves gate disk → gate ≢ 0xA5 → AtRest frame (retired halves) (synced disk)
close-synced frame halves gate disk c closed = by_newer halves.newer refl
  where
    by_newer : (newer : List Batch) → halves.newer ≡ newer → AtRest frame (left_of halves newer) (synced disk)
    by_newer [] none =
        let was : IsLive WithGeneration (other halves.at) c.newer [] = subst (λ (l : List Batch). IsLive WithGeneration (other halves.at) c.newer l) none c.stands.newer_live in
        elim (at_half halves.at c.stands.at) [
          | inl first ↦ record {
            older = gate ∷ c.rest;
            newer = c.newer;
            synced = refl;
            entire = omega arith;
            framed = subst (λ (n : ℕ). IsFramed frame n (gate ∷ c.rest) c.newer disk.bytes) first c.framed;
            stands = record { at = omega arith; generation = omega arith; older_live = closed_area 0 gate c.rest closed; newer_live = empty_again (other halves.at) 1 c.newer was; older_of = tt; newer_of = tt };
          }
          | inr second ↦
              let framed : IsFramed frame 1 (gate ∷ c.rest) c.newer disk.bytes = subst (λ (n : ℕ). IsFramed frame n (gate ∷ c.rest) c.newer disk.bytes) second c.framed in
              record {
                older = c.newer;
                newer = gate ∷ c.rest;
                synced = refl;
                entire = omega arith;
                framed = record { file = record { equal = sym framed.file.equal; is = framed.file.is }; room = sym framed.file.equal ∙ framed.room };
                stands = record { at = omega arith; generation = omega arith; older_live = empty_again (other halves.at) 0 c.newer was; newer_live = closed_area 1 gate c.rest closed; older_of = tt; newer_of = tt };
              }
        ]
    by_newer (b ∷ newer) is = record {
      older = c.newer;
      newer = gate ∷ c.rest;
      synced = refl;
      entire = omega arith;
      framed = record {
        file = record { equal = sym c.framed.file.equal; is = c.framed.file.is ∙ ap (λ (l : List ℕ). head frame ++ (l ++ frame.last)) (sym (swap_joined halves.at c.newer (gate ∷ c.rest) c.stands.at)) };
        room = sym c.framed.file.equal ∙ c.framed.room;
      };
      stands = record {
        at = at_other halves.at;
        generation = small halves.generation;
        older_live = subst (λ (l : List Batch). IsLive WithGeneration (other halves.at) c.newer l) is c.stands.newer_live;
        newer_live = closed_area (other (other halves.at)) gate c.rest closed;
        older_of = subst (AllByRecursion (λ (x : Batch). x.generation ≡ next_generation halves)) is c.stands.newer_of;
        newer_of = tt;
      };
    }
