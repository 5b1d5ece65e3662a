-- A file as header, halves and the bytes after them.
use Rattle.std.proofs.Common.{◌≡◌, ◌≢◌, ◌⊎◌, inl, inr, ℕ, zero, suc, ◌+◌, ◌%◌, ◌<◌, ◌≤◌, List, [], ◌∷◌, ◌++◌, length, take, drop, refl, sym, ◌∙◌, ap, subst, arith, append_assoc, length-append}
use Rattle.std.specs.List.{AllByRecursion}
use Rattle.std.proofs.lemmas.List.{take_at, drop_at, append-nil}
use Rattle.jrn_format.specs.declared.journal.Entry.{Entry}
use Rattle.jrn_format.specs.declared.journal.Batch.{Batch}
use Rattle.jrn_format.specs.declared.journal.Spelling.TheVariants.{WithGeneration}
use Rattle.jrn_format.specs.Batch.{spelt_after, CanStand}
use Rattle.jrn_format.specs.Area.{spelt_batches, IsLive}
use Rattle.jrn_format.specs.Halves.{Halves, other, live, next_generation, Place, InOlder, InNewer, half_of, batches_in, batch_in, with_batch, left_of, retired, IsSplit, HalvesStand, HasNext, older_area, newer_area, StandsBeside}
use Rattle.jrn_format.specs.File.{joined, before, IsFile, IsLiveFile, StandInFile}
use Rattle.jrn_format.proofs.HalvesLaws.{stand-live, stand-with, stand-more, next_live}

-- ---- a part of a half

-- what follows a part of a half
abbrev pub after : ℕ → (r two last : List ℕ) → List ℕ
after zero r two last = r ++ (two ++ last)
after (suc n) r two last = r ++ last

pub split_file : (at : ℕ) (head p q r two last : List ℕ) → head ++ (joined at (p ++ (q ++ r)) two ++ last) ≡ (before at head two ++ p) ++ (q ++ after at r two last)
split_file zero head p q r two last = simp append_assoc refl
split_file (suc n) head p q r two last = simp append_assoc refl

-- bytes overwritten by as many
pub changed_bytes : (bytes front middle over back : List ℕ) → bytes ≡ front ++ (middle ++ back) → length over ≡ length middle
    → take (length front) bytes ++ over ++ drop (length front + length over) bytes ≡ front ++ (over ++ back)
changed_bytes bytes front middle over back is long =
    let fore : take (length front) bytes ≡ front = ap (take (length front)) is ∙ take_at front (middle ++ back) (length front) refl in
    let aft : drop (length front + length over) bytes ≡ back = ap (drop (length front + length over)) (is ∙ sym (append_assoc front middle back)) ∙ drop_at (front ++ middle) back (length front + length over) (omega (arith, length-append front middle, long)) in
    append_assoc (take (length front) bytes) over (drop (length front + length over) bytes) ∙ ap (λ (l : List ℕ). l ++ (over ++ drop (length front + length over) bytes)) fore ∙ ap (λ (l : List ℕ). front ++ (over ++ l)) aft

-- bytes of a half overwritten: all else stays
pub changed_file : (head : List ℕ) (at : ℕ) (p q over r two last bytes : List ℕ) → IsFile head at (p ++ (q ++ r)) two last bytes → length over ≡ length q
    → let start = length (before at head two ++ p) in IsFile head at (p ++ (over ++ r)) two last (take start bytes ++ over ++ drop (start + length over) bytes)
changed_file head at p q over r two last bytes file long = record {
  equal = let e : length (p ++ (q ++ r)) ≡ length two = file.equal in
      omega (arith, e, long, length-append p (q ++ r), length-append q r, length-append p (over ++ r), length-append over r);
  is = changed_bytes bytes (before at head two ++ p) q over (after at r two last) (file.is ∙ split_file at head p q r two last) long ∙ sym (split_file at head p over r two last);
}

-- and the file is no longer than before
pub changed_size : (head : List ℕ) (at : ℕ) (p q over r two last bytes : List ℕ) → IsFile head at (p ++ (q ++ r)) two last bytes → length over ≡ length q
    → let start = length (before at head two ++ p) in length (take start bytes ++ over ++ drop (start + length over) bytes) ≡ length bytes
changed_size head at p q over r two last bytes file long =
    let was : bytes ≡ (before at head two ++ p) ++ (q ++ after at r two last) = file.is ∙ split_file at head p q r two last in
    let is = changed_bytes bytes (before at head two ++ p) q over (after at r two last) was long in
    let f = before at head two ++ p in
    let b = after at r two last in
    omega (arith, ap length is, ap length was, long, length-append f (over ++ b), length-append over b, length-append f (q ++ b), length-append q b)

-- ---- the halves in either order

pub split_complete : (at : ℕ) (older newer : List ℕ) → length older ≡ length newer → IsSplit at (joined at older newer) older newer
split_complete zero older newer equal = record { equal = equal; last = []; odd = omega arith; entire = ap (λ (l : List ℕ). older ++ l) (sym (append-nil newer)) }
split_complete (suc n) older newer equal = record { equal = sym equal; last = []; odd = omega arith; entire = ap (λ (l : List ℕ). newer ++ l) (sym (append-nil older)) }

pub swap_joined : (at : ℕ) (one two : List ℕ) → at ≤ 1 → joined (other at) one two ≡ joined at two one
swap_joined zero one two le = refl
swap_joined (suc n) one two le = refl

-- the file as the older half's and the newer's
pub as_halves : (halves : Halves) (place : Place) (head area beside last bytes : List ℕ) → halves.at ≤ 1 → IsFile head (half_of halves place) area beside last bytes
    → IsFile head halves.at (older_area place area beside) (newer_area place area beside) last bytes
as_halves halves InOlder head area beside last bytes le file = file
as_halves halves InNewer head area beside last bytes le file = record { equal = sym file.equal; is = file.is ∙ ap (λ (l : List ℕ). head ++ (l ++ last)) (swap_joined halves.at area beside le) }

-- ---- what is live in a file

pub file-live : (halves : Halves) (head older newer last bytes : List ℕ) → IsFile head halves.at older newer last bytes → HalvesStand halves older newer → IsLiveFile head bytes (live halves)
file-live halves head older newer last bytes file stand = record {
  area = joined halves.at older newer;
  last = last;
  is = file.is;
  live = stand-live halves (joined halves.at older newer) older newer (split_complete halves.at older newer file.equal) stand;
}

pub stand_in_file-live : (halves : Halves) (head bytes : List ℕ) → StandInFile halves head bytes → IsLiveFile head bytes (live halves)
stand_in_file-live halves head bytes s = file-live halves head s.older s.newer s.last bytes s.file s.stands

-- a half with its batches, beside the other one
pub place-stands : (halves : Halves) (place : Place) (head area beside last bytes : List ℕ) → IsFile head (half_of halves place) area beside last bytes → StandsBeside halves place beside
    → IsLive WithGeneration (half_of halves place) area (batches_in halves place) → StandInFile halves head bytes
place-stands halves place head area beside last bytes file stands lives = record {
  older = older_area place area beside;
  newer = newer_area place area beside;
  last = last;
  file = as_halves halves place head area beside last bytes stands.at file;
  stands = stand-with halves place area beside stands lives;
}

same_at : (halves : Halves) (place : Place) (batch : Batch) → (with_batch halves place batch).at ≡ halves.at
same_at halves InOlder batch = refl
same_at halves InNewer batch = refl

-- and with one batch more
pub place-more : (halves : Halves) (place : Place) (entries : List Entry) (head area beside last bytes : List ℕ) → IsFile head (half_of halves place) area beside last bytes → StandsBeside halves place beside
    → IsLive WithGeneration (half_of halves place) area (batches_in halves place ++ batch_in halves place entries ∷ [])
    → StandInFile (with_batch halves place (batch_in halves place entries)) head bytes
place-more halves place entries head area beside last bytes file stands lives = record {
  older = older_area place area beside;
  newer = newer_area place area beside;
  last = last;
  file = subst (λ (n : ℕ). IsFile head n (older_area place area beside) (newer_area place area beside) last bytes) (sym (same_at halves place (batch_in halves place entries)))
      (as_halves halves place head area beside last bytes stands.at file);
  stands = stand-more halves place entries area beside stands lives;
}

-- the batch whose gate may be torn: it is live, or all is as before
pub next-stands : (halves : Halves) (place : Place) (entries : List Entry) (head area beside last bytes : List ℕ) (gate : ℕ) → IsFile head (half_of halves place) area beside last bytes → StandsBeside halves place beside
    → HasNext (half_of halves place) area (batches_in halves place) (batch_in halves place entries) gate
    → (gate ≢ 0xA5 → StandInFile halves head bytes) × (gate ≡ 0xA5 → StandInFile (with_batch halves place (batch_in halves place entries)) head bytes)
next-stands halves place entries head area beside last bytes gate file stands next =
    let lives = next_live (half_of halves place) area (batches_in halves place) (batch_in halves place entries) gate next in (
      λ closed. place-stands halves place head area beside last bytes file stands (lives.0 closed),
      λ opened. place-more halves place entries head area beside last bytes file stands (lives.1 opened),
    )

-- ---- a batch after a gate

pub same_after : (xs ys zs : List ℕ) → xs ++ ys ≡ xs ++ zs → ys ≡ zs
same_after xs ys zs is = sym (drop_at xs ys (length xs) refl) ∙ ap (drop (length xs)) is ∙ drop_at xs zs (length xs) refl

pub regate : (half : ℕ) (batches : List Batch) (batch : Batch) (gate new : ℕ) (rest : List ℕ) → HasNext half (spelt_batches WithGeneration batches ++ (gate ∷ rest)) batches batch gate → HasNext half (spelt_batches WithGeneration batches ++ (new ∷ rest)) batches batch new
regate half batches batch gate new rest next = record {
  can_stand = next.can_stand;
  can = next.can;
  closing = next.closing;
  closed = next.closed;
  after = next.after;
  is = ap (λ (l : List ℕ). spelt_batches WithGeneration batches ++ (new ∷ drop 1 l))
      (same_after (spelt_batches WithGeneration batches) (gate ∷ rest) (gate ∷ (spelt_after WithGeneration batch.generation batch.entries ++ (next.closing ∷ next.after))) next.is);
}

-- the bytes of encode_batch follow the closed gate
pub payload_written : (half : ℕ) (batches : List Batch) (batch : Batch) (gate : ℕ) (r : List ℕ) → AllByRecursion (CanStand WithGeneration half) batches → CanStand WithGeneration half batch
    → HasNext half ((spelt_batches WithGeneration batches ++ gate ∷ []) ++ ((spelt_after WithGeneration batch.generation batch.entries ++ 0 ∷ []) ++ r)) batches batch gate
payload_written half batches batch gate r can next =
    let spelt = spelt_batches WithGeneration batches in
    let body = spelt_after WithGeneration batch.generation batch.entries in
    record {
      can_stand = can;
      can = next;
      closing = 0;
      closed = λ e. absurd cc;
      after = r;
      is = append_assoc spelt (gate ∷ []) ((body ++ 0 ∷ []) ++ r) ∙ ap (λ (l : List ℕ). spelt ++ (gate ∷ l)) (append_assoc body (0 ∷ []) r);
    }

-- ---- the older half is retired

pub closed_area : (half gate : ℕ) (rest : List ℕ) → gate ≢ 0xA5 → IsLive WithGeneration half (gate ∷ rest) []
closed_area half gate rest closed = record { rest = gate ∷ rest; starts = record { can_stand = tt; spelt = refl }; ends = (gate, rest, closed, refl) }

pub at_half : (n : ℕ) → n ≤ 1 → (n ≡ 0) ⊎ (n ≡ 1)
at_half zero le = inl refl
at_half (suc n) le = inr (omega arith)

pub empty_again : (m n : ℕ) (area : List ℕ) → IsLive WithGeneration m area [] → IsLive WithGeneration n area []
empty_again m n area lives = record { rest = lives.rest; starts = record { can_stand = tt; spelt = lives.starts.spelt }; ends = lives.ends }

pub at_other : (n : ℕ) → other n ≤ 1
at_other zero = omega arith
at_other (suc n) = omega arith

pub small : (n : ℕ) → (n + 1) % 256 < 256
small n = omega arith

-- once its first gate is closed the newer half is the older one, or nothing is live and the next batch starts over
pub retired-stands : (halves : Halves) (head rest newer last bytes : List ℕ) (gate : ℕ) → IsFile head halves.at (gate ∷ rest) newer last bytes → gate ≢ 0xA5 → HalvesStand halves (0xA5 ∷ rest) newer
    → StandInFile (retired halves) head bytes
retired-stands halves head rest newer last bytes gate file closed stand = by_newer halves.newer refl
  where
    by_newer : (batches : List Batch) → halves.newer ≡ batches → StandInFile (left_of halves batches) head bytes
    by_newer [] none =
        let was : IsLive WithGeneration (other halves.at) newer [] = subst (λ (l : List Batch). IsLive WithGeneration (other halves.at) newer l) none stand.newer_live in
        elim (at_half halves.at stand.at) [
          | inl first ↦ record {
            older = gate ∷ rest;
            newer = newer;
            last = last;
            file = subst (λ (n : ℕ). IsFile head n (gate ∷ rest) newer last bytes) first file;
            stands = record { at = omega arith; generation = omega arith; older_live = closed_area 0 gate rest closed; newer_live = empty_again (other halves.at) 1 newer was; older_of = tt; newer_of = tt };
          }
          | inr second ↦
              let there : IsFile head 1 (gate ∷ rest) newer last bytes = subst (λ (n : ℕ). IsFile head n (gate ∷ rest) newer last bytes) second file in
              record {
                older = newer;
                newer = gate ∷ rest;
                last = last;
                file = record { equal = sym there.equal; is = there.is };
                stands = record { at = omega arith; generation = omega arith; older_live = empty_again (other halves.at) 0 newer was; newer_live = closed_area 1 gate rest closed; older_of = tt; newer_of = tt };
              }
        ]
    by_newer (b ∷ batches) is = record {
      older = newer;
      newer = gate ∷ rest;
      last = last;
      file = record { equal = sym file.equal; is = file.is ∙ ap (λ (l : List ℕ). head ++ (l ++ last)) (sym (swap_joined halves.at newer (gate ∷ rest) stand.at)) };
      stands = record {
        at = at_other halves.at;
        generation = small halves.generation;
        older_live = subst (λ (l : List Batch). IsLive WithGeneration (other halves.at) newer l) is stand.newer_live;
        newer_live = closed_area (other (other halves.at)) gate rest closed;
        older_of = subst (AllByRecursion (λ (x : Batch). x.generation ≡ next_generation halves)) is stand.newer_of;
        newer_of = tt;
      };
    }
