-- The bytes of a frame with one datagram answered.
use Rattle.std.proofs.Common.{◌≡◌, ℕ, zero, suc, ◌+◌, ◌^◌, ◌<◌, ◌≤◌, Bool, true, false, List, [], ◌∷◌, ◌++◌, length, take, drop, refl, sym, ap, ◌∙◌, append_assoc, length-append, length-drop, length-take-le, arith}
use Rattle.std.specs.Prelude.{slice_get}
use Rattle.std.specs.Option.{ForSome}
use Rattle.std.specs.Int.{w16, to_le_bytes}
use Rattle.std.specs.List.{AllByRecursion}
use Rattle.std.proofs.lemmas.List.{take_at, drop_at}
use Rattle.ecat_frame.specs.Frame.{Pdu, Fits, datagram_bytes, length_word, header_word, follows, spelled_datagram, spelled, spelling}
use Rattle.ecat_frame.specs.Answer.{answered}
use Rattle.ecat_frame.specs.Retained.{last_at, Keeps, IsRest}
use Rattle.ecat_frame.proofs.Spelled.{length-spelled_datagram, follows-true}

-- where the datagram at k begins
pub length-spelled-drop : (ds : List Pdu) (k : ℕ) → length (spelled ds false) ≡ length (spelled (take k ds) true) + length (spelled (drop k ds) false)
length-spelled-drop ds zero = omega arith
length-spelled-drop [] (suc k) = refl
length-spelled-drop (d ∷ ds) (suc k) =
    omega (
      arith,
      length-append (spelled_datagram d (follows ds false)) (spelled ds false),
      length-append (spelled_datagram d (follows (take k ds) true)) (spelled (take k ds) true),
      length-spelled_datagram d (follows ds false),
      length-spelled_datagram d (follows (take k ds) true),
      length-spelled-drop ds k,
    )

some-spelled : (ds : List Pdu) → 0 < length ds → 12 ≤ length (spelled ds false)
some-spelled [] lt = absurd (omega arith)
some-spelled (d ∷ ds) lt = omega (arith, length-append (spelled_datagram d (follows ds false)) (spelled ds false), length-spelled_datagram d (follows ds false))

pub place_is : (bytes rest : List ℕ) (count left last k : ℕ) (ds : List Pdu) → Keeps bytes count last ds → IsRest rest left (drop k ds)
    → (length bytes ≡ 2 + length (spelled (take k ds) true) + length rest)
place_is bytes rest count left last k ds kept is = omega (arith, ap length kept.is_spelling, ap length is.is_spelling, length-spelled-drop ds k)

-- the answer is as long as what it answers
abbrev pub FitsIn : List Pdu → ℕ → List ℕ → Type 0
FitsIn ds k content = ForSome (slice_get ds k) (λ d. length content ≡ length d.content)

-- a datagram and what stands before it and behind it
record Split (ds : List Pdu) (k : ℕ) (more : Bool) (content : List ℕ) (counter : ℕ) : Type 0 where
  pub one : Pdu
  pub after : List Pdu
  pub len : length content ≡ length one.content
  pub was : spelled ds more ≡ spelled (take k ds) true ++ (spelled_datagram one (follows after more) ++ spelled after more)
  pub now : spelled (answered ds k content counter) more
      ≡ spelled (take k ds) true ++ (spelled_datagram (record one { content = content; counter = counter }) (follows after more) ++ spelled after more)

follows-some : (ds : List Pdu) (k : ℕ) (more : Bool) → k < length ds → follows ds more ≡ true
follows-some [] k more lt = absurd (omega arith)
follows-some (d ∷ ds) k more lt = refl

follows-answered : (ds : List Pdu) (k : ℕ) (content : List ℕ) (counter : ℕ) (more : Bool) → k < length ds → follows (answered ds k content counter) more ≡ true
follows-answered [] k content counter more lt = absurd (omega arith)
follows-answered (d ∷ ds) zero content counter more lt = refl
follows-answered (d ∷ ds) (suc k) content counter more lt = refl

split : (ds : List Pdu) (k : ℕ) (more : Bool) (content : List ℕ) (counter : ℕ) → k < length ds → FitsIn ds k content → Split ds k more content counter
split [] k more content counter lt fits = absurd (omega arith)
split (d ∷ ds) zero more content counter lt fits = record { one = d; after = ds; len = fits d refl; was = refl; now = refl }
split (d ∷ ds) (suc k) more content counter lt fits =
    let deeper = split ds k more content counter (omega arith) fits in
    let first = spelled_datagram d true in
    let regroup = λ (t : List ℕ). sym (append_assoc first (spelled (take k ds) true) t) in
    record {
      one = deeper.one;
      after = deeper.after;
      len = deeper.len;
      was = rw (follows-some ds k more (omega arith), follows-true (take k ds)) (ap (λ (t : List ℕ). first ++ t) deeper.was ∙ regroup _);
      now = rw (follows-answered ds k content counter more (omega arith), follows-true (take k ds)) (ap (λ (t : List ℕ). first ++ t) deeper.now ∙ regroup _);
    }

pub length-spelled-answered : (ds : List Pdu) (k : ℕ) (more : Bool) (content : List ℕ) (counter : ℕ) → k < length ds → FitsIn ds k content
    → length (spelled (answered ds k content counter) more) ≡ length (spelled ds more)
length-spelled-answered ds k more content counter lt fits =
    let parts = split ds k more content counter lt fits in
    let one = parts.one in
    let answer : Pdu = record one { content = content; counter = counter } in
    let bit = follows parts.after more in
    let before = spelled (take k ds) true in
    let rest = spelled parts.after more in
    omega (
      arith,
      ap length parts.was,
      ap length parts.now,
      parts.len,
      length-append before (spelled_datagram one bit ++ rest),
      length-append (spelled_datagram one bit) rest,
      length-append before (spelled_datagram answer bit ++ rest),
      length-append (spelled_datagram answer bit) rest,
      length-spelled_datagram one bit,
      length-spelled_datagram answer bit,
    )

-- the datagram at k lies inside
pub place-within : (ds : List Pdu) (k : ℕ) → k < length ds → length (spelled (take k ds) true) + 12 ≤ length (spelled ds false)
place-within ds k lt = omega (arith, length-spelled-drop ds k, some-spelled (drop k ds) (omega (arith, length-drop k ds)))

pub length-keeps : (bytes : List ℕ) (count last : ℕ) (ds : List Pdu) → Keeps bytes count last ds → length bytes ≡ 2 + length (spelled ds false)
length-keeps bytes count last ds kept = omega (arith, ap length kept.is_spelling)

pub answer-within : (bytes content : List ℕ) (count last at k : ℕ) (ds : List Pdu) → Keeps bytes count last ds → k < length ds → FitsIn ds k content
    → at ≡ 12 + length (spelled (take k ds) true) → at + length content + 2 ≤ length bytes
answer-within bytes content count last at k ds kept lt fits at_is =
    let parts = split ds k false content 0 lt fits in
    let one = parts.one in
    let bit = follows parts.after false in
    let before = spelled (take k ds) true in
    let rest = spelled parts.after false in
    omega (
      arith,
      at_is,
      ap length kept.is_spelling,
      ap length parts.was,
      parts.len,
      length-append before (spelled_datagram one bit ++ rest),
      length-append (spelled_datagram one bit) rest,
      length-spelled_datagram one bit,
    )

pub length-overwritten : (bytes part : List ℕ) (at : ℕ) → at + length part ≤ length bytes → length (take at bytes ++ part ++ drop (at + length part) bytes) ≡ length bytes
length-overwritten bytes part at le =
    omega (arith, length-append (take at bytes ++ part) (drop (at + length part) bytes), length-append (take at bytes) part, length-take-le at bytes (omega arith), length-drop (at + length part) bytes)

length-answered : (ds : List Pdu) (k : ℕ) (content : List ℕ) (counter : ℕ) → length (answered ds k content counter) ≡ length ds
length-answered [] k content counter = refl
length-answered (d ∷ ds) zero content counter = refl
length-answered (d ∷ ds) (suc k) content counter = ap suc (length-answered ds k content counter)

AllFit-answered : (ds : List Pdu) (k : ℕ) (content : List ℕ) (counter : ℕ) → FitsIn ds k content → counter < 2 ^ 16 → AllByRecursion Fits ds
    → AllByRecursion Fits (answered ds k content counter)
AllFit-answered [] k content counter same lt fits = fits
AllFit-answered (d ∷ ds) zero content counter same lt fits =
    (record { address = fits.0.address; length = rw (same d refl) fits.0.length; counter = lt }, fits.1)
AllFit-answered (d ∷ ds) (suc k) content counter same lt fits = (fits.0, AllFit-answered ds k content counter same lt fits.1)

last_at-answered : (ds : List Pdu) (k : ℕ) (content : List ℕ) (counter : ℕ) → FitsIn ds k content → last_at (answered ds k content counter) ≡ last_at ds
unfolding last_at
last_at-answered [] k content counter same = refl
last_at-answered (d ∷ []) zero content counter same = refl
last_at-answered (d ∷ []) (suc k) content counter same = refl
last_at-answered (d ∷ e ∷ ds) zero content counter same = omega (arith, same d refl)
last_at-answered (d ∷ e ∷ ds) (suc zero) content counter same = omega (arith, last_at-answered (e ∷ ds) zero content counter same)
last_at-answered (d ∷ e ∷ ds) (suc (suc k)) content counter same = omega (arith, last_at-answered (e ∷ ds) (suc k) content counter same)

-- one part of a list written over
overwrite_part : (front old new rest : List ℕ) (at : ℕ) → length old ≡ length new → at ≡ length front
    → take at (front ++ (old ++ rest)) ++ new ++ drop (at + length new) (front ++ (old ++ rest)) ≡ front ++ (new ++ rest)
overwrite_part front old new rest at len at_is =
    let before : take at (front ++ (old ++ rest)) ≡ front = take_at front (old ++ rest) at (sym at_is) in
    let after : drop (at + length new) (front ++ (old ++ rest)) ≡ rest =
    ap (drop (at + length new)) (sym (append_assoc front old rest)) ∙ drop_at (front ++ old) rest (at + length new) (omega (arith, length-append front old)) in
    rw (before, after) (append_assoc front new rest)

-- the first ten bytes, which an answer doesn't change
abbrev head_bytes : Pdu → (len : ℕ) → Bool → List ℕ
head_bytes d len more = take 10 (datagram_bytes d (length_word len 0 more) 0)

regroup_datagram : (header before head content counter rest : List ℕ)
    → header ++ (before ++ ((head ++ (content ++ counter)) ++ rest)) ≡ (header ++ (before ++ head)) ++ (content ++ (counter ++ rest))
regroup_datagram header before head content counter rest = simp append_assoc

pub kept_answered : (bytes first second content part : List ℕ) (count last at k counter : ℕ) (ds : List Pdu) → Keeps bytes count last ds
    → k < length ds → FitsIn ds k content → counter < 2 ^ 16 → at ≡ 12 + length (spelled (take k ds) true)
    → first ≡ take at bytes ++ content ++ drop (at + length content) bytes → part ≡ to_le_bytes w16 counter
    → second ≡ take (at + length content) first ++ part ++ drop (at + length content + length part) first
    → Keeps second count last (answered ds k content counter)
kept_answered bytes first second content part count last at k counter ds kept lt fits counter_fits at_is first_is part_is second_is =
    let parts = split ds k false content counter lt fits in
    let one = parts.one in
    let more = follows parts.after false in
    let before = spelled (take k ds) true in
    let rest = spelled parts.after false in
    let head = head_bytes one (length one.content) more in
    let header = to_le_bytes w16 (header_word (length (spelled ds false)) 0 1) in
    let front = header ++ (before ++ head) in
    let was : bytes ≡ front ++ (one.content ++ (to_le_bytes w16 one.counter ++ rest)) =
    kept.is_spelling ∙ ap (λ (t : List ℕ). header ++ t) parts.was ∙ regroup_datagram header before head one.content (to_le_bytes w16 one.counter) rest in
    let front_len : at ≡ length front = omega (arith, at_is, length-append before head) in
    let one_written : first ≡ front ++ (content ++ (to_le_bytes w16 one.counter ++ rest)) =
    first_is ∙ rw was (overwrite_part front one.content content (to_le_bytes w16 one.counter ++ rest) at (sym parts.len) front_len) in
    let regrouped : first ≡ (front ++ content) ++ (to_le_bytes w16 one.counter ++ rest) = one_written ∙ sym (append_assoc front content (to_le_bytes w16 one.counter ++ rest)) in
    let both_written : second ≡ (front ++ content) ++ (to_le_bytes w16 counter ++ rest) =
    second_is ∙ rw (regrouped, part_is) (overwrite_part (front ++ content) (to_le_bytes w16 one.counter) (to_le_bytes w16 counter) rest (at + length content) refl
    (omega (arith, front_len, length-append front content))) in
    let lengths : length (spelled (answered ds k content counter) false) ≡ length (spelled ds false) = length-spelled-answered ds k false content counter lt fits in
    let answer : spelled (answered ds k content counter) false ≡ before ++ ((head ++ (content ++ to_le_bytes w16 counter)) ++ rest) =
    parts.now ∙ ap (λ (n : ℕ). before ++ ((head_bytes one n more ++ (content ++ to_le_bytes w16 counter)) ++ rest)) parts.len in
    let spelled_so : second ≡ spelling (answered ds k content counter) =
    both_written ∙ append_assoc front content (to_le_bytes w16 counter ++ rest) ∙ sym (regroup_datagram header before head content (to_le_bytes w16 counter) rest)
    ∙ ap (λ (t : List ℕ). header ++ t) (sym answer) ∙ ap (λ (n : ℕ). to_le_bytes w16 (header_word n 0 1) ++ spelled (answered ds k content counter) false) (sym lengths) in
    record {
      is_spelling = spelled_so;
      fits = AllFit-answered ds k content counter fits counter_fits kept.fits;
      counted = kept.counted ∙ sym (length-answered ds k content counter);
      last_begins = kept.last_begins ∙ ap (λ (n : ℕ). 2 + n) (sym (last_at-answered ds k content counter fits));
    }
