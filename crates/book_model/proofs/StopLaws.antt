-- What a power cut, or a write that failed, leaves of a file with one unsynced range.
use Rattle.std.proofs.Common.{◌≡◌, ◌⊎◌, inl, inr, ℕ, zero, suc, ◌+◌, ◌*◌, ◌<◌, ◌≤◌, List, [], ◌∷◌, ◌++◌, length, take, drop, refl, sym, ◌∙◌, ap, subst, arith, append_assoc, length-append, length-drop, take-append-drop}
use Rattle.std.specs.Prelude.{slice_get}
use Rattle.std.proofs.lemmas.List.{take_at, drop_at, length-take-le, drop-drop}
use Rattle.jrn_format.specs.Header.{header_bytes}
use Rattle.jrn_format.specs.File.{before, joined, IsFile}
use Rattle.jrn_format.proofs.FileLaws.{after, split_file, changed_file, changed_size}
use Rattle.site_core.specs.Disk.{Disk, StopImage, WriteFailed, overlaid}
use Rattle.book_model.specs.Frame.{JournalFrame, head, room, IsFramed, IsOne}

-- ---- lists that agree place by place

pub same_front : (n : ℕ) (a b : List ℕ) → ((k : ℕ) → k < n → slice_get a k ≡ slice_get b k) → take n a ≡ take n b
same_front zero a b same = refl
same_front (suc n) [] [] same = refl
same_front (suc n) [] (y ∷ b) same = let e : slice_get [] 0 ≡ slice_get (y ∷ b) 0 = same 0 (omega arith) in cc
same_front (suc n) (x ∷ a) [] same = let e : slice_get (x ∷ a) 0 ≡ slice_get [] 0 = same 0 (omega arith) in cc
same_front (suc n) (x ∷ a) (y ∷ b) same =
    let e : slice_get (x ∷ a) 0 ≡ slice_get (y ∷ b) 0 = same 0 (omega arith) in
    let rest : take n a ≡ take n b = same_front n a b (λ k lt. same (suc k) (omega arith)) in
    cc

all_same : (a b : List ℕ) → ((k : ℕ) → slice_get a k ≡ slice_get b k) → a ≡ b
all_same [] [] same = refl
all_same [] (y ∷ b) same = let e : slice_get [] 0 ≡ slice_get (y ∷ b) 0 = same 0 in cc
all_same (x ∷ a) [] same = let e : slice_get (x ∷ a) 0 ≡ slice_get [] 0 = same 0 in cc
all_same (x ∷ a) (y ∷ b) same =
    let e : slice_get (x ∷ a) 0 ≡ slice_get (y ∷ b) 0 = same 0 in
    let rest : a ≡ b = all_same a b (λ k. same (suc k)) in
    cc

drop_nil : (n : ℕ) → drop {A = ℕ} n [] ≡ []
drop_nil zero = refl
drop_nil (suc n) = refl

same_back : (n : ℕ) (a b : List ℕ) → ((k : ℕ) → n ≤ k → slice_get a k ≡ slice_get b k) → drop n a ≡ drop n b
same_back zero a b same = all_same a b (λ k. same k (omega arith))
same_back (suc n) [] [] same = refl
same_back (suc n) [] (y ∷ b) same = sym (drop_nil n) ∙ same_back n [] b (λ k le. same (suc k) (omega arith))
same_back (suc n) (x ∷ a) [] same = same_back n a [] (λ k le. same (suc k) (omega arith)) ∙ drop_nil n
same_back (suc n) (x ∷ a) (y ∷ b) same = same_back n a b (λ k le. same (suc k) (omega arith))

-- ---- parts of a file

-- with no unsynced range
pub stop_none : (disk : Disk) (image : List ℕ) → disk.unsynced ≡ [] → StopImage disk image → image ≡ disk.bytes
stop_none disk image none stop = all_same image disk.bytes (λ k. stop.bytes k (rw none tt))

-- what is between two parts that stay as they are
pub record Between (front back image : List ℕ) (count : ℕ) : Type 0 where
  pub middle : List ℕ
  pub long : length middle ≡ count
  pub is : image ≡ front ++ (middle ++ back)

-- a file that agrees with another outside a range, and isn't shorter
pub record AgreesOutside (bytes : List ℕ) (start count : ℕ) (image : List ℕ) : Type 0 where
  pub outside : (k : ℕ) → (k < start) ⊎ (start + count ≤ k) → slice_get image k ≡ slice_get bytes k
  pub no_shorter : length bytes ≤ length image

pub between : (front middle back bytes image : List ℕ) → bytes ≡ front ++ (middle ++ back) → AgreesOutside bytes (length front) (length middle) image → Between front back image (length middle)
between front middle back bytes image is agrees =
    let f = length front in
    let n = length middle in
    let long : f + n ≤ length image = omega (arith, agrees.no_shorter, ap length is, length-append front (middle ++ back), length-append middle back) in
    let fore : take f image ≡ front = same_front f image bytes (λ k lt. agrees.outside k (inl lt)) ∙ ap (take f) is ∙ take_at front (middle ++ back) f refl in
    let aft : drop (f + n) image ≡ back = same_back (f + n) image bytes (λ k le. agrees.outside k (inr le)) ∙ ap (drop (f + n)) (is ∙ sym (append_assoc front middle back)) ∙ drop_at (front ++ middle) back (f + n) (length-append front middle) in
    let all : image ≡ take f image ++ (take n (drop f image) ++ drop n (drop f image)) = sym (take-append-drop f image) ∙ ap (λ (l : List ℕ). take f image ++ l) (sym (take-append-drop n (drop f image))) in
    record {
      middle = take n (drop f image);
      long = length-take-le n (drop f image) (omega (arith, length-drop f image));
      is = all ∙ ap (λ (l : List ℕ). l ++ (take n (drop f image) ++ drop n (drop f image))) fore ∙ ap (λ (l : List ℕ). front ++ (take n (drop f image) ++ l)) (drop-drop n f image ∙ aft);
    }

pub stop-agrees : (disk : Disk) (start count : ℕ) (image : List ℕ) → IsOne disk start count → length disk.bytes ≤ disk.synced_length → StopImage disk image → AgreesOutside disk.bytes start count image
stop-agrees disk start count image one entire stop = record { outside = λ k h. stop.bytes k (rw one (h, tt)); no_shorter = omega (arith, stop.no_shorter) }

pub failed-agrees : (begun new : Disk) (start count : ℕ) → WriteFailed begun start count new → AgreesOutside begun.bytes start count new.bytes
failed-agrees begun new start count failed = record { outside = failed.bytes; no_shorter = failed.no_shorter }

-- ---- a range of a half

pub header_long : (version slaves capacity : ℕ) → length (header_bytes version slaves capacity) ≡ 8
header_long version slaves capacity = refl

-- the place of a part of a half
pub part_at : (frame : JournalFrame) (at : ℕ) (two p : List ℕ) → at ≤ 1 → length two ≡ room frame → length (before at (head frame) two ++ p) ≡ 8 + at * room frame + length p
part_at frame zero two p le size = omega (arith, length-append (head frame) p, header_long 2 frame.slaves frame.capacity)
part_at frame (suc zero) two p le size = omega (arith, length-append (head frame ++ two) p, length-append (head frame) two, header_long 2 frame.slaves frame.capacity)
part_at frame (suc (suc n)) two p le size = absurd (omega arith)

-- the range holds anything, and all else is as it was
pub record Torn (frame : JournalFrame) (at : ℕ) (p : List ℕ) (count : ℕ) (r two image : List ℕ) : Type 0 where
  pub middle : List ℕ
  pub long : length middle ≡ count
  pub framed : IsFramed frame at (p ++ (middle ++ r)) two image

same_length : (p q m r : List ℕ) → length m ≡ length q → length (p ++ (m ++ r)) ≡ length (p ++ (q ++ r))
same_length p q m r long = omega (arith, long, length-append p (q ++ r), length-append q r, length-append p (m ++ r), length-append m r)

pub torn_file : (frame : JournalFrame) (at : ℕ) (p q r two bytes image : List ℕ) → at ≤ 1 → IsFramed frame at (p ++ (q ++ r)) two bytes → AgreesOutside bytes (8 + at * room frame + length p) (length q) image
    → Torn frame at p (length q) r two image
torn_file frame at p q r two bytes image le framed agrees =
    let start = part_at frame at two p le (sym framed.file.equal ∙ framed.room) in
    let b = between (before at (head frame) two ++ p) q (after at r two frame.last) bytes image (framed.file.is ∙ split_file at (head frame) p q r two frame.last) (subst (λ (n : ℕ). AgreesOutside bytes n (length q) image) (sym start) agrees) in
    let same = same_length p q b.middle r b.long in
    record {
      middle = b.middle;
      long = b.long;
      framed = record {
        file = record { equal = same ∙ framed.file.equal; is = b.is ∙ sym (split_file at (head frame) p b.middle r two frame.last) };
        room = same ∙ framed.room;
      };
    }

-- ---- a write that is done

pub written_file : (frame : JournalFrame) (at : ℕ) (p q over r two bytes : List ℕ) → at ≤ 1 → IsFramed frame at (p ++ (q ++ r)) two bytes → length over ≡ length q
    → IsFramed frame at (p ++ (over ++ r)) two (overlaid bytes (8 + at * room frame + length p) over)
written_file frame at p q over r two bytes le framed long =
    let start = part_at frame at two p le (sym framed.file.equal ∙ framed.room) in
    record {
      file = subst (λ (n : ℕ). IsFile (head frame) at (p ++ (over ++ r)) two frame.last (overlaid bytes n over)) start (changed_file (head frame) at p q over r two frame.last bytes framed.file long);
      room = same_length p q over r long ∙ framed.room;
    }

pub written_size : (frame : JournalFrame) (at : ℕ) (p q over r two bytes : List ℕ) → at ≤ 1 → IsFramed frame at (p ++ (q ++ r)) two bytes → length over ≡ length q
    → length (overlaid bytes (8 + at * room frame + length p) over) ≡ length bytes
written_size frame at p q over r two bytes le framed long =
    let start = part_at frame at two p le (sym framed.file.equal ∙ framed.room) in
    ap (λ (n : ℕ). length (overlaid bytes n over)) (sym start) ∙ changed_size (head frame) at p q over r two frame.last bytes framed.file long

-- ---- and one that has failed

pub failed_size : (front middle back bytes image : List ℕ) → bytes ≡ front ++ (middle ++ back) → Between front back image (length middle) → length image ≡ length bytes
failed_size front middle back bytes image is b =
    omega (arith, ap length is, ap length b.is, b.long, length-append front (middle ++ back), length-append middle back, length-append front (b.middle ++ back), length-append b.middle back)

pub framed_size : (frame : JournalFrame) (at : ℕ) (one two bytes other image : List ℕ) → at ≤ 1 → IsFramed frame at one two bytes → IsFramed frame at other two image → length image ≡ length bytes
framed_size frame at one two bytes other image le a b =
    omega (arith, ap length a.file.is, ap length b.file.is, long at one, long at other, a.room, b.room)
  where
    long : (at : ℕ) (area : List ℕ) → length (head frame ++ (joined at area two ++ frame.last)) ≡ 8 + (length area + length two + length frame.last)
    long zero area = omega (arith, length-append (head frame) ((area ++ two) ++ frame.last), length-append (area ++ two) frame.last, length-append area two, header_long 2 frame.slaves frame.capacity)
    long (suc n) area = omega (arith, length-append (head frame) ((two ++ area) ++ frame.last), length-append (two ++ area) frame.last, length-append two area, header_long 2 frame.slaves frame.capacity)
