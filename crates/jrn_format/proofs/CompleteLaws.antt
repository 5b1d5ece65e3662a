-- A file is a journal of version 2 if and only if its header and its halves are complete.
use Rattle.std.proofs.Common.{◌≡◌, inl, inr, ℕ, zero, suc, ◌+◌, ◌%◌, ◌<◌, ◌≤◌, List, [], ◌∷◌, ◌++◌, length, take, drop, refl, sym, ◌∙◌, ap, subst, arith, append_assoc, length-append, length-take, take-append-drop}
use Rattle.std.specs.List.{AllByRecursion}
use Rattle.std.proofs.lemmas.List.{append-nil}
use Rattle.jrn_format.specs.declared.journal.Batch.{Batch}
use Rattle.jrn_format.specs.declared.journal.Form.TheVariants.{Two}
use Rattle.jrn_format.specs.declared.journal.Spelling.TheVariants.{WithGeneration}
use Rattle.jrn_format.specs.Batch.{IsWithin}
use Rattle.jrn_format.specs.Area.{IsLive}
use Rattle.jrn_format.specs.Header.{header_bytes, field_at}
use Rattle.jrn_format.specs.Journal.{AreHalves, AreOf, IsInOrder, IsJournal}
use Rattle.std.specs.Int.{w32}
use Rattle.jrn_format.specs.Halves.{Halves, other, live, IsSplit}
use Rattle.jrn_format.specs.Live.{halves_in}
use Rattle.jrn_format.specs.File.{joined, IsFile, StandInFile, StandComplete}
use Rattle.jrn_format.proofs.HalvesLaws.{stand-live}
use Rattle.jrn_format.proofs.FileLaws.{swap_joined, at_other, empty_again}
use Rattle.jrn_format.proofs.OpenLaws.{StandIn, all_stand, halves_in-split, stated_capacity}

-- ---- from a journal

-- the halves of the file, of the same lengths as these
record Stands (halves : Halves) (head bytes : List ℕ) (half last : ℕ) : Type 0 where
  inside : StandInFile halves head bytes
  long : length inside.older ≡ half
  after : length inside.last ≡ last

older_there : (head one two last bytes : List ℕ) (at generation : ℕ) (first : Batch) (batches newer : List Batch) → at ≤ 1 → IsFile head at one two last bytes
    → IsLive WithGeneration at one (first ∷ batches) → IsLive WithGeneration (other at) two newer → AreOf generation (first ∷ batches) → AreOf ((generation + 1) % 256) newer
    → Stands (halves_in ((first ∷ batches) ++ newer)) head bytes (length one) (length last)
older_there head one two last bytes at generation first batches newer le file old new old_of new_of =
    let here : first.half ≡ at = old.starts.can_stand.0.of_half in
    let now : generation ≡ first.generation = sym old_of.0 in
    let halves : Halves = record { at = first.half; generation = first.generation; older = first ∷ batches; newer = newer } in
    let is : halves_in ((first ∷ batches) ++ newer) ≡ halves =
    halves_in-split first batches newer (subst (λ (n : ℕ). StandIn n batches) (sym here) (all_stand WithGeneration at batches old.starts.can_stand.1))
    (subst (λ (n : ℕ). StandIn (other n) newer) (sym here) (all_stand WithGeneration (other at) newer new.starts.can_stand)) in
    let small : first.generation < 256 = old.starts.can_stand.0.generation in
    let inside : StandInFile halves head bytes = record {
      older = one;
      newer = two;
      last = last;
      file = subst (λ (n : ℕ). IsFile head n one two last bytes) (sym here) file;
      stands = record {
        at = omega (arith, here);
        generation = small;
        older_live = subst (λ (n : ℕ). IsLive WithGeneration n one (first ∷ batches)) (sym here) old;
        newer_live = subst (λ (n : ℕ). IsLive WithGeneration (other n) two newer) (sym here) new;
        older_of = subst (λ (g : ℕ). AreOf g (first ∷ batches)) now old_of;
        newer_of = subst (λ (g : ℕ). AreOf ((g + 1) % 256) newer) now new_of;
      };
    } in
    let stands : Stands halves head bytes (length one) (length last) = record { inside = inside; long = refl; after = refl } in
    subst (λ (h : Halves). Stands h head bytes (length one) (length last)) (sym is) stands

swapped : (head one two last bytes : List ℕ) (at : ℕ) → at ≤ 1 → IsFile head at one two last bytes → IsFile head (other at) two one last bytes
swapped head one two last bytes at le file = record { equal = sym file.equal; is = file.is ∙ ap (λ (l : List ℕ). head ++ (l ++ last)) (sym (swap_joined at two one le)) }

none_there : (head one two last bytes : List ℕ) → IsFile head 0 one two last bytes → IsLive WithGeneration 0 one [] → IsLive WithGeneration 1 two [] → Stands (halves_in []) head bytes (length one) (length last)
none_there head one two last bytes file old new = record {
  inside = record {
    older = one;
    newer = two;
    last = last;
    file = file;
    stands = record { at = omega arith; generation = omega arith; older_live = old; newer_live = new; older_of = tt; newer_of = tt };
  };
  long = refl;
  after = refl;
}

newer_there : (head one two last bytes : List ℕ) (at generation : ℕ) (newer : List Batch) → at ≤ 1 → IsFile head at one two last bytes
    → IsLive WithGeneration at one [] → IsLive WithGeneration (other at) two newer → AreOf generation newer → Stands (halves_in newer) head bytes (length one) (length last)
newer_there head one two last bytes zero generation [] le file old new new_of = none_there head one two last bytes file old new
newer_there head one two last bytes (suc n) generation [] le file old new new_of =
    let there : IsFile head 0 two one last bytes = record { equal = sym file.equal; is = file.is } in
    subst (λ (m : ℕ). Stands (halves_in []) head bytes m (length last)) (sym file.equal)
    (none_there head two one last bytes there new (empty_again (suc n) 1 one old))
newer_there head one two last bytes at generation (first ∷ newer) le file old new new_of =
    subst (λ (batches : List Batch). Stands (halves_in batches) head bytes (length one) (length last)) (append-nil (first ∷ newer))
    (subst (λ (m : ℕ). Stands (halves_in ((first ∷ newer) ++ [])) head bytes m (length last)) (sym file.equal)
    (older_there head two one last bytes (other at) generation first newer [] (at_other at) (swapped head one two last bytes at le file) new (empty_again at (other (other at)) one old) new_of tt))

there : (head one two last bytes : List ℕ) (at generation : ℕ) (older newer : List Batch) → at ≤ 1 → IsFile head at one two last bytes
    → IsLive WithGeneration at one older → IsLive WithGeneration (other at) two newer → AreOf generation older → AreOf ((generation + 1) % 256) newer
    → Stands (halves_in (older ++ newer)) head bytes (length one) (length last)
there head one two last bytes at generation [] newer le file old new old_of new_of = newer_there head one two last bytes at ((generation + 1) % 256) newer le file old new new_of
there head one two last bytes at generation (first ∷ older) newer le file old new old_of new_of = older_there head one two last bytes at generation first older newer le file old new old_of new_of

ordered_there : (head first second last bytes : List ℕ) (firsts seconds batches : List Batch) → IsFile head 0 first second last bytes → IsLive WithGeneration 0 first firsts → IsLive WithGeneration 1 second seconds
    → IsInOrder firsts seconds batches → Stands (halves_in batches) head bytes (length first) (length last)
ordered_there head first second last bytes firsts seconds batches file one two (inl h) =
    subst (λ (bs : List Batch). Stands (halves_in bs) head bytes (length first) (length last)) (sym h.1) (there head first second last bytes 0 h.0.0 firsts seconds (omega arith) file one two h.0.1 h.0.2)
ordered_there head first second last bytes firsts seconds batches file one two (inr h) =
    subst (λ (bs : List Batch). Stands (halves_in bs) head bytes (length first) (length last)) (sym h.1)
    (subst (λ (m : ℕ). Stands (halves_in (seconds ++ firsts)) head bytes m (length last)) (sym file.equal)
    (there head second first last bytes 1 h.0.0 seconds firsts (omega arith) (swapped head first second last bytes 0 (omega arith) file) two one h.0.1 h.0.2))

area_bytes : (area first second : List ℕ) (h : AreHalves area first second) → length area ≡ length first + length second + length h.last
area_bytes area first second h = omega (arith, ap length h.entire, length-append first (second ++ h.last), length-append second h.last)

pub journal-entire : (file sizes : List ℕ) (batches : List Batch) → IsJournal file sizes (record { form = Two; batches = batches }) → StandComplete (length sizes) (field_at w32 4 file) (halves_in batches) file
journal-entire file sizes batches h =
    let area = h.area in
    let first = h.live.first in
    let second = h.live.second in
    let halves = h.live.halves in
    let two : h.has_area.version ≡ 2 = h.has_area.is_form in
    let head = header_bytes 2 (length sizes) (length area) in
    let last = halves.last ++ h.has_area.rest in
    let file_is : IsFile head 0 first second last file = record {
      equal = halves.equal;
      is = h.has_area.header.spelt ∙ ap (λ (v : ℕ). header_bytes v (length sizes) (length area) ++ (area ++ h.has_area.rest)) two
          ∙ ap (λ (l : List ℕ). head ++ l) (ap (λ (l : List ℕ). l ++ h.has_area.rest) halves.entire ∙ append_assoc first (second ++ halves.last) h.has_area.rest
          ∙ ap (λ (l : List ℕ). first ++ l) (append_assoc second halves.last h.has_area.rest) ∙ sym (append_assoc first second last));
    } in
    let stands : Stands (halves_in batches) head file (length first) (length last) = ordered_there head first second last file h.live.firsts h.live.seconds batches file_is h.live.first_live h.live.second_live h.live.in_order in
    let sum = area_bytes area first second halves in
    let odd = halves.odd in
    let equal = halves.equal in
    let newer = stands.inside.file.equal in
    let entire : StandComplete (length sizes) (length area) (halves_in batches) file = record {
      slaves_fit = h.has_area.header.slaves_fit;
      is_capacity = h.has_area.capacity;
      inside = stands.inside;
      half = omega (arith, stands.long, sum, odd, equal);
      entire = omega (arith, stands.long, stands.after, newer, sum, equal, length-append halves.last h.has_area.rest);
    } in
    subst (λ (n : ℕ). StandComplete (length sizes) n (halves_in batches) file) (sym (stated_capacity file (length sizes) Two area h.has_area)) entire

-- ---- to a journal

split_odd : (at : ℕ) (older newer odd : List ℕ) → length older ≡ length newer → length odd < 2 → IsSplit at (joined at older newer ++ odd) older newer
split_odd zero older newer odd equal few = record { equal = equal; last = odd; odd = few; entire = append_assoc older newer odd }
split_odd (suc n) older newer odd equal few = record { equal = sym equal; last = odd; odd = few; entire = append_assoc newer older odd }

joined_length : (at : ℕ) (one two : List ℕ) → length (joined at one two) ≡ length one + length two
joined_length zero one two = length-append one two
joined_length (suc n) one two = omega (arith, length-append two one)

pub entire-journal : (file sizes : List ℕ) (capacity : ℕ) (halves : Halves) → StandComplete (length sizes) capacity halves file → AllByRecursion (IsWithin sizes) (live halves)
    → IsJournal file sizes (record { form = Two; batches = live halves })
entire-journal file sizes capacity halves w within =
    let s = w.inside in
    let n = capacity % 2 in
    let odd = take n s.last in
    let rest = drop n s.last in
    let area = joined halves.at s.older s.newer ++ odd in
    let equal = s.file.equal in
    let few : length odd ≡ n = omega (arith, length-take n s.last, w.half, w.entire, equal) in
    let long : length area ≡ capacity = omega (arith, length-append (joined halves.at s.older s.newer) odd, joined_length halves.at s.older s.newer, few, w.half, equal) in
    let parts : joined halves.at s.older s.newer ++ s.last ≡ area ++ rest =
    ap (λ (l : List ℕ). joined halves.at s.older s.newer ++ l) (sym (take-append-drop n s.last)) ∙ sym (append_assoc (joined halves.at s.older s.newer) odd rest) in
    let most = w.is_capacity in
    record {
      area = area;
      has_area = record {
        version = 2;
        rest = rest;
        header = record {
          slaves_fit = w.slaves_fit;
          capacity_fits = omega (arith, long, most);
          spelt = s.file.is ∙ ap (λ (c : ℕ). header_bytes 2 (length sizes) c ++ (joined halves.at s.older s.newer ++ s.last)) (sym long) ∙ ap (λ (l : List ℕ). header_bytes 2 (length sizes) (length area) ++ l) parts;
        };
        is_form = refl;
        capacity = (omega (arith, long, most), omega (arith, long, most));
      };
      live = stand-live halves area s.older s.newer (split_odd halves.at s.older s.newer odd equal (omega (arith, few))) s.stands;
      within = within;
    }
