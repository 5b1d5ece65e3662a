-- An empty journal: as formatted, and at each step of a migration.
use Rattle.std.proofs.Common.{◌≡◌, ◌≢◌, inl, inr, ℕ, zero, suc, ◌^◌, ◌<◌, ◌≤◌, List, [], ◌∷◌, ◌++◌, length, replicate, take, drop, append_assoc, length-append, ◌/◌, ◌-◌, refl, sym, ◌∙◌, ap, subst, arith}
use Rattle.std.proofs.lemmas.Bool.{cases_eq}
use Rattle.std.proofs.lemmas.List.{take-replicate, drop-replicate, length-replicate}
use Rattle.jrn_format.specs.declared.journal.Batch.{Batch}
use Rattle.jrn_format.specs.declared.journal.Form.{Form}
use Rattle.jrn_format.specs.declared.journal.Form.TheVariants.{One, Two, Moving}
use Rattle.jrn_format.specs.declared.journal.Spelling.{Spelling}
use Rattle.jrn_format.specs.declared.journal.Spelling.TheVariants.{Plain, WithGeneration}
use Rattle.jrn_format.specs.Area.{IsClosed, IsLive}
use Rattle.jrn_format.specs.Header.{header_bytes, IsCapacity, IsForm, HasArea}
use Rattle.jrn_format.specs.Journal.{AreHalves, AreLive, HasLive, IsJournal}
use Rattle.jrn_format.proofs.HalvesGrammar.{halves_here}
use Rattle.jrn_format.proofs.AreaLaws.{empty_live}
use Rattle.jrn_format.specs.Migration.{IsEmptyJournal, IsClosedFile, IsReady}

pub closed_live : (spelling : Spelling) (half : ℕ) (area : List ℕ) → IsClosed area → IsLive spelling half area []
closed_live spelling half area closed = (empty_live spelling half area).1 closed

pub none_live : (area first second : List ℕ) → AreHalves area first second → IsClosed first → IsClosed second → AreLive area []
none_live area first second halves one two = record {
  first = first;
  second = second;
  halves = halves;
  firsts = [];
  seconds = [];
  first_live = closed_live WithGeneration 0 first one;
  second_live = closed_live WithGeneration 1 second two;
  in_order = inl ((0, tt, tt), refl);
}

closed_area : (version : ℕ) (sizes area rest file : List ℕ) (form : Form) → IsClosedFile version sizes area rest file → IsForm version (area ++ rest) form → HasArea file (length sizes) form area
closed_area version sizes area rest file form f is = record {
  version = version;
  rest = rest;
  header = record { slaves_fit = f.slaves_fit; capacity_fits = let most = f.is_capacity in omega arith; spelt = f.is };
  is_form = is;
  capacity = f.is_capacity;
}

pub empty_journal : (version : ℕ) (sizes area rest file : List ℕ) (form : Form) → IsClosedFile version sizes area rest file → IsForm version (area ++ rest) form → HasLive form area [] → IsEmptyJournal file sizes form
empty_journal version sizes area rest file form f is lives = record { area = area; has_area = closed_area version sizes area rest file form f is; live = lives; within = tt }

-- before the version byte, whatever follows the first gate
pub before_version : (sizes area rest file : List ℕ) → IsClosedFile 1 sizes area rest file → IsEmptyJournal file sizes One
before_version sizes area rest file f = empty_journal 1 sizes area rest file One f refl (closed_live Plain 0 area f.first_gate)

-- the first gate of the area is that of the first half
half_closed : (area first second : List ℕ) → AreHalves area first second → IsClosed area → IsClosed second → IsClosed first
half_closed area [] second halves closed far = let equal = halves.equal in absurd (omega (arith, ap length far.3))
half_closed area (gate ∷ first) second halves closed far =
    let e : gate ∷ (first ++ (second ++ halves.last)) ≡ closed.0 ∷ closed.1 = sym halves.entire ∙ closed.3 in
    let same : gate ≡ closed.0 = cc in
    (gate, first, subst (λ (g : ℕ). g ≢ 0xA5) (sym same) closed.2, refl)

pub ready_live : (area rest : List ℕ) → IsClosed area → IsReady area rest → AreLive area []
ready_live area rest closed r = none_live area r.first r.second r.halves (half_closed area r.first r.second r.halves closed r.far_gate) r.far_gate

-- with any version byte, once the far gate is closed and the mark is written
pub any_version : (version : ℕ) (sizes area rest file : List ℕ) → IsClosedFile version sizes area rest file → IsReady area rest → (form : Form) × IsEmptyJournal file sizes form
any_version version sizes area rest file f r = elim (cases_eq version 1) [
  | inl one ↦ (One, empty_journal version sizes area rest file One f one (closed_live Plain 0 area f.first_gate))
  | inr not_one ↦ elim (cases_eq version 2) [
    | inl two ↦ (Two, empty_journal version sizes area rest file Two f two (ready_live area rest f.first_gate r))
    | inr not_two ↦ (Moving, empty_journal version sizes area rest file Moving f (not_one, not_two, r.mark) refl)
  ]
]

pub after_version : (sizes area rest file : List ℕ) → IsClosedFile 2 sizes area rest file → IsReady area rest → IsEmptyJournal file sizes Two
after_version sizes area rest file f r = empty_journal 2 sizes area rest file Two f refl (ready_live area rest f.first_gate r)

-- ---- formatted

zeros_closed : (n : ℕ) (bytes : List ℕ) → 0 < n → bytes ≡ replicate n 0 → IsClosed bytes
zeros_closed zero bytes some is = absurd (omega arith)
zeros_closed (suc n) bytes some is = (0, replicate n 0, λ e. absurd (omega arith), is)

-- an area of zeros
pub zeros_live : (size : ℕ) → 2 ≤ size → AreLive (replicate size 0) []
zeros_live size two =
    let area : List ℕ = replicate size 0 in
    let n = length area / 2 in
    let long : length area ≡ size = length-replicate size 0 in
    none_live area (take n area) (take n (drop n area)) (halves_here area)
    (zeros_closed n (take n area) (omega arith) (take-replicate n size 0 (omega arith)))
    (zeros_closed n (take n (drop n area)) (omega arith) (ap (take n) (drop-replicate n size 0) ∙ take-replicate n (size - n) 0 (omega arith)))

pub formatted : (sizes : List ℕ) (capacity : ℕ) (rest file : List ℕ) → length sizes < 2 ^ 16 → IsCapacity capacity
    → file ≡ header_bytes 2 (length sizes) capacity ++ (replicate capacity 0 ++ rest) → IsEmptyJournal file sizes Two
formatted sizes capacity rest file few limits is =
    let area : List ℕ = replicate capacity 0 in
    let long : length area ≡ capacity = length-replicate capacity 0 in
    let f : IsClosedFile 2 sizes area rest file = record {
      slaves_fit = few;
      is_capacity = subst IsCapacity (sym long) limits;
      is = is ∙ ap (λ (c : ℕ). header_bytes 2 (length sizes) c ++ (area ++ rest)) (sym long);
      first_gate = zeros_closed capacity area (omega (arith, limits)) refl;
    } in
    empty_journal 2 sizes area rest file Two f refl (zeros_live capacity (omega (arith, limits)))

-- ---- each step of a migration

-- closing the first gate of a journal of version 1 retires it
pub plain_retired : (file sizes : List ℕ) (batches : List Batch) (gate : ℕ) → IsJournal file sizes (record { form = One; batches = batches }) → gate ≢ 0xA5
    → (area : List ℕ) × (rest : List ℕ) × IsClosedFile 1 sizes area rest (take 8 file ++ gate ∷ drop 9 file)
plain_retired file sizes batches gate h closed = by_area h.area refl
  where
    by_area : (area : List ℕ) → h.area ≡ area → (new : List ℕ) × (rest : List ℕ) × IsClosedFile 1 sizes new rest (take 8 file ++ gate ∷ drop 9 file)
    by_area [] is = let limits = h.has_area.capacity in absurd (omega (arith, ap length is, limits))
    by_area (first ∷ tail) is =
        let limits = h.has_area.capacity in
        let head = header_bytes 1 (length sizes) (length h.area) in
        let one : h.has_area.version ≡ 1 = h.has_area.is_form in
        let entire : file ≡ head ++ (first ∷ (tail ++ h.has_area.rest)) =
        h.has_area.header.spelt ∙ ap (λ (v : ℕ). header_bytes v (length sizes) (length h.area) ++ (h.area ++ h.has_area.rest)) one
        ∙ ap (λ (a : List ℕ). head ++ (a ++ h.has_area.rest)) is in (
          gate ∷ tail,
          h.has_area.rest,
          record {
            slaves_fit = h.has_area.header.slaves_fit;
            is_capacity = (omega (arith, ap length is, limits), omega (arith, ap length is, limits));
            is = ap (λ (f : List ℕ). take 8 f ++ gate ∷ drop 9 f) entire ∙ ap (λ (n : ℕ). header_bytes 1 (length sizes) n ++ (gate ∷ tail ++ h.has_area.rest)) (ap length is);
            first_gate = (gate, tail, closed, refl);
          },
        )

-- bytes after the first gate are overwritten
pub after_the_gate : (version : ℕ) (sizes p q over r rest file image : List ℕ) → IsClosedFile version sizes (p ++ (q ++ r)) rest file → 1 ≤ length p → length over ≡ length q
    → image ≡ (header_bytes version (length sizes) (length (p ++ (q ++ r))) ++ p) ++ (over ++ (r ++ rest)) → IsClosedFile version sizes (p ++ (over ++ r)) rest image
after_the_gate version sizes [] q over r rest file image f some long is = absurd (omega arith)
after_the_gate version sizes (gate ∷ p) q over r rest file image f some long is =
    let limits = f.is_capacity in
    let same : length (gate ∷ p ++ (q ++ r)) ≡ length (gate ∷ p ++ (over ++ r)) = omega (arith, long, length-append p (q ++ r), length-append q r, length-append p (over ++ r), length-append over r) in
    let first : f.first_gate.0 ∷ f.first_gate.1 ≡ gate ∷ (p ++ (q ++ r)) = sym f.first_gate.3 in
    let same_gate : f.first_gate.0 ≡ gate = cc in
    let head = header_bytes version (length sizes) (length (gate ∷ p ++ (q ++ r))) in
    record {
      slaves_fit = f.slaves_fit;
      is_capacity = subst IsCapacity same limits;
      is = is ∙ append_assoc head (gate ∷ p) (over ++ (r ++ rest))
          ∙ ap (λ (t : List ℕ). head ++ (gate ∷ t)) (ap (λ (t : List ℕ). p ++ t) (sym (append_assoc over r rest)) ∙ sym (append_assoc p (over ++ r) rest))
          ∙ ap (λ (n : ℕ). header_bytes version (length sizes) n ++ (gate ∷ p ++ (over ++ r) ++ rest)) same;
      first_gate = (gate, p ++ (over ++ r), subst (λ (g : ℕ). g ≢ 0xA5) same_gate f.first_gate.2, refl);
    }

-- the version byte is overwritten
pub version_exchanged : (old new : ℕ) (sizes area rest file : List ℕ) → IsClosedFile old sizes area rest file → IsClosedFile new sizes area rest (take 1 file ++ new ∷ drop 2 file)
version_exchanged old new sizes area rest file f = record {
  slaves_fit = f.slaves_fit;
  is_capacity = f.is_capacity;
  is = ap (λ (t : List ℕ). take 1 t ++ new ∷ drop 2 t) f.is;
  first_gate = f.first_gate;
}

-- the mark after the first gate, and a closed gate in front of the second half
pub marked_ready : (gate far : ℕ) (first second odd rest : List ℕ) → gate ≢ 0xA5 → far ≢ 0xA5
    → length (gate ∷ 0x4d ∷ 0x49 ∷ 0x47 ∷ 0x32 ∷ first) ≡ length (far ∷ second) → length odd < 2
    → IsReady ((gate ∷ 0x4d ∷ 0x49 ∷ 0x47 ∷ 0x32 ∷ first) ++ ((far ∷ second) ++ odd)) rest
marked_ready gate far first second odd rest closed far_closed equal few = record {
  first = gate ∷ 0x4d ∷ 0x49 ∷ 0x47 ∷ 0x32 ∷ first;
  second = far ∷ second;
  halves = record { equal = equal; last = odd; odd = few; entire = refl };
  far_gate = (far, second, far_closed, refl);
  mark = (gate, (first ++ (far ∷ second ++ odd)) ++ rest, closed, refl);
}
