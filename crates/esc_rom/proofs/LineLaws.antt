-- The slaves of a line are opened and read, one after another.
use Rattle.std.proofs.Common.{◌≡◌, ℕ, ◌+◌, ◌<◌, ◌≤◌, List, [], ◌∷◌, ◌++◌, length, length-set, map, take, slice_index, Result, Ok, Err, IsTrue, refl, sym, ap, subst, ◌∙◌, inl, inr, arith}
use Rattle.std.specs.List.{AllByRecursion}
use Rattle.std.proofs.lemmas.List.{map-append, take_all, take_more_set}
use Rattle.std.proofs.lemmas.Bool.Decides.{eqb_tells}
use Rattle.std.proofs.lemmas.Option.{slice_get_within}
use Rattle.esc_model.specs.SlaveHalf.{SlaveHalf}
use Rattle.esc_model.specs.WordAccess.{IsIdle}
use Rattle.esc_model.proofs.Resting.{MayLeave-same}
use Rattle.site_core.specs.State.{State, Seen, EachMayLeave}
use Rattle.site_core.proofs.StopImages.{StopImage-same}
use Rattle.site_core.proofs.Counts.{counts-left, words-idle}
use Rattle.site_core.specs.Times.{Follows}
use Rattle.site_core.proofs.Times.{Follows-then}
use Rattle.esc_rom.specs.declared.fault.RomFault.{RomFault}
use Rattle.esc_rom.specs.declared.fault.RomFault.TheVariants as rom
use Rattle.esc_rom.specs.Runs.{Quiet}
use Rattle.esc_rom.proofs.Runs.{Quiet-none, Quiet-then}
use Rattle.esc_rom.specs.Reading.{most_calls, ReadsSlave, WasRead, WereRead, ReadsLine, Dies, EndsLine}
use Rattle.esc_rom.proofs.Counting.{calls_more, calls_within}
use Rattle.sii_words.proofs.Quantifiers.{all_append}

-- the first `count` slaves were read, and these are their words
pub record FirstRead (count : ℕ) (plant : List (List ℕ)) (sizes : List ℕ) (old now : Seen) : Type 0 where
  pub quiet : Quiet old (most_calls (take count sizes)) now
  pub were_read : WereRead sizes count old now
  pub words : plant ≡ map (λ (half : SlaveHalf). half.words) (take count now.state.halves)
  pub idle : AllByRecursion IsIdle (take count now.state.halves)
  pub there : length now.state.halves ≡ length old.state.halves
  pub disk : now.state.disk ≡ old.state.disk
  pub going : 0 < count → ¬ IsTrue now.is_stopped

no_halves : (halves : List SlaveHalf) → take 0 halves ≡ []
no_halves [] = refl
no_halves (half ∷ halves) = refl

pub first_none : (sizes : List ℕ) (seen : Seen) → FirstRead 0 [] sizes seen seen
first_none sizes seen = record {
  quiet = Quiet-none seen (most_calls (take 0 sizes));
  were_read = λ slave below. absurd (omega arith);
  words = sym (ap (λ (hs : List SlaveHalf). map (λ (half : SlaveHalf). half.words) hs) (no_halves seen.state.halves));
  idle = subst (λ (hs : List SlaveHalf). AllByRecursion IsIdle hs) (sym (no_halves seen.state.halves)) tt;
  there = refl;
  disk = refl;
  going = λ some. absurd (omega arith);
}

read_later : (slave size : ℕ) (a b c : Seen) → WasRead slave size a b → Follows b c → WasRead slave size a c
read_later slave size a b c was follows = record {
  before = was.before;
  follows = was.follows;
  opened = was.opened;
  opens = was.opens;
  words = was.words;
  read = was.read;
  reads = was.reads;
  after = Follows-then was.read b c was.after follows;
}

read_after : (slave size : ℕ) (a b c : Seen) → Follows a b → WasRead slave size b c → WasRead slave size a c
read_after slave size a b c follows was = record {
  before = was.before;
  follows = Follows-then a b was.before follows was.follows;
  opened = was.opened;
  opens = was.opens;
  words = was.words;
  read = was.read;
  reads = was.reads;
  after = was.after;
}

read_more : (sizes : List ℕ) (a b c : Seen) (count : ℕ) → WereRead sizes count a b → Follows a b → Follows b c → WasRead count (slice_index sizes count) b c → WereRead sizes (count + 1) a c
read_more sizes a b c count first to_it after last slave below = elim (eqb_tells slave count) [
  | inl same ↦ subst (λ (s : ℕ). WasRead s (slice_index sizes s) a c) (sym same.1) (read_after count (slice_index sizes count) a b c to_it last)
  | inr other ↦ read_later slave (slice_index sizes slave) a b c (first slave (let not = other.1 in omega arith)) after
]

-- one more
pub first_more : (sizes : List ℕ) (count : ℕ) (plant : List (List ℕ)) (words : List ℕ) (a b c : Seen) → count < length sizes → FirstRead count plant sizes a b
    → ReadsSlave count (slice_index sizes count) b (Ok words) c → FirstRead (count + 1) (plant ++ words ∷ []) sizes a c
first_more sizes count plant words a b c inside first reads =
    let goes = reads.read in
    let later = goes.later in
    let front : take (count + 1) c.state.halves ≡ take count b.state.halves ++ later ∷ [] =
    ap (λ (s : State). take (count + 1) s.halves) goes.new_is ∙ take_more_set b.state.halves count later (slice_get_within b.state.halves count goes.half goes.here) in
    record {
      quiet = Quiet-then (let more = calls_more sizes count inside in omega arith) first.quiet reads.quiet;
      were_read = read_more sizes a b c count first.were_read first.quiet.follows reads.quiet.follows reads.was_read;
      words = let last : words ≡ later.words = sym goes.goes.2 in
          ap (λ (ws : List (List ℕ)). ws ++ words ∷ []) first.words
          ∙ ap (λ (w : List ℕ). map (λ (half : SlaveHalf). half.words) (take count b.state.halves) ++ w ∷ []) last
          ∙ sym (map-append (λ (half : SlaveHalf). half.words) (take count b.state.halves) (later ∷ []))
          ∙ sym (ap (λ (hs : List SlaveHalf). map (λ (half : SlaveHalf). half.words) hs) front);
      idle = subst (λ (hs : List SlaveHalf). AllByRecursion IsIdle hs) (sym front) (all_append IsIdle (take count b.state.halves) (later ∷ []) first.idle (goes.goes.1, tt));
      there = ap (λ (s : State). length s.halves) goes.new_is ∙ length-set b.state.halves count later ∙ first.there;
      disk = ap (λ (s : State). s.disk) goes.new_is ∙ first.disk;
      going = λ some stops. let was = reads.stopped.0 stops in cc;
    }

-- a stop may leave the words as they are
own_words : (halves : List SlaveHalf) → EachMayLeave halves (map (λ (half : SlaveHalf). half.words) halves)
own_words [] = tt
own_words (half ∷ halves) = (MayLeave-same half, own_words halves)

-- and of all
pub all_read : {T : Type 0} (plant_of : T → List (List ℕ)) (value : T) (sizes : List ℕ) (count : ℕ) (a b : Seen) → count ≡ length sizes → length a.state.halves ≤ count → 0 < count
    → FirstRead count (plant_of value) sizes a b → ReadsLine plant_of sizes a (Ok value) b
all_read plant_of value sizes count a b all there some first =
    let halves : take count b.state.halves ≡ b.state.halves = take_all count b.state.halves (let long = first.there in omega arith) in
    let words : plant_of value ≡ map (λ (half : SlaveHalf). half.words) b.state.halves = first.words ∙ ap (λ (hs : List SlaveHalf). map (λ (half : SlaveHalf). half.words) hs) halves in
    let idle : AllByRecursion IsIdle b.state.halves = subst (λ (hs : List SlaveHalf). AllByRecursion IsIdle hs) halves first.idle in
    record {
      were_read = λ slave inside. first.were_read slave (omega arith);
      quiet = subst (λ (ss : List ℕ). Quiet a (most_calls ss) b) (take_all count sizes (omega arith)) first.quiet;
      read = record {
        words = words;
        idle = idle;
        only = λ pair leaves. words-idle b.state.halves pair.words idle leaves.words ∙ sym words;
        counts = ap (λ (ws : List (List ℕ)). map (λ (w : List ℕ). length w) ws) words
            ∙ counts-left a.state.halves (map (λ (half : SlaveHalf). half.words) b.state.halves)
            (first.quiet.adds.passes.now (record { disk = b.state.disk.bytes; words = map (λ (half : SlaveHalf). half.words) b.state.halves })
            (record { disk = StopImage-same b.state.disk; words = own_words b.state.halves })).words;
        disk = first.disk;
      };
      faults = tt;
      stopped = (λ stops. absurd (first.going some stops), λ was. absurd cc);
    }

same_fault : {T : Type 0} (fault other : RomFault) (result : Result T RomFault) → result ≡ Err fault → result ≡ Err other → fault ≡ other
same_fault fault other result is also = cc

-- one of them isn't read
pub line_fails : {T : Type 0} (plant_of : T → List (List ℕ)) (sizes : List ℕ) (count : ℕ) (plant : List (List ℕ)) (fault : RomFault) (a b c : Seen) → count < length sizes → FirstRead count plant sizes a b
    → ReadsSlave count (slice_index sizes count) b (Err fault) c → ReadsLine plant_of sizes a (Err fault) c
line_fails plant_of sizes count plant fault a b c inside first reads = record {
  quiet = Quiet-then (calls_within sizes count inside) first.quiet reads.quiet;
  were_read = tt;
  read = tt;
  faults = ends fault reads;
  stopped = (λ stops. ap Err (same_fault fault rom.Stopped (Err fault) refl (reads.stopped.0 stops)), λ was. reads.stopped.1 (ap Err (same_fault fault rom.Stopped (Err fault) refl was)));
}
  where
    ends : (given : RomFault) → ReadsSlave count (slice_index sizes count) b (Err given) c → EndsLine sizes a given c
    ends rom.Memory so = tt
    ends rom.Stopped so = tt
    ends (rom.SlaveDead dead) so =
        subst (λ (d : ℕ). Dies sizes d a c) (sym so.faults.0) (record { inside = inside; reached = b; before = first.quiet; first = first.were_read; gives_up = so.faults.1 })

-- memory is refused after one
pub line_refused : {T : Type 0} (plant_of : T → List (List ℕ)) (sizes : List ℕ) (count : ℕ) (plant : List (List ℕ)) (words : List ℕ) (a b c : Seen) → count < length sizes → FirstRead count plant sizes a b
    → ReadsSlave count (slice_index sizes count) b (Ok words) c → ReadsLine plant_of sizes a (Err rom.Memory) c
line_refused plant_of sizes count plant words a b c inside first reads = record {
  quiet = Quiet-then (calls_within sizes count inside) first.quiet reads.quiet;
  were_read = tt;
  read = tt;
  faults = tt;
  stopped = (λ stops. let was = reads.stopped.0 stops in absurd cc, λ was. absurd cc);
}
