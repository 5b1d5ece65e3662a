-- The open takes in the live batches one by one.
use Rattle.std.proofs.Common.{◌≡◌, ℕ, zero, suc, ◌+◌, ◌<◌, List, [], ◌∷◌, ◌++◌, length, get_or, take, drop, set, map, refl, sym, ◌∙◌, ap, subst, arith, append_assoc}
use Rattle.std.specs.List.{All, AllByRecursion}
use Rattle.std.proofs.lemmas.List.{append-nil, take_more, map-append, length-set, drop-set-lt, drop_more, take_at, drop_at}
use Rattle.std.proofs.lemmas.List.Elements.{All-append, All-map, All-cons, All-nil}
use Rattle.std.proofs.lemmas.Grind.{flat_map-append}
use Rattle.sii_words.specs.declared.run.Run.{Run}
use Rattle.sii_words.specs.Redo.{redone, LiesInside}
use Rattle.sii_words.proofs.RedoLaws.{redone-append}
use Rattle.jrn_format.specs.declared.journal.Entry.{Entry}
use Rattle.jrn_format.specs.declared.journal.Batch.{Batch}
use Rattle.jrn_format.specs.Batch.{LiesWithin, LieWithin}
use Rattle.jrn_format.proofs.Within.{inside_plant}
use Rattle.jrn_format.specs.Halves.{live}
use Rattle.jrn_format.specs.Halves as places
use Rattle.jrn_format.specs.Live.{halves_in}
use Rattle.book_model.specs.Entries.{runs_of, entries_of, live_runs, sizes_of}
use Rattle.book_model.specs.Book.{Slave}
use Rattle.book_model.specs.Open.{owing_words, owing_slaves}
use Rattle.book_model.proofs.FitLaws.{runs_of-append, live_runs-append}
use Rattle.book_model.specs.Cells.{Cell}
use Rattle.book_parts.specs.Line.{LineState, AreOfLine, NeverFall, SameButRooms}
use Rattle.book_parts.proofs.OwingLaws.{owing_slaves-append, sizes-owing}
use Rattle.book_parts.specs.declared.spot.Spot.{Spot}
use Rattle.book_parts.specs.declared.spot.Spot.TheVariants.{InOlder, InNewer}
use Rattle.book_parts.specs.Spot.{as_place}
use Rattle.book_core.specs.Stands.{as_found, cell_counts}
use Rattle.book_core.specs.OpenedState.{AreFound, older_part, newer_part, Joined, TakenUp}
use Rattle.book_core.proofs.InsideLaws.{entries-inside, sizes-redone}

-- ---- each of them

pub all-at : {X : Type 0} (P : X → Type 0) (xs : List X) (k : ℕ) (d : X) → AllByRecursion P xs → k < length xs → P (get_or xs k d)
all-at {X} P [] k d all lt = absurd (omega arith)
all-at {X} P (x ∷ xs) zero d all lt = all.0
all-at {X} P (x ∷ xs) (suc k) d all lt = all-at P xs k d all.1 (omega arith)

pub all-take : {X : Type 0} (P : X → Type 0) (k : ℕ) (xs : List X) → AllByRecursion P xs → AllByRecursion P (take k xs)
all-take {X} P zero xs all = tt
all-take {X} P (suc k) [] all = tt
all-take {X} P (suc k) (x ∷ xs) all = (all.0, all-take P k xs all.1)

pub all-drop : {X : Type 0} (P : X → Type 0) (k : ℕ) (xs : List X) → AllByRecursion P xs → AllByRecursion P (drop k xs)
all-drop {X} P zero xs all = all
all-drop {X} P (suc k) [] all = tt
all-drop {X} P (suc k) (x ∷ xs) all = all-drop P k xs all.1

-- ---- the contents

runs-lie : (plant : List (List ℕ)) (runs : List Run) → AllByRecursion (LiesWithin (sizes_of plant)) runs → All (LiesInside plant) runs
runs-lie plant [] within = All-nil (LiesInside plant)
runs-lie plant (run ∷ runs) within = All-cons (LiesInside plant) run runs (inside_plant plant run within.0) (runs-lie plant runs within.1)

-- an entry's runs lie inside the contents, once others are redone
pub entry-lies : (plant : List (List ℕ)) (before : List Run) (entry : Entry) → LieWithin (sizes_of plant) entry → All (LiesInside (redone plant before)) entry.runs
entry-lies plant before entry within =
    runs-lie (redone plant before) entry.runs (subst (λ (s : List ℕ). AllByRecursion (LiesWithin s) entry.runs) (sym (sizes-redone plant before)) within)

pub runs-more : (entries : List Entry) (k : ℕ) (d : Entry) → k < length entries → runs_of (take (k + 1) entries) ≡ runs_of (take k entries) ++ (get_or entries k d).runs
runs-more entries k d within =
    ap runs_of (take_more entries k d within) ∙ runs_of-append (take k entries) (get_or entries k d ∷ []) ∙ ap (λ (l : List Run). runs_of (take k entries) ++ l) (append-nil (get_or entries k d).runs)

pub redone-more : (plant : List (List ℕ)) (entries : List Entry) (k : ℕ) (d : Entry) → k < length entries
    → redone (redone plant (runs_of (take k entries))) (get_or entries k d).runs ≡ redone plant (runs_of (take (k + 1) entries))
redone-more plant entries k d within = sym (redone-append plant (runs_of (take k entries)) (get_or entries k d).runs) ∙ ap (redone plant) (sym (runs-more entries k d within))

pub entries-more : (batches : List Batch) (k : ℕ) (d : Batch) → k < length batches → entries_of (take (k + 1) batches) ≡ entries_of (take k batches) ++ (get_or batches k d).entries
entries-more batches k d within =
    ap entries_of (take_more batches k d within) ∙ flat_map-append (λ (b : Batch). b.entries) (take k batches) (get_or batches k d ∷ [])
    ∙ ap (λ (l : List Entry). entries_of (take k batches) ++ l) (append-nil (get_or batches k d).entries)

pub redone-batch : (plant : List (List ℕ)) (batches : List Batch) (k : ℕ) (d : Batch) → k < length batches
    → redone (redone plant (live_runs (take k batches))) (runs_of (get_or batches k d).entries) ≡ redone plant (live_runs (take (k + 1) batches))
redone-batch plant batches k d within =
    sym (redone-append plant (live_runs (take k batches)) (runs_of (get_or batches k d).entries))
    ∙ ap (redone plant) (sym (ap runs_of (entries-more batches k d within) ∙ runs_of-append (entries_of (take k batches)) (get_or batches k d).entries))

-- ---- the entries go live

pub never-fall : (entries : List Entry) → All (λ (e : Entry). e.number ≡ 0) entries → NeverFall entries
never-fall entries all = λ i j d le lt. omega (arith, all i d (omega arith), all j d lt)

pub all-found : (entries : List Entry) → All (λ (e : Entry). e.number ≡ 0) (map as_found entries)
all-found entries = All-map (λ (e : Entry). e.number ≡ 0) as_found entries (λ k d lt. refl)

pub found-order : (line : LineState) (entries : List Entry) → AreFound line → NeverFall ((line.older ++ line.newer) ++ map as_found entries)
found-order line entries found =
    never-fall ((line.older ++ line.newer) ++ map as_found entries)
    (All-append (λ (e : Entry). e.number ≡ 0) (line.older ++ line.newer) (map as_found entries) (All-append (λ (e : Entry). e.number ≡ 0) line.older line.newer found.older found.newer) (all-found entries))

pub found-runs : (entries : List Entry) → runs_of (map as_found entries) ≡ runs_of entries
found-runs [] = refl
found-runs (e ∷ es) = ap (λ (l : List Run). e.runs ++ l) (found-runs es)

owing_words-none : (slave at : ℕ) (cells : List Cell) → owing_words [] slave at cells ≡ cells
owing_words-none slave at [] = refl
owing_words-none slave at (c ∷ cs) = ap (λ (l : List Cell). c ∷ l) (owing_words-none slave (suc at) cs)

owing_slaves-none : (slave : ℕ) (slaves : List Slave) → owing_slaves [] slave slaves ≡ slaves
owing_slaves-none slave [] = refl
owing_slaves-none slave (s ∷ ss) =
    ap (λ (l : List Cell). let t : Slave = record s { cells = l } in t ∷ owing_slaves [] (suc slave) ss) (owing_words-none slave 0 s.cells) ∙ ap (λ (l : List Slave). s ∷ l) (owing_slaves-none (suc slave) ss)

older-none : (spot : Spot) → older_part spot [] ≡ []
older-none InOlder = refl
older-none InNewer = refl

newer-none : (spot : Spot) → newer_part spot [] ≡ []
newer-none InOlder = refl
newer-none InNewer = refl

older-both : (spot : Spot) (xs ys : List Entry) → older_part spot (xs ++ ys) ≡ older_part spot xs ++ older_part spot ys
older-both InOlder xs ys = refl
older-both InNewer xs ys = refl

newer-both : (spot : Spot) (xs ys : List Entry) → newer_part spot (xs ++ ys) ≡ newer_part spot xs ++ newer_part spot ys
newer-both InOlder xs ys = refl
newer-both InNewer xs ys = refl

pub joined-none : (spot : Spot) (line : LineState) → Joined spot [] line line
joined-none spot line = record {
  slaves = sym (owing_slaves-none 0 line.slaves);
  older = sym (append-nil line.older) ∙ ap (λ (l : List Entry). line.older ++ l) (sym (older-none spot));
  newer = sym (append-nil line.newer) ∙ ap (λ (l : List Entry). line.newer ++ l) (sym (newer-none spot));
}

pub joined-more : (spot : Spot) (xs ys : List Entry) (old mid new : LineState) → Joined spot xs old mid → Joined spot ys mid new → Joined spot (xs ++ ys) old new
joined-more spot xs ys old mid new one two = record {
  slaves = two.slaves ∙ ap (owing_slaves (runs_of ys) 0) one.slaves ∙ sym (owing_slaves-append (runs_of xs) (runs_of ys) 0 old.slaves) ∙ ap (λ (l : List Run). owing_slaves l 0 old.slaves) (sym (runs_of-append xs ys));
  older = two.older ∙ ap (λ (l : List Entry). l ++ older_part spot ys) one.older ∙ append_assoc old.older (older_part spot xs) (older_part spot ys) ∙ ap (λ (l : List Entry). old.older ++ l) (sym (older-both spot xs ys));
  newer = two.newer ∙ ap (λ (l : List Entry). l ++ newer_part spot ys) one.newer ∙ append_assoc old.newer (newer_part spot xs) (newer_part spot ys) ∙ ap (λ (l : List Entry). old.newer ++ l) (sym (newer-both spot xs ys));
}

pub joined-older : (old mid : LineState) (entries : List Entry) (new : LineState) → SameButRooms old mid → new.slaves ≡ owing_slaves (runs_of entries) 0 mid.slaves → new.older ≡ mid.older ++ entries → new.newer ≡ mid.newer → Joined InOlder entries old new
joined-older old mid entries new kept slaves older newer = record {
  slaves = slaves ∙ ap (owing_slaves (runs_of entries) 0) kept.slaves;
  older = older ∙ ap (λ (l : List Entry). l ++ entries) kept.older;
  newer = newer ∙ kept.newer ∙ sym (append-nil old.newer);
}

pub joined-newer : (old mid : LineState) (entries : List Entry) (new : LineState) → SameButRooms old mid → new.slaves ≡ owing_slaves (runs_of entries) 0 mid.slaves → new.older ≡ mid.older → new.newer ≡ mid.newer ++ entries → Joined InNewer entries old new
joined-newer old mid entries new kept slaves older newer = record {
  slaves = slaves ∙ ap (owing_slaves (runs_of entries) 0) kept.slaves;
  older = older ∙ kept.older ∙ sym (append-nil old.older);
  newer = newer ∙ ap (λ (l : List Entry). l ++ entries) kept.newer;
}

-- ---- what holds of the line again

pub still-alone : (spot : Spot) (entries : List Entry) (old new : LineState) → Joined spot entries old new → (as_place spot ≡ places.InOlder → old.newer ≡ []) → as_place spot ≡ places.InOlder → new.newer ≡ []
still-alone InOlder entries old new joined alone is = joined.newer ∙ append-nil old.newer ∙ alone is
still-alone InNewer entries old new joined alone is = absurd (cc is)

pub still-found : (spot : Spot) (entries : List Entry) (old new : LineState) → AreFound old → Joined spot (map as_found entries) old new → AreFound new
still-found InOlder entries old new found joined = record {
  older = subst (All (λ (e : Entry). e.number ≡ 0)) (sym joined.older) (All-append (λ (e : Entry). e.number ≡ 0) old.older (map as_found entries) found.older (all-found entries));
  newer = subst (All (λ (e : Entry). e.number ≡ 0)) (sym (joined.newer ∙ append-nil old.newer)) found.newer;
}
still-found InNewer entries old new found joined = record {
  older = subst (All (λ (e : Entry). e.number ≡ 0)) (sym (joined.older ∙ append-nil old.older)) found.older;
  newer = subst (All (λ (e : Entry). e.number ≡ 0)) (sym joined.newer) (All-append (λ (e : Entry). e.number ≡ 0) old.newer (map as_found entries) found.newer (all-found entries));
}

-- the counts of cells stay, so the next batch names words of the line
pub still-inside : (spot : Spot) (xs entries : List Entry) (old new : LineState) → Joined spot xs old new → AllByRecursion (LieWithin (cell_counts old.slaves)) entries → AreOfLine new.slaves (runs_of (map as_found entries))
still-inside spot xs entries old new joined within =
    subst (AreOfLine new.slaves) (sym (found-runs entries))
    (entries-inside new.slaves (cell_counts old.slaves) entries (ap cell_counts joined.slaves ∙ sizes-owing (runs_of xs) 0 old.slaves) within)

-- ---- the batches one by one

-- the batches from a place on are as they were
pub record IsAhead (spot : Spot) (batches now : List Batch) (old new : LineState) (at : ℕ) : Type 0 where
  pub same : length now ≡ length batches
  pub rest : drop at now ≡ drop at batches
  pub joined : Joined spot (map as_found (entries_of (take at batches))) old new

ahead-both : (batches now : List Batch) (at : ℕ) (d : Batch) → length now ≡ length batches → drop at now ≡ drop at batches → at < length batches
    → (get_or now at d ≡ get_or batches at d) × (drop (at + 1) now ≡ drop (at + 1) batches)
ahead-both batches now at d same rest within =
    let one : get_or now at d ∷ drop (at + 1) now ≡ get_or batches at d ∷ drop (at + 1) batches = sym (drop_more now at d (omega (arith, same))) ∙ rest ∙ drop_more batches at d within in
    (cc, cc)

pub ahead-batch : (spot : Spot) (batches now : List Batch) (old new : LineState) (at : ℕ) (d : Batch) → IsAhead spot batches now old new at → at < length batches → get_or now at d ≡ get_or batches at d
ahead-batch spot batches now old new at d ahead within = (ahead-both batches now at d ahead.same ahead.rest within).0

pub ahead-more : (spot : Spot) (batches now : List Batch) (old mid new : LineState) (at : ℕ) (d left : Batch) (entries : List Entry) → IsAhead spot batches now old mid at → at < length batches
    → entries ≡ map as_found (get_or batches at d).entries → Joined spot entries mid new → IsAhead spot batches (set now at left) old new (at + 1)
ahead-more spot batches now old mid new at d left entries ahead within is joined = record {
  same = length-set now at left ∙ ahead.same;
  rest = drop-set-lt (at + 1) now at left (omega arith) ∙ (ahead-both batches now at d ahead.same ahead.rest within).1;
  joined = subst (λ (l : List Entry). Joined spot l old new)
      (ap (λ (l : List Entry). map as_found (entries_of (take at batches)) ++ l) is ∙ sym (map-append as_found (entries_of (take at batches)) (get_or batches at d).entries) ∙ ap (map as_found) (sym (entries-more batches at d within)))
      (joined-more spot (map as_found (entries_of (take at batches))) entries old mid new ahead.joined joined);
}

-- ---- the halves

pub older-first : (batches : List Batch) (count : ℕ) → live (halves_in batches) ≡ batches → count ≡ length (halves_in batches).older → take count batches ≡ (halves_in batches).older
older-first batches count all is = ap (take count) (sym all) ∙ take_at (halves_in batches).older (halves_in batches).newer count (sym is)

pub newer-after : (batches : List Batch) (count : ℕ) → live (halves_in batches) ≡ batches → count ≡ length (halves_in batches).older → drop count batches ≡ (halves_in batches).newer
newer-after batches count all is = ap (drop count) (sym all) ∙ drop_at (halves_in batches).older (halves_in batches).newer count (sym is)

pub none-found : (line : LineState) → line.older ≡ [] → line.newer ≡ [] → AreFound line
none-found line older newer = record {
  older = subst (All (λ (e : Entry). e.number ≡ 0)) (sym older) (All-nil (λ (e : Entry). e.number ≡ 0));
  newer = subst (All (λ (e : Entry). e.number ≡ 0)) (sym newer) (All-nil (λ (e : Entry). e.number ≡ 0));
}

pub counts-stay : (spot : Spot) (entries : List Entry) (old new : LineState) → Joined spot entries old new → cell_counts new.slaves ≡ cell_counts old.slaves
counts-stay spot entries old new joined = ap cell_counts joined.slaves ∙ sizes-owing (runs_of entries) 0 old.slaves

pub taken-up : (batches xs ys : List Batch) (old mid new : LineState) → xs ≡ (halves_in batches).older → ys ≡ (halves_in batches).newer → live (halves_in batches) ≡ batches
    → Joined InOlder (map as_found (entries_of xs)) old mid → Joined InNewer (map as_found (entries_of ys)) mid new → TakenUp batches old new
taken-up batches xs ys old mid new xs_is ys_is all one two = record {
  slaves = two.slaves ∙ ap (owing_slaves (runs_of (map as_found (entries_of ys))) 0) one.slaves
      ∙ sym (owing_slaves-append (runs_of (map as_found (entries_of xs))) (runs_of (map as_found (entries_of ys))) 0 old.slaves)
      ∙ ap (λ (l : List Run). owing_slaves (l ++ runs_of (map as_found (entries_of ys))) 0 old.slaves) (found-runs (entries_of xs) ∙ ap live_runs xs_is)
      ∙ ap (λ (l : List Run). owing_slaves (live_runs (halves_in batches).older ++ l) 0 old.slaves) (found-runs (entries_of ys) ∙ ap live_runs ys_is)
      ∙ ap (λ (l : List Run). owing_slaves l 0 old.slaves) (sym (live_runs-append (halves_in batches).older (halves_in batches).newer) ∙ ap live_runs all);
  older = two.older ∙ append-nil mid.older ∙ one.older ∙ ap (λ (l : List Batch). old.older ++ map as_found (entries_of l)) xs_is;
  newer = two.newer ∙ ap (λ (l : List Entry). l ++ map as_found (entries_of ys)) (one.newer ∙ append-nil old.newer) ∙ ap (λ (l : List Batch). old.newer ++ map as_found (entries_of l)) ys_is;
}
