-- What fits into its fields, from what holds of each part.
use Rattle.std.proofs.Common.{◌≡◌, ℕ, ◌+◌, ◌<◌, ◌≤◌, ◌^◌, List, [], ◌∷◌, ◌++◌, length, take, get_or, ap, sym, subst, ◌∙◌, append_assoc}
use Rattle.std.specs.Prelude.{All}
use Rattle.std.specs.List.{AllByRecursion, flat_map}
use Rattle.std.proofs.lemmas.List.{take_all, take_more, flat_map_more}
use Rattle.std.proofs.lemmas.List.Elements.{All-head, All-tail}
use Rattle.sii_words.specs.declared.run.Run.{Run}
use Rattle.jrn_format.specs.declared.journal.Entry.{Entry}
use Rattle.jrn_format.specs.Batch.{RunFits, EntryFits, PayloadFits, IsCountedRun, AreCountedRuns, AreCounted}

each : {X : Type 0} (P : X → Type 0) (xs : List X) → All P xs → AllByRecursion P xs
each P [] all = tt
each P (x ∷ xs) all = (All-head P x xs all, each P xs (All-tail P x xs all))

-- all of them, where a loop has come to their end
all_of : {X : Type 0} (P : X → Type 0) (xs : List X) (i : ℕ) → length xs ≤ i → All P (take i xs) → AllByRecursion P xs
all_of P xs i end all = each P xs (subst (All P) (take_all i xs end) all)

pub run_fits : (run : Run) (i : ℕ) → run.slave < 2 ^ 16 → run.first < 2 ^ 16 → IsCountedRun run → length run.words ≤ i → All (λ word. word < 2 ^ 16) (take i run.words) → RunFits run
run_fits run i slave first counted end all = record { slave = slave; first = first; some = counted.0; count = counted.1; words = all_of (λ (word : ℕ). word < 2 ^ 16) run.words i end all }

pub entry_fits : (entry : Entry) (i : ℕ) → entry.number < 2 ^ 64 → AreCountedRuns entry.runs → length entry.runs ≤ i → All RunFits (take i entry.runs) → EntryFits entry
entry_fits entry i number counted end all = record { number = number; count = counted.0; runs = all_of RunFits entry.runs i end all }

pub payload_fits : (entries : List Entry) (i : ℕ) → AreCounted entries → length entries ≤ i → All EntryFits (take i entries) → PayloadFits entries
payload_fits entries i counted end all = record { some = counted.some; count = counted.count; each = all_of EntryFits entries i end all; bytes = counted.bytes }

-- ---- what is spelt so far, and one item more

pub spelt_more : {X : Type 0} (spell : X → List ℕ) (front now new : List ℕ) (xs : List X) (i : ℕ) (x d : X) → i < length xs → x ≡ get_or xs i d
    → now ≡ front ++ flat_map spell (take i xs) → new ≡ now ++ spell x → new ≡ front ++ flat_map spell (take (i + 1) xs)
spelt_more {X = X} spell front now new xs i x d lt is so_far more =
    more ∙ ap (λ (bytes : List ℕ). bytes ++ spell x) so_far ∙ flat_map_more spell front (take i xs) x
    ∙ ap (λ (ys : List X). front ++ flat_map spell ys) (ap (λ (y : X). take i xs ++ y ∷ []) is ∙ sym (take_more xs i d lt))

-- one part after another
pub spelt_after : (old : List ℕ) {mid new : List ℕ} (first second : List ℕ) → mid ≡ old ++ first → new ≡ mid ++ second → new ≡ old ++ (first ++ second)
spelt_after old first second so_far more = more ∙ ap (λ (bytes : List ℕ). bytes ++ second) so_far ∙ append_assoc old first second
