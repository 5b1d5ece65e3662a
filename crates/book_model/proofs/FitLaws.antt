-- Redo of what a power cut leaves gives the contents, and the steps of the book keep Fits true.
use Rattle.std.proofs.Common.{◌≡◌, ◌≢◌, ◌⊎◌, inl, inr, ℕ, zero, suc, ◌+◌, ◌<◌, ◌≤◌, List, [], ◌∷◌, ◌++◌, length, get_or, set, take, drop, refl, sym, ◌∙◌, ap, subst, arith, append_assoc, add-zero, zero-add, add-suc, suc-add}
use Rattle.std.proofs.lemmas.List.{append-nil, get_or-set_same, get_or-set_other}
use Rattle.std.proofs.lemmas.List.Concat.{flat_map-append}
use Rattle.std.proofs.lemmas.Bool.{cases_eq}
use Rattle.sii_words.specs.declared.run.Run.{Run}
use Rattle.sii_words.specs.Redo.{redone}
use Rattle.jrn_format.specs.declared.journal.Entry.{Entry}
use Rattle.jrn_format.specs.declared.journal.Batch.{Batch}
use Rattle.book_model.specs.Cells.{Cell, owing, opened, nothing}
use Rattle.book_model.specs.Entries.{runs_of, entries_of, live_runs, values}
use Rattle.book_model.specs.Book.{cell_at}
use Rattle.book_model.specs.Open.{owing_words}
use Rattle.book_model.specs.Owed.{redone_word, CellFits, due}
use Rattle.book_model.specs.Plants.{word_at, EachWord, MayHoldAll, AllFit, AllSettled}
use Rattle.jrn_format.specs.Halves.{Halves, Place, InOlder, InNewer, live, with_batch, batch_in, retired, left_of}
use Rattle.book_model.specs.Fits.{after_entries, owing_from, owing_all, with_cell, Fits, SameCells}
use Rattle.sii_words.proofs.RedoLaws.{redone-append, redone-nil}
use Rattle.book_model.proofs.CellLaws.{redone-due, values-append, due-append, owing-fits, opened-fits}
use Rattle.book_model.proofs.PlantLaws.{plant-leads, plant-leads-retired, all-fit-retired}
use Rattle.jrn_format.proofs.HalvesLaws.{with_batch-live}

pub runs_of-append : (xs ys : List Entry) → runs_of (xs ++ ys) ≡ runs_of xs ++ runs_of ys
runs_of-append xs ys = flat_map-append (λ (e : Entry). e.runs) xs ys

pub live_runs-append : (xs ys : List Batch) → live_runs (xs ++ ys) ≡ live_runs xs ++ live_runs ys
live_runs-append xs ys = ap runs_of (flat_map-append (λ (b : Batch). b.entries) xs ys) ∙ runs_of-append (entries_of xs) (entries_of ys)

live_runs-one : (batch : Batch) → live_runs (batch ∷ []) ≡ runs_of batch.entries
live_runs-one batch = ap runs_of (append-nil batch.entries)

take-more : (n m : ℕ) (xs : List Entry) → take (n + m) xs ≡ take n xs ++ take m (drop n xs)
take-more zero m xs = rw zero-add refl
take-more (suc n) m [] = rw suc-add (sym (take_nothing m))
  where
    take_nothing : (m : ℕ) → take {A = Entry} m [] ≡ []
    take_nothing zero = refl
    take_nothing (suc m) = refl
take-more (suc n) m (x ∷ xs) = rw suc-add (ap (λ (l : List Entry). x ∷ l) (take-more n m xs))

-- the contents after the next commands too
contents-more : (base : List (List ℕ)) (own next : List Entry) (durable : ℕ) → take (length next) (drop durable own) ≡ next
    → after_entries base own (durable + length next) ≡ redone (after_entries base own durable) (runs_of next)
contents-more base own next durable is =
    ap (λ (l : List Entry). redone base (runs_of l)) (take-more durable (length next) own ∙ ap (λ (l : List Entry). take durable own ++ l) is)
    ∙ ap (redone base) (runs_of-append (take durable own) next) ∙ redone-append base (runs_of (take durable own)) (runs_of next)

module _ (plant base : List (List ℕ)) (own : List Entry) (durable : ℕ) (halves : Halves) (cells : List (List Cell)) (gone : List Run) (up : Fits plant base own durable halves cells gone) where
  -- KEPT: all live batches
  pub kept-live : (left : List (List ℕ)) → MayHoldAll plant cells left → redone left (live_runs (live halves)) ≡ after_entries base own durable
  kept-live left may = plant-leads plant gone (live_runs (live halves)) cells left up.fit may ∙ sym up.contents

  -- and the one whose gate is being opened
  pub kept-next : (batch : Batch) → take (length batch.entries) (drop durable own) ≡ batch.entries → (left : List (List ℕ)) → MayHoldAll plant cells left
      → redone left (live_runs (live halves ++ batch ∷ [])) ≡ after_entries base own (durable + length batch.entries)
  kept-next batch is left may =
      ap (redone left) (live_runs-append (live halves) (batch ∷ []) ∙ ap (λ (l : List Run). live_runs (live halves) ++ l) (live_runs-one batch))
      ∙ redone-append left (live_runs (live halves)) (runs_of batch.entries)
      ∙ ap (λ (p : List (List ℕ)). redone p (runs_of batch.entries)) (kept-live left may)
      ∙ sym (contents-more base own batch.entries durable is)

  -- or the newer half alone, where the older one is settled
  pub kept-newer : AllSettled plant (live_runs halves.newer) cells → (left : List (List ℕ)) → MayHoldAll plant cells left → redone left (live_runs halves.newer) ≡ after_entries base own durable
  kept-newer settled left may =
      let split = live_runs-append halves.older halves.newer in
      let fit : AllFit plant gone (live_runs halves.older ++ live_runs halves.newer) cells = subst (λ (l : List Run). AllFit plant gone l cells) split up.fit in
      plant-leads-retired plant gone (live_runs halves.older) (live_runs halves.newer) cells left fit settled may
      ∙ ap (λ (l : List Run). redone plant (gone ++ l)) (sym split) ∙ sym up.contents

  -- STEPS: the older half is retired
  pub step-retired : AllSettled plant (live_runs halves.newer) cells → Fits plant base own durable (retired halves) cells (gone ++ live_runs halves.older)
  step-retired settled =
      let split = live_runs-append halves.older halves.newer in
      let fit : AllFit plant gone (live_runs halves.older ++ live_runs halves.newer) cells = subst (λ (l : List Run). AllFit plant gone l cells) split up.fit in
      let is : live (retired halves) ≡ halves.newer = left-live halves.newer in
      record {
        contents = up.contents ∙ ap (λ (l : List Run). redone plant (gone ++ l)) split ∙ ap (redone plant) (sym (append_assoc gone (live_runs halves.older) (live_runs halves.newer)))
            ∙ ap (λ (l : List Batch). redone plant ((gone ++ live_runs halves.older) ++ live_runs l)) (sym is);
        durable_few = up.durable_few;
        fit = subst (λ (l : List Batch). AllFit plant (gone ++ live_runs halves.older) (live_runs l) cells) (sym is) (all-fit-retired plant gone (live_runs halves.older) (live_runs halves.newer) cells fit settled);
      }
    where
      left-live : (newer : List Batch) → live (left_of halves newer) ≡ newer
      left-live [] = refl
      left-live (b ∷ newer) = append-nil (b ∷ newer)

-- A BATCH BECOMES LIVE

owing_word_at : (runs : List Run) (slave at : ℕ) (cells : List Cell) (k : ℕ) → k < length cells → get_or (owing_words runs slave at cells) k nothing ≡ owing (get_or cells k nothing) (values runs slave (at + k))
owing_word_at runs slave at [] k within = absurd (omega arith)
owing_word_at runs slave at (cell ∷ cells) zero within = rw add-zero refl
owing_word_at runs slave at (cell ∷ cells) (suc k) within = rw (add-suc at k, ← suc-add at k) (owing_word_at runs slave (suc at) cells k (omega arith))

owing_slave_at : (runs : List Run) (first : ℕ) (cells : List (List Cell)) (slave : ℕ) → slave < length cells → get_or (owing_from runs first cells) slave [] ≡ owing_words runs (first + slave) 0 (get_or cells slave [])
owing_slave_at runs first [] slave within = absurd (omega arith)
owing_slave_at runs first (words ∷ cells) zero within = rw add-zero refl
owing_slave_at runs first (words ∷ cells) (suc slave) within = rw (add-suc first slave, ← suc-add first slave) (owing_slave_at runs (suc first) cells slave (omega arith))

cell_at-owing : (runs : List Run) (cells : List (List Cell)) (slave at : ℕ) → slave < length cells → at < length (get_or cells slave []) → cell_at (owing_all runs cells) slave at ≡ owing (cell_at cells slave at) (values runs slave at)
cell_at-owing runs cells slave at within inside =
    ap (λ (l : List Cell). get_or l at nothing) (rw zero-add at (owing_slave_at runs 0 cells slave within))
    ∙ rw zero-add at (owing_word_at runs slave 0 (get_or cells slave []) at inside)

redone_word-append : (xs ys : List Run) (slave at word : ℕ) → redone_word (xs ++ ys) slave at word ≡ redone_word ys slave at (redone_word xs slave at word)
redone_word-append xs ys slave at word =
    redone-due (xs ++ ys) slave at word ∙ ap (due word) (values-append xs ys slave at) ∙ due-append word (values xs slave at) (values ys slave at)
    ∙ ap (λ (w : ℕ). due w (values ys slave at)) (sym (redone-due xs slave at word)) ∙ sym (redone-due ys slave at (redone_word xs slave at word))

all-fit-more : (plant : List (List ℕ)) (gone lives runs : List Run) (cells : List (List Cell)) → SameCells plant cells → AllFit plant gone lives cells → AllFit plant gone (lives ++ runs) (owing_all runs cells)
all-fit-more plant gone lives runs cells same fit = λ slave at within inside.
    let target = redone_word (gone ++ lives) slave at (word_at plant slave at) in
    let more = owing-fits lives runs slave at target (cell_at cells slave at) (fit slave at within inside) in
    let is : redone_word runs slave at target ≡ redone_word (gone ++ (lives ++ runs)) slave at (word_at plant slave at) =
    sym (redone_word-append (gone ++ lives) runs slave at (word_at plant slave at)) ∙ ap (λ (l : List Run). redone_word l slave at (word_at plant slave at)) (append_assoc gone lives runs) in
    let here : cell_at (owing_all runs cells) slave at ≡ owing (cell_at cells slave at) (values runs slave at) = cell_at-owing runs cells slave at (omega (arith, same.slaves)) (omega (arith, same.words slave)) in
    subst (λ (c : Cell). CellFits (lives ++ runs) slave at (redone_word (gone ++ (lives ++ runs)) slave at (word_at plant slave at)) c) (sym here)
    (subst (λ (t : ℕ). CellFits (lives ++ runs) slave at t (owing (cell_at cells slave at) (values runs slave at))) is more)

pub entries-in : (halves : Halves) (place : Place) (entries : List Entry) → (batch_in halves place entries).entries ≡ entries
entries-in halves InOlder entries = refl
entries-in halves InNewer entries = refl

pub step-appended : (plant base : List (List ℕ)) (own : List Entry) (durable : ℕ) (halves : Halves) (cells : List (List Cell)) (gone : List Run) (place : Place) (entries : List Entry)
    → Fits plant base own durable halves cells gone → SameCells plant cells → (place ≡ InOlder → halves.newer ≡ []) → take (length entries) (drop durable own) ≡ entries → durable + length entries ≤ length own
    → Fits plant base own (durable + length entries) (with_batch halves place (batch_in halves place entries)) (owing_all (runs_of entries) cells) gone
step-appended plant base own durable halves cells gone place entries up same in_older is few =
    let batch = batch_in halves place entries in
    let lives = live_runs (live halves) in
    let all : live_runs (live (with_batch halves place batch)) ≡ lives ++ runs_of entries =
    ap live_runs (with_batch-live halves place batch in_older) ∙ live_runs-append (live halves) (batch ∷ []) ∙ ap (λ (l : List Run). lives ++ l) (live_runs-one batch ∙ ap runs_of (entries-in halves place entries)) in
    record {
      contents = contents-more base own entries durable is ∙ ap (λ (p : List (List ℕ)). redone p (runs_of entries)) up.contents ∙ sym (redone-append plant (gone ++ lives) (runs_of entries))
          ∙ ap (redone plant) (append_assoc gone lives (runs_of entries) ∙ ap (λ (l : List Run). gone ++ l) (sym all));
      durable_few = few;
      fit = subst (λ (l : List Run). AllFit plant gone l (owing_all (runs_of entries) cells)) (sym all) (all-fit-more plant gone lives (runs_of entries) cells same up.fit);
    }

-- ONE CELL CHANGES

with_cell-other : (cells : List (List Cell)) (slave at k : ℕ) (cell : Cell) → slave < length cells → k ≢ at → cell_at (with_cell cells slave at cell) slave k ≡ cell_at cells slave k
with_cell-other cells slave at k cell within other =
    ap (λ (l : List Cell). get_or l k nothing) (get_or-set_same cells slave (set (get_or cells slave []) at cell) [] within) ∙ get_or-set_other (get_or cells slave []) at k cell nothing other

with_cell-here : (cells : List (List Cell)) (slave at : ℕ) (cell : Cell) → slave < length cells → at < length (get_or cells slave []) → cell_at (with_cell cells slave at cell) slave at ≡ cell
with_cell-here cells slave at cell within inside =
    ap (λ (l : List Cell). get_or l at nothing) (get_or-set_same cells slave (set (get_or cells slave []) at cell) [] within) ∙ get_or-set_same (get_or cells slave []) at cell nothing inside

pub step-cell : (plant base : List (List ℕ)) (own : List Entry) (durable : ℕ) (halves : Halves) (cells : List (List Cell)) (gone : List Run) (slave at : ℕ) (cell : Cell)
    → Fits plant base own durable halves cells gone → slave < length cells → at < length (get_or cells slave [])
    → ((target : ℕ) → CellFits (live_runs (live halves)) slave at target (cell_at cells slave at) → CellFits (live_runs (live halves)) slave at target cell)
    → Fits plant base own durable halves (with_cell cells slave at cell) gone
step-cell plant base own durable halves cells gone slave at cell up within inside step = record {
  contents = up.contents;
  durable_few = up.durable_few;
  fit = λ s k s_within k_inside. one s k (redone_word (gone ++ live_runs (live halves)) s k (word_at plant s k)) (up.fit s k s_within k_inside) (cases_eq s slave) (cases_eq k at);
}
  where
    one : (s k t : ℕ) → CellFits (live_runs (live halves)) s k t (cell_at cells s k) → (s ≡ slave) ⊎ (s ≢ slave) → (k ≡ at) ⊎ (k ≢ at) → CellFits (live_runs (live halves)) s k t (cell_at (with_cell cells slave at cell) s k)
    one s k t fit (inr other) there = rw (get_or-set_other cells slave s (set (get_or cells slave []) at cell) [] other) fit
    one s k t fit (inl same) (inr other) =
        let is : cell_at (with_cell cells slave at cell) s k ≡ cell_at cells s k = subst (λ (n : ℕ). cell_at (with_cell cells slave at cell) n k ≡ cell_at cells n k) (sym same) (with_cell-other cells slave at k cell within other) in
        subst (λ (c : Cell). CellFits (live_runs (live halves)) s k t c) (sym is) fit
    one s k t fit (inl same) (inl here) =
        let first : CellFits (live_runs (live halves)) slave k t (cell_at cells slave k) = subst (λ (n : ℕ). CellFits (live_runs (live halves)) n k t (cell_at cells n k)) same fit in
        let there : CellFits (live_runs (live halves)) slave at t (cell_at cells slave at) = subst (λ (n : ℕ). CellFits (live_runs (live halves)) slave n t (cell_at cells slave n)) here first in
        let done : CellFits (live_runs (live halves)) slave at t (cell_at (with_cell cells slave at cell) slave at) = subst (λ (c : Cell). CellFits (live_runs (live halves)) slave at t c) (sym (with_cell-here cells slave at cell within inside)) (step t there) in
        subst (λ (n : ℕ). CellFits (live_runs (live halves)) n k t (cell_at (with_cell cells slave at cell) n k)) (sym same)
        (subst (λ (n : ℕ). CellFits (live_runs (live halves)) slave n t (cell_at (with_cell cells slave at cell) slave n)) (sym here) done)

-- AT AN OPEN: each word holds what was read, and owes what the batches found name otherwise

pub step-opened : (plant : List (List ℕ)) (found : List Entry) (halves : Halves) (cells : List (List Cell)) → SameCells plant cells → entries_of (live halves) ≡ found
    → EachWord plant (λ slave at. cell_at cells slave at ≡ opened (word_at plant slave at))
    → Fits plant (redone plant (runs_of found)) [] 0 halves (owing_all (runs_of found) cells) []
step-opened plant found halves cells same is read = record {
  contents = redone-nil (redone plant (runs_of found)) ∙ ap (λ (l : List Entry). redone plant (runs_of l)) (sym is);
  durable_few = omega arith;
  fit = subst (λ (l : List Entry). AllFit plant [] (runs_of l) (owing_all (runs_of found) cells)) (sym is)
      (all-fit-more plant [] [] (runs_of found) cells same (λ slave at within inside. rw (read slave at within inside) (opened-fits slave at (word_at plant slave at))));
}
