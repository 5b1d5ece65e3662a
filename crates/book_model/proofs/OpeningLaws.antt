-- An open establishes Up.
use Rattle.std.proofs.Common.{◌≡◌, ℕ, zero, suc, ◌<◌, Bool, false, List, [], ◌∷◌, length, map, take, get_or, refl, sym, ◌∙◌, ap, subst, arith, Some}
use Rattle.std.specs.Prelude.{slice_get}
use Rattle.std.specs.List.{AllByRecursion}
use Rattle.std.proofs.lemmas.List.{length-map, get_or-map}
use Rattle.sii_words.specs.Plant.{words_of}
use Rattle.sii_words.specs.Redo.{redone}
use Rattle.sii_edit.proofs.FoldLaws.{contents-append}
use Rattle.jrn_format.specs.declared.journal.Batch.{Batch}
use Rattle.jrn_format.specs.declared.journal.Journal.{Journal}
use Rattle.jrn_format.proofs.JournalGrammar.{one_journal}
use Rattle.jrn_format.specs.Halves.{live}
use Rattle.jrn_format.specs.Live.{halves_in}
use Rattle.esc_model.specs.SlaveHalf.{SlaveHalf}
use Rattle.esc_model.specs.WordAccess.{IsIdle}
use Rattle.esc_model.proofs.Resting.{MayLeave-idle}
use Rattle.site_core.specs.State.{State}
use Rattle.book_model.specs.Cells.{Cell, opened}
use Rattle.book_model.specs.Cells.{nothing as no_cell}
use Rattle.book_model.specs.Entries.{runs_of, entries_of, live_runs, sizes_of}
use Rattle.book_model.specs.Book.{NoOperation, nobody, all_cells, cell_at}
use Rattle.book_model.specs.Open.{opened_slave, open_book}
use Rattle.book_model.specs.Machine.{Machine, reopened, MayKeep}
use Rattle.book_model.specs.Machine as machines
use Rattle.book_model.specs.Kept.{Kept}
use Rattle.book_model.specs.Plants.{word_at, EachWord}
use Rattle.book_model.specs.Fits.{Fits, BookFits, SameCells}
use Rattle.book_model.specs.Frame.{JournalFrame}
use Rattle.book_model.proofs.FitLaws.{step-opened}
use Rattle.book_model.proofs.BookLaws.{all_cells-owing, length-all_cells}
use Rattle.book_model.proofs.FoundLaws.{book-found}
use Rattle.book_model.specs.Slaves.{SlaveFits}
use Rattle.book_model.specs.Up.{SlavesFit, Up}
use Rattle.book_model.specs.Opening.{capacity_in, words_in, IsFound, book_on}
use Rattle.book_model.proofs.OwingLaws.{slaves-owe, same-owing}

-- ---- the words as they were read

read-cells : (words : List (List ℕ)) (slave : ℕ) → get_or (all_cells (map opened_slave words)) slave [] ≡ map opened (words_of words slave)
read-cells [] slave = refl
read-cells (w ∷ words) zero = refl
read-cells (w ∷ words) (suc slave) = read-cells words slave

read-same : (words : List (List ℕ)) → SameCells words (all_cells (map opened_slave words))
read-same words = record {
  slaves = length-all_cells (map opened_slave words) ∙ length-map words opened_slave;
  words = λ slave. ap length (read-cells words slave) ∙ length-map (words_of words slave) opened;
}

read-each : (words : List (List ℕ)) → EachWord words (λ slave at. cell_at (all_cells (map opened_slave words)) slave at ≡ opened (word_at words slave at))
read-each words = λ slave at within inside. ap (λ (l : List Cell). get_or l at no_cell) (read-cells words slave) ∙ get_or-map opened (words_of words slave) at 0 no_cell inside

opened-fits : (words : List (List ℕ)) (journal : Journal) (capacity : ℕ) → live (halves_in journal.batches) ≡ journal.batches → BookFits (open_book words capacity journal) []
opened-fits words journal capacity lives =
    let runs = runs_of (entries_of journal.batches) in
    subst (λ (cells : List (List Cell)). Fits words (redone words runs) [] 0 (halves_in journal.batches) cells []) (sym (all_cells-owing runs 0 (map opened_slave words)))
    (step-opened words (entries_of journal.batches) (halves_in journal.batches) (all_cells (map opened_slave words)) (read-same words) (ap entries_of lives) (read-each words))

-- ---- the slaves

-- an idle half holds what was read of it
slave-opened : (slave : ℕ) (half : SlaveHalf) (took : Bool) → IsIdle half → SlaveFits slave half NoOperation took (map opened half.words)
slave-opened slave half took idle = record {
  size = length-map half.words opened;
  words = λ left may at within.
      let inside : at < length half.words = omega (arith, within, length-map half.words opened) in
      rw (get_or-map opened half.words at 0 no_cell inside) (ap (λ (l : List ℕ). get_or l at 0) (MayLeave-idle half left idle may));
  asks = tt;
}

idle-at : (halves : List SlaveHalf) (i : ℕ) (half : SlaveHalf) → AllByRecursion IsIdle halves → slice_get halves i ≡ Some half → IsIdle half
idle-at [] i half idle is = absurd cc
idle-at (h ∷ halves) zero half idle is = let same : h ≡ half = cc in subst IsIdle same idle.0
idle-at (h ∷ halves) (suc i) half idle is = idle-at halves i half idle.1 is

slave-at : (halves : List SlaveHalf) (i : ℕ) (half : SlaveHalf) → slice_get halves i ≡ Some half → get_or (map opened_slave (words_in halves)) i nobody ≡ opened_slave half.words
slave-at [] i half is = absurd cc
slave-at (h ∷ halves) zero half is = let same : h ≡ half = cc in ap (λ (x : SlaveHalf). opened_slave x.words) same
slave-at (h ∷ halves) (suc i) half is = slave-at halves i half is

slaves-opened : (halves : List SlaveHalf) (took : List Bool) → AllByRecursion IsIdle halves → length took ≡ length halves → SlavesFit halves (map opened_slave (words_in halves)) took
slaves-opened halves took idle long = record {
  count = sym (length-map (words_in halves) opened_slave ∙ length-map halves (λ (half : SlaveHalf). half.words));
  took_count = long ∙ sym (length-map (words_in halves) opened_slave ∙ length-map halves (λ (half : SlaveHalf). half.words));
  each = λ i half is. rw (slave-at halves i half is) (slave-opened i half (get_or took i false) (idle-at halves i half idle is));
}

-- ---- the machine

kept-base : (journal : Journal) (state : State) (m : Machine) → IsFound journal state → (kept : Kept state.disk.bytes (words_in state.halves) m)
    → machines.base_of (reopened m kept.k) ≡ redone (words_in state.halves) (live_runs journal.batches)
kept-base journal state m found kept =
    let words = words_in state.halves in
    let same : kept.journal ≡ journal = one_journal state.disk.bytes (sizes_of words) kept.journal journal kept.live found.is_journal in
    contents-append m.origin m.kept (take kept.k m.accepted) ∙ sym kept.same ∙ ap (λ (j : Journal). redone words (live_runs j.batches)) same

-- ---- the station

ordered-in : (batches : List Batch) → (halves_in batches).older ≡ [] → (halves_in batches).newer ≡ []
ordered-in [] none = refl
ordered-in (first ∷ batches) none = absurd cc

-- with the prefix that is kept
pub record Opens (journal : Journal) (state : State) (took : List Bool) (m : Machine) : Type 0 where
  pub k : ℕ
  pub may_keep : MayKeep m k
  pub frame : JournalFrame
  pub up : Up frame (book_on state journal) state took (reopened m k)

pub up-opens : (journal : Journal) (state : State) (took : List Bool) (m : Machine) → IsFound journal state → length took ≡ length state.halves → Kept state.disk.bytes (words_in state.halves) m → Opens journal state took m
up-opens journal state took m found long kept =
    let words = words_in state.halves in
    let runs = live_runs journal.batches in
    let f = book-found words journal state.disk found.is_journal found.synced.all found.synced.entire in
    record {
      k = kept.k;
      may_keep = kept.may_keep;
      frame = f.frame;
      up = record {
        line = f.line;
        of = record { base = kept-base journal state m found kept; accepted = refl; acknowledged = refl };
        gone = [];
        fits = opened-fits words journal (capacity_in state.disk.bytes) f.lives;
        same = same-owing words (map opened_slave words) runs (read-same words);
        disk = f.fits;
        slaves = slaves-owe state.halves (map opened_slave words) took runs (slaves-opened state.halves took found.idle long);
        pending = record { each = tt; within = tt; few = omega arith };
        ordered = ordered-in journal.batches;
        after = λ entries there. absurd cc;
        no_command = λ old. refl;
        no_migration = λ two. refl;
      };
    }
