-- What an accepted command changes: its contents, its entry and how many bytes that has.
use Rattle.std.proofs.Common.{◌≡◌, ◌∙◌, ℕ, ◌^◌, ◌<◌, ◌≤◌, List, [], ◌∷◌, length, refl, sym, ap, subst, arith, Result, Ok, Err}
use Rattle.std.specs.Prelude.{All, IsOk, IfOk}
use Rattle.std.proofs.lemmas.List.Elements.{All-weaker, All-nil, All-cons, All-head, All-tail}
use Rattle.sii_words.specs.Plant.{words_of}
use Rattle.sii_image.specs.NewLayouts.{with_each}
use Rattle.sii_words.specs.declared.run.Run.{Run}
use Rattle.sii_words.specs.Run.{runs_between}
use Rattle.sii_words.specs.Redo.{redone, LiesInside}
use Rattle.sii_words.proofs.RunLaws.{some-runs_between}
use Rattle.sii_edit.specs.declared.command.Command.{Command}
use Rattle.sii_edit.specs.declared.refusal.Refusal.{Refusal}
use Rattle.sii_edit.specs.declared.applying.Change.{Change}
use Rattle.sii_edit.specs.Command.{outcome}
use Rattle.sii_edit.specs.Fold.{after, contents}
use Rattle.sii_edit.proofs.FoldLaws.{SameShape-contents}
use Rattle.jrn_format.specs.Batch.{IsCountedRun, AreCountedRuns, entry_size}
use Rattle.jrn_format.proofs.SizeLaws.{most_runs_fit}
use Rattle.book_parts.specs.Change.{IsShort, IsChangeOf}

after-ok : (plant : List (List ℕ)) (command : Command) (new : List (List ℕ)) → outcome plant command ≡ Ok new → after plant command ≡ new
after-ok plant command new is = rw is refl

-- the contents after the command
pub change-after : (plant : List (List ℕ)) (command : Command) (change : Change) → IsChangeOf plant command change → after plant command ≡ redone plant change.runs.items
change-after plant command change is = after-ok plant command (redone plant change.runs.items) is.accepted

-- its runs are those between the contents
pub change-runs : (plant : List (List ℕ)) (command : Command) (change : Change) → IsChangeOf plant command change → runs_between plant (after plant command) ≡ change.runs.items
change-runs plant command change is = ap (runs_between plant) (change-after plant command change is) ∙ sym is.runs

ok-new : (plant new : List (List ℕ)) (command : Command) → outcome plant command ≡ Ok new → IsOk (outcome plant command)
ok-new plant new command is = rw is refl

pub change-ok : (plant : List (List ℕ)) (command : Command) (change : Change) → IsChangeOf plant command change → IsOk (outcome plant command)
change-ok plant command change is = ok-new plant (redone plant change.runs.items) command is.accepted

-- ---- how long the runs are

pub counted : (runs : List Run) → length runs < 2 ^ 16 → All IsShort runs → AreCountedRuns runs
counted runs few short = (few, All-weaker IsShort IsCountedRun (λ run s. (s.0, omega (arith, s.1))) runs short)

pub size-fits : (runs : List Run) → length runs < 2 ^ 16 → All IsShort runs → entry_size runs < 2 ^ 32
size-fits runs few short =
    most_runs_fit runs (omega (arith, few)) (All-weaker IsShort (λ run. length run.words ≤ 4096) (λ run s. s.1) runs short)

-- ---- what is judged

short-run : (plant : List (List ℕ)) (run : Run) → ((slave : ℕ) → length (words_of plant slave) ≤ 4096) → LiesInside plant run → 0 < length run.words → IsShort run
short-run plant run few inside some =
    let most : length (words_of plant run.slave) ≤ 4096 = few run.slave in
    (omega (arith, some), omega (arith, inside.words, most))

-- runs inside contents of slaves of at most 4,096 words each
pub short-runs : (plant : List (List ℕ)) (runs : List Run) → ((slave : ℕ) → length (words_of plant slave) ≤ 4096)
    → All (LiesInside plant) runs → All (λ run. 0 < length run.words) runs → All IsShort runs
short-runs plant [] few inside some = All-nil IsShort
short-runs plant (run ∷ runs) few inside some =
    All-cons IsShort run runs
    (short-run plant run few (All-head (LiesInside plant) run runs inside) (All-head (λ (r : Run). 0 < length r.words) run runs some))
    (short-runs plant runs few (All-tail (LiesInside plant) run runs inside) (All-tail (λ (r : Run). 0 < length r.words) run runs some))

-- what `changes` answers is what is judged
pub validated-is : (plant : List (List ℕ)) (command : Command) (result : Result Change Refusal) → ((slave : ℕ) → length (words_of plant slave) ≤ 4096)
    → IfOk result (λ change. outcome plant command ≡ Ok (redone plant change.runs.items))
    → IfOk result (λ change. change.runs.items ≡ runs_between plant (redone plant change.runs.items))
    → IfOk result (λ change. All (LiesInside plant) change.runs.items)
    → IfOk result (λ change. with_each plant change.layouts ≡ redone plant change.runs.items)
    → IfOk result (IsChangeOf plant command)
validated-is plant command (Ok change) few accepted runs inside layouts =
    record {
      accepted = accepted;
      runs = runs;
      inside = inside;
      short = short-runs plant change.runs.items few inside (subst (All (λ (r : Run). 0 < length r.words)) (sym runs) (some-runs_between plant (redone plant change.runs.items)));
      layouts = layouts;
    }
validated-is plant command (Err refusal) few accepted runs inside layouts = tt

-- the slaves of contents after commands have as many words
pub few-after : (base : List (List ℕ)) (commands : List Command) → ((slave : ℕ) → length (words_of base slave) ≤ 4096) → (slave : ℕ) → length (words_of (contents base commands) slave) ≤ 4096
few-after base commands few slave =
    let same : length (words_of (contents base commands) slave) ≡ length (words_of base slave) = (SameShape-contents base commands).words slave in
    omega (arith, few slave, same)
