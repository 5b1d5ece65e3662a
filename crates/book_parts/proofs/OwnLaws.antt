-- The entries of the accepted commands: they name words of the line, and one command more has one entry more.
use Rattle.std.proofs.Common.{◌≡◌, ℕ, suc, ◌+◌, ◌<◌, ◌≤◌, List, [], ◌∷◌, length, drop, refl, sym, subst, arith}
use Rattle.std.specs.Prelude.{All}
use Rattle.std.specs.List.{AllByRecursion}
use Rattle.std.proofs.lemmas.List.{length-map, get_or-map}
use Rattle.std.proofs.lemmas.List.Elements.{All-nil, All-cons, All-weaker, All-take, All-drop, recursion_from_All}
use Rattle.sii_words.specs.Plant.{words_of}
use Rattle.sii_words.specs.declared.run.Run.{Run}
use Rattle.sii_words.specs.Redo.{LiesInside, SameShape}
use Rattle.sii_words.specs.Run.{runs_between}
use Rattle.sii_words.proofs.RunLaws.{LiesInside-runs_between}
use Rattle.sii_edit.specs.declared.command.Command.{Command}
use Rattle.sii_edit.specs.Fold.{after}
use Rattle.sii_edit.proofs.CommandLaws.{SameShape-trans}
use Rattle.sii_edit.proofs.FoldLaws.{SameShape-contents}
use Rattle.jrn_format.specs.Batch.{LiesWithin, LieWithin}
use Rattle.book_model.specs.Entries.{entries_from, sizes_of}
use Rattle.book_parts.specs.Ledger.{Ledger, own, appended, queued}

-- a run inside a plant of the line's shape
lies-within : (base plant : List (List ℕ)) (run : Run) → SameShape base plant → LiesInside plant run → LiesWithin (sizes_of base) run
lies-within base plant run shape inside =
    let here : run.slave < length base = omega (arith, inside.slave, shape.slaves) in
    let size : length (words_of plant run.slave) ≡ length (words_of base run.slave) = shape.words run.slave in
    record {
      slave = omega (arith, here, length-map base (λ (words : List ℕ). length words));
      words = subst (λ (n : ℕ). run.first + length run.words ≤ n) (sym (get_or-map (λ (words : List ℕ). length words) base run.slave [] 0 here)) (omega (arith, inside.words, size));
    }

lie-within : (base plant : List (List ℕ)) (runs : List Run) → SameShape base plant → All (LiesInside plant) runs → AllByRecursion (LiesWithin (sizes_of base)) runs
lie-within base plant runs shape inside =
    recursion_from_All (LiesWithin (sizes_of base)) runs (All-weaker (LiesInside plant) (LiesWithin (sizes_of base)) (λ run. lies-within base plant run shape) runs inside)

pub entries-within : (base plant : List (List ℕ)) (number : ℕ) (commands : List Command) → SameShape base plant → All (LieWithin (sizes_of base)) (entries_from number plant commands)
entries-within base plant number [] shape = All-nil (LieWithin (sizes_of base))
entries-within base plant number (c ∷ commands) shape =
    let next = after plant c in
    All-cons (LieWithin (sizes_of base)) (record { number = number; runs = runs_between plant next }) (entries_from (suc number) next commands)
    (lie-within base plant (runs_between plant next) shape (LiesInside-runs_between plant next))
    (entries-within base next (suc number) commands (SameShape-trans base plant next shape (SameShape-contents plant (c ∷ []))))

pub own-within : (ledger : Ledger) → All (LieWithin (sizes_of ledger.base)) (own ledger)
own-within ledger = entries-within ledger.base ledger.base 0 ledger.accepted (record { slaves = refl; words = λ slave. refl })

pub appended-within : (ledger : Ledger) → AllByRecursion (LieWithin (sizes_of ledger.base)) (appended ledger)
appended-within ledger =
    let P = LieWithin (sizes_of ledger.base) in
    recursion_from_All P (appended ledger) (All-take P ledger.begun (drop ledger.durable (own ledger)) (All-drop P ledger.durable (own ledger) (own-within ledger)))

pub queued-within : (ledger : Ledger) → AllByRecursion (LieWithin (sizes_of ledger.base)) (queued ledger)
queued-within ledger =
    let P = LieWithin (sizes_of ledger.base) in
    recursion_from_All P (queued ledger) (All-drop P (ledger.durable + ledger.begun) (own ledger) (own-within ledger))
