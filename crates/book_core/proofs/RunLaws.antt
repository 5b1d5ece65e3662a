-- The same runs are live, as entries and as batches.
use Rattle.std.proofs.Common.{◌≡◌, ◌∙◌, List, [], ◌∷◌, ◌++◌, refl, sym, ap}
use Rattle.std.specs.List.{flat_map}
use Rattle.sii_words.specs.declared.run.Run.{Run}
use Rattle.jrn_format.specs.declared.journal.Entry.{Entry}
use Rattle.jrn_format.specs.Halves.{Halves, live}
use Rattle.book_model.specs.Entries.{runs_of, entries_of, live_runs}
use Rattle.book_model.proofs.FitLaws.{runs_of-append, live_runs-append}
use Rattle.book_parts.specs.Line.{LineState}
use Rattle.book_core.specs.Stands.{runs_each, HasLive}

runs-each : (entries : List Entry) → runs_of entries ≡ flat_map (λ (l : List Run). l) (runs_each entries)
runs-each [] = refl
runs-each (e ∷ es) = ap (λ (l : List Run). e.runs ++ l) (runs-each es)

pub same-runs : (xs ys : List Entry) → runs_each xs ≡ runs_each ys → runs_of xs ≡ runs_of ys
same-runs xs ys same = runs-each xs ∙ ap (flat_map (λ (l : List Run). l)) same ∙ sym (runs-each ys)

pub live-runs : (halves : Halves) (work : LineState) → HasLive halves work → runs_of (work.older ++ work.newer) ≡ live_runs (live halves)
live-runs halves work has =
    runs_of-append work.older work.newer ∙ ap (λ (l : List Run). l ++ runs_of work.newer) (same-runs work.older (entries_of halves.older) has.older)
    ∙ ap (λ (l : List Run). live_runs halves.older ++ l) (same-runs work.newer (entries_of halves.newer) has.newer)
    ∙ sym (live_runs-append halves.older halves.newer)
