-- A line whose journal was just formatted.
use Rattle.std.proofs.Common.{◌≡◌, inl, ℕ, Bool, None, List, [], length, refl, sym, subst, arith}
use Rattle.std.specs.List.{AllByRecursion}
use Rattle.std.proofs.lemmas.List.{length-map}
use Rattle.std.proofs.lemmas.List.Elements.{All-nil}
use Rattle.sii_words.proofs.RedoLaws.{redone-nil}
use Rattle.sii_edit.specs.Fitting.{PlantFits, CommandFits}
use Rattle.jrn_format.specs.declared.journal.Form.TheVariants.{Two}
use Rattle.jrn_format.specs.declared.journal.Spelling.TheVariants.{WithGeneration}
use Rattle.jrn_format.specs.Area.{IsClosed, IsLive}
use Rattle.jrn_format.specs.Journal.{IsJournal}
use Rattle.esc_model.specs.SlaveHalf.{SlaveHalf}
use Rattle.esc_model.specs.WordAccess.{IsIdle}
use Rattle.site_core.specs.State.{State}
use Rattle.book_model.specs.Entries.{sizes_of}
use Rattle.book_model.specs.Kept.{Kept}
use Rattle.book_model.specs.Opening.{words_in, IsAllSynced}
use Rattle.world_law.specs.Law.{IsFormatted, blank, Starts}

nothing-live : (half : ℕ) (area : List ℕ) → IsClosed area → IsLive WithGeneration half area []
nothing-live half area closed = record { rest = area; starts = record { can_stand = tt; spelt = refl }; ends = closed }

formatted-journal : (sizes bytes : List ℕ) → IsFormatted (length sizes) bytes → IsJournal bytes sizes (record { form = Two; batches = [] })
formatted-journal sizes bytes f =
    let most = f.capacity.1 in
    record {
      area = f.area;
      has_area = record {
        version = 2;
        rest = f.rest;
        header = record { slaves_fit = f.slaves_fit; capacity_fits = omega (arith, most); spelt = f.is };
        is_form = refl;
        capacity = f.capacity;
      };
      live = record {
        first = f.first;
        second = f.second;
        halves = f.halves;
        firsts = [];
        seconds = [];
        first_live = nothing-live 0 f.first f.first_gate;
        second_live = nothing-live 1 f.second f.second_gate;
        in_order = inl ((0, tt, tt), refl);
      };
      within = tt;
    }

formatted-kept : (bytes : List ℕ) (words : List (List ℕ)) → IsFormatted (length words) bytes → Kept bytes words (blank words)
formatted-kept bytes words f = record {
  journal = record { form = Two; batches = [] };
  live = formatted-journal (sizes_of words) bytes (subst (λ (n : ℕ). IsFormatted n bytes) (sym (length-map words (λ (w : List ℕ). length w))) f);
  k = 0;
  may_keep = (omega arith, omega arith);
  same = redone-nil words;
}

pub formatted-starts : (state : State) (took : List Bool) → IsFormatted (length state.halves) state.disk.bytes → IsAllSynced state.disk → AllByRecursion IsIdle state.halves → length took ≡ length state.halves → PlantFits (words_in state.halves)
    → Starts (record { book = None; state = state; took = took }) (blank (words_in state.halves))
formatted-starts state took f synced idle long fits = record {
  down = refl;
  synced = synced;
  idle = idle;
  kept = formatted-kept state.disk.bytes (words_in state.halves) (subst (λ (n : ℕ). IsFormatted n state.disk.bytes) (sym (length-map state.halves (λ (h : SlaveHalf). h.words))) f);
  took = long;
  fits = record { origin = fits; kept = All-nil CommandFits; accepted = All-nil CommandFits };
}
