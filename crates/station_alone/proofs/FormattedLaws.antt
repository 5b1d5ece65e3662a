-- What is left of a formatted line with idle slaves is kept.
use Rattle.std.proofs.Common.{◌≡◌, ℕ, ◌≤◌, List, [], length, sym, ◌∙◌, ap, subst, arith, Ok}
use Rattle.std.specs.List.{AllByRecursion}
use Rattle.std.proofs.lemmas.List.{length-map}
use Rattle.sii_edit.specs.declared.command.Command.{Command}
use Rattle.sii_edit.specs.Fold.{contents_after}
use Rattle.sii_words.proofs.RedoLaws.{redone-nil}
use Rattle.jrn_format.specs.declared.journal.Journal.{Journal}
use Rattle.jrn_format.specs.declared.journal.Form.TheVariants.{Two}
use Rattle.jrn_format.specs.Header.{IsCapacity}
use Rattle.jrn_format.specs.Journal.{IsJournal}
use Rattle.jrn_format.specs.Migration.{IsEmptyJournal}
use Rattle.esc_model.specs.SlaveHalf.{SlaveHalf}
use Rattle.esc_model.specs.WordAccess.{IsIdle}
use Rattle.site_core.specs.State.{EachMayLeave, Seen}
use Rattle.site_core.specs.Passes.{LeavesOnly}
use Rattle.site_core.proofs.Counts.{words-idle}
use Rattle.site_journal.specs.Formatting.{Formats, formatted}
use Rattle.site_journal.proofs.EmptyLaws.{formatted_is_empty}
use Rattle.book_model.specs.Entries.{sizes_of}
use Rattle.book_model.specs.Machine.{Machine, base_of}
use Rattle.book_model.specs.Opening.{words_in}
use Rattle.station_alone.specs.Keeping.{KeptFor}
use Rattle.station_alone.specs.Formatted.{IsBlank}

pub formatted-kept : (capacity : ℕ) (machine : Machine) (old new : Seen) → IsCapacity capacity → length old.state.halves ≤ 64 → AllByRecursion IsIdle old.state.halves → Formats (length old.state.halves) capacity old (Ok tt) new
    → IsBlank (words_in old.state.halves) machine → LeavesOnly (KeptFor machine) new.state
formatted-kept capacity machine old new is few idle formats blank pair leaves =
    let halves = old.state.halves in
    let words = words_in halves in
    let bytes = old.state.disk.bytes in
    let none : Journal = record { form = Two; batches = [] } in
    let words_are : pair.words ≡ words = words-idle halves pair.words idle (subst (λ (h : List SlaveHalf). EachMayLeave h pair.words) formats.halves leaves.words) in
    let disk_is : pair.disk ≡ formatted (length halves) capacity bytes = formats.only pair.disk leaves.disk in
    let count : length (sizes_of words) ≡ length halves = length-map words (λ (w : List ℕ). length w) ∙ length-map halves (λ (h : SlaveHalf). h.words) in
    let empty : IsEmptyJournal (formatted (length halves) capacity bytes) (sizes_of words) Two =
    subst (λ (n : ℕ). IsEmptyJournal (formatted n capacity bytes) (sizes_of words) Two) count (formatted_is_empty (sizes_of words) bytes capacity (omega (arith, count, few)) is) in
    let acknowledged = blank.acknowledged in
    record {
      journal = none;
      live = subst (λ (d : List ℕ). IsJournal d (sizes_of pair.words) none) (sym disk_is)
          (subst (λ (w : List (List ℕ)). IsJournal (formatted (length halves) capacity bytes) (sizes_of w) none) (sym words_are) empty);
      k = 0;
      may_keep = (omega (arith, acknowledged), omega arith);
      same = redone-nil pair.words ∙ words_are ∙ sym blank.base ∙ sym (ap (λ (l : List Command). contents_after (base_of machine) l 0) blank.none);
    }
