-- Each disk image and words that a power cut may leave with an old journal are recoverable.
use Rattle.std.proofs.Common.{◌≡◌, ℕ, List, [], length, sym, ◌∙◌, ap, subst, arith}
use Rattle.std.specs.List.{AllByRecursion}
use Rattle.std.proofs.lemmas.List.{append-nil, length-map}
use Rattle.sii_words.specs.declared.run.Run.{Run}
use Rattle.sii_words.specs.Redo.{redone}
use Rattle.sii_edit.specs.declared.command.Command.{Command}
use Rattle.sii_edit.specs.Fold.{contents_after}
use Rattle.book_model.specs.Plants.{MayHoldAll}
use Rattle.book_model.specs.Fits.{BookFits, after_entries}
use Rattle.jrn_format.specs.declared.journal.Batch.{Batch}
use Rattle.jrn_format.specs.declared.journal.Form.{Form}
use Rattle.jrn_format.specs.declared.journal.Form.TheVariants.{One}
use Rattle.jrn_format.specs.Batch.{IsWithin}
use Rattle.jrn_format.specs.Journal.{IsJournal}
use Rattle.jrn_format.specs.Halves.{Halves, live}
use Rattle.site_core.specs.Disk.{Disk, StopImage}
use Rattle.book_model.specs.Entries.{live_runs, sizes_of}
use Rattle.book_model.specs.Book.{Book, Doing, Resting, Payload, PayloadSync, OpenGate, OpenSync, CloseGate, CloseSync, FarGate, Mark, MarkSync, Version, VersionSync, base_of, own, all_cells}
use Rattle.book_model.specs.Machine.{Machine}
use Rattle.book_model.specs.Machine as machines
use Rattle.book_model.specs.Kept.{Kept}
use Rattle.book_model.proofs.FitLaws.{kept-live, kept-newer}
use Rattle.book_model.proofs.CommandLaws.{entries-contents, length-entries}
use Rattle.book_model.specs.Frame.{JournalFrame}
use Rattle.book_model.specs.Doing.{Retiring}
use Rattle.book_model.specs.Keeping.{IsOfBook, IsOfLine}
use Rattle.book_model.proofs.KeptLaws.{same_sizes}
use Rattle.book_model.specs.OldFile.{mark_bytes}
use Rattle.book_model.specs.OldDoing.{undivided, OldDoingFits}
use Rattle.book_model.proofs.JournalLaws.{IsEmpty, before-image, version-image, rest-image, Closes, stays, closes, closing-image}

module _ (frame : JournalFrame) (book : Book) (m : Machine) (gone : List Run) (disk : Disk) (image : List ℕ) (left : List (List ℕ)) (line : IsOfLine frame book) (of : IsOfBook book m) (fits : BookFits book gone) (may : MayHoldAll book.words (all_cells book.slaves) left) (stop : StopImage disk image) (one : book.halves ≡ undivided book.halves.older) where
  count : length (sizes_of book.words) ≡ frame.slaves
  count = length-map book.words (λ (words : List ℕ). length words) ∙ line.slaves

  -- these batches are live, and redo of them gives the contents after the durable commands
  kept_in : (form : Form) (batches : List Batch) → IsJournal image (sizes_of book.words) (record { form = form; batches = batches })
      → redone left (live_runs batches) ≡ after_entries (base_of book) (own book) book.durable → Kept image left m
  kept_in form batches is same = record {
    journal = record { form = form; batches = batches };
    live = subst (λ (sizes : List ℕ). IsJournal image sizes (record { form = form; batches = batches })) (sym (same_sizes book.words left may.shape.slaves may.shape.words)) is;
    k = book.durable;
    may_keep = (omega (arith, of.acknowledged), omega (arith, fits.durable_few, ap length of.accepted, length-entries 0 (base_of book) book.accepted));
    same = same ∙ entries-contents 0 (base_of book) book.accepted book.durable
        ∙ ap (λ (base : List (List ℕ)). contents_after base book.accepted book.durable) (sym of.base) ∙ ap (λ (commands : List Command). contents_after (machines.base_of m) commands book.durable) (sym of.accepted);
  }

  all_older : live book.halves ≡ book.halves.older
  all_older = ap live one ∙ append-nil book.halves.older

  within : AllByRecursion (IsWithin (sizes_of book.words)) book.halves.older
  within = subst (AllByRecursion (IsWithin (sizes_of book.words))) all_older line.within

  as_live : (form : Form) → IsJournal image (sizes_of book.words) (record { form = form; batches = book.halves.older }) → Kept image left m
  as_live form is = kept_in form book.halves.older is
      (ap (λ (l : List Batch). redone left (live_runs l)) (sym all_older) ∙ kept-live book.words (base_of book) (own book) book.durable book.halves (all_cells book.slaves) gone fits left may)

  as_empty : (form : Form) → book.halves.older ≡ [] → IsEmpty image (sizes_of book.words) form → Kept image left m
  as_empty form none is = as_live form (subst (λ (l : List Batch). IsJournal image (sizes_of book.words) (record { form = form; batches = l })) (sym none) is)

  -- what is retired is settled
  as_closing : Retiring book → Closes frame (sizes_of book.words) line.is_frame count image book.halves.older → Kept image left m
  as_closing retires (stays is) = as_live One is
  as_closing retires (closes is) = kept_in One [] is
      (ap (λ (h : Halves). redone left (live_runs h.newer)) (sym one) ∙ kept-newer book.words (base_of book) (own book) book.durable book.halves (all_cells book.slaves) gone fits retires.settled left may)

  pub kept : (doing : Doing) → OldDoingFits frame book doing disk → Kept image left m
  kept Resting rest = as_live book.form (rest-image frame (sizes_of book.words) line.is_frame count book.form book.halves.older disk image rest stop within)
  kept (Payload place entries) none = absurd none
  kept (PayloadSync place entries) none = absurd none
  kept (OpenGate place entries) none = absurd none
  kept (OpenSync place entries) none = absurd none
  kept CloseGate c = as_closing c.1 (closing-image frame (sizes_of book.words) line.is_frame count book.halves.older c.2.0 disk image c.2.1 stop within)
  kept CloseSync c = as_closing c.1 (closing-image frame (sizes_of book.words) line.is_frame count book.halves.older 0 disk image c.2 stop within)
  kept FarGate b = as_empty book.form b.0 (before-image frame (sizes_of book.words) line.is_frame count book.form b.1.0 b.1.1 disk image b.1.2 stop)
  kept Mark b = as_empty book.form b.0 (before-image frame (sizes_of book.words) line.is_frame count book.form b.2.0 0 disk image b.2.1 stop)
  kept MarkSync b = as_empty book.form b.0 (before-image frame (sizes_of book.words) line.is_frame count book.form mark_bytes 0 disk image b.1 stop)
  kept Version a = let v = version-image frame (sizes_of book.words) line.is_frame count a.1.0 disk image a.1.1 stop in as_empty v.0 a.0 v.1
  kept VersionSync a = let v = version-image frame (sizes_of book.words) line.is_frame count 2 disk image a.1 stop in as_empty v.0 a.0 v.1
