-- Each disk image and words that a power cut may leave are recoverable.
use Rattle.std.proofs.Common.{◌≡◌, inl, inr, ⊎_elim, ℕ, suc, ◌+◌, ◌≤◌, Bool, true, false, List, [], ◌∷◌, ◌++◌, length, take, drop, refl, sym, ◌∙◌, ap, subst, arith}
use Rattle.std.specs.List.{AllByRecursion}
use Rattle.std.proofs.lemmas.List.{append-nil, length-map}
use Rattle.sii_words.specs.declared.run.Run.{Run}
use Rattle.sii_words.specs.Redo.{redone}
use Rattle.sii_words.specs.Plant.{words_of}
use Rattle.sii_edit.specs.declared.command.Command.{Command}
use Rattle.sii_edit.specs.Fold.{contents_after}
use Rattle.jrn_format.specs.declared.journal.Entry.{Entry}
use Rattle.jrn_format.specs.declared.journal.Batch.{Batch}
use Rattle.jrn_format.specs.declared.journal.Form.TheVariants.{Two}
use Rattle.jrn_format.specs.Batch.{LieWithin, IsWithin}
use Rattle.jrn_format.specs.Halves.{Halves, Place, live, batch_in, with_batch, retired, left_of}
use Rattle.jrn_format.proofs.HalvesLaws.{with_batch-live}
use Rattle.jrn_format.proofs.HalvesGrammar.{All-join}
use Rattle.site_core.specs.Disk.{Disk, StopImage, synced}
use Rattle.book_model.specs.Entries.{live_runs, sizes_of}
use Rattle.book_model.specs.Book.{Book, Doing, Resting, Payload, PayloadSync, OpenGate, OpenSync, CloseGate, CloseSync, FarGate, Mark, MarkSync, Version, VersionSync, base_of, own, all_cells}
use Rattle.book_model.specs.DiskSteps.{payload_bytes}
use Rattle.book_model.specs.Machine.{Machine}
use Rattle.book_model.specs.Machine as machines
use Rattle.book_model.specs.Kept.{Kept}
use Rattle.book_model.specs.Plants.{MayHoldAll}
use Rattle.book_model.specs.Fits.{BookFits, after_entries}
use Rattle.book_model.proofs.FitLaws.{kept-live, kept-next, kept-newer, entries-in}
use Rattle.book_model.proofs.CommandLaws.{entries-contents, length-entries}
use Rattle.book_model.specs.Frame.{JournalFrame}
use Rattle.book_model.specs.Phases.{AtRest, HasBatch, HasGate}
use Rattle.book_model.specs.Doing.{Appending, Retiring, DoingFits, OpensGate}
use Rattle.book_model.specs.Keeping.{IsOfBook, IsOfLine}
use Rattle.book_model.proofs.TornLaws.{with_image, rest-image, payload-image, batch-image, gate-image, closing-image, rest-journal}
use Rattle.sii_words.proofs.Quantifiers.{all_after}

pub same_sizes : (plant left : List (List ℕ)) → length left ≡ length plant → ((slave : ℕ) → length (words_of left slave) ≡ length (words_of plant slave)) → sizes_of left ≡ sizes_of plant
same_sizes [] [] slaves words = refl
same_sizes [] (l ∷ left) slaves words = absurd (omega arith)
same_sizes (p ∷ plant) [] slaves words = absurd (omega arith)
same_sizes (p ∷ plant) (l ∷ left) slaves words =
    ap (λ (n : ℕ). n ∷ sizes_of left) (words 0) ∙ ap (λ (t : List ℕ). length p ∷ t) (same_sizes plant left (omega arith) (λ slave. words (suc slave)))

pub left-live : (halves : Halves) (newer : List Batch) → live (left_of halves newer) ≡ newer
left-live halves [] = refl
left-live halves (b ∷ newer) = append-nil (b ∷ newer)

module _ (frame : JournalFrame) (book : Book) (m : Machine) (gone : List Run) (disk : Disk) (image : List ℕ) (left : List (List ℕ)) (line : IsOfLine frame book) (of : IsOfBook book m) (fits : BookFits book gone) (may : MayHoldAll book.words (all_cells book.slaves) left) (stop : StopImage disk image) where
  sizes : sizes_of left ≡ sizes_of book.words
  sizes = same_sizes book.words left may.shape.slaves may.shape.words

  -- these batches are live, and redo of them gives the contents after k commands
  kept_at : (halves : Halves) (k : ℕ) → AtRest frame halves (synced (with_image disk image)) → AllByRecursion (IsWithin (sizes_of book.words)) (live halves) → book.durable ≤ k → k ≤ length (own book)
      → redone left (live_runs (live halves)) ≡ after_entries (base_of book) (own book) k → Kept image left m
  kept_at halves k rest within least most same = record {
    journal = record { form = Two; batches = live halves };
    live = rest-journal frame halves (synced (with_image disk image)) (sizes_of left) line.is_frame (length-map left (λ (words : List ℕ). length words) ∙ may.shape.slaves ∙ line.slaves) rest
        (subst (λ (s : List ℕ). AllByRecursion (IsWithin s) (live halves)) (sym sizes) within);
    k = k;
    may_keep = (omega (arith, of.acknowledged), omega (arith, ap length of.accepted, length-entries 0 (base_of book) book.accepted));
    same = same ∙ entries-contents 0 (base_of book) book.accepted k
        ∙ ap (λ (base : List (List ℕ)). contents_after base book.accepted k) (sym of.base) ∙ ap (λ (commands : List Command). contents_after (machines.base_of m) commands k) (sym of.accepted);
  }

  as_live : AtRest frame book.halves (synced (with_image disk image)) → Kept image left m
  as_live rest = kept_at book.halves book.durable rest line.within (omega arith) fits.durable_few
      (kept-live book.words (base_of book) (own book) book.durable book.halves (all_cells book.slaves) gone fits left may)

  as_next : (place : Place) (entries : List Entry) → Appending book place entries → AtRest frame (with_batch book.halves place (batch_in book.halves place entries)) (synced (with_image disk image)) → Kept image left m
  as_next place entries next rest =
      let batch = batch_in book.halves place entries in
      let is = entries-in book.halves place entries in
      let lives : live (with_batch book.halves place batch) ≡ live book.halves ++ batch ∷ [] = with_batch-live book.halves place batch next.in_older in
      let inside : AllByRecursion (LieWithin (sizes_of book.words)) batch.entries = subst (AllByRecursion (LieWithin (sizes_of book.words))) (sym is) next.within in
      let both : AllByRecursion (IsWithin (sizes_of book.words)) (live book.halves ++ batch ∷ []) = All-join (IsWithin (sizes_of book.words)) (live book.halves) (batch ∷ []) line.within (inside, tt) in
      kept_at (with_batch book.halves place batch) (book.durable + length entries) rest
      (subst (AllByRecursion (IsWithin (sizes_of book.words))) (sym lives) both)
      (omega arith) next.few
      (ap (λ (l : List Batch). redone left (live_runs l)) lives
      ∙ kept-next book.words (base_of book) (own book) book.durable book.halves (all_cells book.slaves) gone fits batch
      (subst (λ (l : List Entry). take (length l) (drop book.durable (own book)) ≡ l) (sym is) next.next) left may
      ∙ ap (λ (l : List Entry). after_entries (base_of book) (own book) (book.durable + length l)) is)

  as_newer : Retiring book → AtRest frame (retired book.halves) (synced (with_image disk image)) → Kept image left m
  as_newer retires rest =
      let lives : live (retired book.halves) ≡ book.halves.newer = left-live book.halves book.halves.newer in
      kept_at (retired book.halves) book.durable rest
      (subst (AllByRecursion (IsWithin (sizes_of book.words))) (sym lives) (all_after (IsWithin (sizes_of book.words)) book.halves.older book.halves.newer line.within))
      (omega arith) fits.durable_few
      (ap (λ (l : List Batch). redone left (live_runs l)) lives
      ∙ kept-newer book.words (base_of book) (own book) book.durable book.halves (all_cells book.slaves) gone fits retires.settled left may)

  in_gate : (place : Place) (entries : List Entry) (gate : ℕ) → Appending book place entries → HasGate frame book.halves place entries gate disk → Kept image left m
  in_gate place entries gate next g = ⊎_elim as_live (as_next place entries next) (gate-image frame book.halves place entries gate disk image g stop)

  in_batch : (place : Place) (entries : List Entry) → HasBatch frame book.halves place entries disk → Kept image left m
  in_batch place entries n = as_live (batch-image frame book.halves place entries disk image n stop)

  in_opening : (place : Place) (entries : List Entry) (out failed : Bool) → Appending book place entries → OpensGate frame book place entries out failed disk → Kept image left m
  in_opening place entries true failed next g = in_gate place entries g.0 next g.1
  in_opening place entries false false next n = in_batch place entries n
  in_opening place entries false true next (inl n) = in_batch place entries n
  in_opening place entries false true next (inr g) = in_gate place entries g.0 next g.1

  pub kept : (doing : Doing) (out failed : Bool) → DoingFits frame book doing out failed disk → Kept image left m
  kept Resting out failed rest = as_live (rest-image frame book.halves disk image rest stop)
  kept (Payload place entries) out failed p = as_live (payload-image frame book.halves place p.2.0 disk image p.2.1.1 stop)
  kept (PayloadSync place entries) out failed p = as_live (payload-image frame book.halves place (payload_bytes book place entries) disk image p.1 stop)
  kept (OpenGate place entries) out failed g = in_opening place entries out failed g.0 g.1
  kept (OpenSync place entries) out failed g = in_gate place entries 0xA5 g.0 g.1
  kept CloseGate out failed c = ⊎_elim as_live (as_newer c.1) (closing-image frame book.halves c.2.0 disk image c.2.1 stop)
  kept CloseSync out failed c = ⊎_elim as_live (as_newer c.0) (closing-image frame book.halves 0 disk image c.1 stop)
  kept FarGate out failed none = absurd none
  kept Mark out failed none = absurd none
  kept MarkSync out failed none = absurd none
  kept Version out failed none = absurd none
  kept VersionSync out failed none = absurd none
