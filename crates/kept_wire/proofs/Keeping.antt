-- The laws of a station whose line is on a wire, from those of its device and of the station.
use Rattle.std.proofs.Common.{◌≡◌, ◌∙◌, ℕ, ◌<◌, zero, suc, true, false, List, [], ◌∷◌, ◌++◌, length, take, Some, slice_get, IsTrue, refl, sym, ap, subst, arith}
use Rattle.std.proofs.lemmas.List.{append_cancel_left, length-map}
use Rattle.std.proofs.lemmas.Option.{slice_get_within, slice_get-map}
use Rattle.std.specs.Option.{option_map}
use Rattle.jrn_format.specs.declared.journal.Journal.{Journal}
use Rattle.esc_model.specs.SlaveHalf.{SlaveHalf}
use Rattle.site_core.specs.Disk.{Disk}
use Rattle.site_core.specs.State.{State, Seen, Pair, Moment, LeftSince}
use Rattle.site_shadow.specs.Following.{first_of}
use Rattle.site_shadow.proofs.Towards.{towards_since}
use Rattle.site_file.specs.declared.asking.LineFile.{LineFile}
use Rattle.site_file.specs.declared.asking.LineFile.TheVariants.{Journal as JournalFile}
use Rattle.site_file.specs.declared.asking.Asked.{Asked}
use Rattle.site_file.specs.Files.{File, BecomesBy}
use Rattle.site_file.specs.Held.{of_file}
use Rattle.site_file.specs.AllFiles.{Holds, HoldsDisk, calls_of}
use Rattle.site_wire.specs.Following.{WireFollows}
use Rattle.site_wire.specs.Sent.{Exchanged}
use Rattle.site_wire.specs.Moments.{Doing, asked_by, sent_by, SlavesFollow, IsCutIn, HasDone}
use Rattle.site_wire.specs.declared.device.WireDevice.{WireDevice}
use Rattle.site_wire.proofs.Behind.{slaves_are_behind}
use Rattle.site_wire.proofs.Doings.{leaves_together, cut_leaves_no_more}
use Rattle.site_wire.proofs.JournalFile.{journal_is_followed}
use Rattle.book_model.specs.Machine.{Machine}
use Rattle.book_model.specs.Opening.{book_on}
use Rattle.desk_book.specs.declared.call.Call.{Call}
use Rattle.desk_book.specs.Calls.{AreAnswered, replayed}
use Rattle.desk_book.specs.Logs.{DiskEntry}
use Rattle.desk_laws.specs.Joined.{IsOpenedOn}
use Rattle.desk_laws.specs.Together.{AreTogether, starts}
use Rattle.station_jobs.specs.declared.log.SlaveLog.{SlaveLog}
use Rattle.station_jobs.specs.Ends.{Stay}
use Rattle.kept_files.specs.Cuts.{DiskCut, SlaveCut, AllCut, CutIsKept, JournalIsCut, IsKeptPair}
use Rattle.kept_wire.specs.Keeping.{HoldsAfter, DeskOnWire, DeskIsCut, SiteKeepsOnWire, SiteServesOnWire, PartIsOnWire, DiskIsOnFile, CutLeavesKeptOnWire}
use Rattle.kept_wire.proofs.InJobs.{slave_is_cut}

-- what is at a place
there_is : {A : Type 0} (xs : List A) (k : ℕ) → k < length xs → (a : A) × (slice_get xs k ≡ Some a)
there_is [] k inside = absurd (omega (arith, inside))
there_is (a ∷ xs) zero inside = (a, refl)
there_is (a ∷ xs) (suc k) inside = there_is xs k (omega (arith, inside))

-- ONE DEVICE

module _ {L F C : Type 0} where
  module _ (device : WireDevice L F C) (seen : Seen) (follows : WireFollows device seen) (begun : State) (from_first : first_of seen ≡ begun)
      (done : HasDone device seen) where
    runs_on : seen.is_stopped ≡ false → ¬ IsTrue seen.is_stopped
    runs_on running stopped = let e : true ≡ false = sym stopped ∙ running in cc

    pub slaves_after : device.is_over ≡ false → seen.is_stopped ≡ false → SlavesFollow (sent_by done.all) begun.halves seen.state.halves
    slaves_after going running =
        let slaves = slaves_are_behind L F C device seen follows in
        subst (λ (s : State). SlavesFollow (sent_by done.all) s.halves seen.state.halves) from_first
        (subst (λ (log : List Exchanged). SlavesFollow log (first_of seen).halves seen.state.halves) (sym slaves.has ∙ done.sent) (slaves.follow going running))

    journal_after : device.is_over ≡ false → seen.is_stopped ≡ false → (file mid : File) → HoldsDisk begun.disk file
        → BecomesBy (of_file JournalFile (asked_by done.all)) file mid → HoldsDisk seen.state.disk mid
    journal_after going running file mid holds becomes =
        let files = journal_is_followed L F C device seen follows (λ name. file) (subst (λ (s : State). HoldsDisk s.disk file) (sym from_first) holds) in
        let same : calls_of files.pieces ++ files.last ≡ asked_by done.all =
        append_cancel_left device.journal.asking.calls.begun.value (calls_of files.pieces ++ files.last) (asked_by done.all) (sym files.has ∙ done.asked) in
        files.holds (follows.sound going) (runs_on running) JournalFile mid refl
        (subst (λ (l : List Asked). BecomesBy (of_file JournalFile l) file mid) (sym same) becomes)

    pub holds_after : device.is_over ≡ false → seen.is_stopped ≡ false → HoldsAfter done.all begun seen.state
    holds_after going running = record { journal = journal_after going running; slaves = slaves_after going running }

    -- a pair that a cut leaves is one that it could have left since the site began
    left_since : (place : ℕ) (one : Doing) (pair : Pair) → slice_get done.all place ≡ Some one → IsCutIn (take place done.all) one begun pair → LeftSince seen 0 pair
    left_since place one pair is cut =
        towards_since seen one.time pair (cut_leaves_no_more L F C device seen done place one pair is
        (subst (λ (s : State). IsCutIn (take place done.all) one s pair) (sym from_first) cut))

pub site_keeps_on_wire : (L F C : Type 0) → SiteKeepsOnWire L F C
site_keeps_on_wire L F C device before now follows new first keeps =
    let done = (leaves_together L F C device now follows).0 in (
      record {
        is_over = device.is_over;
        all = done.all;
        kept = λ machine was place one pair is cut.
            (keeps machine was).left pair
            (subst (λ (past : List Moment). LeftSince now (length past) pair) (sym new) (left_since device now follows before.state first done place one pair is cut));
        hold = holds_after device now follows before.state first done;
      },
      done.asked,
      done.sent,
    )

pub site_serves_on_wire : (L F C : Type 0) → SiteServesOnWire L F C
site_serves_on_wire L F C device commands before now follows new first keeps =
    let done = (leaves_together L F C device now follows).0 in (
      record {
        is_over = device.is_over;
        all = done.all;
        kept = λ machine was.
            let next = keeps machine was in
            record {
              k = next.k;
              may_keep = next.may_keep;
              kept = λ place one pair is cut.
                  next.stays.left pair
                  (subst (λ (past : List Moment). LeftSince now (length past) pair) (sym new) (left_since device now follows before.state first done place one pair is cut));
            };
        hold = holds_after device now follows before.state first done;
      },
      done.asked,
      done.sent,
    )

-- A DESK

pub part_is_on_wire : (L F C : Type 0) → PartIsOnWire L F C
part_is_on_wire L F C device start end follows first =
    let done = leaves_together L F C device end follows in (
      record {
        is_over = device.is_over;
        all = done.0.all;
        first = first;
        leaves = done.0.of_slaves;
        between = done.1;
        hold = slaves_after device end follows start.state first done.0;
      },
      done.0.asked,
      done.0.sent,
    )

pub disk_is_on_file : (L F C : Type 0) → DiskIsOnFile L F C
disk_is_on_file L F C device start end follows first begun holds =
    journal_is_followed L F C device end follows begun (subst (λ (s : State). Holds s JournalFile (begun JournalFile)) (sym first) holds)

module _ (F S : Type 0) (journal_is_cut : JournalIsCut F) (cut_is_kept : CutIsKept) (seen : S → Seen) (flusher : Stay S (List DiskEntry))
    (workers : List (Stay S SlaveLog)) (desk : DeskOnWire F seen flusher workers) (old : State) (calls : List Call) (begun : LineFile → File) (pair : Pair)
    (together : AreTogether seen flusher.start (starts workers) old) (cut : DeskIsCut desk calls begun pair) where
  disk_cut : DiskCut calls old.disk pair.disk
  disk_cut =
      subst (λ (d : Disk). DiskCut calls d pair.disk) (sym together.disk)
      (journal_is_cut calls (seen flusher.start) (seen flusher.site) desk.journal.device begun (λ name. pair.disk) cut.journal.at cut.journal.follows
      cut.journal.on (λ name. cut.bytes) cut.journal.cut)

  slave_cut : (slave : ℕ) (half : SlaveHalf) (words : List ℕ) → slice_get old.halves slave ≡ Some half → slice_get pair.words slave ≡ Some words
      → SlaveCut calls slave half words
  slave_cut slave half words here there =
      let inside : slave < length workers = (let of_words = slice_get_within pair.words slave words there in omega (arith, of_words, cut.count)) in
      let end = there_is workers slave inside in
      let start : slice_get (starts workers) slave ≡ Some end.0.start =
      slice_get-map (λ (e : Stay S SlaveLog). e.start) workers slave ∙ ap (option_map (λ (e : Stay S SlaveLog). e.start)) end.1 in
      slave_is_cut slave (seen end.0.start) (seen end.0.site) (desk.slaves slave end.0 end.1) calls half words
      (sym (together.halves slave end.0.start start) ∙ here) (cut.slaves slave end.0 end.1 words there)

  all_cut : AllCut calls old pair
  all_cut = record {
    disk = disk_cut;
    count = (let many = length-map workers (λ (e : Stay S SlaveLog). e.start) in let all = together.count in omega (arith, cut.count, many, all));
    slaves = slave_cut;
  }

  kept : (machine : Machine) (journal : Journal) → IsOpenedOn machine journal old calls → AreAnswered (book_on old journal) calls
      → IsKeptPair machine (replayed (book_on old journal) calls) pair
  kept machine journal opened answered = cut_is_kept machine journal old calls pair opened answered all_cut

pub cut_leaves_kept_on_wire : (F S : Type 0) → JournalIsCut F → CutIsKept → CutLeavesKeptOnWire F S
cut_leaves_kept_on_wire F S journal_is_cut cut_is_kept seen flusher workers desk machine journal old calls begun pair opened answered together cut =
    kept F S journal_is_cut cut_is_kept seen flusher workers desk old calls begun pair together cut machine journal opened answered
