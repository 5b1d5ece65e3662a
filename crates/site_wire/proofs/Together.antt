-- What a power cut leaves between two calls of the journal's file and of real slaves together.
use Rattle.std.proofs.Common.{◌≡◌, ℕ, zero, suc, true, false, List, [], ◌∷◌, ◌++◌, length, Some, slice_get, refl, sym, ap, subst, ◌∙◌, ◌≤◌, min}
use Rattle.std.proofs.lemmas.List.{append_cancel_left}
use Rattle.esc_model.specs.SlaveHalf.{SlaveHalf, MayLeave}
use Rattle.site_core.specs.Disk.{Disk, StopImage}
use Rattle.site_core.specs.State.{EachMayLeave}
use Rattle.site_file.specs.declared.asking.LineFile.TheVariants.{Journal}
use Rattle.site_file.specs.declared.asking.Asked.{Asked}
use Rattle.site_file.specs.Files.{File, BecomesBy}
use Rattle.site_file.specs.Held.{of_file}
use Rattle.site_file.specs.AllFiles.{HoldsDisk, calls_of}
use Rattle.site_wire.specs.JournalLaws.{CutBetweenCalls}
use Rattle.site_wire.specs.Sent.{Exchanged}
use Rattle.site_wire.specs.RealSlaves.{Lives}
use Rattle.site_wire.proofs.AmendedLaws.{amended_leaves_no_more}
use Rattle.site_wire.proofs.JournalFile.{journal_is_followed}
use Rattle.site_wire.proofs.Behind.{slaves_are_behind}

-- the words of each half
pub each_leaves : (halves : List SlaveHalf) (words : List (List ℕ)) → length words ≡ length halves
    → ((k : ℕ) (half : SlaveHalf) (left : List ℕ) → slice_get halves k ≡ Some half → slice_get words k ≡ Some left → MayLeave half left)
    → EachMayLeave halves words
each_leaves [] [] same all = tt
each_leaves [] (w ∷ words) same all = absurd cc
each_leaves (h ∷ halves) [] same all = absurd cc
each_leaves (h ∷ halves) (w ∷ words) same all =
    (all zero h w refl refl, each_leaves halves words (let e : suc (length words) ≡ suc (length halves) = same in cc) (λ k half left here there. all (suc k) half left here there))

-- what is left of a file that holds the disk
pub held_leaves : (disk : Disk) (file : File) (image : List ℕ) → HoldsDisk disk file → StopImage file.disk image → StopImage disk image
held_leaves disk file image holds stop = record {
  bytes = λ at is. stop.bytes at (holds.synced at is) ∙ ap (λ (b : List ℕ). slice_get b at) holds.bytes;
  no_shorter = subst (λ (b : List ℕ). min disk.synced_length (length b) ≤ length image) holds.bytes
      (subst (λ (n : ℕ). min n (length file.disk.bytes) ≤ length image) holds.synced_length stop.no_shorter);
}

pub cut_between_calls : (L F C : Type 0) → CutBetweenCalls L F C
cut_between_calls L F C device seen begun calls now pair follows going running holds log becomes stop words =
    let files = journal_is_followed L F C device seen follows begun holds in
    let same : calls_of files.pieces ++ files.last ≡ calls =
    append_cancel_left device.journal.asking.calls.begun.value (calls_of files.pieces ++ files.last) calls (sym files.has ∙ log) in
    record {
      disk = held_leaves seen.state.disk now pair.disk
          (files.holds (follows.sound going) (λ stopped. absurd (let e : true ≡ false = sym stopped ∙ running in cc)) Journal now refl
          (subst (λ (l : List Asked). BecomesBy (of_file Journal l) (begun Journal) now) (sym same) becomes)) stop;
      words = each_leaves seen.state.halves pair.words words.count (λ slave half left here there.
          let it = words.each slave left there in
          let slaves = slaves_are_behind L F C device seen follows in
          let after = slaves.follow going running slave it.first half it.real it.later it.here here it.at it.after
          (subst (λ (l : List Exchanged). Lives l it.real it.later) slaves.has it.lives) in
          amended_leaves_no_more half it.later left after.amended it.leaves);
    }
