-- The journal's file behind a device on a wire follows the site's disk, step by step.
use Rattle.std.proofs.Common.{◌≡◌, ◌⊎◌, inl, inr, ℕ, Bool, true, false, List, [], length, IsTrue, refl, sym, ap, subst, ◌∙◌}
use Rattle.site_core.specs.Disk.{Disk}
use Rattle.site_core.specs.State.{State, Seen, Moment, clock}
use Rattle.site_shadow.specs.Following.{begin_of, first_of, Extends}
use Rattle.site_shadow.proofs.Towards.{Extends-first, Extends-now}
use Rattle.site_file.specs.declared.asking.LineFile.{LineFile}
use Rattle.site_file.specs.declared.asking.LineFile.TheVariants.{Journal, Image}
use Rattle.site_file.specs.declared.files.FileDevice.{FileDevice}
use Rattle.site_file.specs.Following as files
use Rattle.site_file.specs.Files.{File}
use Rattle.site_file.specs.Held.{is_same}
use Rattle.site_file.specs.AllFiles.{Holds, HoldsDisk, FilesFollow}
use Rattle.site_file.proofs.SeveralCalls.{asks_nothing}
use Rattle.site_file.proofs.FilesFollow.{stays, asks_more, left_at_first}
use Rattle.site_file.proofs.FollowingWords.{begins_to_follow, follows_on, site_is_followed}
use Rattle.site_wire.specs.Journal as journal
use Rattle.site_wire.specs.Journal.{JournalStep}
use Rattle.site_wire.specs.Following as wire
use Rattle.site_wire.specs.Following.{Step, Run, HasFollowed, Refuses}
use Rattle.site_wire.specs.JournalLaws.{JournalIsFollowed}
use Rattle.site_wire.specs.declared.device.WireDevice.{WireDevice}
use Rattle.site_wire.proofs.Behind.{step_extends}

-- of the files only the journal is owned
owned_holds : (Q : LineFile → Type 0) → Q Journal → (name : LineFile) → IsTrue (is_same Journal name) → Q name
owned_holds Q here Journal is_owned = here
owned_holds Q here (Image slave) is_owned = absurd cc

module _ {F : Type 0} (since : ℕ) (begun : LineFile → File) where
  -- nothing is asked, and the disk stays
  rests : (old new : Seen) (d : FileDevice F) → Extends old new → new.state.disk ≡ old.state.disk → old.is_stopped ≡ false
      → FilesFollow since (is_same Journal) begun d old → FilesFollow since (is_same Journal) begun d new
  rests old new d extends same running follows = by d.has_failed refl
    where
      holds_on : (name : LineFile) (mid file : File) → IsTrue (is_same Journal name) → Holds old.state name mid → file ≡ mid → Holds new.state name file
      holds_on Journal mid file is_owned holds is =
          subst (λ (disk : Disk). HoldsDisk disk file) (sym same) (subst (HoldsDisk old.state.disk) (sym is) holds)
      holds_on (Image slave) mid file is_owned holds is = absurd cc

      by : (failed : Bool) → d.has_failed ≡ failed → FilesFollow since (is_same Journal) begun d new
      by true failed =
          stays since (is_same Journal) begun old new d d refl (λ sound_yet going. absurd (let e : true ≡ false = sym failed ∙ sound_yet in cc)) extends follows
      by false failed =
          asks_more since (is_same Journal) begun old new d d [] failed running
          (asks_nothing d.asking.calls) extends
          (λ files_then images bytes holds left.
          let shown = left_at_first old.state (is_same Journal) files_then holds images left in (shown.0, Extends-now old new shown.0 extends shown.1, shown.2))
          (λ sound_yet going name mid file is_owned holds becomes. holds_on name mid file is_owned holds becomes) follows

  one_of_files : (old new : Seen) (d after : FileDevice F) → files.Step old d new after → FilesFollow since (is_same Journal) begun d old
      → FilesFollow since (is_same Journal) begun after new
  one_of_files old new d after one follows = follows_on F since (is_same Journal) begun old new d after follows (files.more old new d after files.none one)

  asked : (old new : Seen) (d after : FileDevice F) → JournalStep old d new after → FilesFollow since (is_same Journal) begun d old
      → FilesFollow since (is_same Journal) begun after new
  asked old new d after (journal.goes_on goes quiet) follows = one_of_files old new d after (files.goes_on goes quiet) follows
  asked old new d after (journal.write at bytes passing given running inside wrote reported calls) follows =
      one_of_files old new d after (files.write at bytes passing given running inside wrote reported calls) follows
  asked old new d after (journal.sync passing given running synced reported calls) follows =
      one_of_files old new d after (files.sync passing given running synced reported calls) follows

module _ {L F C : Type 0} (since : ℕ) (begun : LineFile → File) where
  step : (old new : Seen) (d after : WireDevice L F C) → Step old d new after → FilesFollow since (is_same Journal) begun d.journal old
      → FilesFollow since (is_same Journal) begun after.journal new
  step old new d after (wire.idles goes halves same nothing) follows =
      one_of_files since begun old new d.journal after.journal (files.goes_on goes (files.unasked same)) follows
  step old new d after (wire.asks running one halves nothing) follows = asked since begun old new d.journal after.journal one follows
  step old new d after (wire.carried one) follows =
      subst (λ (x : FileDevice F). FilesFollow since (is_same Journal) begun x new) (sym one.journal)
      (rests since begun old new d.journal one.extends (ap (λ (s : State). s.disk) one.new_is) one.running follows)

  run : (old : Seen) (d : WireDevice L F C) (new : Seen) (after : WireDevice L F C) → Run old d new after
      → FilesFollow since (is_same Journal) begun d.journal old → FilesFollow since (is_same Journal) begun after.journal new
  run old d new after wire.none follows = follows
  run old d new after (wire.more mid last half_way end so_far one) follows =
      step mid last half_way end one (run old d mid half_way so_far follows)

step_on : {L F C : Type 0} (old new : Seen) (d after : WireDevice L F C) → Step old d new after → Extends old new
step_on old new d after (wire.idles goes halves same nothing) = goes.extends
step_on old new d after (wire.asks running one halves nothing) = step_extends old new d.journal after.journal one
step_on old new d after (wire.carried one) = one.extends

pub run_first : {L F C : Type 0} (old : Seen) (d : WireDevice L F C) (new : Seen) (after : WireDevice L F C) → Run old d new after → first_of new ≡ first_of old
run_first old d new after wire.none = refl
run_first old d new after (wire.more mid last half_way end so_far one) =
    Extends-first mid last (step_on mid last half_way end one) ∙ run_first old d mid half_way so_far

pub journal_followed : {L F C : Type 0} (d : WireDevice L F C) (seen : Seen) (begun : LineFile → File) → HasFollowed d seen
    → Holds (first_of seen) Journal (begun Journal) → FilesFollow 0 (is_same Journal) begun d.journal seen
journal_followed {L} {F} {C} d seen begun so_far holds =
    let at_first : first_of so_far.first ≡ so_far.first.state = ap (λ (p : List Moment). begin_of p so_far.first.state) so_far.new in
    let same : first_of seen ≡ so_far.first.state = run_first so_far.first so_far.began seen d so_far.run ∙ at_first in
    let starts : clock so_far.first ≡ 0 = ap length so_far.new in
    let here : Holds so_far.first.state Journal (begun Journal) = subst (λ (s : State). Holds s Journal (begun Journal)) same holds in
    run 0 begun so_far.first so_far.began seen d so_far.run
    (subst (λ (t : ℕ). FilesFollow t (is_same Journal) begun so_far.began.journal so_far.first) starts
    (begins_to_follow F (is_same Journal) begun so_far.began.journal so_far.first so_far.unasked
    (owned_holds (λ (name : LineFile). Holds so_far.first.state name (begun name)) here)))

pub journal_is_followed : (L F C : Type 0) → JournalIsFollowed L F C
journal_is_followed L F C device seen follows begun holds = by follows.follows
  where
    by : HasFollowed device seen ⊎ Refuses device → FilesFollow 0 (is_same Journal) begun device.journal seen
    by (inl so_far) = journal_followed device seen begun so_far holds
    by (inr refuses) =
        site_is_followed F device.journal seen (files.refuses refuses.unasked refuses.failed) (is_same Journal) begun
        (owned_holds (λ (name : LineFile). Holds (first_of seen) name (begun name)) holds)
