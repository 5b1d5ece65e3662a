-- The images have the contents after a recovery, by what its devices have asked of them.
use Rattle.std.proofs.Common.{◌≡◌, ◌∙◌, ℕ, ◌<◌, Bool, true, false, List, [], ◌++◌, length, get_or, Option, Some, None, slice_get, is_some, IsTrue, refl, sym, ap, subst, arith}
use Rattle.std.specs.Option.{option_map}
use Rattle.std.specs.Prelude.{IsSomeAnd, unwrap_or}
use Rattle.std.proofs.lemmas.Bool.{eq-eqb, eqb-true}
use Rattle.std.proofs.lemmas.List.{append_cancel_left}
use Rattle.std.proofs.lemmas.Option.{slice_get_within, slice_get-get_or, slice_get-map}
use Rattle.esc_model.specs.SlaveHalf.{SlaveHalf, powered_up}
use Rattle.site_core.specs.Line.{Line}
use Rattle.site_core.specs.State.{State}
use Rattle.site_shadow.specs.Site.{SiteValue}
use Rattle.site_file.specs.declared.asking.LineFile.{LineFile as FileName}
use Rattle.site_file.specs.declared.asking.LineFile.TheVariants.{Journal, Image}
use Rattle.site_file.specs.declared.asking.Asked.{Asked}
use Rattle.site_file.specs.declared.asking.FileLog.{FileLog}
use Rattle.site_file.specs.declared.asking.Log.{Log}
use Rattle.site_file.specs.declared.files.FileDevice.{FileDevice}
use Rattle.site_file.specs.Asking.{HasLog, TellsLog}
use Rattle.site_file.specs.AllFiles.{FilesFollow, Holds, HoldsWords, calls_of}
use Rattle.site_file.specs.Files.{BecomesBy, File, image_of}
use Rattle.site_file.specs.Held.{is_same, of_file}
use Rattle.site_file.proofs.FollowingWords.{site_is_followed}
use Rattle.kept_files.specs.KeptFiles.{holding, words_or_none}
use Rattle.kept_files.proofs.Extending.{first_stays}
use Rattle.station_alone.specs.Station.{Station}
use Rattle.station_alone.specs.Recovery.{HasRecovered}
use Rattle.station_text.specs.declared.line_file.LineFile.{LineFile}
use Rattle.station_files.specs.Files.{Known}
use Rattle.station_alone.specs.declared.recovery.Recovered.{Recovered}
use Rattle.script_session.specs.declared.logs.DeskLog.{DeskLog}
use Rattle.script_session.specs.declared.logs.LineLog.{LineLog}
use Rattle.script_session.specs.declared.logs.RunLog.{RunLog}
use Rattle.script_session.specs.After.{SavesRecovered}
use Rattle.script_session.specs.Recovering.{RecoversByThreads}
use Rattle.script_session.specs.Running.{EndsReported, whole_of}
use Rattle.script_session.proofs.AfterLaws.{saves_weaker}
use Rattle.script_session.proofs.ThreeDevices.{HasLed, led_slave}
use Rattle.station_session.specs.RunFiles.{AreLogsReported, IsAllReported}
use Rattle.station_session.specs.Session.{HaveContents, ImageBecomes}
use Rattle.station_session.proofs.RunFiles.{follows, same-half, tells, well}

-- all that a device has asked is told
calls_told : (calls : Log) (told : Option (List Asked)) (log : List Asked) → HasLog calls log → TellsLog calls told → IsTrue (is_some told) → unwrap_or told [] ≡ log
calls_told calls (Some asked) log has tells some = append_cancel_left calls.begun.value asked log (sym tells ∙ has)
calls_told calls None log has tells some = absurd cc

-- of the files that are the image of this slave
holds_own : (slave : ℕ) (name : FileName) (state : State) (half : SlaveHalf) (file : File) → IsTrue (is_same (Image slave) name) → slice_get state.halves slave ≡ Some half
    → file ≡ image_of half.words → Holds state name file
holds_own slave Journal state half file own here is = absurd cc
holds_own slave (Image other) state half file own here is =
    let same : slave ≡ other = eqb-true slave other own in
    subst (λ (n : ℕ). HoldsWords state.halves n file) same (record { half = half; here = here; file_is = is })

some_half : (here : Option SlaveHalf) → IsTrue (is_some here) → (half : SlaveHalf) × (here ≡ Some half)
some_half (Some half) some = (half, refl)
some_half None some = absurd cc

goes_on : (stopped : Bool) → stopped ≡ false → ¬ IsTrue stopped
goes_on stopped is stops = let never : false ≡ true = sym is ∙ stops in absurd cc

module _ (F : Type 0) {D : Type 0} (inner : D → FileDevice F) where
  -- an image behind one device
  image_led : (slave : ℕ) (first half : SlaveHalf) (reported : FileLog) → HasLed (follows F inner) (well F inner) (tells F inner) slave first half reported → IsTrue (is_some reported.calls)
      → (old new : File) → old ≡ image_of first.words → ImageBecomes slave reported old new → new ≡ image_of half.words
  image_led slave first half reported led some old new is becomes =
      let sound = led.followed.1.0 in
      let device = inner led.followed.0 in
      let files : FilesFollow 0 (is_same (Image slave)) (λ name. old) device led.now =
      site_is_followed F device led.now sound.0 (is_same (Image slave)) (λ name. old)
      (λ name own. subst (λ (s : State). Holds s name old) (sym (first_stays led.before led.now led.new led.goes)) (holds_own slave name led.before.state first old own led.at_first is)) in
      let asked = calls_told device.asking.calls reported.calls (calls_of files.pieces ++ files.last) files.has led.followed.1.1.calls some in
      let held : HoldsWords led.now.state.halves slave new =
      files.holds sound.1 (goes_on led.now.is_stopped sound.2) (Image slave) new (eq-eqb slave slave refl)
      (subst (λ (l : List Asked). BecomesBy (of_file (Image slave) l) old new) asked becomes) in
      held.file_is ∙ ap (λ (h : SlaveHalf). image_of h.words) (same-half led.now.state.halves slave held.half half held.here led.at_now)

  module _ (site : SiteValue) (slaves : ℕ) (s : Station) (whole : LineLog FileLog) (new : site.seen.past ≡ []) (followed : EndsReported (follows F inner) (well F inner) (tells F inner) false site slaves whole s.seen) where
    have_contents : length site.line.sizes ≡ length site.seen.state.halves → length site.line.sizes ≡ slaves → AreLogsReported whole.desk → IsTrue (is_some whole.after.calls)
        → HasRecovered s → HaveContents site.seen.state s.book whole
    have_contents halves count logs after recovered slave there =
        let opened = followed.opened in
        let first = some_half (slice_get site.seen.state.halves slave) there in
        let within : slave < length site.seen.state.halves = slice_get_within site.seen.state.halves slave first.0 first.1 in
        let at_open : length site.line.sizes ≡ length opened.seen.state.halves =
        ap (λ (l : Line). length l.sizes) (sym followed.line) ∙ followed.desk.served.count in
        let last : slave < length s.seen.state.halves = omega (arith, within, halves, count, followed.desk.ends.count) in
        let half = get_or s.seen.state.halves slave (powered_up [] 0) in
        let at_last = slice_get-get_or s.seen.state.halves slave (powered_up [] 0) last in
        let led = led_slave (follows F inner) (well F inner) (tells F inner) false site slaves s.seen whole new followed slave first.0 half first.1 at_last (omega (arith, within, halves, at_open)) in (
          led.part,
          led.here,
          λ one two three opens serves ends.
              let begun = ap (λ (h : Option SlaveHalf). image_of (words_or_none h)) first.1 in
              let at_first = image_led slave first.0 led.mid whole.desk.line.reported led.opening logs.line (holding site.seen.state (Image slave)) one begun opens in
              let at_desk = image_led slave led.mid led.back led.part.reported led.desk (logs.slaves slave led.part led.here).log one two at_first serves in
              let words = sym (ap (λ (l : List (List ℕ)). slice_get l slave) recovered.words)
              ∙ slice_get-map (λ (h : SlaveHalf). h.words) s.seen.state.halves slave ∙ ap (option_map (λ (h : SlaveHalf). h.words)) at_last in
              (half.words, words, image_led slave led.back half whole.after led.after after two three at_desk ends),
        )

  -- what was saved of a recovery, all of whose devices are told of
  pub saves_contents : (files : Known) (line : LineFile) (site : SiteValue) (slaves : ℕ) (all : Option Recovered) (reported : RunLog FileLog) → site.seen.past ≡ []
      → length site.line.sizes ≡ length site.seen.state.halves → length site.line.sizes ≡ slaves → IsAllReported reported
      → SavesRecovered (λ s. IsSomeAnd (whole_of reported.desk reported.after) (λ whole.
      IsSomeAnd all (λ one. RecoversByThreads site one s) × EndsReported (follows F inner) (well F inner) (tells F inner) false site slaves whole s.seen)) files line site.seen
      → SavesRecovered (λ s. IsSomeAnd (whole_of reported.desk reported.after) (HaveContents site.seen.state s.book)) files line site.seen
  saves_contents files line site slaves all reported new halves count told saves =
      saves_weaker (λ s recovered way. by reported.desk reported.after told.desk told.after s recovered way) (λ s begins. begins) saves
    where
      by : (desk : Option (DeskLog FileLog)) (after : Option FileLog) → IsSomeAnd desk AreLogsReported → IsSomeAnd after (λ file. IsTrue (is_some file.calls))
          → (s : Station) → HasRecovered s → IsSomeAnd (whole_of desk after) (λ whole.
          IsSomeAnd all (λ one. RecoversByThreads site one s) × EndsReported (follows F inner) (well F inner) (tells F inner) false site slaves whole s.seen)
          → IsSomeAnd (whole_of desk after) (HaveContents site.seen.state s.book)
      by (Some desk) (Some after) logs last s recovered way =
          have_contents site slaves s (record { desk = desk; after = after }) new way.1 halves count logs last recovered
      by None after logs last s recovered way = absurd logs
      by (Some desk) None logs last s recovered way = absurd last
