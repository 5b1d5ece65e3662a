-- A run on a line: how far it comes, and what the files hold after it.
use Rattle.std.proofs.Common.{◌≡◌, ◌∙◌, ℕ, Bool, true, false, IsTrue, List, Some, Result, Ok, Err, inl, inr, refl, sym, ap, subst}
use Rattle.std.specs.Prelude.{IfOk, IsErr, IsOkAnd, IsSomeAnd, None, OnOk, Option}
use Rattle.sii_edit.specs.declared.command.Command.{Command}
use Rattle.site_core.specs.Passes.{LeavesOnly}
use Rattle.site_core.specs.State.{Pair, Seen}
use Rattle.site_core.specs.Times.{Follows}
use Rattle.site_core.proofs.Runs.{Passes-stays, Passes-then, Passes-weaker}
use Rattle.site_core.proofs.Times.{Follows-then}
use Rattle.site_shadow.specs.Site.{SiteValue}
use Rattle.book_model.specs.Machine.{reopened}
use Rattle.site_journal.specs.Running.{KeptWith}
use Rattle.kept_files.specs.KeptFiles.{KeptAfter}
use Rattle.station_alone.specs.Station.{Station}
use Rattle.station_alone.specs.Keeping.{KeptFor}
use Rattle.station_alone.specs.Opening.{BeginsSession}
use Rattle.station_alone.specs.declared.recovery.Recovered.{Recovered}
use Rattle.station_threads.specs.declared.closing.Ends.{Ends}
use Rattle.station_text.specs.declared.line_file.LineFile.{LineFile}
use Rattle.station_files.specs.Files.{Known}
use Rattle.station_line.specs.declared.answered.Answered.{Answered}
use Rattle.station_line.specs.declared.answered.Answered.TheVariants.{AllAccepted}
use Rattle.station_files.specs.declared.faults.Fault.{Fault}
use Rattle.station_line.specs.Opened.{is_old, GoesKept, StartsFrom}
use Rattle.station_line.specs.Rounds.{Goes}
use Rattle.station_line.specs.Site.{IsFollowed}
use Rattle.script_session.specs.declared.logs.DeskLog.{DeskLog}
use Rattle.script_session.specs.declared.logs.LineLog.{LineLog}
use Rattle.script_session.specs.declared.logs.RunLog.{RunLog}
use Rattle.script_session.specs.declared.logs.UnservedLog.{UnservedLog}
use Rattle.script_session.specs.declared.logs.UnservedLog.TheVariants as unserved
use Rattle.script_session.specs.declared.running.LineRun.{LineRun}
use Rattle.script_session.specs.declared.threads.Left.{Left}
use Rattle.script_session.specs.After.{GoesAfterDesk, GoesFollowed, LedOn, SavesRecovered, ServesSome, Tells}
use Rattle.script_session.specs.AtDesk.{IsServedReported, IsUnservedReported, ServesFollowed, ServesParts}
use Rattle.script_session.specs.AtDesk as at_desk
use Rattle.script_session.specs.Parts.{AreSound, IsDeskReported, IsSynced}
use Rattle.script_session.specs.Running.{DeskGoes, DeskTells, EndsReported, GoesAfter, GoesAlone, HasEnded, LedAtDesk, OfDevices, SavesDesk, SavesSite, Says, ServesOn}
use Rattle.script_session.specs.Running.{TellsOf, desk_of, line_reported, opening_of, whole_of}
use Rattle.script_session.specs.Running.{idle, recovered, separate, served, unbegun, unrecovered}
use Rattle.script_session.specs.Saving.{SavesAfter, SavesLeft, Serves}
use Rattle.script_session.proofs.AfterLaws.{saves_weaker}
use Rattle.script_session.proofs.DeskLaws.{served-quietly}
use Rattle.script_session.proofs.SavingLaws.{after-unserved, after-worse}
use Rattle.script_session.proofs.SoundLaws.{served_soundly}

-- ---- how far it comes

-- the station wasn't opened
pub reported-opening : {T : Type 0} (tellings : Option (DeskLog T)) (opening : Option T) (reported : T) → tellings ≡ None → opening ≡ Some reported → line_reported tellings opening ≡ Some reported
reported-opening {T} tellings opening reported none some = ap (λ (d : Option (DeskLog T)). line_reported d opening) none ∙ some

-- the parts didn't end soundly
pub after_unsound : (says : Says) (is_driven : Bool) (sound : Result (Unit {0}) Fault) (fault : Fault) (commands : List Command) (left : Seen)
    (Failed : Type 0) → sound ≡ Err fault → Failed → GoesAfter says is_driven sound commands left Failed
after_unsound says true sound fault commands left Failed is failed =
    subst (λ (r : Result (Unit {0}) Fault). GoesAfter says true r commands left Failed) (sym is) failed
after_unsound says false sound fault commands left Failed is failed =
    subst (λ (r : Result (Unit {0}) Fault). GoesAfter says false r commands left Failed) (sym is) failed

-- they did
after_sound : (says : Says) (is_driven : Bool) (sound : Result (Unit {0}) Fault) (commands : List Command) (left : Seen) (Failed : Type 0)
    → sound ≡ Ok tt → GoesAfter says is_driven (Ok tt) commands left Failed → GoesAfter says is_driven sound commands left Failed
after_sound says is_driven sound commands left Failed is goes =
    subst (λ (r : Result (Unit {0}) Fault). GoesAfter says is_driven r commands left Failed) (sym is) goes

-- the commands that were left are those of the run
pub after_unserved : (says : Says) (is_driven : Bool) (sound : Result (Unit {0}) Fault) (unserved commands : List Command) (left : Seen)
    (Failed : Type 0) → (is_driven ≡ false → unserved ≡ commands) → GoesAfter says is_driven sound unserved left Failed
    → GoesAfter says is_driven sound commands left Failed
after_unserved says true (Ok done) unserved commands left Failed same goes = goes
after_unserved says false (Ok done) unserved commands left Failed same goes = subst (λ (l : List Command). GoesAlone says l left Failed) (same refl)
    goes
after_unserved says true (Err fault) unserved commands left Failed same goes = goes
after_unserved says false (Err fault) unserved commands left Failed same goes = goes

-- a site was recovered, and commands were accepted on it after that
serves_after : {D : Type 0} (follows : D → Seen → Type 0) (before : Seen) (r : Station) (accepted : List Command) (s : Station)
    → GoesKept before r.seen → BeginsSession before r → Goes accepted r s → IsFollowed follows s.seen
    → ServesOn follows accepted before s.seen
serves_after follows before r accepted s goes begins serves followed = record {
  goes_on = Follows-then before r.seen s.seen goes.goes_on serves.led;
  keeps = λ machine kept.
      let first = goes.keeps machine kept in
      let session = begins machine kept in
      let after = serves.keeps (reopened machine session.k) session.of session.kept in
      let next : Pair → Type 0 = KeptAfter machine session.k accepted in
      record {
        k = session.k;
        may_keep = session.may_keep;
        stays =
            Passes-stays next before s.seen
            (Passes-then (LeavesOnly next) before r.seen s.seen
            (Passes-weaker (LeavesOnly (KeptFor machine)) (LeavesOnly next) before r.seen (λ state only pair leaves. inl (only pair leaves))
            first.passes)
            (Passes-weaker (LeavesOnly (KeptWith (reopened machine session.k) accepted)) (LeavesOnly next) r.seen s.seen
            (λ state only pair leaves. inr (only pair leaves)) after.on_the_way.passes));
      };
  followed = followed;
}

goes_alone : {D T : Type 0} (follows : D → Seen → Type 0) (well : D → Type 0) (tells : D → T → Type 0) (reported : RunLog T) (before : Seen) (r : Station)
    (commands : List Command) (Failed : Type 0) → GoesKept before r.seen → BeginsSession before r → ServesSome (TellsOf follows tells reported.after) commands r
    → GoesAlone (OfDevices follows well tells reported) commands before Failed
goes_alone follows well tells reported before r commands Failed goes begins some =
    recovered some.accepted some.last.seen some.among
    (serves_after (TellsOf follows tells reported.after) before r some.accepted some.last goes begins some.goes some.followed)

-- what went after a desk whose parts ended soundly
pub goes_after_desk : {D T : Type 0} (follows : D → Seen → Type 0) (well : D → Type 0) (tells : D → T → Type 0) (reported : RunLog T) (after : T)
    (is_driven : Bool) (sound : Result (Unit {0}) Fault) (commands : List Command) (left : Seen) (ended : Result Answered Fault)
    → sound ≡ Ok tt → reported.after ≡ Some after → GoesAfterDesk (Tells follows tells after) is_driven commands left ended
    → GoesAfter (OfDevices follows well tells reported) is_driven sound commands left (IsErr ended)
goes_after_desk {D} {T} follows well tells reported after true sound commands left ended is tells_so goes =
    after_sound (OfDevices follows well tells reported) true sound commands left (IsErr ended) is
    (goes.0, subst (λ (t : Option T). GoesFollowed (TellsOf follows tells t) left goes.0) (sym tells_so) goes.1)
goes_after_desk {D} {T} follows well tells reported after false sound commands left ended is tells_so (inl (last, fault, goes, failed)) =
    after_sound (OfDevices follows well tells reported) false sound commands left (IsErr ended) is
    (unrecovered last (subst (λ (t : Option T). GoesFollowed (TellsOf follows tells t) left last) (sym tells_so) goes)
    (subst (λ (r : Result Answered Fault). IsErr r) (sym failed) refl))
goes_after_desk {D} {T} follows well tells reported after false sound commands left ended is tells_so (inr serves) =
    after_sound (OfDevices follows well tells reported) false sound commands left (IsErr ended) is
    (goes_alone follows well tells reported left serves.r commands (IsErr ended) serves.goes serves.begins
    (subst (λ (t : Option T). ServesSome (TellsOf follows tells t) commands serves.r) (sym tells_so) serves.serves))

-- what a line was not served with, by what `serve_task` tells
pub not_served : {D T : Type 0} (follows : D → Seen → Type 0) (well : D → Type 0) (tells : D → T → Type 0) (reported : Option (DeskLog T)) (says : Says) (station : Station)
    (commands : List Command) (why : UnservedLog T) (Failed : Type 0) → Failed → reported ≡ desk_of why
    → (reported ≡ None → says.unbegun) → ((ends : Ends SiteValue) → IsSomeAnd reported (λ one. IsDeskReported follows well tells station.seen one ends) → says.parts station ends)
    → IsUnservedReported follows well tells station commands why → DeskGoes says station commands Failed
not_served follows well tells reported says station commands (unserved.Line part) Failed bad is none_begun parts (at_desk.line _ followed) = unbegun (none_begun is) bad
not_served follows well tells reported says station commands (unserved.Separate devices) Failed bad is none_begun parts (at_desk.separate _ ends none tellings) =
    idle ends none
    (parts ends.ends (subst (λ (d : Option (DeskLog _)). IsSomeAnd d (λ one. IsDeskReported follows well tells station.seen one ends.ends)) (sym is) tellings)) bad
not_served follows well tells reported says station commands (unserved.Desk devices) Failed bad is none_begun parts (at_desk.desk _ ending served_by tellings) =
    separate ending served_by
    (parts served_by.ends (subst (λ (d : Option (DeskLog _)). IsSomeAnd d (λ one. IsDeskReported follows well tells station.seen one served_by.ends)) (sym is) tellings)) bad

-- a desk served it
module _ {D T : Type 0} (follows : D → Seen → Type 0) (well : D → Type 0) (tells : D → T → Type 0) (turns : Bool) (run : LineRun T) (opened : Station)
    (commands : List Command) (left : Left SiteValue T) (serves : ServesFollowed follows well tells turns opened commands left)
    (desk : run.reported.desk ≡ Some left.reported) where
  pub served_line : IsFollowed (TellsOf follows tells (line_reported run.reported.desk run.reported.opening)) opened.seen
  served_line =
      let before = serves.reported.before in
      subst (λ d. IsFollowed (TellsOf follows tells (line_reported d run.reported.opening)) opened.seen) (sym desk) (before.0, (before.1.0, before.1.1))

  pub desk_tells : DeskTells follows well tells run.reported.desk opened left.sound serves.parts.desk.ends
  desk_tells =
      subst (λ d. IsSomeAnd d (λ reported. IsDeskReported follows well tells opened.seen reported serves.parts.desk.ends
      × OnOk left.sound (AreSound reported × IsSynced serves.parts.desk.ends))) (sym desk) (serves.reported, serves.sound)

  pub served_goes : (says : Says) → says.desk opened left.sound serves.parts.desk.ends left.site → (left.ending.is_driven ≡ false → left.unserved.items ≡ commands)
      → (left.ending.closed ≡ Ok tt → GoesAfter says left.ending.is_driven left.sound left.unserved.items left.site.seen (IsErr run.ended))
      → DeskGoes says opened commands (IsErr run.ended)
  served_goes says tells_so same goes =
      served left.ending left.site left.sound serves.parts tells_so
      (λ closed. after_unserved says left.ending.is_driven left.sound left.unserved.items commands left.site.seen (IsErr run.ended) same (goes closed))

pub unserved_line : {D T : Type 0} (follows : D → Seen → Type 0) (well : D → Type 0) (tells : D → T → Type 0) (reported : RunLog T) (station : Station)
    (commands : List Command) (why : UnservedLog T) → reported.desk ≡ desk_of why → reported.opening ≡ opening_of why
    → IsUnservedReported follows well tells station commands why → IsFollowed (TellsOf follows tells (line_reported reported.desk reported.opening)) station.seen
unserved_line follows well tells reported station commands why same_desk same_opening is =
    subst (λ (d : Option (DeskLog _)). IsFollowed (TellsOf follows tells (line_reported d reported.opening)) station.seen) (sym same_desk)
    (subst (λ (o : Option _). IsFollowed (TellsOf follows tells (line_reported (desk_of why) o)) station.seen) (sym same_opening) (by why is))
  where
    by : (why : UnservedLog _) → IsUnservedReported follows well tells station commands why
        → IsFollowed (TellsOf follows tells (line_reported (desk_of why) (opening_of why))) station.seen
    by (unserved.Line part) (at_desk.line _ followed) = (followed.0, (followed.1.0, followed.1.1))
    by (unserved.Separate devices) (at_desk.separate _ parts none tellings) = (tellings.before.0, (tellings.before.1.0, tellings.before.1.1))
    by (unserved.Desk devices) (at_desk.desk _ ending served_by tellings) = (tellings.before.0, (tellings.before.1.0, tellings.before.1.1))

-- ---- what the files hold after the desk

-- the line that the desk left was saved, and no fault is told
pub saves_left : {T : Type 0} (files : Known) (line : LineFile) (left : Left SiteValue T) (closed ready : Result (Unit {0}) Fault)
    (ended : Result Answered Fault) (answered : Answered) → OnOk closed (OnOk ready (left.ending.reported ≡ Ok tt)) → ready ≡ Ok tt → closed ≡ Ok tt
    → IfOk ended (SavesAfter files line left.site.seen left.ending.is_driven left.unserved.items)
    → IsOkAnd ended (λ given. answered ≡ AllAccepted → (left.ending.answered ≡ AllAccepted) × (given ≡ AllAccepted)) → SavesLeft files line left answered
saves_left files line left closed ready (Ok given) answered told is good saves has = record {
  worst = λ done. (has done).0;
  reported = subst (λ (r : Result (Unit {0}) Fault). OnOk r (left.ending.reported ≡ Ok tt)) is
      (subst (λ (r : Result (Unit {0}) Fault). OnOk r (OnOk ready (left.ending.reported ≡ Ok tt))) good told);
  after = after-worse left.ending.is_driven files line left.site.seen left.unserved.items given answered (λ done. (has done).1) saves;
}
saves_left files line left closed ready (Err fault) answered told is good saves has = absurd has

-- what holds where the run ended without a fault
pub of_ended : {P : Type 0} (Q : Answered → Type 0) (ended : Result Answered Fault) → IsOkAnd ended Q → OnOk ended P → P
of_ended Q (Ok given) has holds = holds
of_ended Q (Err fault) has holds = absurd has

at_the_desk : {T : Type 0} (files : Known) (line : LineFile) (opened : Station) (commands : List Command) (left : Left SiteValue T) (answered : Answered)
    → ServesParts opened commands left.ending left.site → (left.ending.is_driven ≡ false → left.unserved.items ≡ commands)
    → SavesLeft files line left answered → Serves false files line opened commands answered
at_the_desk files line opened commands left answered parts same saves = record {
  is_driven = left.ending.is_driven;
  answers = left.ending.answered;
  worst = saves.worst;
  site = left.site;
  served = served-quietly opened commands left.ending left.site saves.reported parts;
  after = after-unserved left.ending.is_driven files line left.site.seen left.unserved.items commands answered same saves.after;
}

-- what is said of what is told, if anything is
pub some_weaker : {A : Type 0} {P Q : A → Type 0} (option : Option A) → ((a : A) → P a → Q a) → IsSomeAnd option P → IsSomeAnd option Q
some_weaker (Some a) says holds = says a holds
some_weaker None says holds = absurd holds

module _ {D T : Type 0} (follows : D → Seen → Type 0) (well : D → Type 0) (tells : D → T → Type 0) (turns : Bool) (slaves : ℕ) (files : Known) (line : LineFile) where
  -- what is told of the devices at the desk and after it is all that is told
  pub led_whole : (Way : LineLog T → Station → Type 0) (desk : Option (DeskLog T)) (after : Option T) (left : SiteValue) (counts : Option Recovered) (reported : DeskLog T)
      → desk ≡ Some reported → ((one : T) (s : Station) → LedOn follows well tells one slaves counts left s → Way (record { desk = reported; after = one }) s)
      → IsSomeAnd after (λ one. SavesRecovered (LedOn follows well tells one slaves counts left) files line left.seen)
      → SavesRecovered (λ s. IsSomeAnd (whole_of desk after) (λ whole. Way whole s)) files line left.seen
  led_whole Way desk None left counts reported is says led = absurd led
  led_whole Way desk (Some after) left counts reported is says led =
      saves_weaker (λ s recovered way. subst (λ (d : Option (DeskLog T)). IsSomeAnd (whole_of d (Some after)) (λ whole. Way whole s)) (sym is) (says after s way))
      (λ s begins. begins) led

  pub led_desk : (opened : Station) (left : SiteValue) (counts : Option Recovered) (reported : DeskLog T) → IsServedReported follows well tells turns opened reported left
      → (one : T) (s : Station) → LedOn follows well tells one slaves counts left s
      → LedAtDesk follows well tells turns slaves opened (record { desk = reported; after = one }) s.seen
  led_desk opened left counts reported was one s led = record { left = left; served = was; after = led.leads; ends = led.ends }

  pub saves_desk : (run : LineRun T) (opened : Station) (commands : List Command) (left : Left SiteValue T) (answered : Answered)
      → (left.ending.is_driven ≡ false → left.unserved.items ≡ commands) → ServesFollowed follows well tells turns opened commands left
      → OnOk run.ended (left.sound ≡ Ok tt) → run.reported.desk ≡ Some left.reported → OnOk run.ended (IsTrue left.ending.is_driven
      → IsSomeAnd run.reported.after (λ after. SavesRecovered (LedOn follows well tells after slaves run.recovered left.site) files line left.site.seen))
      → HasEnded run answered → SavesLeft files line left answered
      → SavesDesk (λ s. IsSomeAnd (whole_of run.reported.desk run.reported.after) (λ whole. LedAtDesk follows well tells turns slaves opened whole s.seen)) files line opened commands answered
  unfolding at_the_desk
  saves_desk run opened commands left answered same serves sound desk followed has saves =
      let Ends : Answered → Type 0 = λ given. answered ≡ AllAccepted → (run.answers ≡ AllAccepted) × (given ≡ AllAccepted) in
      record {
        serves = at_the_desk files line opened commands left answered serves.parts same saves;
        followed = λ driven.
            led_whole (λ whole s. LedAtDesk follows well tells turns slaves opened whole s.seen) run.reported.desk run.reported.after left.site run.recovered left.reported desk
            (led_desk opened left.site run.recovered left.reported
            (served_soundly follows well tells turns opened commands left serves (of_ended Ends run.ended has.ended sound)))
            (of_ended Ends run.ended has.ended followed driven);
      }

  -- the station was opened on this site
  pub led_site : (site : SiteValue) (opened : Station) → opened.line ≡ site.line → Follows site.seen opened.seen → (whole : LineLog T) (last : Seen)
      → LedAtDesk follows well tells turns slaves opened whole last → EndsReported follows well tells turns site slaves whole last
  led_site site opened same opens whole last led = record { opened = opened; line = same; opens = opens; desk = led }

  pub saves_site : (reported : Option (LineLog T)) (site : SiteValue) (was_old : Bool) (opened : Station) (commands : List Command) (answered : Answered)
      → was_old ≡ is_old site.seen.state.disk.bytes → StartsFrom was_old site opened → opened.line ≡ site.line → Follows site.seen opened.seen
      → SavesDesk (λ s. IsSomeAnd reported (λ whole. LedAtDesk follows well tells turns slaves opened whole s.seen)) files line opened commands answered
      → SavesSite (λ s. IsSomeAnd reported (λ whole. EndsReported follows well tells turns site slaves whole s.seen)) files line site commands answered
  saves_site reported site was_old opened commands answered by_version starts same opens saves = record {
    saves = record { opened = opened; starts = subst (λ (b : Bool). StartsFrom b site opened) by_version starts; serves = saves.serves };
    followed = λ driven.
        saves_weaker (λ s recovered way. some_weaker reported (λ whole led. led_site site opened same opens whole s.seen led) way) (λ s begins. begins)
        (saves.followed driven);
  }
