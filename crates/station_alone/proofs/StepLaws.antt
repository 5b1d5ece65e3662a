-- Each step keeps the station's invariant, and what a stop may leave on the way is kept.
use Rattle.std.proofs.Common.{◌≡◌, ℕ, ◌+◌, ◌≤◌, Bool, true, false, List, [], ◌∷◌, refl, sym, ◌∙◌, ap, subst, arith, Result, Ok, Err}
use Rattle.std.specs.Prelude.{◌||◌, is_some}
use Rattle.std.proofs.lemmas.List.{append-nil}
use Rattle.sii_edit.specs.declared.command.Command.{Command}
use Rattle.sii_edit.specs.declared.refusal.Cause.{Cause}
use Rattle.sii_edit.specs.declared.refusal.Cause.TheVariants as causes
use Rattle.sii_edit.proofs.FoldLaws.{contents-push}
use Rattle.sii_edit.specs.Fitting.{PlantFits, CommandFits}
use Rattle.sii_edit.proofs.PlantLaws.{fit-after}
use Rattle.site_core.specs.declared.fault.DeviceFault.{DeviceFault}
use Rattle.site_core.specs.declared.fault.DeviceFault.TheVariants as device
use Rattle.site_core.specs.Line.{Line}
use Rattle.site_core.specs.State.{Seen, clock}
use Rattle.site_core.proofs.Times.{Calls-clock}
use Rattle.site_core.specs.Passes.{LeavesOnly}
use Rattle.book_model.specs.declared.next.DiskNext.{DiskNext}
use Rattle.book_model.specs.declared.next.DiskNext.TheVariants as disk
use Rattle.book_model.specs.declared.next.RomNext.{RomNext}
use Rattle.book_model.specs.declared.next.RomNext.TheVariants as rom
use Rattle.book_model.specs.declared.refusal.SubmitRefusal.{SubmitRefusal}
use Rattle.book_model.specs.declared.refusal.SubmitRefusal.TheVariants as refusals
use Rattle.book_model.specs.Book.{Book, base_of, contents_of, is_closed, is_version_2}
use Rattle.book_model.specs.Submit as submitting
use Rattle.book_model.specs.Submit.{IsSubmitted, submit, with_command}
use Rattle.book_model.specs.DiskSteps.{disk_next, disk_done}
use Rattle.book_model.specs.RomSteps.{rom_next, rom_done}
use Rattle.book_model.specs.Open.{migrate}
use Rattle.book_model.specs.Machine.{Machine, accepts}
use Rattle.book_model.specs.Frame.{JournalFrame}
use Rattle.book_model.specs.Keeping.{IsOfBook}
use Rattle.book_model.specs.Steps.{acknowledged_by}
use Rattle.book_model.proofs.LineLaws.{up-kept}
use Rattle.book_model.proofs.CallLaws.{up-migrates, or-second}
use Rattle.book_model.proofs.SubmitLaws.{up-submits}
use Rattle.book_model.proofs.SlaveEventLaws.{IsNothing}
use Rattle.site_journal.specs.Running.{CallsDisk, KeepsAll, UpAfterDisk}
use Rattle.site_journal.specs.Ready.{IsReady, IsUp, issue_outcome, settle_outcome}
use Rattle.site_journal.proofs.DiskRuns.{IsAction, disk-runs}
use Rattle.site_journal.proofs.GoLaws.{keeps-more}
use Rattle.site_journal.proofs.WordRuns.{issue-runs, settle-runs}
use Rattle.site_journal.proofs.ReadyLaws.{disk-ready, issue-ready, settle-ready}
use Rattle.station_alone.specs.declared.choice.Choice.{Choice}
use Rattle.station_alone.specs.declared.choice.Choice.TheVariants as choices
use Rattle.station_alone.specs.declared.choice.Answer.{Answer}
use Rattle.station_alone.specs.Station.{Station, station, Stands}
use Rattle.station_alone.specs.Steps as steps
use Rattle.station_alone.specs.Steps.{DoesNothing, Submits, DoesDisk, CarriesOut, StepsDisk, carried_out, DoesIssue, DoesSettle, Serves, AsksMigration, Steps, reported_number, reported_refusal, submitted, most_calls}
use Rattle.station_alone.specs.Keeping.{GoesOn, KeptFor, Keeps, Went, accepted_by}
use Rattle.station_alone.proofs.HandedLaws.{open-still, rom-open}
use Rattle.station_alone.proofs.SessionLaws.{Same, SameOrMore, same, no-fewer, same-then, more-then, next-same, failed-same, done-same, rom-next-same, rom-done-same, asked-same}
use Rattle.station_alone.proofs.StandLaws.{up-for, stands-with, stands-still}
use Rattle.station_alone.proofs.KeepLaws.{acknowledged-so, keeps-none, keeps-for-none, keeps-while-still, still}

-- what a step leaves
pub record Goes (commands : List Command) (most : ℕ) (old new : Station) : Type 0 where
  pub stands : Stands new
  pub goes_on : GoesOn commands most old new
  pub keeps : Keeps commands old new

-- nothing is accepted, with at most `most` device calls
goes-on : (most : ℕ) (old new : Station) → new.line ≡ old.line → SameOrMore old.book new.book → clock new.seen ≤ clock old.seen + most → GoesOn [] most old new
goes-on most old new line s within = record { line = line; words = s.0; found = s.1; accepted = s.2 ∙ sym (append-nil old.book.accepted); durable = s.3; within = within }

-- ---- nothing is done

same-seen : (most : ℕ) (old new : Seen) → new ≡ old → clock new ≤ clock old + most
same-seen most old new is = let c : clock new ≡ clock old = ap clock is in omega (arith, c)

still-goes : (most : ℕ) (old new : Station) → Stands new → new.line ≡ old.line → Same old.book new.book → new.seen ≡ old.seen → Goes [] most old new
still-goes most old new stands line s seen = record {
  stands = stands;
  goes_on = goes-on most old new line (no-fewer old.book new.book s) (same-seen most old.seen new.seen seen);
  keeps = keeps-while-still old new seen s.3;
}

nothing-goes : (reported : Answer) (most : ℕ) (old : Station) (answer : Answer) (new : Station) → Stands old → DoesNothing reported old answer new → Goes [] most old new
nothing-goes reported most old answer new stands n =
    subst (λ (s : Station). Goes [] most old s) (sym n.same) (still-goes most old old stands refl (same old.book) refl)

-- ---- the disk

disk-clock : (action : DiskNext) (old new : Seen) (result : Result (Unit {0}) DeviceFault) → CallsDisk action old result new → clock new ≡ clock old + 1
disk-clock (disk.Write at bytes) old new result call = Calls-clock old call.writes.middle result new call.writes.call
disk-clock (disk.Gate at closed) old new result call = Calls-clock old call.writes.middle result new call.writes.call
disk-clock disk.Sync old new result call = Calls-clock old [] result new call.call
disk-clock disk.Idle old new result call = absurd call
disk-clock disk.Stop old new result call = absurd call

-- what is durable then is acknowledged
disk-last : (frame : JournalFrame) (book : Book) (took : List Bool) (m : Machine) (old new : Seen) (result : Result (Unit {0}) DeviceFault) → m.acknowledged ≡ book.durable → KeepsAll m old new
    → UpAfterDisk frame book took m new result → LeavesOnly (KeptFor (record m { acknowledged = (disk_done book result).durable })) new.state
disk-last frame book took m old new (Ok done) of keeps up = λ pair leaves. up-kept frame (disk_done book (Ok tt)) new.state took (acknowledged_by (disk_done book (Ok tt)) m) pair up leaves
disk-last frame book took m old new (Err device.Disk) of keeps up =
    let later = disk_done book (Err device.Disk) in
    acknowledged-so m later.durable new.state up.of.acknowledged (λ pair leaves. up-kept frame later new.state took m pair up leaves)
disk-last frame book took m old new (Err device.Lost) of keeps up = absurd up
disk-last frame book took m old new (Err device.Stopped) of keeps up =
    let later = disk_done book (Err device.Stopped) in
    acknowledged-so m later.durable new.state (of ∙ sym ((failed-same book device.Stopped).3)) keeps.passes.now

module _ (old new : Station) (answer : Answer) (stands : Stands old) (line : new.line ≡ old.line) where
  disk-goes : (action : DiskNext) → (disk_next old.book).0 ≡ action → IsAction action → DoesDisk action old answer new → Goes [] 1 old new
  disk-goes action is some does =
      let later = (disk_next old.book).1 in
      let result = does.result in
      let call : CallsDisk (disk_next old.book).0 old.seen result new.seen = subst (λ (a : DiskNext). CallsDisk a old.seen result new.seen) (sym is) does.calls in
      let went : SameOrMore old.book new.book = subst (SameOrMore old.book) (sym does.book) (more-then old.book later (disk_done later result) (next-same old.book) (done-same later result)) in
      let ticks = disk-clock action old.seen new.seen result does.calls in
      record {
        stands = stands-still old new stands line went (subst (λ (b : Book). IsReady b new.seen) (sym does.book) (disk-ready old.book old.seen new.seen stands.ready result call));
        goes_on = goes-on 1 old new line went (omega (arith, ticks));
        keeps = λ m of kept.
            let u = stands.ready.up (open-still old.book (subst IsAction (sym is) some)) in
            let ran = disk-runs u.0 old.book u.1 m old.seen (up-for u.0 old.book old.seen.state u.1 u.2 m u.3 of) result new.seen call in
            let last = disk-last u.0 later u.1 m old.seen new.seen result (of.acknowledged ∙ sym ((next-same old.book).3)) ran.0 ran.1 in
            keeps-for-none m old new ran.0 (subst (λ (b : Book). LeavesOnly (KeptFor (record m { acknowledged = b.durable })) new.seen.state) (sym does.book) last);
      }

  carried : (action : DiskNext) → (disk_next old.book).0 ≡ action → CarriesOut action old answer new → Goes [] 1 old new
  carried (disk.Write at bytes) is does = disk-goes (disk.Write at bytes) is tt does
  carried (disk.Gate at closed) is does = disk-goes (disk.Gate at closed) is tt does
  carried disk.Sync is does = disk-goes disk.Sync is tt does
  carried disk.Idle is does = nothing-goes _ 1 old answer new stands does
  carried disk.Stop is does = nothing-goes _ 1 old answer new stands does

  disk-step : StepsDisk old answer new → Goes [] 1 old new
  disk-step (carried_out does) = carried (disk_next old.book).0 refl does
  disk-step (steps.out_of_memory takes none) = nothing-goes _ 1 old answer new stands none

-- ---- a slave

module _ (old new : Station) (answer : Answer) (i : ℕ) (stands : Stands old) (line : new.line ≡ old.line) where
  abbrev later : Book
  later = (rom_next old.book i).1

  slave-goes : (b : Book) → new.book ≡ b → Same later b → IsReady b new.seen → clock new.seen ≤ clock old.seen + 10001 → ((m : Machine) → IsOfBook old.book m → KeepsAll m old.seen new.seen) → Goes [] 10001 old new
  slave-goes b is s ready ticks keeps =
      let went : Same old.book new.book = subst (Same old.book) (sym is) (same-then old.book later b (rom-next-same old.book i) s) in
      record {
        stands = stands-still old new stands line (no-fewer old.book new.book went) (subst (λ (c : Book). IsReady c new.seen) (sym is) ready);
        goes_on = goes-on 10001 old new line (no-fewer old.book new.book went) ticks;
        keeps = λ m of kept.
            let all = keeps m of in
            keeps-for-none m old new all (acknowledged-so m new.book.durable new.seen.state (of.acknowledged ∙ sym went.3) all.passes.now);
      }

  issue-goes : (word value : ℕ) → (rom_next old.book i).0 ≡ rom.Issue word value → DoesIssue i word value old answer new → Goes [] 10001 old new
  issue-goes word value is does =
      let o = rom-open old.book i (λ none. subst IsNothing is none) in
      let result = does.result in
      let ticks = does.issues.clock in
      slave-goes (rom_done later i (issue_outcome result)) does.book (rom-done-same later i (issue_outcome result))
      (issue-ready old.book old.seen new.seen stands.ready i o.0 word value is result does.issues) (omega (arith, ticks))
      (λ m of.
      let u = stands.ready.up o.1 in
      let ran = issue-runs u.0 old.book u.1 m old.seen i (up-for u.0 old.book old.seen.state u.1 u.2 m u.3 of) o.0 word value is result new.seen does.issues in
      ran.0)

  settle-goes : (taken : Bool) → (rom_next old.book i).0 ≡ rom.Settle taken → DoesSettle i taken old answer new → Goes [] 10001 old new
  settle-goes taken is does =
      let o = rom-open old.book i (λ none. subst IsNothing is none) in
      let result = does.result in
      slave-goes (rom_done later i (settle_outcome result)) does.book (rom-done-same later i (settle_outcome result))
      (settle-ready old.book old.seen new.seen stands.ready i o.0 taken is result does.settles) does.settles.quiet.within
      (λ m of.
      let u = stands.ready.up o.1 in
      let ran = settle-runs u.0 old.book u.1 m old.seen i (up-for u.0 old.book old.seen.state u.1 u.2 m u.3 of) o.0 taken is result new.seen does.settles in
      ran.0)

  served : (asked : RomNext) → (rom_next old.book i).0 ≡ asked → Serves asked i old answer new → Goes [] 10001 old new
  served (rom.Issue word value) is does = issue-goes word value is does
  served (rom.Settle taken) is does = settle-goes taken is does
  served rom.Idle is does = nothing-goes _ 10001 old answer new stands does
  served rom.Stop is does = nothing-goes _ 10001 old answer new stands does

-- ---- a command

accepted-open : (book : Book) (command : Command) (number : ℕ) (failed : Bool) → is_some book.fault ≡ failed → submit book command ≡ Ok number → is_some book.fault ≡ false
accepted-open book command number false fault is = fault
accepted-open book command number true fault is =
    let closed : is_closed book ≡ true = or-second book.is_finished (is_some book.fault) fault in
    let refused : submit book command ≡ Err refusals.Closed = rw closed refl in
    let e : Ok number ≡ Err refusals.Closed = sym is ∙ refused in absurd cc

is-answer : (book : Book) (command : Command) (number : ℕ) → IsSubmitted book command (Ok number) → submit book command ≡ Ok number
is-answer book command number (submitting.answered is) = sym is
is-answer book command number (submitting.out_of_memory refused going two) = absurd refused

none-reported : (command : Command) (refusal : SubmitRefusal) (cause : Cause) → accepted_by (choices.Submit command) (reported_refusal refusal cause) ≡ []
none-reported command refusal causes.Memory = refl
none-reported command refusal cause = refl

none-accepted : (command : Command) (refusal : SubmitRefusal) → accepted_by (choices.Submit command) (reported_number (Err refusal)) ≡ []
none-accepted command (refusals.Command refusal) = none-reported command (refusals.Command refusal) refusal.cause
none-accepted command refusal = refl

station-is : (s : Station) (book : Book) (line : Line) (seen : Seen) → s.book ≡ book → s.line ≡ line → s.seen ≡ seen → s ≡ station book line seen
station-is s book line seen b l n = ap (λ (x : Book). station x s.line s.seen) b ∙ ap (λ (x : Line). station book x s.seen) l ∙ ap (λ (x : Seen). station book line x) n

module _ (old : Station) (stands : Stands old) (command : Command) (fits : CommandFits command) (number : ℕ) (is : submit old.book command ≡ Ok number) where
  abbrev with : Station
  with = station (with_command old.book command) old.line old.seen

  fits-then : PlantFits (contents_of (with_command old.book command))
  fits-then = subst PlantFits (sym (contents-push (base_of old.book) old.book.accepted command)) (fit-after (contents_of old.book) command fits stands.words)

  ok : is_some old.book.fault ≡ false
  ok = accepted-open old.book command number (is_some old.book.fault) refl is

  accepted-goes : Goes (command ∷ []) 0 old with
  accepted-goes =
      let u = stands.ready.up ok in
      let up-then : IsUp (with_command old.book command) old.seen = (u.0, u.1, accepts u.2 command, up-submits u.0 old.book old.seen.state u.1 u.2 command number u.3 is fits-then) in
      record {
        stands = stands-with old with stands refl refl fits-then
            (record { rests = stands.ready.rests; up = λ none. up-then; going = λ still. up-then });
        goes_on = record { line = refl; words = refl; found = refl; accepted = refl; durable = omega arith; within = omega arith };
        keeps = λ m of kept.
            let up = up-submits u.0 old.book old.seen.state u.1 m command number (up-for u.0 old.book old.seen.state u.1 u.2 m u.3 of) is fits-then in
            record {
              on_the_way = keeps-more m [] (command ∷ []) old.seen old.seen (keeps-none m old.seen old.seen (still m old.seen kept));
              at_last = acknowledged-so (accepts m command) old.book.durable old.seen.state of.acknowledged
                  (λ pair leaves. up-kept u.0 (with_command old.book command) old.seen.state u.1 (accepts m command) pair up leaves);
            };
      }

submit-by : (old new : Station) (answer : Answer) (command : Command) (result : Result ℕ SubmitRefusal) → Stands old → new.line ≡ old.line → CommandFits command → IsSubmitted old.book command result → answer ≡ reported_number result
    → new.book ≡ submitted old.book command result → new.seen ≡ old.seen → Goes (accepted_by (choices.Submit command) answer) 0 old new
submit-by old new answer command (Ok number) stands line fits sub said book seen =
    subst (λ (a : Answer). Goes (accepted_by (choices.Submit command) a) 0 old new) (sym said)
    (subst (λ (s : Station). Goes (command ∷ []) 0 old s) (sym (station-is new (with_command old.book command) old.line old.seen book line seen))
    (accepted-goes old stands command fits number (is-answer old.book command number sub)))
submit-by old new answer command (Err refusal) stands line fits sub said book seen =
    subst (λ (l : List Command). Goes l 0 old new) (sym (ap (accepted_by (choices.Submit command)) said ∙ none-accepted command refusal))
    (subst (λ (s : Station). Goes [] 0 old s) (sym (station-is new old.book old.line old.seen book line seen)) (still-goes 0 old old stands refl (same old.book) refl))

-- ---- a migration

module _ (book : Book) where
  asked-rests : (refused : Bool) → (is_closed book || is_version_2 book.form) ≡ refused → ((migrate book).1.is_handed_out ≡ book.is_handed_out) × ((migrate book).1.fault ≡ book.fault)
  asked-rests true is = rw is (refl, refl)
  asked-rests false is = rw is (refl, refl)

  asked-ready : (seen : Seen) → IsReady book seen → IsReady (migrate book).1 seen
  asked-ready seen ready =
      let rests = asked-rests (is_closed book || is_version_2 book.form) refl in
      record {
        rests = rests.0 ∙ ready.rests;
        up = λ none.
            let u = ready.up (ap is_some (sym rests.1) ∙ none) in (u.0, u.1, u.2, up-migrates u.0 book seen.state u.1 u.2 u.3);
        going = λ still.
            let u = ready.going still in (u.0, u.1, u.2, up-migrates u.0 book seen.state u.1 u.2 u.3);
      }

migration-goes : (old new : Station) (answer : Answer) → Stands old → new.line ≡ old.line → AsksMigration old answer new → Goes [] 0 old new
migration-goes old new answer stands line asks =
    let went : Same old.book new.book = subst (Same old.book) (sym asks.book) (asked-same old.book) in
    let ready : IsReady new.book new.seen = subst (λ (b : Book). IsReady b new.seen) (sym asks.book) (subst (λ (s : Seen). IsReady (migrate old.book).1 s) (sym asks.seen) (asked-ready old.book old.seen stands.ready)) in
    still-goes 0 old new (stands-still old new stands line (no-fewer old.book new.book went) ready) line went asks.seen

-- ---- a step

-- the commands are made of words of 16 bits
abbrev pub ChoiceFits : Choice → Type 0
ChoiceFits (choices.Submit command) = CommandFits command
ChoiceFits choice = Unit {0}

pub step-goes : (choice : Choice) (old : Station) (answer : Answer) (new : Station) → Stands old → new.line ≡ old.line → ChoiceFits choice → Steps choice old answer new → Goes (accepted_by choice answer) (most_calls choice) old new
step-goes (choices.Submit command) old answer new stands line fits s = submit-by old new answer command s.result stands line fits s.is_submitted s.answered s.book s.seen
step-goes choices.Disk old answer new stands line fits s = disk-step old new answer stands line s
step-goes (choices.Rom slave) old answer new stands line fits s = served old new answer slave stands line (rom_next old.book slave).0 refl s
step-goes choices.Migrate old answer new stands line fits s = migration-goes old new answer stands line s

pub step-went : (choice : Choice) (old : Station) (answer : Answer) (new : Station) → Stands old → new.line ≡ old.line → ChoiceFits choice → Steps choice old answer new → Went choice old answer new
step-went choice old answer new stands line fits s =
    let goes = step-goes choice old answer new stands line fits s in
    record { steps = s; goes_on = goes.goes_on; keeps = goes.keeps }

pub serve-goes : (slave : ℕ) (old : Station) (answer : Answer) (new : Station) → Stands old → new.line ≡ old.line → Serves (rom_next old.book slave).0 slave old answer new → Goes [] 10001 old new
serve-goes slave old answer new stands line s = served old new answer slave stands line (rom_next old.book slave).0 refl s
