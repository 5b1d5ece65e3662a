-- Each event keeps the invariant of the world.
use Rattle.std.proofs.Common.{◌≡◌, ◌≢◌, inl, inr, ℕ, ◌<◌, ◌≤◌, Bool, true, false, List, length, refl, sym, ◌∙◌, ap, subst, arith, length-set, Option, Some, None, Result, Ok, Err}
use Rattle.std.specs.Prelude.{slice_get, is_some, IsOk}
use Rattle.std.proofs.lemmas.List.{length-map}
use Rattle.std.proofs.lemmas.Option.{slice_get_within}
use Rattle.sii_image.specs.ProcessImage.{process_image}
use Rattle.sii_edit.specs.declared.command.Command.{Command}
use Rattle.sii_edit.specs.Command.{outcome}
use Rattle.sii_edit.specs.Fold.{contents, contents_after}
use Rattle.sii_edit.specs.Fitting.{CommandFits}
use Rattle.esc_model.specs.SlaveHalf.{SlaveHalf, MayRest}
use Rattle.esc_model.proofs.Resting.{MayRest-leaves}
use Rattle.site_core.specs.declared.fault.DeviceFault.{DeviceFault}
use Rattle.site_core.specs.declared.fault.DeviceFault.TheVariants as device
use Rattle.site_core.specs.Disk.{Disk}
use Rattle.site_core.specs.State.{State, Pair, Leaves, Stopped, HalfGoes, with_half}
use Rattle.site_core.specs.Passes.{LeavesOnly}
use Rattle.site_core.proofs.Counts.{counts-stopped}
use Rattle.site_core.proofs.Moments.{Leaves-less}
use Rattle.site_core.proofs.DeviceCalls.{LeavesOnly-stopped}
use Rattle.book_model.specs.declared.fault.Fault.TheVariants as faults
use Rattle.book_model.specs.declared.next.RomOutcome.{RomOutcome}
use Rattle.book_model.specs.declared.refusal.SubmitRefusal.{SubmitRefusal}
use Rattle.book_model.specs.declared.refusal.SubmitRefusal.TheVariants as refusals
use Rattle.book_model.specs.Book.{Book, Doing, Resting, Payload, PayloadSync, OpenGate, OpenSync, CloseGate, CloseSync, FarGate, Mark, MarkSync, Version, VersionSync, base_of, contents_of, is_closed, is_version_2, with_fault}
use Rattle.book_model.specs.Submit.{submit, with_command}
use Rattle.book_model.specs.Open.{finish, migrate}
use Rattle.book_model.specs.DiskSteps.{went_on, disk_done}
use Rattle.book_model.specs.RomSteps.{rom_done}
use Rattle.book_model.specs.Reading.{applied, planned}
use Rattle.book_model.specs.Machine.{Machine, accepts, reopened}
use Rattle.book_model.specs.Machine as machines
use Rattle.book_model.proofs.CommandLaws.{length-entries}
use Rattle.book_model.specs.Frame.{JournalFrame}
use Rattle.book_model.specs.Events.{ended_on, FailsOn, in_progress, rested}
use Rattle.book_model.specs.Steps.{acknowledged_by}
use Rattle.book_model.specs.Up.{Up}
use Rattle.book_model.specs.Opening.{capacity_in, words_in, book_on}
use Rattle.book_model.proofs.CallLaws.{or-second, up-finished, up-migrates}
use Rattle.book_model.proofs.SubmitLaws.{up-submits}
use Rattle.book_model.proofs.DiskEventLaws.{up-begins, up-fails}
use Rattle.book_model.proofs.DiskEndLaws.{up-ends}
use Rattle.book_model.proofs.GoesLaws.{up-rests}
use Rattle.book_model.proofs.SlaveEventLaws.{up-asks, up-back}
use Rattle.book_model.proofs.OpeningLaws.{up-opens}
use Rattle.world_law.specs.World.{World, Event, Submit, Plan, Migrate, Finish, DiskBegin, DiskDone, RomIssue, RomDone, RomResolve, Stop, Open, Reported, Nothing, Acknowledged, Planned, Closed, Migrated, Opened}
use Rattle.world_law.specs.Happenings.{submitted, reported_of, fault_reported, DiskReturns, SlaveBegins, SlaveReturns, HappensUp, with_synced, Opens, Happens, Steps}
use Rattle.world_law.specs.Law.{Session, contents_now, Validates, IsRefused, with_machine, Follows, KeptFor, EventFits, MachineFits}
use Rattle.book_model.specs.Worn.{Worn}
use Rattle.book_model.proofs.WornBooks.{worn-fault, worn-opened, worn-command, worn-migrate, worn-disk_next, worn-disk_done, worn-rom_next, worn-rom_done}
use Rattle.world_law.proofs.FlagLaws.{SameFlags, BackFlags, DoneFlags, flags-disk_next, flags-disk_done, flags-migrate, flags-rom_next, flags-rom_done}
use Rattle.world_law.proofs.AnswerLaws.{Takes, AnswersAs, submit-answers}
use Rattle.world_law.proofs.FitLaws.{fits-accepts, fits-reopened, contents-fit}
use Rattle.world_law.proofs.StandsLaws.{IsOf, Stands, stands-up, stands-down, stands-kept, stands-long, kept-read, applied-few}

-- the session that follows, and the invariant then
pub record Goes (s : Session) (reported : Reported) (later : World) : Type 0 where
  pub session : Session
  pub follows : Follows s reported session
  pub stands : Stands later session
  pub fits : MachineFits session.machine

-- what is told, and the world then
goes-as : (s : Session) (reported said : Reported) (later done : World) → reported ≡ said → later ≡ done → Goes s said done → Goes s reported later
goes-as s reported said later done t l goes = subst (λ (w : World). Goes s reported w) (sym l) (subst (λ (a : Reported). Goes s a done) (sym t) goes)

goes-same : (s : Session) (world : World) → Stands world s → MachineFits s.machine → Goes s Nothing world
goes-same s world stands fits = record { session = s; follows = refl; stands = stands; fits = fits }

-- ---- while the station is up

module _ (frame : JournalFrame) (book : Book) (state : State) (took : List Bool) (s : Session) (up : Up frame book state took s.machine) (of : IsOf s book) (fits : MachineFits s.machine) where
  -- the world with another book
  abbrev now : Book → State → List Bool → World
  now later after taken = record { book = Some later; state = after; took = taken }

  -- the session stays as it is
  stays : (later : Book) (after : State) (taken : List Bool) → Up frame later after taken s.machine → SameFlags book later → Worn later → Goes s Nothing (now later after taken)
  stays later after taken up flags worn =
      goes-same s (now later after taken) (stands-up later frame refl up (record { closed = of.closed ∙ sym flags.closed; form = of.form ∙ ap is_version_2 (sym flags.form); worn = worn })) fits

  -- it is closed
  closes : (later : Book) (after : State) (taken : List Bool) → Up frame later after taken s.machine → is_closed later ≡ true → later.form ≡ book.form → Worn later → Goes s Closed (now later after taken)
  closes later after taken up closed form worn = record {
    session = record s { is_closed = true };
    follows = refl;
    stands = stands-up later frame refl up (record { closed = sym closed; form = of.form ∙ ap is_version_2 (sym form); worn = worn });
    fits = fits;
  }

  -- ---- a submit

  same-contents : contents_of book ≡ contents_now s
  same-contents = ap (λ (p : List (List ℕ)). contents p book.accepted) (sym up.of.base) ∙ ap (contents (machines.base_of s.machine)) (sym up.of.accepted)

  validates : Takes book → Validates s
  validates takes = record { is_open = of.closed ∙ takes.is_open; is_new = of.form ∙ takes.is_new }

  validated-ok : (command : Command) → IsOk (outcome (contents_of book) command) → IsOk (outcome (contents_now s) command)
  validated-ok command ok = subst (λ (p : List (List ℕ)). IsOk (outcome p command)) same-contents ok

  refused : (command : Command) (refusal : SubmitRefusal) → AnswersAs book command (Err refusal) → IsRefused s command refusal
  refused command refusals.Closed a = of.closed ∙ a
  refused command refusals.OldJournal a = (of.closed ∙ a.0, of.form ∙ a.1)
  refused command (refusals.Command refusal) a = (validates a.0, subst (λ (p : List (List ℕ)). outcome p command ≡ Err refusal) same-contents a.1)
  refused command refusals.TooLarge a = (validates a.0, validated-ok command a.1)
  refused command refusals.Full a = (validates a.0, validated-ok command a.1)

  goes-submit : (command : Command) (result : Result ℕ SubmitRefusal) → submit book command ≡ result → AnswersAs book command result → CommandFits command
      → Goes s (submitted book command result).1 (now (submitted book command result).0 state took)
  goes-submit command (Err refusal) is a small = record { session = s; follows = (refused command refusal a, refl); stands = stands-up book frame refl up of; fits = fits }
  goes-submit command (Ok number) is a small = record {
    session = with_machine s (accepts s.machine command);
    follows = (validates a.0, validated-ok command a.1, a.2 ∙ sym (ap length up.of.accepted), refl);
    stands = stands-up (with_command book command) frame refl (up-submits frame book state took s.machine command number up is (contents-fit book s.machine command up.of fits small)) (record { closed = of.closed; form = of.form; worn = worn-command book command up.fits.durable_few of.worn });
    fits = fits-accepts s.machine command fits small;
  }

  goes-plan : Goes s (Planned (applied book) (process_image (planned book))) (now book state took)
  goes-plan = record {
    session = s;
    follows = (
      omega (arith, applied-few book, ap length up.of.accepted),
      ap (λ (p : List (List ℕ)). process_image (contents_after p book.accepted (applied book))) (sym up.of.base)
          ∙ ap (λ (l : List Command). process_image (contents_after (machines.base_of s.machine) l (applied book))) (sym up.of.accepted),
      refl,
    );
    stands = stands-up book frame refl up of;
    fits = fits;
  }

  -- ---- its disk

  durable-rises : (b : Book) (doing : Doing) → b.durable ≤ (went_on b doing).durable
  durable-rises b Resting = omega arith
  durable-rises b (Payload place entries) = omega arith
  durable-rises b (PayloadSync place entries) = omega arith
  durable-rises b (OpenGate place entries) = omega arith
  durable-rises b (OpenSync place entries) = omega arith
  durable-rises b CloseGate = omega arith
  durable-rises b CloseSync = omega arith
  durable-rises b FarGate = omega arith
  durable-rises b Mark = omega arith
  durable-rises b MarkSync = omega arith
  durable-rises b Version = omega arith
  durable-rises b VersionSync = omega arith

  module _ (later : Book) (after : State) (next : Up frame later after took (acknowledged_by later s.machine)) (flags : DoneFlags book later) (rises : book.durable ≤ later.durable) (worn : Worn later) where
    acknowledges : is_version_2 later.form ≡ is_version_2 book.form → Goes s (Acknowledged later.durable) (now later after took)
    acknowledges form =
        let few = next.fits.durable_few in
        record {
          session = with_machine s (acknowledged_by later s.machine);
          follows = (omega (arith, rises, up.of.acknowledged), omega (arith, few, ap length next.of.accepted, length-entries 0 (base_of later) later.accepted), refl);
          stands = stands-up later frame refl next (record { closed = of.closed ∙ sym flags.closed; form = of.form ∙ sym form; worn = worn });
          fits = record { origin = fits.origin; kept = fits.kept; accepted = fits.accepted };
        }

    migrates : later.durable ≡ book.durable → is_version_2 later.form ≡ true → Goes s Migrated (now later after took)
    migrates durable form =
        let same : acknowledged_by later s.machine ≡ s.machine = ap (λ (n : ℕ). record s.machine { acknowledged = n }) (durable ∙ sym up.of.acknowledged) in
        record {
          session = record s { is_version_2 = true };
          follows = refl;
          stands = stands-up later frame refl (subst (Up frame later after took) same next) (record { closed = of.closed ∙ sym flags.closed; form = sym form; worn = worn });
          fits = fits;
        }

    by-form : (was is : Bool) → is_version_2 book.form ≡ was → is_version_2 later.form ≡ is → Goes s (reported_of book later) (now later after took)
    by-form true true was is = subst (λ (t : Reported). Goes s t (now later after took)) (rw (is, was) refl) (acknowledges (is ∙ sym was))
    by-form false false was is = subst (λ (t : Reported). Goes s t (now later after took)) (rw is refl) (acknowledges (is ∙ sym was))
    by-form true false was is = absurd (elim flags.form [
      | inl same ↦ let e : true ≡ false = sym was ∙ ap is_version_2 (sym same) ∙ is in cc
      | inr two ↦ let e : true ≡ false = ap is_version_2 (sym two.0) ∙ is in cc
    ])
    by-form false true was is = subst (λ (t : Reported). Goes s t (now later after took)) (rw (is, was) refl) (migrates (elim flags.form [
      | inl same ↦ let e : true ≡ false = sym is ∙ ap is_version_2 same ∙ was in absurd cc
      | inr two ↦ two.1
    ]) is)

  goes-done : book.is_handed_out ≡ true → Goes s (reported_of book (disk_done book (Ok tt))) (now (disk_done book (Ok tt)) (record state { disk = ended_on (in_progress book) state.disk }) took)
  goes-done out =
      let later = disk_done book (Ok tt) in
      by-form later (record state { disk = ended_on (in_progress book) state.disk }) (up-ends frame book state took s.machine up out) (flags-disk_done book out) (rw out (durable-rises (rested book) book.doing)) (worn-disk_done frame book state took s.machine (Ok tt) up of.worn)
      (is_version_2 book.form) (is_version_2 later.form) refl refl

  failed : book.is_handed_out ≡ true → (fault : DeviceFault) (disk : Disk) → fault ≢ device.Lost → FailsOn (in_progress book) state.disk disk → Goes s Closed (now (disk_done book (Err fault)) (record state { disk = disk }) took)
  failed out device.Disk disk not fails =
      let is : disk_done book (Err device.Disk) ≡ with_fault (rested book) faults.Disk = rw out refl in
      subst (λ (b : Book). Goes s Closed (now b (record state { disk = disk }) took)) (sym is)
      (closes _ _ _ (up-fails frame book state took s.machine disk faults.Disk up out fails) (or-second book.is_finished true refl) refl (worn-fault (rested book) faults.Disk of.worn))
  failed out device.Lost disk not fails = absurd (not refl)
  failed out device.Stopped disk not fails =
      let is : disk_done book (Err device.Stopped) ≡ with_fault (rested book) faults.Stopped = rw out refl in
      subst (λ (b : Book). Goes s Closed (now b (record state { disk = disk }) took)) (sym is)
      (closes _ _ _ (up-fails frame book state took s.machine disk faults.Stopped up out fails) (or-second book.is_finished true refl) refl (worn-fault (rested book) faults.Stopped of.worn))

  goes-back : book.is_handed_out ≡ true → (result : Result (Unit {0}) DeviceFault) (reported : Reported) (later : World) → DiskReturns result book (now book state took) reported later → Goes s reported later
  goes-back out (Ok done) reported later back = goes-as s reported _ later _ back.0 back.1 (goes-done out)
  goes-back out (Err fault) reported later back = goes-as s reported _ later _ back.3 back.4 (failed out fault back.0 back.1 back.2)

  -- ---- its slaves

  within : (i : ℕ) (half : SlaveHalf) → slice_get state.halves i ≡ Some half → i < length book.slaves
  within i half here = let lt = slice_get_within state.halves i half here in omega (arith, lt, up.slaves.count)

  goes-issue : (i : ℕ) (reported : Reported) (later : World) → reported ≡ Nothing → SlaveBegins i book (now book state took) later → Goes s reported later
  goes-issue i reported later none b =
      let there = within i b.half b.here in
      goes-as s reported Nothing later _ none b.is (stays _ _ _ (up-asks frame book state took s.machine i b.half b.after b.taken up there b.here b.may) (flags-rom_next book i there) (worn-rom_next frame book state took s.machine i up there of.worn))

  returned : (later : Book) (after : State) (taken : List Bool) (fault : Bool) → is_some later.fault ≡ fault → Up frame later after taken s.machine → BackFlags book later → Worn later → Goes s (fault_reported later) (now later after taken)
  returned later after taken true is up flags worn =
      subst (λ (t : Reported). Goes s t (now later after taken)) (rw is refl) (closes later after taken up (or-second later.is_finished (is_some later.fault) is) flags.form worn)
  returned later after taken false is up flags worn =
      let same : is_closed later ≡ is_closed book = elim flags.closed [
        | inl fault ↦ let e : true ≡ false = sym fault ∙ is in absurd cc
        | inr same ↦ same
      ] in
      subst (λ (t : Reported). Goes s t (now later after taken)) (rw is refl) (stays later after taken up (record { closed = same; form = flags.form }) worn)

  goes-outcome : (i : ℕ) (outcome : RomOutcome) (reported : Reported) (later : World) → reported ≡ fault_reported (rom_done book i outcome) → SlaveReturns i outcome book (now book state took) later → Goes s reported later
  goes-outcome i outcome reported later said b =
      goes-as s reported _ later _ said b.is
      (returned (rom_done book i outcome) (with_half state i b.after) took (is_some (rom_done book i outcome).fault) refl (up-back frame book state took s.machine i b.half b.after up (within i b.half b.here) b.here outcome b.may)
      (flags-rom_done book i outcome) (worn-rom_done frame book state took s.machine i up (within i b.half b.here) of.worn outcome))

  goes-up : (event : Event) (reported : Reported) (later : World) → EventFits event → HappensUp event book (now book state took) reported later → Goes s reported later
  goes-up (Submit command) reported later small h = goes-as s reported _ later _ h.0 h.1 (goes-submit command (submit book command) refl (submit-answers book command) small)
  goes-up Plan reported later small h = goes-as s reported _ later _ h.0 h.1 goes-plan
  goes-up Migrate reported later small h = goes-as s reported _ later _ h.0 h.1 (stays (migrate book).1 state took (up-migrates frame book state took s.machine up) (flags-migrate book) (worn-migrate book of.worn))
  goes-up Finish reported later small h = goes-as s reported _ later _ h.0 h.1 (closes (finish book) state took (up-finished frame book state took s.machine up) refl refl of.worn)
  goes-up DiskBegin reported later small h = goes-as s reported _ later _ h.0 h.1 (stays _ _ _ (up-begins frame book state took s.machine up) (flags-disk_next book) (worn-disk_next book of.worn))
  goes-up (DiskDone result) reported later small h = goes-back h.0 result reported later h.1
  goes-up (RomIssue slave) reported later small h = goes-issue slave reported later h.0 h.1
  goes-up (RomDone slave outcome) reported later small h = goes-outcome slave outcome reported later h.0 h.1
  goes-up (RomResolve slave) reported later small h = absurd h
  goes-up Stop reported later small h = absurd h
  goes-up Open reported later small h = absurd h

-- ---- whatever the station does

up-down : (book : Book) (world : World) → world.book ≡ Some book → world.book ≡ None → ⊥
up-down book world is none = let both : Some book ≡ None = sym is ∙ none in absurd cc

goes-called : (s : Session) (event : Event) (world later : World) (reported : Reported) (book : Book) → Stands world s → MachineFits s.machine → EventFits event → world.book ≡ Some book → HappensUp event book world reported later → Goes s reported later
goes-called s event world later reported book (stands-down none kept long) fits small is h = absurd (up-down book world is none)
goes-called s event world later reported book (stands-up other frame there up of) fits small is h =
    let both : Some other ≡ Some book = sym there ∙ is in
    let same : other ≡ book = cc in
    let entire : world ≡ record { book = Some book; state = world.state; took = world.took } = ap (λ (b : Option Book). record world { book = b }) is in
    goes-up frame book world.state world.took s (subst (λ (b : Book). Up frame b world.state world.took s.machine) same up) (subst (IsOf s) same of) fits event reported later small
    (subst (λ (w : World). HappensUp event book w reported later) entire h)

goes-stop : (s : Session) (world : World) (state : State) → Stands world s → MachineFits s.machine → Stopped world.state state → Goes s Nothing (record { book = None; state = state; took = world.took })
goes-stop s world state stands fits stopped =
    let counts = counts-stopped world.state.halves state.halves stopped.halves in
    let same : length state.halves ≡ length world.state.halves =
    sym (length-map state.halves (λ (h : SlaveHalf). length h.words)) ∙ ap length counts ∙ length-map world.state.halves (λ (h : SlaveHalf). length h.words) in
    goes-same s (record { book = None; state = state; took = world.took })
    (stands-down refl (LeavesOnly-stopped (KeptFor s.machine) world.state state stopped (stands-kept world s stands)) (stands-long world s stands ∙ sym same)) fits

goes-rest : (s : Session) (world : World) (slave : ℕ) (state : State) → Stands world s → MachineFits s.machine → HalfGoes MayRest world.state slave state → Goes s Nothing (record world { state = state })
goes-rest s world slave state (stands-up book frame is up of) fits g =
    goes-same s (record world { state = state })
    (stands-up book frame is (subst (λ (a : State). Up frame book a world.took s.machine) (sym g.new_is) (up-rests frame book world.state world.took s.machine slave g.half g.later up g.here g.goes)) of) fits
goes-rest s world slave state (stands-down none kept long) fits g =
    let less = λ (pair : Pair) (leaves : Leaves (with_half world.state slave g.later) pair).
    kept pair (Leaves-less world.state slave g.half g.later pair g.here (λ left may. MayRest-leaves g.half g.later left g.goes may) leaves) in
    goes-same s (record world { state = state })
    (stands-down none (subst (LeavesOnly (KeptFor s.machine)) (sym g.new_is) less)
    (long ∙ sym (ap (λ (a : State). length a.halves) g.new_is ∙ length-set world.state.halves slave g.later))) fits

goes-open : (s : Session) (world later : World) (reported : Reported) → Stands world s → MachineFits s.machine → Opens world reported later → Goes s reported later
goes-open s world later reported stands fits o =
    let state = with_synced world.state in
    let opened = book_on state o.journal in
    let u = up-opens o.journal state world.took s.machine o.found (stands-long world s stands) (kept-read world s stands) in
    let m = s.machine in
    goes-as s reported (Opened (is_version_2 o.journal.form)) later (record { book = Some opened; state = state; took = world.took }) o.says o.is (record {
      session = record { machine = reopened m u.k; is_closed = false; is_version_2 = is_version_2 o.journal.form };
      follows = (u.k, u.may_keep, refl);
      stands = stands-up opened u.frame refl u.up (record { closed = refl; form = refl; worn = worn-opened (words_in state.halves) (capacity_in state.disk.bytes) o.journal });
      fits = fits-reopened m u.k fits;
    })

goes : (s : Session) (event : Event) (world later : World) (reported : Reported) → Stands world s → MachineFits s.machine → EventFits event → Happens event world reported later → Goes s reported later
goes s Stop world later reported stands fits small h = goes-as s reported _ later _ h.0 h.2 (goes-stop s world later.state stands fits h.1)
goes s (RomResolve slave) world later reported stands fits small h = goes-as s reported _ later _ h.0 h.2 (goes-rest s world slave later.state stands fits h.1)
goes s Open world later reported stands fits small h = goes-open s world later reported stands fits h
goes s (Submit command) world later reported stands fits small h = goes-called s (Submit command) world later reported h.0 stands fits small h.1 h.2
goes s Plan world later reported stands fits small h = goes-called s Plan world later reported h.0 stands fits small h.1 h.2
goes s Migrate world later reported stands fits small h = goes-called s Migrate world later reported h.0 stands fits small h.1 h.2
goes s Finish world later reported stands fits small h = goes-called s Finish world later reported h.0 stands fits small h.1 h.2
goes s DiskBegin world later reported stands fits small h = goes-called s DiskBegin world later reported h.0 stands fits small h.1 h.2
goes s (DiskDone result) world later reported stands fits small h = goes-called s (DiskDone result) world later reported h.0 stands fits small h.1 h.2
goes s (RomIssue slave) world later reported stands fits small h = goes-called s (RomIssue slave) world later reported h.0 stands fits small h.1 h.2
goes s (RomDone slave outcome) world later reported stands fits small h = goes-called s (RomDone slave outcome) world later reported h.0 stands fits small h.1 h.2

pub step-goes : (s : Session) (event : Event) (world later : World) (reported : Reported) → Stands world s → MachineFits s.machine → EventFits event → Steps event world reported later → Goes s reported later
step-goes s event world later reported stands fits small (inl happens) = goes s event world later reported stands fits small happens
step-goes s event world later reported stands fits small (inr none) = goes-as s reported Nothing later world none.0 none.1 (goes-same s world stands fits)
