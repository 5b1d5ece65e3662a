-- The frames that the process data thread sends, job by job.
use Rattle.std.proofs.Common.{◌≡◌, ℕ, ◌+◌, List, [], ◌∷◌, ◌++◌, length, replicate, append_assoc, take, filter, Option, Some, None, Result, Ok, Err, refl, sym, ap, subst, ◌∙◌, inl, inr, length-append}
use Rattle.std.specs.Prelude.{IsTrue}
use Rattle.std.specs.List.{AllByRecursion, enumerate_from, flat_map, range_with_len}
use Rattle.std.proofs.lemmas.List.{append-nil, length-replicate, replicate-append-replicate}
use Rattle.std.proofs.Math.Nat.{eq-zero-or-pos}
use Rattle.ecat_frame.specs.Frame.{Pdu}
use Rattle.site_core.specs.State.{State, Leaves, Seen, CycleTurn}
use Rattle.site_core.specs.Passes.{LeavesOnly, StaysWithin, AddsNothing}
use Rattle.site_core.proofs.Runs.{Passes-none, Passes-then, Passes-stays}
use Rattle.sii_image.specs.declared.process_image.Segment.{Segment}
use Rattle.cyclic.specs.declared.fault.CycleFault.{CycleFault}
use Rattle.cyclic.specs.declared.fault.CycleFault.TheVariants as cycle
use Rattle.cyclic.specs.Configuration.{segment_orders, slave_orders, segments_of, configuring, differs, reconfiguring}
use Rattle.cyclic.specs.Turn.{TakesTurn, turn_order}
use Rattle.cyclic.specs.Sending.{AreTaken, AreSent, SendsInOrder}
use Rattle.station_jobs.specs.declared.cycle.CycleJob.{CycleJob}
use Rattle.station_jobs.specs.declared.cycle.CycleNote.{CycleNote}
use Rattle.station_jobs.specs.declared.cycle.CycleOutcome.{CycleOutcome}
use Rattle.station_jobs.specs.Setting.{Exchanges, ExchangesOnceSet, TakesJob}
use Rattle.sii_image.specs.declared.plan.Plan.{Plan}
use Rattle.station_jobs.specs.Cycling.{IsWrite, IsSetting, SendsTurn, SendsTurns, IsCycled}
use Rattle.sii_words.proofs.Quantifiers.{all_append}

-- ---- one after another

pub sends-snoc : (log : List CycleNote) (note : CycleNote) (turns more : List CycleTurn) → SendsTurns log turns → SendsTurn note more → SendsTurns (log ++ note ∷ []) (turns ++ more)
sends-snoc [] note turns more none one = (more, [], ap (λ (l : List CycleTurn). l ++ more) none ∙ sym (append-nil more), one, refl)
sends-snoc (first ∷ log) note turns more sends one =
    (sends.0, sends.1 ++ more, ap (λ (l : List CycleTurn). l ++ more) sends.2 ∙ append_assoc sends.0 sends.1 more, sends.3, sends-snoc log note sends.1 more sends.4 one)

-- ---- what configures the line writes registers

all-flat_map : {A B : Type 0} (P : B → Type 0) (f : A → List B) (xs : List A) → ((x : A) → AllByRecursion P (f x)) → AllByRecursion P (flat_map f xs)
all-flat_map P f [] each = tt
all-flat_map P f (x ∷ xs) each = all_append P (f x) (flat_map f xs) (each x) (all-flat_map P f xs each)

slave-writes : (segments : List Segment) (slave : ℕ) → AllByRecursion IsWrite (slave_orders segments slave)
slave-writes segments slave = (refl, all-flat_map IsWrite (segment_orders slave) (enumerate_from 0 (take 8 (segments_of slave segments))) (λ mapped. (refl, (refl, tt))))

pub configuring-writes : (slaves : ℕ) (segments : List Segment) → AllByRecursion IsWrite (configuring slaves segments)
configuring-writes slaves segments = all-flat_map IsWrite (slave_orders segments) (range_with_len 0 slaves) (slave-writes segments)

pub reconfiguring-writes : (slaves : ℕ) (old new : List Segment) → AllByRecursion IsWrite (reconfiguring slaves old new)
reconfiguring-writes slaves old new = all-flat_map IsWrite (slave_orders new) (filter (differs old new) (range_with_len 0 slaves)) (slave-writes new)

-- ---- and so do the frames that go out

taken-settings : (orders : List Pdu) (turns : List CycleTurn) → AllByRecursion IsWrite orders → AreTaken orders turns → AllByRecursion IsSetting turns
taken-settings [] [] writes taken = tt
taken-settings (order ∷ orders) (turn ∷ turns) writes taken =
    let first = taken.0 in (record { order = order; sent = first.sent; writes = writes.0 }, taken-settings orders turns writes.1 taken.1)
taken-settings [] (turn ∷ turns) writes taken = absurd taken
taken-settings (order ∷ orders) [] writes taken = absurd taken

all-front : (P : Pdu → Type 0) (xs : List Pdu) (y : Pdu) (ys : List Pdu) → AllByRecursion P (xs ++ y ∷ ys) → AllByRecursion P xs × P y
all-front P [] y ys all = (tt, all.0)
all-front P (x ∷ xs) y ys all = let rest = all-front P xs y ys all.1 in ((all.0, rest.0), rest.1)

sent-settings : (orders : List Pdu) (turns : List CycleTurn) (result : Result (Unit {0}) CycleFault) → AllByRecursion IsWrite orders → AreSent orders turns result → AllByRecursion IsSetting turns
sent-settings orders turns (Ok done) writes sent = taken-settings orders turns writes sent
sent-settings orders turns (Err fault) writes sent =
    let split = all-front IsWrite sent.first sent.next sent.rest (subst (λ (l : List Pdu). AllByRecursion IsWrite l) sent.orders_are writes) in
    let meets = sent.meets in
    let last : AllByRecursion IsSetting (sent.last ∷ []) = (record { order = sent.next; sent = meets.sent; writes = split.1 }, tt) in
    subst (λ (l : List CycleTurn). AllByRecursion IsSetting l) (sym sent.turns_are) (all_append IsSetting sent.taken (sent.last ∷ []) (taken-settings sent.first sent.taken split.0 sent.are_taken) last)

pub settings : (orders : List Pdu) (old new : Seen) (result : Result (Unit {0}) CycleFault) → AllByRecursion IsWrite orders → (sends : SendsInOrder orders old result new) → AllByRecursion IsSetting sends.turns
settings orders old new result writes sends = sent-settings orders sends.turns result writes sends.are_sent

-- ---- one job

-- What a job adds. It changes nothing of the state, unless the site stopped in it.
pub record Ran (note : CycleNote) (result : Result ℕ CycleFault) (old new : Seen) : Type 0 where
  pub more : List CycleTurn
  pub added : new.turns ≡ old.turns ++ more
  pub sends : SendsTurn note more
  pub adds_nothing : AddsNothing old new
  pub same : (result ≡ Err cycle.Stopped → ⊥) → new.state ≡ old.state
  pub stopped : result ≡ Err cycle.Stopped → IsTrue new.is_stopped

-- nothing was added while the state stayed, and nothing is added then
adds-then : (a b c : Seen) → AddsNothing a b → b.state ≡ a.state → AddsNothing b c → AddsNothing a c
adds-then a b c first same second =
    let then : StaysWithin (Leaves a.state) b c = subst (λ (s : State). StaysWithin (Leaves s) b c) same second in
    Passes-stays (Leaves a.state) a c (Passes-then (LeavesOnly (Leaves a.state)) a b c first.passes then.passes)

-- a fault of the configuration is reported as the cycle's
same-fault : {A B : Type 0} {a b : CycleFault} → ◌≡◌ {A = Result A CycleFault} (Err a) (Err b) → ◌≡◌ {A = Result B CycleFault} (Err a) (Err b)
same-fault is = cc

-- outputs, and a zero for each input
length-sum : (outputs : List ℕ) (count inputs : ℕ) → length outputs ≡ count → length (outputs ++ replicate inputs 0) ≡ count + inputs
length-sum outputs count inputs is = length-append outputs (replicate inputs 0) ∙ (ap (λ (n : ℕ). n + length {A = ℕ} (replicate inputs 0)) is ∙ ap (λ (n : ℕ). count + n) (length-replicate {A = ℕ} inputs 0))

abbrev pub note_of : CycleJob → CycleNote
note_of job = record { prefix = job.plan.prefix; size = job.plan.image.outputs + job.plan.image.inputs }

module _ (job : CycleJob) (orders : List Pdu) (old mid new : Seen) (writes : AllByRecursion IsWrite orders) where
  -- the configuration failed, and nothing more was sent
  set-failed : (fault : CycleFault) → SendsInOrder orders old (Err fault) mid → new ≡ mid → Ran (note_of job) (Err fault) old new
  set-failed fault sends same =
      let leaves = sends.leaves in
      let cut = sends.are_sent in
      let meets = cut.meets in
      subst (λ (s : Seen). Ran (note_of job) (Err fault) old s) (sym same)
      (record {
        more = sends.turns;
        added = sends.added;
        sends = record { settings = sends.turns; exchange = []; turns_are = sym (append-nil sends.turns); are_settings = settings orders old mid (Err fault) writes sends; may_exchange = inr (record { others = cut.taken; last = cut.last; settings_are = cut.turns_are; fault = fault; meets = meets.gives }) };
        adds_nothing = leaves.adds_nothing;
        same = λ not. leaves.same (λ is. not (same-fault is));
        stopped = λ is. leaves.stopped (same-fault is);
      })

  module _ (sends : SendsInOrder orders old (Ok tt) mid) where
    stays : mid.state ≡ old.state
    stays = let leaves = sends.leaves in leaves.same (λ is. cc)

    -- the image has no bytes
    empty-image : (result : Result ℕ CycleFault) → job.plan.image.outputs + job.plan.image.inputs ≡ 0 → result ≡ Ok 0 → new ≡ mid → Ran (note_of job) result old new
    empty-image result none ok same =
        let leaves = sends.leaves in
        subst (λ (s : Seen). Ran (note_of job) result old s) (sym same)
        (record {
          more = sends.turns;
          added = sends.added;
          sends = record { settings = sends.turns; exchange = []; turns_are = sym (append-nil sends.turns); are_settings = settings orders old mid (Ok tt) writes sends; may_exchange = inl none };
          adds_nothing = leaves.adds_nothing;
          same = λ not. stays;
          stopped = λ is. absurd cc;
        })

    -- it is exchanged
    exchanged : (outcome : CycleOutcome) → TakesTurn job.plan.image job.outputs.items (replicate job.plan.image.inputs 0) mid outcome.result outcome.inputs.items new → Ran (note_of job) outcome.result old new
    exchanged outcome takes =
        let before = sends.leaves in
        let leaves = takes.leaves in
        let image = job.plan.image in
        let turn : CycleTurn = record { sent = turn_order image job.outputs.items ∷ []; answer = takes.answer } in
        record {
          more = sends.turns ++ turn ∷ [];
          added = takes.turn ∙ (ap (λ (l : List CycleTurn). l ++ turn ∷ []) sends.added ∙ append_assoc old.turns sends.turns (turn ∷ []));
          sends = record {
            settings = sends.turns;
            exchange = turn ∷ [];
            turns_are = refl;
            are_settings = settings orders old mid (Ok tt) writes sends;
            may_exchange = record {
              order = turn_order image job.outputs.items;
              sent = refl;
              exchanges = refl;
              bytes = length-sum job.outputs.items image.outputs image.inputs job.entire;
              zeros = ap (λ (l : List ℕ). l ++ replicate image.inputs 0) job.blank ∙ replicate-append-replicate image.outputs image.inputs 0;
            };
          };
          adds_nothing = adds-then old mid new before.adds_nothing stays leaves.adds_nothing;
          same = λ not. leaves.same not ∙ stays;
          stopped = leaves.stopped;
        }

-- both cases
exchanges-ran : (job : CycleJob) (orders : List Pdu) (old mid new : Seen) (outcome : CycleOutcome) → AllByRecursion IsWrite orders → SendsInOrder orders old (Ok tt) mid → Exchanges job mid outcome new
    → Ran (note_of job) outcome.result old new
exchanges-ran job orders old mid new outcome writes sends exchanges =
    elim (eq-zero-or-pos (job.plan.image.outputs + job.plan.image.inputs)) [
      | inl none ↦ let empty = exchanges.nothing none in empty-image job orders old mid new writes sends outcome.result none empty.0 empty.1
      | inr some ↦ exchanged job orders old mid new writes sends outcome (exchanges.turn some)
    ]

ran-as : (job : CycleJob) (orders : List Pdu) (old mid new : Seen) (outcome : CycleOutcome) (later : Option Plan) (set : Result (Unit {0}) CycleFault) → AllByRecursion IsWrite orders
    → SendsInOrder orders old set mid → ExchangesOnceSet set job mid outcome later new → Ran (note_of job) outcome.result old new
ran-as job orders old mid new outcome later (Ok done) writes sends goes = exchanges-ran job orders old mid new outcome writes sends goes.1
ran-as job orders old mid new outcome later (Err fault) writes sends goes =
    subst (λ (r : Result ℕ CycleFault). Ran (note_of job) r old new) (sym goes.1) (set-failed job orders old mid new writes fault sends goes.3)

pub ran : (slaves : ℕ) (last : Option Plan) (job : CycleJob) (old new : Seen) (outcome : CycleOutcome) (later : Option Plan) → TakesJob slaves last job old outcome later new → Ran (note_of job) outcome.result old new
ran slaves None job old new outcome later takes =
    let segments = job.plan.image.segments in
    ran-as job (configuring slaves segments) old takes.mid new outcome later takes.set (configuring-writes slaves segments) takes.sets takes.goes_on
ran slaves (Some last) job old new outcome later takes =
    let segments = job.plan.image.segments in
    ran-as job (reconfiguring slaves last.image.segments segments) old takes.mid new outcome later takes.set (reconfiguring-writes slaves last.image.segments segments) takes.sets takes.goes_on

-- ---- all jobs so far

-- The jobs led there, and the state is what it was.
pub record Runs (log : List CycleNote) (start now : Seen) : Type 0 where
  pub cycled : IsCycled log start now
  pub same : now.state ≡ start.state

pub runs-none : (start : Seen) → Runs [] start start
runs-none start = record {
  cycled = record {
    turns = [];
    added = sym (append-nil start.turns);
    sends = refl;
    adds_nothing = Passes-stays (Leaves start.state) start start (Passes-none (LeavesOnly (Leaves start.state)) start (λ pair leaves. leaves));
    same = λ going. refl;
  };
  same = refl;
}

-- one more job
cycled-then : (log : List CycleNote) (job : CycleJob) (start now new : Seen) (result : Result ℕ CycleFault) → Runs log start now → Ran (note_of job) result now new → IsCycled (log ++ note_of job ∷ []) start new
cycled-then log job start now new result runs one =
    let before = runs.cycled in
    record {
      turns = before.turns ++ one.more;
      added = one.added ∙ (ap (λ (l : List CycleTurn). l ++ one.more) before.added ∙ append_assoc start.turns before.turns one.more);
      sends = sends-snoc log (note_of job) before.turns one.more before.sends one.sends;
      adds_nothing = adds-then start now new before.adds_nothing runs.same one.adds_nothing;
      same = λ going. one.same (λ is. going (one.stopped is)) ∙ runs.same;
    }

module _ (slaves : ℕ) (last later : Option Plan) (log : List CycleNote) (job : CycleJob) (start now new : Seen) (outcome : CycleOutcome) (runs : Runs log start now) (takes : TakesJob slaves last job now outcome later new) where
  pub job-cycled : IsCycled (log ++ note_of job ∷ []) start new
  job-cycled = cycled-then log job start now new outcome.result runs (ran slaves last job now new outcome later takes)

  pub job-runs : (outcome.result ≡ Err cycle.Stopped → ⊥) → Runs (log ++ note_of job ∷ []) start new
  job-runs not = let one = ran slaves last job now new outcome later takes in record { cycled = job-cycled; same = one.same not ∙ runs.same }
