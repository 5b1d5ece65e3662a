-- Each call about a slave is an event of the main law, or some: the half goes on in its course.
use Rattle.std.proofs.Common.{◌≡◌, ◌≢◌, ◌⊎◌, ◌∙◌, inl, inr, ℕ, zero, suc, ◌<◌, ◌≤◌, Bool, true, false, List, [], ◌∷◌, length, get_or, set, refl, sym, ap, subst, arith, length-set, Some}
use Rattle.std.specs.Prelude.{slice_get, nat_lt}
use Rattle.std.proofs.lemmas.Bool.Decides.{nat_tests}
use Rattle.std.proofs.lemmas.List.{get_or-set_same, set-set}
use Rattle.std.proofs.lemmas.Option.{slice_get_within}
use Rattle.esc_model.specs.SlaveHalf.{SlaveHalf, MayLeave, MayRest}
use Rattle.esc_model.proofs.OnlyResting.{OnlyRests-same}
use Rattle.site_core.specs.declared.answers.Settled.TheVariants.{Written, Again, Dead}
use Rattle.site_core.specs.State.{State, with_half}
use Rattle.book_model.specs.declared.next.RomNext.{RomNext}
use Rattle.book_model.specs.declared.next.RomNext.TheVariants as next
use Rattle.book_model.specs.declared.next.RomOutcome.{RomOutcome}
use Rattle.book_model.specs.declared.next.RomOutcome.TheVariants as outcomes
use Rattle.book_model.specs.Book.{Book, Slave, Operation, NoOperation, Issuing, Unsettled, Settling, nobody, slave_at, with_fault}
use Rattle.book_model.specs.declared.fault.Fault.TheVariants as faults
use Rattle.book_model.specs.RomSteps.{with_operation, rom_next, rom_done}
use Rattle.book_model.specs.Steps.{MayBegin, took_after, MayComeBack}
use Rattle.book_model.proofs.LineLaws.{half-there}
use Rattle.book_model.proofs.OutcomeLaws.{set-same}
use Rattle.world_law.specs.World.{Nothing, RomIssue, RomDone, RomResolve}
use Rattle.world_law.specs.Happenings.{fault_reported}
use Rattle.station_jobs.specs.Working.{HalfReturns}
use Rattle.desk_book.specs.declared.call.Call.{Call}
use Rattle.desk_book.specs.declared.call.Call.TheVariants.{SlaveReported}
use Rattle.desk_book.specs.Calls.{after, IsOut}
use Rattle.desk_book.proofs.LogLaws.{same-or-not}
use Rattle.desk_book.proofs.OutLaws.{Next, rests, issues, settles, next-of}
use Rattle.desk_laws.proofs.HalfWork.{HalfLeft, HalfSteps, set-here, set-separate}
use Rattle.desk_laws.proofs.Courses.{IsJobOf, LeavesLess, Moves, still, came, EndsOut, Course, out-within}
use Rattle.desk_laws.proofs.WorldLaws.{Stays, happens, slave-count, took-count, takes, tears, fades}

-- the courses of all slaves
abbrev pub Courses : Book → List Call → (now ends : List SlaveHalf) → Type 0
Courses book calls now ends = (i : ℕ) (half end : SlaveHalf) → slice_get now i ≡ Some half → slice_get ends i ≡ Some end → Course i book calls half end

-- a call that reports no outcome of the slave
course-afterwards : (i : ℕ) (book : Book) (call : Call) (calls : List Call) (half end : SlaveHalf) → ((outcome : RomOutcome) → call ≡ SlaveReported i outcome → ⊥) → Course i book (call ∷ calls) half end → Course i (after book call) calls half end
course-afterwards i book call calls half end other course = from course.1
  where
    from : Moves i book call half course.0 → Course i (after book call) calls half end
    from (still is reported) = subst (λ (h : SlaveHalf). Course i (after book call) calls h end) is course.2
    from (came outcome reported job of steps) = absurd (other outcome reported)

pub courses-afterwards : (book : Book) (call : Call) (calls : List Call) (now ends : List SlaveHalf) → ((i : ℕ) (outcome : RomOutcome) → call ≡ SlaveReported i outcome → ⊥) → Courses book (call ∷ calls) now ends → Courses (after book call) calls now ends
courses-afterwards book call calls now ends other courses i half end here there = course-afterwards i book call calls half end (other i) (courses i half end here there)

-- of which slaves a datagram was taken, and that the main law's invariant holds
pub record StaysNow (book : Book) (state : State) : Type 0 where
  pub took : List Bool
  pub stays : Stays book state took

-- ---- it is asked for

-- an issue isn't taken yet
handed : (book : Book) (state : State) (took : List Bool) (j : ℕ) (job : RomNext) (later : Book) → Stays book state took → rom_next book j ≡ (job, later) → nat_lt j (length book.slaves) ≡ true → ((half : SlaveHalf) → MayBegin job j false half half)
    → StaysNow (rom_next book j).1 state
handed book state took j job later stays is inside begins =
    let within : j < length book.slaves = grind (arith, nat_tests) in
    let h = half-there state.halves j (omega (arith, within, slave-count book state took stays)) in
    let taken = took_after (rom_next book j).0 took j false in
    let now = happens (RomIssue j) Nothing book (rom_next book j).1 state (with_half state j h.0) took taken stays tt
    (book, refl, (refl, record { half = h.0; here = h.1; taken = false; after = h.0; may = subst (λ (p : RomNext × Book). MayBegin p.0 j false h.0 h.0) (sym is) (begins h.0); is = refl })) in
    record { took = taken; stays = subst (λ (l : List SlaveHalf). Stays (rom_next book j).1 (record state { halves = l }) taken) (set-same state.halves j h.0 h.1) now }

pub slave-asked : (book : Book) (state : State) (took : List Bool) (j : ℕ) → Stays book state took → StaysNow (rom_next book j).1 state
slave-asked book state took j stays = from (next-of book j)
  where
    from : Next book j → StaysNow (rom_next book j).1 state
    from (rests answer none is) = record { took = took; stays = subst (λ (p : RomNext × Book). Stays p.1 state took) (sym is) stays }
    from (issues w others vacant todo inside is) = handed book state took j (next.Issue w.0 w.1) _ stays is inside (λ half. inl refl)
    from (settles word value taken unsettled inside is) = handed book state took j (next.Settle taken) _ stays is inside (λ half. refl)

-- ---- it comes back

-- what may come back of a settle doesn't depend on the word
settle-any : (took now taken : Bool) (word value x y : ℕ) (outcome : RomOutcome) (half later : SlaveHalf) → MayComeBack took (Settling word value taken) outcome half later → MayComeBack now (Settling x y taken) outcome half later
settle-any took now taken word value x y (outcomes.Issued how) half later back = absurd back
settle-any took now taken word value x y (outcomes.Settled Written) half later back = back
settle-any took now taken word value x y (outcomes.Settled Again) half later back = back
settle-any took now taken word value x y (outcomes.Settled Dead) half later back = back
settle-any took now taken word value x y outcomes.Stopped half later back = back

module _ (book : Book) (state : State) (took : List Bool) (j : ℕ) (half mid : SlaveHalf) (stays : Stays book state took) (here : slice_get state.halves j ≡ Some half) where
  inside : j < length state.halves
  inside = slice_get_within state.halves j half here

  -- from this half on it rests, and then comes back
  comes : (begun rested later : SlaveHalf) (t : List Bool) (operation : Operation) (outcome : RomOutcome) → (slave_at book j).operation ≡ operation → Stays book (with_half state j begun) t → MayRest begun rested → MayComeBack (get_or t j false) operation outcome rested later
      → Stays (rom_done book j outcome) (with_half state j later) t
  comes begun rested later t operation outcome is now resting back =
      let first = set-here state.halves j begun inside in
      let s = with_half state j begun in
      let at_rest = happens (RomResolve j) Nothing book book s (with_half s j rested) t t now tt (refl, record { half = begun; here = first; later = rested; new_is = refl; goes = resting }, refl) in
      let there = set-here s.halves j rested (slice_get_within s.halves j begun first) in
      let may = subst (λ (e : Operation). MayComeBack (get_or t j false) e outcome rested later) (sym is) back in
      let done = happens (RomDone j outcome) (fault_reported (rom_done book j outcome)) book (rom_done book j outcome) (with_half s j rested) (with_half (with_half s j rested) j later) t t at_rest tt
      (book, refl, (refl, record { half = rested; here = there; after = later; may = may; is = refl })) in
      subst (λ (l : List SlaveHalf). Stays (rom_done book j outcome) (record state { halves = l }) t) (set-set (set state.halves j begun) j rested later ∙ set-set state.halves j begun later) done

  -- it is as it was
  unchanged : Stays book (with_half state j half) took
  unchanged = subst (λ (l : List SlaveHalf). Stays book (record state { halves = l }) took) (sym (set-same state.halves j half here)) stays

  taken-here : (t : Bool) → get_or (set took j t) j false ≡ t
  taken-here t = get_or-set_same took j t false (omega (arith, inside, slave-count book state took stays, took-count book state took stays))

  abbrev Reported : RomOutcome → Type 0
  Reported outcome = StaysNow (rom_done book j outcome) (with_half state j mid)

  issue-back : (word value : ℕ) (outcome : RomOutcome) → (slave_at book j).operation ≡ Issuing word value → HalfReturns j (next.Issue word value) outcome half mid → Reported outcome
  issue-back word value outcome is returns =
      let t = returns.taken in
      let back = subst (λ (b : Bool). MayComeBack b (Issuing word value) outcome returns.rested mid) (sym (taken-here t)) (subst (λ (e : Operation). MayComeBack t e outcome returns.rested mid) returns.operation_is returns.comes_back) in
      record { took = set took j t; stays = comes returns.begun returns.rested mid (set took j t) (Issuing word value) outcome is (takes book state took j word value half returns.begun t stays is here returns.begins) returns.rests back }

  settle-back : (word value : ℕ) (taken : Bool) (outcome : RomOutcome) → (slave_at book j).operation ≡ Settling word value taken → HalfReturns j (next.Settle taken) outcome half mid → Reported outcome
  settle-back word value taken outcome is returns =
      let e = returns.operation_is in
      let any = settle-any returns.taken (get_or took j false) taken e.0 e.1 word value outcome returns.rested mid (subst (λ (x : Operation). MayComeBack returns.taken x outcome returns.rested mid) e.2 returns.comes_back) in
      record { took = took; stays = comes half returns.rested mid took (Settling word value taken) outcome is unchanged (subst (λ (h : SlaveHalf). MayRest h returns.rested) returns.begins returns.rests) any }

  job-back : (operation : Operation) (job : RomNext) (outcome : RomOutcome) → (slave_at book j).operation ≡ operation → IsJobOf operation job → HalfReturns j job outcome half mid → Reported outcome
  job-back NoOperation job outcome is of returns = absurd of
  job-back (Unsettled word value taken) job outcome is of returns = absurd of
  job-back (Issuing word value) job outcome is of returns = issue-back word value outcome is (subst (λ (n : RomNext). HalfReturns j n outcome half mid) of returns)
  job-back (Settling word value taken) job outcome is of returns = settle-back word value taken outcome is (subst (λ (n : RomNext). HalfReturns j n outcome half mid) of returns)

  -- its site stopped: nothing more is said than what a power cut leaves of it
  job-stops : (operation : Operation) (job : RomNext) → (slave_at book j).operation ≡ operation → IsJobOf operation job → ((left : List ℕ) → MayLeave mid left → HalfLeft job half left) → Reported outcomes.Stopped
  job-stops NoOperation job is of leaves = absurd of
  job-stops (Unsettled word value taken) job is of leaves = absurd of
  job-stops (Issuing word value) job is of leaves =
      let torn = tears book state took j word value half mid stays is here (subst (λ (n : RomNext). (left : List ℕ) → MayLeave mid left → HalfLeft n half left) of leaves) in
      record { took = set took j false; stays = comes mid mid mid (set took j false) (Issuing word value) outcomes.Stopped is torn (inl refl) (OnlyRests-same mid) }
  job-stops (Settling word value taken) job is of leaves =
      let later = rom_done book j outcomes.Stopped in
      let done = comes half half half took (Settling word value taken) outcomes.Stopped is unchanged (inl refl) (OnlyRests-same half) in
      let later_is : later ≡ with_fault (with_operation book j NoOperation) faults.Stopped = rw is refl in
      let vacant : (slave_at later j).operation ≡ NoOperation =
      ap (λ (b : Book). (slave_at b j).operation) later_is ∙ ap (λ (s : Slave). s.operation) (get_or-set_same book.slaves j (record (slave_at book j) { operation = NoOperation }) nobody (omega (arith, inside, slave-count book state took stays))) in
      let faded = fades later (with_half state j half) took j half mid done vacant (set-here state.halves j half inside) (subst (λ (n : RomNext). (left : List ℕ) → MayLeave mid left → HalfLeft n half left) of leaves) in
      record { took = set took j false; stays = subst (λ (l : List SlaveHalf). Stays later (record state { halves = l }) (set took j false)) (set-set state.halves j half mid) faded }

  reported-back : (outcome : RomOutcome) (job : RomNext) → IsJobOf (slave_at book j).operation job → HalfSteps j (record { job = job; outcome = Some outcome }) half mid → Reported outcome
  reported-back (outcomes.Issued how) job of steps = job-back (slave_at book j).operation job (outcomes.Issued how) refl of (steps.returns (outcomes.Issued how) refl (λ no. absurd (cc no)))
  reported-back (outcomes.Settled how) job of steps = job-back (slave_at book j).operation job (outcomes.Settled how) refl of (steps.returns (outcomes.Settled how) refl (λ no. absurd (cc no)))
  reported-back outcomes.Stopped job of steps = job-stops (slave_at book j).operation job refl of steps.leaves

-- ---- the slaves behind the call

pub record SlaveGoesOn (later : Book) (calls : List Call) (ends : List SlaveHalf) (state : State) : Type 0 where
  pub halves : List SlaveHalf
  pub took : List Bool
  pub stays : Stays later (record state { halves = halves }) took
  pub count : length halves ≡ length state.halves
  pub courses : Courses later calls halves ends

module _ (book : Book) (calls : List Call) (ends : List SlaveHalf) (state : State) (took : List Bool) (stays : Stays book state took) (j : ℕ) (outcome : RomOutcome) (courses : Courses book (SlaveReported j outcome ∷ calls) state.halves ends) where
  -- this is the slave's half now, and the others stay as they are
  others-stay : (now : List SlaveHalf) (half end : SlaveHalf) → ((i : ℕ) → i ≢ j → slice_get now i ≡ slice_get state.halves i) → slice_get now j ≡ Some half → slice_get ends j ≡ Some end → Course j (rom_done book j outcome) calls half end
      → Courses (rom_done book j outcome) calls now ends
  others-stay now half end separate here there course i h e is last = one (same-or-not i j)
    where
      one : (i ≡ j) ⊎ (i ≢ j) → Course i (rom_done book j outcome) calls h e
      one (inl it) =
          let half_is : half ≡ h = (let q : Some half ≡ Some h = sym here ∙ subst (λ (k : ℕ). slice_get now k ≡ Some h) it is in cc) in
          let end_is : end ≡ e = (let q : Some end ≡ Some e = sym there ∙ subst (λ (k : ℕ). slice_get ends k ≡ Some e) it last in cc) in
          subst (λ (k : ℕ). Course k (rom_done book j outcome) calls h e) (sym it)
          (subst (λ (x : SlaveHalf). Course j (rom_done book j outcome) calls x e) half_is (subst (λ (x : SlaveHalf). Course j (rom_done book j outcome) calls half x) end_is course))
      one (inr other) = course-afterwards i book (SlaveReported j outcome) calls h e (λ o reported. let q : i ≡ j = cc reported in other q) (courses i h e (sym (separate i other) ∙ is) last)

  reported-by : (half end : SlaveHalf) → slice_get state.halves j ≡ Some half → slice_get ends j ≡ Some end → (mid : SlaveHalf) → Moves j book (SlaveReported j outcome) half mid → Course j (rom_done book j outcome) calls mid end
      → SlaveGoesOn (rom_done book j outcome) calls ends state
  reported-by half end here there mid (still is reported) course = record {
    halves = state.halves;
    took = took;
    stays = subst (λ (b : Book). Stays b state took) (sym (reported outcome refl)) stays;
    count = refl;
    courses = others-stay state.halves half end (λ i other. refl) here there (subst (λ (h : SlaveHalf). Course j (rom_done book j outcome) calls h end) is course);
  }
  reported-by half end here there mid (came o reported job of steps) course =
      let it : o ≡ outcome = cc reported in
      let now = reported-back book state took j half mid stays here outcome job of (subst (λ (x : RomOutcome). HalfSteps j (record { job = job; outcome = Some x }) half mid) it steps) in
      let inside = slice_get_within state.halves j half here in
      record {
        halves = set state.halves j mid;
        took = now.took;
        stays = now.stays;
        count = length-set state.halves j mid;
        courses = others-stay (set state.halves j mid) mid end (λ i other. set-separate state.halves j i mid other) (set-here state.halves j mid inside) there course;
      }

  pub slave-reported : length ends ≡ length state.halves → IsOut (slave_at book j).operation → SlaveGoesOn (rom_done book j outcome) calls ends state
  slave-reported count out =
      let within = out-within j book (nat_lt j (length book.slaves)) refl out in
      let h = half-there state.halves j (omega (arith, within, slave-count book state took stays)) in
      let e = half-there ends j (omega (arith, within, slave-count book state took stays, count)) in
      let course = courses j h.0 e.0 h.1 e.1 in
      reported-by h.0 e.0 h.1 e.1 course.0 course.1 course.2

-- ---- in the end

-- a power cut leaves no more of it, or its word may hold anything
ends-so : (operation : Operation) (half end : SlaveHalf) → EndsOut operation half end → LeavesLess half end ⊎ ((word : ℕ) × (value : ℕ) × (operation ≡ Issuing word value) × ((left : List ℕ) → MayLeave end left → HalfLeft (next.Issue word value) half left))
ends-so operation half end (inl less) = inl less
ends-so NoOperation half end (inr out) = absurd out.1
ends-so (Unsettled word value taken) half end (inr out) = absurd out.1
ends-so (Issuing word value) half end (inr out) = inr (word, value, refl, subst (λ (n : RomNext). (left : List ℕ) → MayLeave end left → HalfLeft n half left) out.1 out.2)
ends-so (Settling word value taken) half end (inr out) = inl (subst (λ (n : RomNext). (left : List ℕ) → MayLeave end left → HalfLeft n half left) out.1 out.2)

below-or-last : (i n : ℕ) → i < suc n → (i < n) ⊎ (i ≡ n)
below-or-last zero zero lt = inr refl
below-or-last zero (suc n) lt = inl (omega arith)
below-or-last (suc i) zero lt = absurd (omega (arith, lt))
below-or-last (suc i) (suc n) lt = elim (below-or-last i n (omega (arith, lt))) [ inl below ↦ inl (omega (arith, below)) | inr last ↦ inr (ap suc last) ]

-- Of the first `n` slaves a power cut leaves no more in the end than of these halves. The others are as they were.
pub record EndsBefore (book : Book) (state : State) (ends : List SlaveHalf) (n : ℕ) : Type 0 where
  pub halves : List SlaveHalf
  pub took : List Bool
  pub stays : Stays book (record state { halves = halves }) took
  pub count : length halves ≡ length state.halves
  pub less : (i : ℕ) (half end : SlaveHalf) → i < n → slice_get halves i ≡ Some half → slice_get ends i ≡ Some end → LeavesLess half end
  pub others : (i : ℕ) → n ≤ i → slice_get halves i ≡ slice_get state.halves i

module _ (book : Book) (state : State) (ends : List SlaveHalf) (n : ℕ) (b : EndsBefore book state ends n) where
  -- one slave more
  one-more : (halves : List SlaveHalf) (took : List Bool) (half end : SlaveHalf) → Stays book (record state { halves = halves }) took → length halves ≡ length state.halves → ((i : ℕ) → i ≢ n → slice_get halves i ≡ slice_get b.halves i)
      → slice_get halves n ≡ Some half → slice_get ends n ≡ Some end → LeavesLess half end → EndsBefore book state ends (suc n)
  one-more halves took half end stays count separate here there less = record {
    halves = halves;
    took = took;
    stays = stays;
    count = count;
    less = λ i h e lt is last. elim (below-or-last i n lt) [
      | inl below ↦ b.less i h e below (sym (separate i (λ it. omega (arith, it, below))) ∙ is) last
      | inr it ↦
          let half_is : half ≡ h = (let q : Some half ≡ Some h = sym here ∙ subst (λ (k : ℕ). slice_get halves k ≡ Some h) it is in cc) in
          let end_is : end ≡ e = (let q : Some end ≡ Some e = sym there ∙ subst (λ (k : ℕ). slice_get ends k ≡ Some e) it last in cc) in
          subst (λ (x : SlaveHalf). LeavesLess x e) half_is (subst (λ (x : SlaveHalf). LeavesLess half x) end_is less)
    ];
    others = λ i le. separate i (λ it. omega (arith, it, le)) ∙ b.others i (omega (arith, le));
  }

  ends-next : (half end : SlaveHalf) → slice_get state.halves n ≡ Some half → slice_get ends n ≡ Some end → EndsOut (slave_at book n).operation half end → EndsBefore book state ends (suc n)
  ends-next half end here there out =
      let now : slice_get b.halves n ≡ Some half = b.others n (omega arith) ∙ here in
      elim (ends-so (slave_at book n).operation half end out) [
        | inl less ↦ one-more b.halves b.took half end b.stays b.count (λ i other. refl) now there less
        | inr torn ↦ one-more (set b.halves n end) (set b.took n false) end end (tears book (record state { halves = b.halves }) b.took n torn.0 torn.1 half end b.stays torn.2 now torn.3) (length-set b.halves n end ∙ b.count)
            (λ i other. set-separate b.halves n i end other) (set-here b.halves n end (slice_get_within b.halves n half now)) there (λ left may. may)
      ]

pub ends-before : (book : Book) (state : State) (took : List Bool) (ends : List SlaveHalf) → Stays book state took → length ends ≡ length state.halves → Courses book [] state.halves ends → (n : ℕ) → n ≤ length state.halves → EndsBefore book state ends n
ends-before book state took ends stays count courses zero le = record {
  halves = state.halves;
  took = took;
  stays = stays;
  count = refl;
  less = λ i half end lt. absurd (omega (arith, lt));
  others = λ i le. refl;
}
ends-before book state took ends stays count courses (suc n) le =
    let h = half-there state.halves n (omega (arith, le)) in
    let e = half-there ends n (omega (arith, le, count)) in
    ends-next book state ends n (ends-before book state took ends stays count courses n (omega (arith, le))) h.0 e.0 h.1 e.1 (courses n h.0 e.0 h.1 e.1)
