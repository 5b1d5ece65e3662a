-- What becomes of a slave's half, call by call, as the log of its jobs says.
use Rattle.std.proofs.Common.{◌≡◌, ◌≢◌, ◌⊎◌, ◌∙◌, inl, inr, ℕ, ◌<◌, Bool, true, false, List, [], ◌∷◌, length, get_or, set, refl, sym, ap, subst, arith, Option, Some, None, Ok, Err}
use Rattle.std.specs.Prelude.{fold, nat_lt}
use Rattle.std.proofs.lemmas.Bool.Decides.{nat_tests}
use Rattle.std.proofs.lemmas.List.{get_or-set_same, get_or_past}
use Rattle.esc_model.specs.SlaveHalf.{SlaveHalf, MayLeave}
use Rattle.site_core.specs.declared.answers.Settled.TheVariants.{Written, Again, Dead}
use Rattle.book_model.specs.Cells.{written, cell_of}
use Rattle.book_model.specs.declared.next.RomNext.{RomNext}
use Rattle.book_model.specs.declared.next.RomNext.TheVariants as next
use Rattle.book_model.specs.declared.next.RomOutcome.{RomOutcome}
use Rattle.book_model.specs.declared.next.RomOutcome.TheVariants as outcomes
use Rattle.book_model.specs.Book.{Book, Slave, Operation, NoOperation, Issuing, Unsettled, Settling, nobody, slave_at}
use Rattle.book_model.specs.RomSteps.{was_taken, is_last, rom_next, rom_done}
use Rattle.station_jobs.specs.Dispatch.{with_outcome}
use Rattle.desk_book.specs.declared.call.Call.{Call}
use Rattle.desk_book.specs.declared.call.Call.TheVariants.{Submitted, DiskAsked, DiskReported, SlaveAsked, SlaveReported, PlanAsked, Finished}
use Rattle.desk_book.specs.Calls.{after, AreAnswered, IsOut}
use Rattle.desk_book.specs.Logs.{RomEntry, rom_noted, with_rom_answer}
use Rattle.desk_book.proofs.LogLaws.{asked-here, asked-other, reported-here, reported-other, with-rom-rest, same-or-not}
use Rattle.desk_book.proofs.OutLaws.{Next, rests, issues, settles, next-of, asked-separate, reported-separate, reported-operation, slaves-asked, issued-slave}
use Rattle.desk_laws.proofs.LogAfter.{log-afterwards}
use Rattle.desk_laws.proofs.HalfWork.{HalfLeft, HalfSteps, HalfLedBy}

-- ---- the course of a half

-- the job that the book has out for a slave
abbrev pub IsJobOf : Operation → RomNext → Type 0
IsJobOf NoOperation job = ⊥
IsJobOf (Issuing word value) job = job ≡ next.Issue word value
IsJobOf (Unsettled word value taken) job = ⊥
IsJobOf (Settling word value taken) job = job ≡ next.Settle taken

pub job-is_out : (operation : Operation) (job : RomNext) → IsJobOf operation job → IsOut operation
job-is_out NoOperation job of = of
job-is_out (Issuing word value) job of = tt
job-is_out (Unsettled word value taken) job of = of
job-is_out (Settling word value taken) job of = tt

-- a power cut leaves no more of the later half
abbrev pub LeavesLess : SlaveHalf → SlaveHalf → Type 0
LeavesLess half later = (left : List ℕ) → MayLeave later left → MayLeave half left

-- A call leaves the half as it is, and if it reports an outcome of the slave, the book too; or it reports the outcome of the job that is out.
pub data Moves (i : ℕ) (book : Book) (call : Call) (half later : SlaveHalf) : Type 0 where
  still : later ≡ half → ((outcome : RomOutcome) → call ≡ SlaveReported i outcome → rom_done book i outcome ≡ book) → Moves i book call half later
  came : (outcome : RomOutcome) → call ≡ SlaveReported i outcome → (job : RomNext) → IsJobOf (slave_at book i).operation job → HalfSteps i (record { job = job; outcome = Some outcome }) half later → Moves i book call half later

-- In the end a power cut leaves no more of the half; or a job is out, and a power cut leaves what it may leave during the job.
abbrev pub EndsOut : Operation → SlaveHalf → SlaveHalf → Type 0
EndsOut operation half end = LeavesLess half end ⊎ ((job : RomNext) × IsJobOf operation job × ((left : List ℕ) → MayLeave end left → HalfLeft job half left))

abbrev pub Course : ℕ → Book → List Call → SlaveHalf → SlaveHalf → Type 0
Course i book [] half end = EndsOut (slave_at book i).operation half end
Course i book (call ∷ calls) half end = (mid : SlaveHalf) × Moves i book call half mid × Course i (after book call) calls mid end

-- a slave that is out is one of the line's
pub out-within : (i : ℕ) (book : Book) (cut : Bool) → nat_lt i (length book.slaves) ≡ cut → IsOut (slave_at book i).operation → i < length book.slaves
out-within i book true is out = grind (arith, nat_tests)
out-within i book false is out = absurd (subst (λ (s : Slave). IsOut s.operation) (get_or_past book.slaves i nobody (grind (arith, nat_tests))) out)

-- ---- what is pending in the log

-- the job that is out, if one is
abbrev IsPending : Operation → List RomEntry → Type 0
IsPending operation log = ((IsOut operation → ⊥) × (log ≡ [])) ⊎ ((job : RomNext) × (outcome : Option RomOutcome) × IsJobOf operation job × (log ≡ record { job = job; outcome = outcome } ∷ []))

module _ (i : ℕ) (end : SlaveHalf) where
  -- the log that the rest of the calls makes of this one leads the half to the end
  abbrev Leads : List Call → Type 0
  Leads calls = (book : Book) (log : List RomEntry) (half : SlaveHalf) → AreAnswered book calls → IsPending (slave_at book i).operation log → HalfLedBy i (fold (rom_noted i) log calls) half end → Course i book calls half end

  ends-out : (operation : Operation) (log : List RomEntry) (half : SlaveHalf) → IsPending operation log → HalfLedBy i log half end → EndsOut operation half end
  ends-out operation log half (inl none) led = inl (subst (λ (l : List RomEntry). HalfLedBy i l half end) none.1 led)
  ends-out operation log half (inr out) led =
      let path : HalfLedBy i (record { job = out.0; outcome = out.1 } ∷ []) half end = subst (λ (l : List RomEntry). HalfLedBy i l half end) out.3 led in
      inr (out.0, out.2, λ left may. path.1.leaves left (path.2 left may))

  module _ (calls : List Call) (leads : Leads calls) where
    -- nothing is noted of the slave
    passes : (book : Book) (call : Call) (log : List RomEntry) (half : SlaveHalf) → ((outcome : RomOutcome) → call ≡ SlaveReported i outcome → rom_done book i outcome ≡ book) → (slave_at (after book call) i).operation ≡ (slave_at book i).operation
        → rom_noted i log call ≡ log → AreAnswered (after book call) calls → IsPending (slave_at book i).operation log → HalfLedBy i (fold (rom_noted i) log (call ∷ calls)) half end → Course i book (call ∷ calls) half end
    passes book call log half reported operation unnoted all pending led =
        (half, still refl reported, leads (after book call) log half all (subst (λ (e : Operation). IsPending e log) (sym operation) pending) (subst (λ (l : List RomEntry). HalfLedBy i (fold (rom_noted i) l calls) half end) unnoted led))

    -- ---- it is asked for

    within-of : (book : Book) → nat_lt i (length book.slaves) ≡ true → i < length book.slaves
    within-of book is = grind (arith, nat_tests)

    -- a job is handed out
    hands : (book : Book) (answer job : RomNext) (log : List RomEntry) (half : SlaveHalf) → with_rom_answer [] answer ≡ record { job = job; outcome = None } ∷ [] → IsJobOf (slave_at (rom_next book i).1 i).operation job → (IsOut (slave_at book i).operation → ⊥)
        → AreAnswered (rom_next book i).1 calls → IsPending (slave_at book i).operation log → HalfLedBy i (fold (rom_noted i) log (SlaveAsked i answer ∷ calls)) half end → Course i book (SlaveAsked i answer ∷ calls) half end
    hands book answer job log half one of vacant all (inr out) led = absurd (vacant (job-is_out (slave_at book i).operation out.0 out.2))
    hands book answer job log half one of vacant all (inl none) led =
        let noted : rom_noted i log (SlaveAsked i answer) ≡ record { job = job; outcome = None } ∷ [] = asked-here i answer log ∙ ap (λ (l : List RomEntry). with_rom_answer l answer) none.1 ∙ one in
        (half, still refl (λ outcome no. absurd (cc no)), leads (rom_next book i).1 _ half all (inr (job, None, of, refl)) (subst (λ (l : List RomEntry). HalfLedBy i (fold (rom_noted i) l calls) half end) noted led))

    asked-as : (book : Book) (answer : RomNext) (log : List RomEntry) (half : SlaveHalf) → answer ≡ (rom_next book i).0 → AreAnswered (rom_next book i).1 calls → IsPending (slave_at book i).operation log
        → HalfLedBy i (fold (rom_noted i) log (SlaveAsked i answer ∷ calls)) half end → Next book i → Course i book (SlaveAsked i answer ∷ calls) half end
    asked-as book answer log half is all pending led (rests nothing none goes) =
        passes book (SlaveAsked i answer) log half (λ outcome no. absurd (cc no)) (ap (λ (p : RomNext × Book). (slave_at p.1 i).operation) goes)
        (asked-here i answer log ∙ ap (with_rom_answer log) (is ∙ ap (λ (p : RomNext × Book). p.0) goes) ∙ with-rom-rest log nothing none) all pending led
    asked-as book answer log half is all pending led (issues w others vacant todo inside goes) =
        let operation : (slave_at (rom_next book i).1 i).operation ≡ Issuing w.0 w.1 =
        ap (λ (p : RomNext × Book). (slave_at p.1 i).operation) goes ∙ ap (λ (s : Slave). s.operation) (get_or-set_same book.slaves i (issued-slave book i w) nobody (within-of book inside)) in
        hands book answer (next.Issue w.0 w.1) log half (ap (with_rom_answer []) (is ∙ ap (λ (p : RomNext × Book). p.0) goes)) (subst (λ (e : Operation). IsJobOf e (next.Issue w.0 w.1)) (sym operation) refl) (λ out. subst IsOut vacant out) all pending led
    asked-as book answer log half is all pending led (settles word value taken unsettled inside goes) =
        let operation : (slave_at (rom_next book i).1 i).operation ≡ Settling word value taken =
        ap (λ (p : RomNext × Book). (slave_at p.1 i).operation) goes ∙ ap (λ (s : Slave). s.operation) (get_or-set_same book.slaves i (record (slave_at book i) { operation = Settling word value taken }) nobody (within-of book inside)) in
        hands book answer (next.Settle taken) log half (ap (with_rom_answer []) (is ∙ ap (λ (p : RomNext × Book). p.0) goes)) (subst (λ (e : Operation). IsJobOf e (next.Settle taken)) (sym operation) refl) (λ out. subst IsOut unsettled out) all pending led

    -- ---- it comes back

    module _ (book : Book) where
      abbrev IsIdleAfter : RomOutcome → Type 0
      IsIdleAfter outcome = IsOut (slave_at (rom_done book i outcome) i).operation → ⊥

      idle-by : (later : Book) (s : Slave) → i < length book.slaves → later.slaves ≡ set book.slaves i s → (IsOut s.operation → ⊥) → IsOut (slave_at later i).operation → ⊥
      idle-by later s within is idle out = idle (subst (λ (x : Slave). IsOut x.operation) (ap (λ (l : List Slave). get_or l i nobody) is ∙ get_or-set_same book.slaves i s nobody within) out)

      again-idle : (word value : ℕ) (taken last : Bool) → (slave_at book i).operation ≡ Settling word value taken → i < length book.slaves → is_last (cell_of (slave_at book i).cells word).known ≡ last → IsIdleAfter (outcomes.Settled Again)
      again-idle word value taken true is within lasts = idle-by (rom_done book i (outcomes.Settled Again)) (record (slave_at book i) { operation = NoOperation }) within (rw (is, lasts) refl) (λ no. no)
      again-idle word value taken false is within lasts = idle-by (rom_done book i (outcomes.Settled Again)) (record (slave_at book i) { operation = NoOperation }) within (rw (is, lasts) refl) (λ no. no)

      -- the outcome is of another kind, and changes nothing, or nothing is out after it
      reported-kind : (operation : Operation) (outcome : RomOutcome) → (slave_at book i).operation ≡ operation → IsOut operation → i < length book.slaves → (rom_done book i outcome ≡ book) ⊎ IsIdleAfter outcome
      reported-kind NoOperation outcome is out within = absurd out
      reported-kind (Unsettled word value taken) outcome is out within = absurd out
      reported-kind (Issuing word value) (outcomes.Issued how) is out within =
          inr (idle-by (rom_done book i (outcomes.Issued how)) (record (slave_at book i) { operation = Unsettled word value (was_taken how) }) within (rw is refl) (λ no. no))
      reported-kind (Issuing word value) (outcomes.Settled how) is out within = inl (rw is refl)
      reported-kind (Issuing word value) outcomes.Stopped is out within = inr (idle-by (rom_done book i outcomes.Stopped) (record (slave_at book i) { operation = NoOperation }) within (rw is refl) (λ no. no))
      reported-kind (Settling word value taken) (outcomes.Issued how) is out within = inl (rw is refl)
      reported-kind (Settling word value taken) (outcomes.Settled Written) is out within =
          inr (idle-by (rom_done book i (outcomes.Settled Written)) (record (slave_at book i) { cells = set (slave_at book i).cells word (written (cell_of (slave_at book i).cells word) value); operation = NoOperation }) within (rw is refl) (λ no. no))
      reported-kind (Settling word value taken) (outcomes.Settled Again) is out within = inr (again-idle word value taken (is_last (cell_of (slave_at book i).cells word).known) is within refl)
      reported-kind (Settling word value taken) (outcomes.Settled Dead) is out within = inr (idle-by (rom_done book i (outcomes.Settled Dead)) (record (slave_at book i) { operation = NoOperation }) within (rw is refl) (λ no. no))
      reported-kind (Settling word value taken) outcomes.Stopped is out within = inr (idle-by (rom_done book i outcomes.Stopped) (record (slave_at book i) { operation = NoOperation }) within (rw is refl) (λ no. no))

      reported-as : (outcome : RomOutcome) (log : List RomEntry) (half : SlaveHalf) → IsOut (slave_at book i).operation → AreAnswered (rom_done book i outcome) calls → IsPending (slave_at book i).operation log
          → HalfLedBy i (fold (rom_noted i) log (SlaveReported i outcome ∷ calls)) half end → (rom_done book i outcome ≡ book) ⊎ IsIdleAfter outcome → Course i book (SlaveReported i outcome ∷ calls) half end
      reported-as outcome log half out all (inl none) led kind = absurd (none.0 out)
      reported-as outcome log half out all (inr p) led (inl is) =
          let noted : rom_noted i log (SlaveReported i outcome) ≡ record { job = p.0; outcome = Some outcome } ∷ [] = reported-here i outcome log ∙ ap (λ (l : List RomEntry). with_outcome l outcome) p.3 in (
            half,
            still refl (λ o reported. let q : outcome ≡ o = cc reported in subst (λ (o : RomOutcome). rom_done book i o ≡ book) q is),
            leads (rom_done book i outcome) _ half all (inr (p.0, Some outcome, subst (λ (b : Book). IsJobOf (slave_at b i).operation p.0) (sym is) p.2, refl)) (subst (λ (l : List RomEntry). HalfLedBy i (fold (rom_noted i) l calls) half end) noted led),
          )
      reported-as outcome log half out all (inr p) led (inr idle) =
          let entry : RomEntry = record { job = p.0; outcome = Some outcome } in
          let noted : rom_noted i log (SlaveReported i outcome) ≡ entry ∷ [] = reported-here i outcome log ∙ ap (λ (l : List RomEntry). with_outcome l outcome) p.3 in
          let afterwards = log-afterwards i (rom_done book i outcome) calls entry [] all (λ still. absurd (idle still)) in
          let path : HalfLedBy i (entry ∷ fold (rom_noted i) [] calls) half end = subst (λ (l : List RomEntry). HalfLedBy i l half end) (ap (λ (l : List RomEntry). fold (rom_noted i) l calls) noted ∙ afterwards) led in
          (path.0, came outcome refl p.0 p.2 path.1, leads (rom_done book i outcome) [] path.0 all (inl (idle, refl)) path.2)

    -- ---- whatever is called

    asked-of : (j : ℕ) (book : Book) (answer : RomNext) (log : List RomEntry) (half : SlaveHalf) → answer ≡ (rom_next book j).0 → AreAnswered (rom_next book j).1 calls → IsPending (slave_at book i).operation log
        → HalfLedBy i (fold (rom_noted i) log (SlaveAsked j answer ∷ calls)) half end → (i ≡ j) ⊎ (i ≢ j) → Course i book (SlaveAsked j answer ∷ calls) half end
    asked-of j book answer log half is all pending led (inl is_it) =
        subst (λ (k : ℕ). answer ≡ (rom_next book k).0 → AreAnswered (rom_next book k).1 calls → HalfLedBy i (fold (rom_noted i) log (SlaveAsked k answer ∷ calls)) half end → Course i book (SlaveAsked k answer ∷ calls) half end) is_it
        (λ is all led. asked-as book answer log half is all pending led (next-of book i)) is all led
    asked-of j book answer log half is all pending led (inr other) =
        passes book (SlaveAsked j answer) log half (λ outcome no. absurd (cc no)) (ap (λ (s : Slave). s.operation) (asked-separate book j i other)) (asked-other j answer i log other) all pending led

    reported-of : (j : ℕ) (book : Book) (outcome : RomOutcome) (log : List RomEntry) (half : SlaveHalf) → IsOut (slave_at book j).operation → AreAnswered (rom_done book j outcome) calls → IsPending (slave_at book i).operation log
        → HalfLedBy i (fold (rom_noted i) log (SlaveReported j outcome ∷ calls)) half end → (i ≡ j) ⊎ (i ≢ j) → Course i book (SlaveReported j outcome ∷ calls) half end
    reported-of j book outcome log half out all pending led (inl is_it) =
        subst (λ (k : ℕ). IsOut (slave_at book k).operation → AreAnswered (rom_done book k outcome) calls → HalfLedBy i (fold (rom_noted i) log (SlaveReported k outcome ∷ calls)) half end → Course i book (SlaveReported k outcome ∷ calls) half end) is_it
        (λ out all led. reported-as book outcome log half out all pending led (reported-kind book (slave_at book i).operation outcome refl out (out-within i book (nat_lt i (length book.slaves)) refl out))) out all led
    reported-of j book outcome log half out all pending led (inr other) =
        passes book (SlaveReported j outcome) log half (λ o reported. absurd (let q : i ≡ j = cc reported in other q)) (ap (λ (s : Slave). s.operation) (reported-separate book j i outcome other)) (reported-other j outcome i log other) all pending led

    leads-call : (call : Call) → Leads (call ∷ calls)
    leads-call (Submitted command answer) book log half all pending led = passes book (Submitted command answer) log half (λ outcome no. absurd (cc no)) (submitted-operation answer) refl all.1 pending led
      where
        submitted-operation : (answer : _) → (slave_at (after book (Submitted command answer)) i).operation ≡ (slave_at book i).operation
        submitted-operation (Ok number) = refl
        submitted-operation (Err refusal) = refl
    leads-call (DiskAsked answer) book log half all pending led =
        passes book (DiskAsked answer) log half (λ outcome no. absurd (cc no)) (ap (λ (l : List Slave). (get_or l i nobody).operation) (slaves-asked book)) refl all.1 pending led
    leads-call (DiskReported outcome) book log half all pending led = passes book (DiskReported outcome) log half (λ outcome no. absurd (cc no)) (reported-operation book outcome i) refl all.1 pending led
    leads-call (SlaveAsked j answer) book log half all pending led = asked-of j book answer log half all.0 all.1 pending led (same-or-not i j)
    leads-call (SlaveReported j outcome) book log half all pending led = reported-of j book outcome log half all.0 all.1 pending led (same-or-not i j)
    leads-call (PlanAsked answer) book log half all pending led = passes book (PlanAsked answer) log half (λ outcome no. absurd (cc no)) refl refl all.1 pending led
    leads-call Finished book log half all pending led = passes book Finished log half (λ outcome no. absurd (cc no)) refl refl all.1 pending led

  leads-all : (calls : List Call) → Leads calls
  leads-all [] book log half all pending led = ends-out (slave_at book i).operation log half pending led
  leads-all (call ∷ calls) book log half all pending led = leads-call calls (leads-all calls) call book log half all pending led

-- from where nothing is out
pub course-of : (i : ℕ) (calls : List Call) (book : Book) (half end : SlaveHalf) → AreAnswered book calls → (IsOut (slave_at book i).operation → ⊥) → HalfLedBy i (fold (rom_noted i) [] calls) half end → Course i book calls half end
course-of i calls book half end all vacant led = leads-all i end calls book [] half all (inl (vacant, refl)) led
