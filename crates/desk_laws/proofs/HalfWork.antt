-- What the jobs of a log have done to a slave's half.
use Rattle.std.proofs.Common.{◌≡◌, ◌≢◌, ◌⊎◌, inl, inr, ◌∙◌, ℕ, zero, suc, ◌<◌, ◌∷◌, ◌++◌, List, [], length, set, refl, sym, ap, subst, arith, length-set, append_assoc, Some, None}
use Rattle.std.specs.Prelude.{slice_get}
use Rattle.std.proofs.lemmas.List.{append-nil, get_or-set_same, length-map}
use Rattle.std.proofs.lemmas.Option.{slice_get-get_or, slice_get_within}
use Rattle.esc_model.specs.SlaveHalf.{SlaveHalf, MayLeave}
use Rattle.site_core.specs.State.{State, Pair, Seen, Leaves, EachMayLeave}
use Rattle.site_core.specs.Passes.{LeavesOnly}
use Rattle.site_core.proofs.Halves.{EachMayLeave-at, EachMayLeave-exchanged}
use Rattle.site_core.proofs.StopImages.{StopImage-same}
use Rattle.book_model.specs.declared.next.RomNext.{RomNext}
use Rattle.book_model.specs.declared.next.RomNext.TheVariants as next
use Rattle.book_model.specs.declared.next.RomOutcome.{RomOutcome}
use Rattle.book_model.specs.declared.next.RomOutcome.TheVariants as outcomes
use Rattle.esc_rom.specs.Access.{DiffersAtWord}
use Rattle.book_model.specs.Opening.{words_in}
use Rattle.book_model.proofs.OutcomeLaws.{set-same}
use Rattle.book_model.proofs.LineLaws.{half-there}
use Rattle.world_law.proofs.StandsLaws.{as-read, pair_read, leaves-read}
use Rattle.station_jobs.specs.Jobs.{DoneInTurn, MayEnd}
use Rattle.station_jobs.specs.Left.{CameBackInTurn, LeftInProgress}
use Rattle.station_jobs.specs.Working.{CallsSlave, HalfReturns, SlaveReturns, LeftInCall, IsWorked}
use Rattle.station_jobs.proofs.CallLaws.{calls-came-back, call-goes}
use Rattle.desk_book.specs.declared.call.Call.{Call}
use Rattle.desk_book.specs.Logs.{RomEntry, rom_log}
use Rattle.desk_laws.specs.Joined.{MayBeOut, SlaveGoes}

-- While a word is issued, a power cut may leave any value in it. All else is left as it could be before.
abbrev pub HalfLeft : RomNext → SlaveHalf → List ℕ → Type 0
HalfLeft (next.Issue word value) half left = (before : List ℕ) × MayLeave half before × ((left ≡ before) ⊎ ((held : ℕ) × (left ≡ set before word held)))
HalfLeft (next.Settle taken) half left = MayLeave half left
HalfLeft next.Idle half left = MayLeave half left
HalfLeft next.Stop half left = MayLeave half left

-- The job returned so, if an outcome was reported and the site didn't stop. Either way a power cut leaves nothing that it couldn't leave
-- during the job.
pub record HalfSteps (i : ℕ) (entry : RomEntry) (half later : SlaveHalf) : Type 0 where
  pub returns : (outcome : RomOutcome) → entry.outcome ≡ Some outcome → outcome ≢ outcomes.Stopped → HalfReturns i entry.job outcome half later
  pub leaves : (left : List ℕ) → MayLeave later left → HalfLeft entry.job half left

-- Each job did so, one after another, and a power cut leaves no more of the half as it is now.
abbrev pub HalfLedBy : ℕ → List RomEntry → SlaveHalf → SlaveHalf → Type 0
HalfLedBy i [] half later = (left : List ℕ) → MayLeave later left → MayLeave half left
HalfLedBy i (entry ∷ log) half later = (mid : SlaveHalf) × HalfSteps i entry half mid × HalfLedBy i log mid later

-- ---- lists

pub set-here : {A : Type 0} (xs : List A) (i : ℕ) (x : A) → i < length xs → slice_get (set xs i x) i ≡ Some x
set-here {A} xs i x within =
    slice_get-get_or (set xs i x) i x (omega (arith, within, length-set xs i x)) ∙ ap (λ (y : A). Some y) (get_or-set_same xs i x x within)

pub set-separate : {A : Type 0} (xs : List A) (j i : ℕ) (x : A) → i ≢ j → slice_get (set xs j x) i ≡ slice_get xs i
set-separate [] j i x other = refl
set-separate (y ∷ xs) zero zero x other = absurd (other refl)
set-separate (y ∷ xs) zero (suc i) x other = refl
set-separate (y ∷ xs) (suc j) zero x other = refl
set-separate (y ∷ xs) (suc j) (suc i) x other = set-separate xs j i x (λ same. other (ap suc same))

-- ---- one job

-- a pair that a power cut leaves, with this slave's words
pair-with : (state : State) (i : ℕ) (half : SlaveHalf) (left : List ℕ) → slice_get state.halves i ≡ Some half → MayLeave half left
    → Leaves state (record { disk = state.disk.bytes; words = set (words_in state.halves) i left })
pair-with state i half left there may = record {
  disk = StopImage-same state.disk;
  words = subst (λ (l : List SlaveHalf). EachMayLeave l (set (words_in state.halves) i left)) (set-same state.halves i half there)
      (EachMayLeave-exchanged state.halves (words_in state.halves) i half left may (as-read state.halves));
}

words-there : (state : State) (i : ℕ) (half : SlaveHalf) (left : List ℕ) → slice_get state.halves i ≡ Some half → slice_get (set (words_in state.halves) i left) i ≡ Some left
words-there state i half left there =
    let within = slice_get_within state.halves i half there in
    set-here (words_in state.halves) i left (omega (arith, within, length-map state.halves (λ (h : SlaveHalf). h.words)))

settle-left : (old : State) (i : ℕ) (half : SlaveHalf) (left : List ℕ) (pair : Pair) → slice_get old.halves i ≡ Some half → slice_get pair.words i ≡ Some left → Leaves old pair → MayLeave half left
settle-left old i half left pair here there leaves =
    let was = EachMayLeave-at old.halves pair.words i half here leaves.words in
    let same : was.0 ≡ left = (let e : Some was.0 ≡ Some left = sym was.1 ∙ there in cc) in
    subst (MayLeave half) same was.2

issue-left : (old : State) (i word value : ℕ) (half : SlaveHalf) (left : List ℕ) (before pair : Pair) → slice_get old.halves i ≡ Some half → slice_get pair.words i ≡ Some left → Leaves old before → DiffersAtWord before i word pair
    → HalfLeft (next.Issue word value) half left
issue-left old i word value half left before pair here there leaves differs = from differs.1
  where
    was : (words : List ℕ) × (slice_get before.words i ≡ Some words) × MayLeave half words
    was = EachMayLeave-at old.halves before.words i half here leaves.words

    from : (pair.words ≡ before.words) ⊎ ((words : List ℕ) × (held : ℕ) × (slice_get before.words i ≡ Some words) × (pair.words ≡ set before.words i (set words word held))) → HalfLeft (next.Issue word value) half left
    from (inl same) = (was.0, was.2, inl (let e : Some left ≡ Some was.0 = sym there ∙ ap (λ (l : List (List ℕ)). slice_get l i) same ∙ was.1 in cc))
    from (inr other) =
        let same : other.0 ≡ was.0 = (let e : Some other.0 ≡ Some was.0 = sym other.2 ∙ was.1 in cc) in
        let within = slice_get_within before.words i was.0 was.1 in
        let is : left ≡ set other.0 word other.1 =
        (let e : Some left ≡ Some (set other.0 word other.1) = sym there ∙ ap (λ (l : List (List ℕ)). slice_get l i) other.3 ∙ set-here before.words i (set other.0 word other.1) within in cc) in
        (was.0, was.2, inr (other.1, is ∙ ap (λ (l : List ℕ). set l word other.1) same))

-- what a stop leaves of the slaves now is so, and this half is one of them
job-left : (i : ℕ) (job : RomNext) (old now : State) (half later : SlaveHalf) → LeavesOnly (LeftInCall i job old) now → slice_get old.halves i ≡ Some half → slice_get now.halves i ≡ Some later
    → (left : List ℕ) → MayLeave later left → HalfLeft job half left
job-left i job old now half later only here there left may = by job (only pair (pair-with now i later left there may))
  where
    pair : Pair
    pair = record { disk = now.disk.bytes; words = set (words_in now.halves) i left }

    with_left : slice_get pair.words i ≡ Some left
    with_left = words-there now i later left there

    by : (job : RomNext) → LeftInCall i job old pair → HalfLeft job half left
    by (next.Issue word value) is = issue-left old i word value half left is.0 pair here with_left is.1 is.2
    by (next.Settle taken) is = settle-left old i half left pair here with_left is
    by next.Idle is = settle-left old i half left pair here with_left is
    by next.Stop is = settle-left old i half left pair here with_left is

call-left : (i : ℕ) (job : RomNext) (outcome : RomOutcome) (old new : Seen) → CallsSlave i job outcome old new → LeavesOnly (LeftInCall i job old.state) new.state
call-left i (next.Issue word value) outcome old new calls = let issues = calls.issues in issues.stays.passes.now
call-left i (next.Settle taken) outcome old new calls = let settles = calls.settles in settles.quiet.adds.passes.now
call-left i next.Idle outcome old new calls = absurd calls
call-left i next.Stop outcome old new calls = absurd calls

-- where this half alone goes on, so does what is there
half-returns : (i : ℕ) (job : RomNext) (outcome : RomOutcome) (old new : State) (half later : SlaveHalf) → SlaveReturns i job outcome old new → slice_get old.halves i ≡ Some half → slice_get new.halves i ≡ Some later
    → HalfReturns i job outcome half later
half-returns i job outcome old new half later returns here there =
    let first : returns.half ≡ half = (let e : Some returns.half ≡ Some half = sym returns.here ∙ here in cc) in
    let now : slice_get new.halves i ≡ Some returns.later = ap (λ (s : State). slice_get s.halves i) returns.new_is ∙ set-here old.halves i returns.later (slice_get_within old.halves i half here) in
    let second : returns.later ≡ later = (let e : Some returns.later ≡ Some later = sym now ∙ there in cc) in
    subst (HalfReturns i job outcome half) second (subst (λ (h : SlaveHalf). HalfReturns i job outcome h returns.later) first returns.goes)

last-steps : (i : ℕ) (entry : RomEntry) (mid new : Seen) (outcome : RomOutcome) → entry.outcome ≡ Some outcome → CallsSlave i entry.job outcome mid new → outcome ≢ outcomes.Stopped → SlaveReturns i entry.job outcome mid.state new.state
last-steps i entry mid new outcome reported does going =
    let turn : DoneInTurn (CallsSlave i) (entry ∷ []) mid new = (new, record { outcome = outcome; reported = reported; does = does; going = call-goes i entry.job outcome mid new does going }, refl) in
    let back : CameBackInTurn (SlaveReturns i) (entry ∷ []) mid.state new.state = calls-came-back i (entry ∷ []) mid new turn in
    let one = back.1 in
    let same : one.outcome ≡ outcome = (let e : Some one.outcome ≡ Some outcome = sym one.reported ∙ reported in cc) in
    subst (λ (s : State). SlaveReturns i entry.job outcome mid.state s) (sym back.2) (subst (λ (o : RomOutcome). SlaveReturns i entry.job o mid.state back.0) same one.returns)

call-steps : (i : ℕ) (entry : RomEntry) (outcome : RomOutcome) (old new : Seen) (half later : SlaveHalf) → (entry.outcome ≡ Some outcome) ⊎ (entry.outcome ≡ None) → CallsSlave i entry.job outcome old new
    → slice_get old.state.halves i ≡ Some half → slice_get new.state.halves i ≡ Some later → HalfSteps i entry half later
call-steps i entry outcome old new half later (inl reported) does here there = record {
  returns = λ said is going.
      let same : outcome ≡ said = (let e : Some outcome ≡ Some said = sym reported ∙ is in cc) in
      half-returns i entry.job said old.state new.state half later (last-steps i entry old new said is (subst (λ (o : RomOutcome). CallsSlave i entry.job o old new) same does) going) here there;
  leaves = job-left i entry.job old.state new.state half later (call-left i entry.job outcome old new does) here there;
}
call-steps i entry outcome old new half later (inr none) does here there = record {
  returns = λ said is going. absurd (let no : None ≡ Some said = sym none ∙ is in cc);
  leaves = job-left i entry.job old.state new.state half later (call-left i entry.job outcome old new does) here there;
}

-- ---- one after another

-- the half is still there
half-stays : (i : ℕ) (job : RomNext) (old now : State) (half : SlaveHalf) → LeavesOnly (LeftInCall i job old) now → slice_get old.halves i ≡ Some half → (later : SlaveHalf) × (slice_get now.halves i ≡ Some later)
half-stays i job old now half only here =
    let within : i < length (words_in now.halves) = inside job (only (pair_read now) (leaves-read now)) in
    half-there now.halves i (omega (arith, within, length-map now.halves (λ (h : SlaveHalf). h.words)))
  where
    left-inside : (pair : Pair) → Leaves old pair → i < length pair.words
    left-inside pair leaves = let was = EachMayLeave-at old.halves pair.words i half here leaves.words in slice_get_within pair.words i was.0 was.1

    inside : (job : RomNext) → LeftInCall i job old (pair_read now) → i < length (words_in now.halves)
    inside (next.Issue word value) is = elim is.2.1 [
      | inl same ↦ let was = left-inside is.0 is.1 in omega (arith, was, ap length same)
      | inr other ↦ let was = left-inside is.0 is.1 in omega (arith, was, ap length other.3, length-set is.0.words i (set other.0 word other.1))
    ]
    inside (next.Settle taken) is = left-inside (pair_read now) is
    inside next.Idle is = left-inside (pair_read now) is
    inside next.Stop is = left-inside (pair_read now) is

-- The jobs led the half on to this one, whatever follows.
record LedOn (i : ℕ) (log : List RomEntry) (half : SlaveHalf) (now : State) : Type 0 where
  later : SlaveHalf
  there : slice_get now.halves i ≡ Some later
  led : (rest : List RomEntry) (end : SlaveHalf) → HalfLedBy i rest later end → HalfLedBy i (log ++ rest) half end

led-none : (i : ℕ) (old new : Seen) (half : SlaveHalf) → new ≡ old → slice_get old.state.halves i ≡ Some half → LedOn i [] half new.state
led-none i old new half same here = record { later = half; there = ap (λ (s : Seen). slice_get s.state.halves i) same ∙ here; led = λ rest end led. led }

led-job : (i : ℕ) (entry : RomEntry) (log : List RomEntry) (outcome : RomOutcome) (old mid : Seen) (new : State) (half : SlaveHalf) → (entry.outcome ≡ Some outcome) ⊎ (entry.outcome ≡ None) → CallsSlave i entry.job outcome old mid → slice_get old.state.halves i ≡ Some half
    → ((half : SlaveHalf) → slice_get mid.state.halves i ≡ Some half → LedOn i log half new) → LedOn i (entry ∷ log) half new
led-job i entry log outcome old mid new half reported does here others =
    let on = half-stays i entry.job old.state mid.state half (call-left i entry.job outcome old mid does) here in
    let rest = others on.0 on.1 in
    record { later = rest.later; there = rest.there; led = λ more end led. (on.0, call-steps i entry outcome old mid half on.0 reported does here on.1, rest.led more end led) }

led-turn : (i : ℕ) (log : List RomEntry) (old new : Seen) (half : SlaveHalf) → DoneInTurn (CallsSlave i) log old new → slice_get old.state.halves i ≡ Some half → LedOn i log half new.state
led-turn i [] old new half same here = led-none i old new half same here
led-turn i (entry ∷ log) old new half turn here =
    let one = turn.1 in led-job i entry log one.outcome old turn.0 new.state half (inl one.reported) one.does here (λ h there. led-turn i log turn.0 new h turn.2 there)

led-last : (i : ℕ) (last : List RomEntry) (old new : Seen) (half : SlaveHalf) → MayEnd (CallsSlave i) last old new → slice_get old.state.halves i ≡ Some half → LedOn i last half new.state
led-last i [] old new half same here = led-none i old new half same here
led-last i (entry ∷ []) old new half ends here = led-job i entry [] ends.outcome old new new.state half ends.reported ends.does here (λ h there. led-none i new new h refl there)
led-last i (entry ∷ next ∷ last) old new half ends here = absurd ends

led-worked : (i : ℕ) (log : List RomEntry) (old new : Seen) (half : SlaveHalf) → IsWorked i log old new → slice_get old.state.halves i ≡ Some half → LedOn i log half new.state
led-worked i log old new half worked here =
    let w = worked.led in
    let first = led-turn i w.done old w.mid half w.in_turn here in
    let last = led-last i w.last w.mid new first.later w.ends first.there in
    record {
      later = last.later;
      there = last.there;
      led = λ rest end led.
          subst (λ (l : List RomEntry). HalfLedBy i l half end) (sym (append_assoc w.done w.last rest) ∙ ap (λ (l : List RomEntry). l ++ rest) (sym w.log_is)) (first.led (w.last ++ rest) end (last.led rest end led));
    }

-- the last one may be in progress
led-out : (i : ℕ) (out : List RomEntry) (mid now : State) (half new : SlaveHalf) → MayBeOut out → LeavesOnly (LeftInProgress (LeftInCall i) out mid) now → slice_get mid.halves i ≡ Some half → slice_get now.halves i ≡ Some new → HalfLedBy i out half new
led-out i [] mid now half new may only here there = job-left i next.Idle mid now half new only here there
led-out i (entry ∷ []) mid now half new may only here there =
    (new, record { returns = λ said is going. absurd (let no : None ≡ Some said = sym may ∙ is in cc); leaves = job-left i entry.job mid now half new only here there }, λ left leaves. leaves)
led-out i (entry ∷ next ∷ out) mid now half new may only here there = absurd may

pub led-slave : (calls : List Call) (i : ℕ) (old new : SlaveHalf) → SlaveGoes calls i old new → HalfLedBy i (rom_log i calls) old new
led-slave calls i old new goes =
    let on = led-worked i goes.done goes.start goes.mid old goes.worked goes.began in
    subst (λ (l : List RomEntry). HalfLedBy i l old new) (sym goes.log_is) (on.led goes.out new (led-out i goes.out goes.mid.state goes.now on.later new goes.may_be_out goes.stands on.there goes.is))

-- the half at the worker's end
pub led-to-end : (i : ℕ) (log : List RomEntry) (old new : Seen) (half : SlaveHalf) → IsWorked i log old new → slice_get old.state.halves i ≡ Some half → (end : SlaveHalf) × (slice_get new.state.halves i ≡ Some end) × HalfLedBy i log half end
led-to-end i log old new half worked here =
    let on = led-worked i log old new half worked here in
    (on.later, on.there, subst (λ (l : List RomEntry). HalfLedBy i l half on.later) (append-nil log) (on.led [] on.later (λ left may. may)))
