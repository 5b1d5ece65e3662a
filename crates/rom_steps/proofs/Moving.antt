-- From each step to the next one.
use Rattle.std.proofs.Common.{◌≡◌, ◌≢◌, ℕ, zero, suc, ◌+◌, Bool, true, false, List, [], ◌∷◌, ◌++◌, is_some, Option, Some, None, Result, Ok, Err, refl, sym, ap, subst, ◌∙◌, inl, inr, arith}
use Rattle.std.proofs.lemmas.Bool.{false≢true}
use Rattle.std.proofs.lemmas.List.{append-nil}
use Rattle.ecat_frame.specs.Frame.{Pdu}
use Rattle.esc_model.specs.Orders.{access_order, poll_order, clear_order, read_order, fetch_order, write_order}
use Rattle.site_core.specs.declared.fault.DeviceFault.{DeviceFault}
use Rattle.site_core.specs.declared.answers.Issued.{Issued}
use Rattle.site_core.specs.declared.answers.Issued.TheVariants as issued
use Rattle.site_core.specs.declared.answers.Settled.{Settled}
use Rattle.site_core.specs.declared.answers.Settled.TheVariants as settled
use Rattle.rom_steps.specs.declared.back.Rested.{Rested}
use Rattle.rom_steps.specs.declared.back.Rested.TheVariants.{Well, Failed}
use Rattle.rom_steps.specs.declared.back.WordPair.{WordPair}
use Rattle.rom_steps.specs.Accesses.Tried.{words_read, try_failed, never_idle}
use Rattle.rom_steps.specs.declared.step.Stop.{Stop}
use Rattle.rom_steps.specs.Courses.{Asked, Course, IsHeard, Ends, Then, OnlyIf, no_round, UpTo}
use Rattle.rom_steps.specs.Accesses.{found_in, pair_of, is_counted, issued_by, WritesBy, PollsBy, FetchesBy, WaitsBy, InsistsBy, IssuesBy, SettlesAfter, ClearsBy, FreesBy, tried_of, FetchesAfter, WaitsAfter, TriesBy, pair_tried, Tried}
use Rattle.rom_steps.specs.declared.step.End.{End}
use Rattle.rom_steps.specs.declared.step.End.TheVariants as ends
use Rattle.rom_steps.specs.declared.step.Step.{Step}
use Rattle.rom_steps.specs.declared.step.Step.TheVariants.{Forces, Frees, WaitsToClear, Clears, Waits, Commands, WaitsToFetch, Fetches, Issues, WaitsToSettle, Tidies, Ended}
use Rattle.rom_steps.specs.Remaining.{opening_end, waiting_end, reading_end, PollsOn, TriesOn, Concludes, Remains, Follows}
use Rattle.rom_steps.specs.After.{forced, freed, waited_to_clear, cleared, waited, failed_try, commanded, waited_to_fetch, fetched, waited_to_settle}
use Rattle.rom_steps.proofs.Following.{asked, Within, follows-within, asks-so, then-on, then-next, then-value, then-within, ends-then, upto-again, upto-ends, rounds-next, rounds-last, rounds-on}

-- there is one stop
only : (a b : Stop) → a ≡ b
only a b = refl

-- rounds with two courses after them
module _ {T V W : Type 0} (round : Course T) (again : T) (next : T → Course V) (last : V → Course W) (one : Asked) where
  two-next : (more : ℕ) (value : T) → value ≢ again → round (one ∷ []) (Ok value)
      → Follows (Then (Then (UpTo (more + 1) round again) next) last) one (Then (next value) last)
  two-next more value other came =
      then-on (Then (UpTo (more + 1) round again) next) last one (next value) (rounds-next round again next one more value other came)

  two-last : round (one ∷ []) (Ok again) → Follows (Then (Then (UpTo 1 round again) next) last) one (Then (next again) last)
  two-last came = then-on (Then (UpTo 1 round again) next) last one (next again) (rounds-last round again next one came)

  two-on : (more : ℕ) → round (one ∷ []) (Ok again)
      → Follows (Then (Then (UpTo (suc more + 1) round again) next) last) one (Then (Then (UpTo (more + 1) round again) next) last)
  two-on more came =
      then-on (Then (UpTo (suc more + 1) round again) next) last one (Then (UpTo (more + 1) round again) next) (rounds-on round again next one more came)

abbrev pub E : Bool → Course End
E opened = Ends (opening_end opened)

abbrev pub S : Settled → Course End
S settled = Ends (ends.Settled settled)

-- OPENING

module _ (slave : ℕ) (came : Result Pdu DeviceFault) where
  pub forced-moves : (more : ℕ) (counted : Bool) → IsHeard is_counted false came (Ok counted)
      → Follows (Remains slave (Forces more)) (asked slave (access_order slave 2) came) (Remains slave (forced more counted))
  forced-moves more true heard =
      two-next (WritesBy slave (access_order slave 2)) false (λ (b : Bool). OnlyIf b (FreesBy slave)) E (asked slave (access_order slave 2) came) more true (λ e. absurd cc)
      (asks-so is_counted false slave (access_order slave 2) came true heard)
  forced-moves zero false heard =
      follows-within (Remains slave (Forces 0)) (asked slave (access_order slave 2) came) (Then (Ends false) E) (Ends ends.Dead)
      (two-last (WritesBy slave (access_order slave 2)) false (λ (b : Bool). OnlyIf b (FreesBy slave)) E (asked slave (access_order slave 2) came)
      (asks-so is_counted false slave (access_order slave 2) came false heard))
      (ends-then false E)
  forced-moves (suc more) false heard =
      two-on (WritesBy slave (access_order slave 2)) false (λ (b : Bool). OnlyIf b (FreesBy slave)) E (asked slave (access_order slave 2) came) more
      (asks-so is_counted false slave (access_order slave 2) came false heard)

  pub freed-moves : (more : ℕ) (counted : Bool) → IsHeard is_counted false came (Ok counted)
      → Follows (Remains slave (Frees more)) (asked slave (access_order slave 0) came) (Remains slave (freed more counted))
  freed-moves more true heard =
      two-next (WritesBy slave (access_order slave 0)) false (λ (b : Bool). OnlyIf b (ClearsBy slave)) E (asked slave (access_order slave 0) came) more true (λ e. absurd cc)
      (asks-so is_counted false slave (access_order slave 0) came true heard)
  freed-moves zero false heard =
      follows-within (Remains slave (Frees 0)) (asked slave (access_order slave 0) came) (Then (Ends false) E) (Ends ends.Dead)
      (two-last (WritesBy slave (access_order slave 0)) false (λ (b : Bool). OnlyIf b (ClearsBy slave)) E (asked slave (access_order slave 0) came)
      (asks-so is_counted false slave (access_order slave 0) came false heard))
      (ends-then false E)
  freed-moves (suc more) false heard =
      two-on (WritesBy slave (access_order slave 0)) false (λ (b : Bool). OnlyIf b (ClearsBy slave)) E (asked slave (access_order slave 0) came) more
      (asks-so is_counted false slave (access_order slave 0) came false heard)

  pub waited_to_clear-moves : (more : ℕ) (found : Option Rested) → IsHeard found_in None came (Ok found)
      → Follows (Remains slave (WaitsToClear more)) (asked slave (poll_order slave) came) (Remains slave (waited_to_clear more found))
  waited_to_clear-moves more (Some rested) heard =
      two-next (PollsBy slave) None (λ (r : Option Rested). OnlyIf (is_some r) (InsistsBy slave (clear_order slave))) E (asked slave (poll_order slave) came) more (Some rested)
      (λ e. absurd cc) (asks-so found_in None slave (poll_order slave) came (Some rested) heard)
  waited_to_clear-moves zero None heard =
      follows-within (Remains slave (WaitsToClear 0)) (asked slave (poll_order slave) came) (Then (Ends false) E) (Ends ends.Dead)
      (two-last (PollsBy slave) None (λ (r : Option Rested). OnlyIf (is_some r) (InsistsBy slave (clear_order slave))) E (asked slave (poll_order slave) came)
      (asks-so found_in None slave (poll_order slave) came None heard))
      (ends-then false E)
  waited_to_clear-moves (suc more) None heard =
      two-on (PollsBy slave) None (λ (r : Option Rested). OnlyIf (is_some r) (InsistsBy slave (clear_order slave))) E (asked slave (poll_order slave) came) more
      (asks-so found_in None slave (poll_order slave) came None heard)

  pub cleared-moves : (more : ℕ) (counted : Bool) → IsHeard is_counted false came (Ok counted)
      → Follows (Remains slave (Clears more)) (asked slave (clear_order slave) came) (Remains slave (cleared more counted))
  cleared-moves more true heard =
      rounds-next (WritesBy slave (clear_order slave)) false E (asked slave (clear_order slave) came) more true (λ e. absurd cc)
      (asks-so is_counted false slave (clear_order slave) came true heard)
  cleared-moves zero false heard =
      rounds-last (WritesBy slave (clear_order slave)) false E (asked slave (clear_order slave) came) (asks-so is_counted false slave (clear_order slave) came false heard)
  cleared-moves (suc more) false heard =
      rounds-on (WritesBy slave (clear_order slave)) false E (asked slave (clear_order slave) came) more (asks-so is_counted false slave (clear_order slave) came false heard)

  -- WAITING

  pub waited-moves : (more : ℕ) (found : Option Rested) → IsHeard found_in None came (Ok found)
      → Follows (Remains slave (Waits more)) (asked slave (poll_order slave) came) (Remains slave (waited more found))
  waited-moves more (Some rested) heard =
      rounds-next (PollsBy slave) None (λ (r : Option Rested). Ends (waiting_end r)) (asked slave (poll_order slave) came) more (Some rested) (λ e. absurd cc)
      (asks-so found_in None slave (poll_order slave) came (Some rested) heard)
  waited-moves zero None heard =
      rounds-last (PollsBy slave) None (λ (r : Option Rested). Ends (waiting_end r)) (asked slave (poll_order slave) came)
      (asks-so found_in None slave (poll_order slave) came None heard)
  waited-moves (suc more) None heard =
      rounds-on (PollsBy slave) None (λ (r : Option Rested). Ends (waiting_end r)) (asked slave (poll_order slave) came) more
      (asks-so found_in None slave (poll_order slave) came None heard)

-- READING

abbrev pub P : Tried → Course (Option WordPair)
P last = Ends (pair_tried last)

abbrev pub R : Option WordPair → Course End
R pair = Ends (reading_end pair)

concludes-on : (first : Course Tried) (one : Asked) (rest : Course Tried) → Follows first one rest → Follows (Concludes first) one (Concludes rest)
concludes-on first one rest follows = then-on (Then first P) R one (Then rest P) (then-on first P one rest follows)

concludes-within : (inner outer : Course Tried) → Within inner outer → Within (Concludes inner) (Concludes outer)
concludes-within inner outer within = then-within (Then outer P) R (Then inner P) (then-within outer P inner within)

-- tries that have ended
ended-within : (value : Tried) → Within (Ends (reading_end (pair_tried value))) (Concludes (Ends value))
ended-within value log result so = then-within (Then (Ends value) P) R (Ends (pair_tried value)) (ends-then value P) log result (ends-then (pair_tried value) R log result so)

no-more : (round : Course Tried) → Within (Ends try_failed) (UpTo 0 round try_failed)
no-more round log result so =
    subst (λ (l : List Asked). UpTo 0 round try_failed l result) (sym so.0)
    (subst (λ (r : Result Tried Stop). UpTo 0 round try_failed [] r) (sym so.1) (inl (no_round, refl)))

-- the step after a try
abbrev after : (word tries : ℕ) → Tried → Step
after word tries try_failed = failed_try word tries
after word tries (words_read pair) = Ended (ends.Read pair.first pair.second)
after word tries never_idle = Ended ends.Dead

module _ (slave word : ℕ) where
  failed-within : (tries : ℕ) → Within (Remains slave (failed_try word tries)) (Concludes (UpTo tries (TriesBy slave word) try_failed))
  failed-within zero log result so =
      concludes-within (Ends try_failed) (UpTo 0 (TriesBy slave word) try_failed) (no-more (TriesBy slave word)) log result (ended-within try_failed log result so)
  failed-within (suc tries) log result so =
      let same : tries + 1 ≡ suc tries = omega arith in
      subst (λ (n : ℕ). Concludes (UpTo n (TriesBy slave word) try_failed) log result) same so

  tried-within : (tries : ℕ) (value : Tried) → Within (Remains slave (after word tries value)) (Concludes (Then (Ends value) (TriesOn slave word tries)))
  tried-within tries try_failed log result so =
      concludes-within (UpTo tries (TriesBy slave word) try_failed) (Then (Ends try_failed) (TriesOn slave word tries)) (ends-then try_failed (TriesOn slave word tries)) log result
      (failed-within tries log result so)
  tried-within tries (words_read pair) log result so =
      concludes-within (Ends (words_read pair)) (Then (Ends (words_read pair)) (TriesOn slave word tries)) (ends-then (words_read pair) (TriesOn slave word tries)) log result
      (ended-within (words_read pair) log result so)
  tried-within tries never_idle log result so =
      concludes-within (Ends never_idle) (Then (Ends never_idle) (TriesOn slave word tries)) (ends-then never_idle (TriesOn slave word tries)) log result
      (ended-within never_idle log result so)

  -- the rest of a try, and those after it
  tries-end : (tries : ℕ) (one : Asked) (front after : List Asked) (result : Result Tried Stop) (value : Tried) → value ≢ try_failed → TriesBy slave word (one ∷ front) (Ok value)
      → (after ≡ []) × (result ≡ Ok value) → UpTo (tries + 1) (TriesBy slave word) try_failed (one ∷ (front ++ after)) result
  tries-end tries one front after result value other came on =
      subst (λ (r : Result Tried Stop). UpTo (tries + 1) (TriesBy slave word) try_failed (one ∷ (front ++ after)) r) (sym on.1)
      (upto-ends (TriesBy slave word) try_failed (tries + 1) (omega arith) (one ∷ (front ++ after)) (Ok value)
      (subst (λ (l : List Asked). TriesBy slave word (one ∷ l) (Ok value)) (sym (ap (λ (l : List Asked). front ++ l) on.0 ∙ append-nil front)) came)
      (λ e. other (let v : value ≡ try_failed = cc in v)))

  tries-value : (tries : ℕ) (one : Asked) (front after : List Asked) (result : Result Tried Stop) (value : Tried) → TriesBy slave word (one ∷ front) (Ok value)
      → TriesOn slave word tries value after result → UpTo (tries + 1) (TriesBy slave word) try_failed (one ∷ (front ++ after)) result
  tries-value tries one front after result try_failed came on = upto-again (TriesBy slave word) try_failed (tries + 1) tries refl (one ∷ front) after result came on
  tries-value tries one front after result (words_read pair) came on = tries-end tries one front after result (words_read pair) (λ e. absurd cc) came on
  tries-value tries one front after result never_idle came on = tries-end tries one front after result never_idle (λ e. absurd cc) came on

  tries-on : (tries : ℕ) (one : Asked) (rest : Course Tried) → Follows (TriesBy slave word) one rest
      → Follows (UpTo (tries + 1) (TriesBy slave word) try_failed) one (Then rest (TriesOn slave word tries))
  tries-on tries one rest follows log result (inl on) =
      subst (λ (l : List Asked). UpTo (tries + 1) (TriesBy slave word) try_failed (one ∷ l) result) (sym on.log_is)
      (tries-value tries one on.front on.after result on.value (follows on.front (Ok on.value) on.came_to) on.goes_on)
  tries-on tries one rest follows log (Ok value) (inr stops) = absurd (false≢true stops.2)
  tries-on tries one rest follows log (Err stop) (inr stops) =
      upto-ends (TriesBy slave word) try_failed (tries + 1) (omega arith) (one ∷ log) (Err stop)
      (follows log (Err stop) (subst (λ (s : Stop). rest log (Err s)) (only stops.0 stop) stops.1)) (λ e. absurd cc)

module _ (slave : ℕ) (came : Result Pdu DeviceFault) (word : ℕ) where
  -- a try of which no datagram but the command is sent
  uncounted : IsHeard is_counted false came (Ok false) → TriesBy slave word (asked slave (read_order slave word) came ∷ []) (Ok try_failed)
  uncounted heard =
      then-value (WritesBy slave (read_order slave word)) (WaitsAfter slave) (asked slave (read_order slave word) came ∷ []) false try_failed
      (asks-so is_counted false slave (read_order slave word) came false heard) (refl, refl)

  pub commanded-moves : (tries : ℕ) (counted : Bool) → IsHeard is_counted false came (Ok counted)
      → Follows (Remains slave (Commands word tries)) (asked slave (read_order slave word) came) (Remains slave (commanded word tries counted))
  commanded-moves tries true heard =
      concludes-on (UpTo (tries + 1) (TriesBy slave word) try_failed) (asked slave (read_order slave word) came)
      (Then (Then (WaitsBy slave) (FetchesAfter slave)) (TriesOn slave word tries))
      (tries-on slave word tries (asked slave (read_order slave word) came) (Then (WaitsBy slave) (FetchesAfter slave))
      (then-next (WritesBy slave (read_order slave word)) (WaitsAfter slave) (asked slave (read_order slave word) came) true
      (asks-so is_counted false slave (read_order slave word) came true heard)))
  commanded-moves zero false heard =
      follows-within (Remains slave (Commands word 0)) (asked slave (read_order slave word) came) (Then (Ends None) R) (Ends ends.Dead)
      (two-last (TriesBy slave word) try_failed P R (asked slave (read_order slave word) came) (uncounted heard))
      (ends-then None R)
  commanded-moves (suc tries) false heard = two-on (TriesBy slave word) try_failed P R (asked slave (read_order slave word) came) tries (uncounted heard)

  module _ (tries : ℕ) where
    pub waited_to_fetch-moves : (more : ℕ) (found : Option Rested) → IsHeard found_in None came (Ok found)
        → Follows (Remains slave (WaitsToFetch word tries more)) (asked slave (poll_order slave) came) (Remains slave (waited_to_fetch word tries more found))
    waited_to_fetch-moves more (Some Well) heard =
        concludes-on (Then (Then (PollsOn slave more) (FetchesAfter slave)) (TriesOn slave word tries)) (asked slave (poll_order slave) came)
        (Then (FetchesAfter slave (Some Well)) (TriesOn slave word tries))
        (two-next (PollsBy slave) None (FetchesAfter slave) (TriesOn slave word tries) (asked slave (poll_order slave) came) more (Some Well) (λ e. absurd cc)
        (asks-so found_in None slave (poll_order slave) came (Some Well) heard))
    waited_to_fetch-moves more (Some Failed) heard =
        follows-within (Remains slave (WaitsToFetch word tries more)) (asked slave (poll_order slave) came) (Concludes (Then (Ends try_failed) (TriesOn slave word tries)))
        (Remains slave (failed_try word tries))
        (concludes-on (Then (Then (PollsOn slave more) (FetchesAfter slave)) (TriesOn slave word tries)) (asked slave (poll_order slave) came)
        (Then (Ends try_failed) (TriesOn slave word tries))
        (two-next (PollsBy slave) None (FetchesAfter slave) (TriesOn slave word tries) (asked slave (poll_order slave) came) more (Some Failed) (λ e. absurd cc)
        (asks-so found_in None slave (poll_order slave) came (Some Failed) heard)))
        (tried-within slave word tries try_failed)
    waited_to_fetch-moves zero None heard =
        follows-within (Remains slave (WaitsToFetch word tries 0)) (asked slave (poll_order slave) came) (Concludes (Then (Ends never_idle) (TriesOn slave word tries)))
        (Ends ends.Dead)
        (concludes-on (Then (Then (PollsOn slave 0) (FetchesAfter slave)) (TriesOn slave word tries)) (asked slave (poll_order slave) came)
        (Then (Ends never_idle) (TriesOn slave word tries))
        (two-last (PollsBy slave) None (FetchesAfter slave) (TriesOn slave word tries) (asked slave (poll_order slave) came)
        (asks-so found_in None slave (poll_order slave) came None heard)))
        (tried-within slave word tries never_idle)
    waited_to_fetch-moves (suc more) None heard =
        concludes-on (Then (Then (PollsOn slave (suc more)) (FetchesAfter slave)) (TriesOn slave word tries)) (asked slave (poll_order slave) came)
        (Then (Then (PollsOn slave more) (FetchesAfter slave)) (TriesOn slave word tries))
        (two-on (PollsBy slave) None (FetchesAfter slave) (TriesOn slave word tries) (asked slave (poll_order slave) came) more
        (asks-so found_in None slave (poll_order slave) came None heard))

    fetched-so : (pair : Option WordPair) → IsHeard pair_of None came (Ok pair)
        → Follows (Remains slave (Fetches word tries)) (asked slave (fetch_order slave) came) (Remains slave (after word tries (tried_of pair)))
    fetched-so pair heard =
        follows-within (Remains slave (Fetches word tries)) (asked slave (fetch_order slave) came) (Concludes (Then (Ends (tried_of pair)) (TriesOn slave word tries)))
        (Remains slave (after word tries (tried_of pair)))
        (concludes-on (Then (Then (FetchesBy slave) (λ (p : Option WordPair). Ends (tried_of p))) (TriesOn slave word tries)) (asked slave (fetch_order slave) came)
        (Then (Ends (tried_of pair)) (TriesOn slave word tries))
        (then-on (Then (FetchesBy slave) (λ (p : Option WordPair). Ends (tried_of p))) (TriesOn slave word tries) (asked slave (fetch_order slave) came) (Ends (tried_of pair))
        (then-next (FetchesBy slave) (λ (p : Option WordPair). Ends (tried_of p)) (asked slave (fetch_order slave) came) pair
        (asks-so pair_of None slave (fetch_order slave) came pair heard))))
        (tried-within slave word tries (tried_of pair))

    pub fetched-moves : (pair : Option WordPair) → IsHeard pair_of None came (Ok pair)
        → Follows (Remains slave (Fetches word tries)) (asked slave (fetch_order slave) came) (Remains slave (fetched word tries pair))
    fetched-moves (Some pair) heard = fetched-so (Some pair) heard
    fetched-moves None heard = fetched-so None heard

-- ISSUING AND SETTLING

module _ (slave : ℕ) (came : Result Pdu DeviceFault) where
  pub issued-moves : (word value : ℕ) (how : Issued) → IsHeard issued_by issued.Lost came (Ok how)
      → Follows (Remains slave (Issues word value)) (asked slave (write_order slave word value) came) (Ends (ends.Issued how))
  issued-moves word value how heard =
      then-next (IssuesBy slave word value) (λ (i : Issued). Ends (ends.Issued i)) (asked slave (write_order slave word value) came) how
      (asks-so issued_by issued.Lost slave (write_order slave word value) came how heard)

  pub tidied-moves : (counted : Bool) → IsHeard is_counted false came (Ok counted)
      → Follows (Remains slave Tidies) (asked slave (clear_order slave) came) (Ends (ends.Settled settled.Again))
  tidied-moves counted heard =
      follows-within (Remains slave Tidies) (asked slave (clear_order slave) came) (Then (Ends settled.Again) S) (Ends (ends.Settled settled.Again))
      (then-on (Then (WritesBy slave (clear_order slave)) (λ (b : Bool). Ends settled.Again)) S (asked slave (clear_order slave) came) (Ends settled.Again)
      (then-next (WritesBy slave (clear_order slave)) (λ (b : Bool). Ends settled.Again) (asked slave (clear_order slave) came) counted
      (asks-so is_counted false slave (clear_order slave) came counted heard)))
      (ends-then settled.Again S)

  settled-next : (taken : Bool) (more : ℕ) (rested : Rested) → IsHeard found_in None came (Ok (Some rested))
      → Follows (Remains slave (WaitsToSettle taken more)) (asked slave (poll_order slave) came) (Then (SettlesAfter slave taken (Some rested)) S)
  settled-next taken more rested heard =
      two-next (PollsBy slave) None (SettlesAfter slave taken) S (asked slave (poll_order slave) came) more (Some rested) (λ e. absurd cc)
      (asks-so found_in None slave (poll_order slave) came (Some rested) heard)

  pub waited_to_settle-moves : (taken : Bool) (more : ℕ) (found : Option Rested) → IsHeard found_in None came (Ok found)
      → Follows (Remains slave (WaitsToSettle taken more)) (asked slave (poll_order slave) came) (Remains slave (waited_to_settle taken more found))
  waited_to_settle-moves true more (Some Well) heard =
      follows-within (Remains slave (WaitsToSettle true more)) (asked slave (poll_order slave) came) (Then (Ends settled.Written) S) (Ends (ends.Settled settled.Written))
      (settled-next true more Well heard) (ends-then settled.Written S)
  waited_to_settle-moves false more (Some Well) heard = settled-next false more Well heard
  waited_to_settle-moves true more (Some Failed) heard = settled-next true more Failed heard
  waited_to_settle-moves false more (Some Failed) heard = settled-next false more Failed heard
  waited_to_settle-moves taken zero None heard =
      follows-within (Remains slave (WaitsToSettle taken 0)) (asked slave (poll_order slave) came) (Then (Ends settled.Dead) S) (Ends (ends.Settled settled.Dead))
      (two-last (PollsBy slave) None (SettlesAfter slave taken) S (asked slave (poll_order slave) came) (asks-so found_in None slave (poll_order slave) came None heard))
      (ends-then settled.Dead S)
  waited_to_settle-moves taken (suc more) None heard =
      two-on (PollsBy slave) None (SettlesAfter slave taken) S (asked slave (poll_order slave) came) more (asks-so found_in None slave (poll_order slave) came None heard)
