-- Where the line stops.
use Rattle.std.proofs.Common.{◌≡◌, ℕ, ◌+◌, ◌<◌, Bool, false, List, ◌∷◌, is_some, Option, None, Result, Err, refl, sym, subst, arith}
use Rattle.ecat_frame.specs.Frame.{Pdu}
use Rattle.esc_model.specs.Orders.{access_order, poll_order, clear_order, read_order, fetch_order, write_order}
use Rattle.site_core.specs.declared.fault.DeviceFault.{DeviceFault}
use Rattle.site_core.specs.declared.fault.DeviceFault.TheVariants as device
use Rattle.site_core.specs.declared.answers.Issued.{Issued}
use Rattle.site_core.specs.declared.answers.Issued.TheVariants as issued
use Rattle.site_core.specs.declared.answers.Settled.TheVariants as settled
use Rattle.rom_steps.specs.declared.back.Rested.{Rested}
use Rattle.rom_steps.specs.declared.back.WordPair.{WordPair}
use Rattle.rom_steps.specs.Accesses.Tried.{try_failed}
use Rattle.rom_steps.specs.Courses.{Asked, Course, Ends, Then, OnlyIf, UpTo}
use Rattle.rom_steps.specs.Accesses.{found_in, pair_of, is_counted, issued_by, WritesBy, PollsBy, FetchesBy, InsistsBy, IssuesBy, SettlesAfter, ClearsBy, FreesBy, tried_of, FetchesAfter, WaitsAfter, TriesBy, Tried}
use Rattle.rom_steps.specs.declared.step.End.{End}
use Rattle.rom_steps.specs.declared.step.End.TheVariants as ends
use Rattle.rom_steps.specs.declared.step.Step.{Step}
use Rattle.rom_steps.specs.declared.step.Step.TheVariants.{Forces, Frees, WaitsToClear, Clears, Waits, Commands, WaitsToFetch, Fetches, Issues, WaitsToSettle, Tidies, Ended, Stopped}
use Rattle.rom_steps.specs.Remaining.{waiting_end, InsistsOn, PollsOn, TriesOn, Concludes, Remains, IsNext, Follows, Stops, Moves, left}
use Rattle.rom_steps.proofs.Following.{asked, MayStop, asks-stop, then-stop, upto-stop}
use Rattle.rom_steps.proofs.Moving.{E, S, P, R}

abbrev cut : ℕ → Pdu → Asked
cut slave order = asked slave order (Err device.Stopped)

stops-on : (course : Course End) (one : Asked) → MayStop course one → Follows course one Stops
stops-on course one stops log result so = subst (λ (l : List Asked). course (one ∷ l) result) (sym so.0) (stops result so.1)

-- one round, with courses after it
insist-stop : {V : Type 0} (slave : ℕ) (order : Pdu) (more : ℕ) (next : Bool → Course V) → MayStop (Then (InsistsOn slave order more) next) (cut slave order)
insist-stop slave order more next =
    then-stop (InsistsOn slave order more) next (cut slave order) (upto-stop (WritesBy slave order) false more (cut slave order) (asks-stop is_counted false slave order))

polls-stop : {V : Type 0} (slave more : ℕ) (next : Option Rested → Course V) → MayStop (Then (PollsOn slave more) next) (cut slave (poll_order slave))
polls-stop slave more next =
    then-stop (PollsOn slave more) next (cut slave (poll_order slave)) (upto-stop (PollsBy slave) None more (cut slave (poll_order slave)) (asks-stop found_in None slave (poll_order slave)))

concludes-stop : (course : Course Tried) (one : Asked) → MayStop course one → MayStop (Concludes course) one
concludes-stop course one stops = then-stop (Then course P) R one (then-stop course P one stops)

tries-stop : (slave word : ℕ) → MayStop (TriesBy slave word) (cut slave (read_order slave word))
tries-stop slave word =
    then-stop (WritesBy slave (read_order slave word)) (WaitsAfter slave) (cut slave (read_order slave word)) (asks-stop is_counted false slave (read_order slave word))

may-stop : (slave : ℕ) (step : Step) (order : Pdu) → IsNext slave step order → MayStop (Remains slave step) (cut slave order)
may-stop slave (Forces more) order is =
    subst (λ (o : Pdu). MayStop (Remains slave (Forces more)) (cut slave o)) (sym is)
    (then-stop (Then (InsistsOn slave (access_order slave 2) more) (λ (b : Bool). OnlyIf b (FreesBy slave))) E (cut slave (access_order slave 2))
    (insist-stop slave (access_order slave 2) more (λ (b : Bool). OnlyIf b (FreesBy slave))))
may-stop slave (Frees more) order is =
    subst (λ (o : Pdu). MayStop (Remains slave (Frees more)) (cut slave o)) (sym is)
    (then-stop (Then (InsistsOn slave (access_order slave 0) more) (λ (b : Bool). OnlyIf b (ClearsBy slave))) E (cut slave (access_order slave 0))
    (insist-stop slave (access_order slave 0) more (λ (b : Bool). OnlyIf b (ClearsBy slave))))
may-stop slave (WaitsToClear more) order is =
    subst (λ (o : Pdu). MayStop (Remains slave (WaitsToClear more)) (cut slave o)) (sym is)
    (then-stop (Then (PollsOn slave more) (λ (r : Option Rested). OnlyIf (is_some r) (InsistsBy slave (clear_order slave)))) E (cut slave (poll_order slave))
    (polls-stop slave more (λ (r : Option Rested). OnlyIf (is_some r) (InsistsBy slave (clear_order slave)))))
may-stop slave (Clears more) order is =
    subst (λ (o : Pdu). MayStop (Remains slave (Clears more)) (cut slave o)) (sym is) (insist-stop slave (clear_order slave) more E)
may-stop slave (Waits more) order is =
    subst (λ (o : Pdu). MayStop (Remains slave (Waits more)) (cut slave o)) (sym is) (polls-stop slave more (λ (r : Option Rested). Ends (waiting_end r)))
may-stop slave (Commands word tries) order is =
    subst (λ (o : Pdu). MayStop (Remains slave (Commands word tries)) (cut slave o)) (sym is)
    (concludes-stop (UpTo (tries + 1) (TriesBy slave word) try_failed) (cut slave (read_order slave word))
    (upto-stop (TriesBy slave word) try_failed tries (cut slave (read_order slave word)) (tries-stop slave word)))
may-stop slave (WaitsToFetch word tries more) order is =
    subst (λ (o : Pdu). MayStop (Remains slave (WaitsToFetch word tries more)) (cut slave o)) (sym is)
    (concludes-stop (Then (Then (PollsOn slave more) (FetchesAfter slave)) (TriesOn slave word tries)) (cut slave (poll_order slave))
    (then-stop (Then (PollsOn slave more) (FetchesAfter slave)) (TriesOn slave word tries) (cut slave (poll_order slave)) (polls-stop slave more (FetchesAfter slave))))
may-stop slave (Fetches word tries) order is =
    subst (λ (o : Pdu). MayStop (Remains slave (Fetches word tries)) (cut slave o)) (sym is)
    (concludes-stop (Then (Then (FetchesBy slave) (λ (p : Option WordPair). Ends (tried_of p))) (TriesOn slave word tries)) (cut slave (fetch_order slave))
    (then-stop (Then (FetchesBy slave) (λ (p : Option WordPair). Ends (tried_of p))) (TriesOn slave word tries) (cut slave (fetch_order slave))
    (then-stop (FetchesBy slave) (λ (p : Option WordPair). Ends (tried_of p)) (cut slave (fetch_order slave)) (asks-stop pair_of None slave (fetch_order slave)))))
may-stop slave (Issues word value) order is =
    subst (λ (o : Pdu). MayStop (Remains slave (Issues word value)) (cut slave o)) (sym is)
    (then-stop (IssuesBy slave word value) (λ (i : Issued). Ends (ends.Issued i)) (cut slave (write_order slave word value))
    (asks-stop issued_by issued.Lost slave (write_order slave word value)))
may-stop slave (WaitsToSettle taken more) order is =
    subst (λ (o : Pdu). MayStop (Remains slave (WaitsToSettle taken more)) (cut slave o)) (sym is)
    (then-stop (Then (PollsOn slave more) (SettlesAfter slave taken)) S (cut slave (poll_order slave)) (polls-stop slave more (SettlesAfter slave taken)))
may-stop slave Tidies order is =
    subst (λ (o : Pdu). MayStop (Remains slave Tidies) (cut slave o)) (sym is)
    (then-stop (Then (WritesBy slave (clear_order slave)) (λ (b : Bool). Ends settled.Again)) S (cut slave (clear_order slave))
    (then-stop (WritesBy slave (clear_order slave)) (λ (b : Bool). Ends settled.Again) (cut slave (clear_order slave)) (asks-stop is_counted false slave (clear_order slave))))
may-stop slave (Ended end) order is = absurd is
may-stop slave Stopped order is = absurd is

-- the step where the line stops
pub stopped-moves : (slave : ℕ) (step : Step) → 0 < left step → Moves slave step (Err device.Stopped) Stopped
stopped-moves slave step some = record {
  follows = λ order is. stops-on (Remains slave step) (cut slave order) (may-stop slave step order is);
  fewer = λ more. more;
  over = λ none. absurd (omega arith);
}

pub ended-moves : (slave : ℕ) (step : Step) (came : Result Pdu DeviceFault) → left step ≡ 0 → ((order : Pdu) → IsNext slave step order → ⊥) → Moves slave step came step
ended-moves slave step came none over = record {
  follows = λ order is. absurd (over order is);
  fewer = λ some. absurd (omega arith);
  over = λ z. refl;
}

pub sends-some : (slave : ℕ) (step : Step) (order : Pdu) → IsNext slave step order → 0 < left step
sends-some slave (Forces more) order is = omega arith
sends-some slave (Frees more) order is = omega arith
sends-some slave (WaitsToClear more) order is = omega arith
sends-some slave (Clears more) order is = omega arith
sends-some slave (Waits more) order is = omega arith
sends-some slave (Commands word tries) order is = omega arith
sends-some slave (WaitsToFetch word tries more) order is = omega arith
sends-some slave (Fetches word tries) order is = omega arith
sends-some slave (Issues word value) order is = omega arith
sends-some slave (WaitsToSettle taken more) order is = omega arith
sends-some slave Tidies order is = omega arith
sends-some slave (Ended end) order is = absurd is
sends-some slave Stopped order is = absurd is

pub over-moves : (slave : ℕ) (step : Step) (came : Result Pdu DeviceFault) → left step ≡ 0 → Moves slave step came step
over-moves slave step came none = ended-moves slave step came none (λ order is. let some = sends-some slave step order is in omega arith)
