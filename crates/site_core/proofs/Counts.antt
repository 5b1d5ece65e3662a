-- The number of halves, and the number of words of each: calls and a power cut keep both.
use Rattle.std.proofs.Common.{◌≡◌, ◌≢◌, ℕ, zero, suc, List, [], ◌∷◌, length, map, Some, slice_get, slice_set, Result, Ok, Err, refl, sym, ap, subst, ◌∙◌, inl, inr}
use Rattle.std.specs.List.{AllByRecursion}
use Rattle.ecat_frame.specs.Frame.{Pdu}
use Rattle.ecat_frame.specs.Command.{command_of}
use Rattle.esc_model.specs.SlaveHalf.{SlaveHalf, MayRest}
use Rattle.esc_model.specs.Datagrams.{served_datagram}
use Rattle.esc_model.specs.WordAccess.{IsIdle}
use Rattle.esc_model.proofs.Resting.{MayLeave-idle, length-MayLeave, MayLeave-same, MayStop-leaves}
use Rattle.esc_model.proofs.OnlyResting.{MayRest-only, OnlyRests-length}
use Rattle.esc_model.proofs.Serving.{Goes-served}
use Rattle.site_core.specs.declared.fault.DeviceFault.{DeviceFault}
use Rattle.site_core.specs.declared.fault.DeviceFault.TheVariants as faults
use Rattle.site_core.specs.State.{State, Seen, EachMayLeave, EachMayStop, with_half, word_counts, last_of}
use Rattle.site_core.specs.Exchange.{GoesThrough}
use Rattle.site_core.specs.Calls.{Calls, WritesDisk, SyncsDisk, ExchangesFrame}
use Rattle.site_core.specs.Laws.{KeepsCounts}
use Rattle.site_core.proofs.Runs.{last_of_all}
use Rattle.site_core.proofs.DeviceCalls.{is_stopped_or, is_true_or}

-- WHAT A STOP LEAVES

pub counts-left : (halves : List SlaveHalf) (words : List (List ℕ)) → EachMayLeave halves words → map length words ≡ word_counts halves
counts-left [] [] each = refl
counts-left [] (w ∷ ws) each = absurd each
counts-left (h ∷ hs) [] each = absurd each
counts-left (h ∷ hs) (w ∷ ws) each =
    let first : length w ≡ length h.words = length-MayLeave h w each.0 in
    let others : map length ws ≡ word_counts hs = counts-left hs ws each.1 in
    cc

pub words-idle : (halves : List SlaveHalf) (words : List (List ℕ)) → AllByRecursion IsIdle halves → EachMayLeave halves words → words ≡ map (λ half. half.words) halves
words-idle [] [] idle each = refl
words-idle [] (w ∷ ws) idle each = absurd each
words-idle (h ∷ hs) [] idle each = absurd each
words-idle (h ∷ hs) (w ∷ ws) idle each =
    let first : w ≡ h.words = MayLeave-idle h w idle.0 each.0 in
    let others : ws ≡ map (λ half. half.words) hs = words-idle hs ws idle.1 each.1 in
    ap (λ (x : List ℕ). x ∷ ws) first ∙ ap (λ (xs : List (List ℕ)). h.words ∷ xs) others

pub counts-stopped : (halves later : List SlaveHalf) → EachMayStop halves later → word_counts later ≡ word_counts halves
counts-stopped [] [] stops = refl
counts-stopped [] (l ∷ ls) stops = absurd stops
counts-stopped (h ∷ hs) [] stops = absurd stops
counts-stopped (h ∷ hs) (l ∷ ls) stops =
    let first : length l.words ≡ length h.words = length-MayLeave h l.words (MayStop-leaves h l l.words stops.0 (MayLeave-same l)) in
    let others : word_counts ls ≡ word_counts hs = counts-stopped hs ls stops.1 in
    cc

-- WHAT A CALL KEEPS

Calls-counts : {T : Type 0} (old : Seen) (middle : List State) (result : Result T DeviceFault) (new : Seen) → Calls old middle result new
    → AllByRecursion (λ state. word_counts state.halves ≡ word_counts old.state.halves) middle
    → (result ≢ Err faults.Stopped → word_counts new.state.halves ≡ word_counts old.state.halves) → KeepsCounts old new
Calls-counts old middle result new call within going = elim (is_stopped_or result) [
  | inl stop ↦ counts-stopped (last_of old.state middle).halves new.state.halves (call.at_stop stop).halves
      ∙ last_of_all (λ state. word_counts state.halves ≡ word_counts old.state.halves) old.state middle refl within
  | inr not ↦ going not
]

same_counts : (old new : State) → new ≡ old → word_counts new.halves ≡ word_counts old.halves
same_counts old new same = ap (λ (s : State). word_counts s.halves) same

pub Reads-counts : {T : Type 0} (old : Seen) (result : Result T DeviceFault) (new : Seen) → Calls old [] result new → (result ≢ Err faults.Stopped → new.state ≡ old.state) → KeepsCounts old new
Reads-counts old result new call same = Calls-counts old [] result new call tt (λ not. same_counts old.state new.state (same not))

pub SyncsDisk-counts : (old : Seen) (result : Result (Unit {0}) DeviceFault) (new : Seen) → SyncsDisk old result new → KeepsCounts old new
SyncsDisk-counts old result new syncs = Calls-counts old [] result new syncs.call tt (by result syncs)
  where
    by : (given : Result (Unit {0}) DeviceFault) → SyncsDisk old given new → given ≢ Err faults.Stopped → word_counts new.state.halves ≡ word_counts old.state.halves
    by (Ok done) so not = ap (λ (s : State). word_counts s.halves) so.ok
    by (Err faults.Disk) so not = same_counts old.state new.state (so.failed refl)
    by (Err faults.Lost) so not = absurd (so.not_lost refl)
    by (Err faults.Stopped) so not = absurd (not refl)

pub WritesDisk-counts : (old : Seen) (at : ℕ) (bytes : List ℕ) (result : Result (Unit {0}) DeviceFault) (new : Seen) → WritesDisk old at bytes result new → KeepsCounts old new
WritesDisk-counts old at bytes result new writes = Calls-counts old writes.middle result new writes.call all (by result writes)
  where
    all : AllByRecursion (λ state. word_counts state.halves ≡ word_counts old.state.halves) writes.middle
    all = elim (is_true_or old.is_stopped) [
      | inl stopped ↦ subst (λ (states : List State). AllByRecursion (λ state. word_counts state.halves ≡ word_counts old.state.halves) states) (sym (writes.call.stays_stopped stopped).1) tt
      | inr going ↦ subst (λ (states : List State). AllByRecursion (λ state. word_counts state.halves ≡ word_counts old.state.halves) states) (sym (writes.begun going)) (refl, tt)
    ]

    by : (given : Result (Unit {0}) DeviceFault) → WritesDisk old at bytes given new → given ≢ Err faults.Stopped → word_counts new.state.halves ≡ word_counts old.state.halves
    by (Ok done) so not = ap (λ (s : State). word_counts s.halves) so.ok
    by (Err faults.Disk) so not = ap word_counts (so.failed refl).1
    by (Err faults.Lost) so not = absurd (so.not_lost refl)
    by (Err faults.Stopped) so not = absurd (not refl)

-- EXCHANGES

pub counts-set : (halves : List SlaveHalf) (slave : ℕ) (half later : SlaveHalf) → slice_get halves slave ≡ Some half → length later.words ≡ length half.words
    → word_counts (slice_set halves slave later) ≡ word_counts halves
counts-set [] slave half later here same = absurd cc
counts-set (h ∷ hs) zero half later here same =
    let e : h ≡ half = cc in ap (λ (n : ℕ). n ∷ word_counts hs) (same ∙ ap (λ (x : SlaveHalf). length x.words) (sym e))
counts-set (h ∷ hs) (suc slave) half later here same = ap (λ (ns : List ℕ). length h.words ∷ ns) (counts-set hs slave half later here same)

-- a datagram changes no number of words, nor does becoming idle before it
serves-length : (half rested later : SlaveHalf) (datagram : Pdu) → MayRest half rested → later ≡ (served_datagram rested datagram).half → length later.words ≡ length half.words
serves-length half rested later datagram rests is =
    ap (λ (h : SlaveHalf). length h.words) is
    ∙ ap length (Goes-served rested (command_of datagram.command) datagram.address datagram.content).words
    ∙ OnlyRests-length half rested (MayRest-only half rested rests)

through-counts : (state : State) (slave : ℕ) (half : SlaveHalf) → slice_get state.halves slave ≡ Some half → (now : SlaveHalf) → length now.words ≡ length half.words
    → (datagrams : List Pdu) (laters : List SlaveHalf) (replies : List Pdu) → GoesThrough now datagrams laters replies
    → AllByRecursion (λ s. word_counts s.halves ≡ word_counts state.halves) (map (with_half state slave) laters)
through-counts state slave half here now same [] [] [] through = tt
through-counts state slave half here now same [] [] (r ∷ rs) through = absurd through
through-counts state slave half here now same [] (l ∷ ls) replies through = absurd through
through-counts state slave half here now same (d ∷ ds) [] replies through = absurd through
through-counts state slave half here now same (d ∷ ds) (l ∷ ls) [] through = absurd through
through-counts state slave half here now same (d ∷ ds) (l ∷ ls) (r ∷ rs) through =
    let next : length l.words ≡ length half.words = serves-length now through.0 l d through.1 through.2 ∙ same in
    (counts-set state.halves slave half l here next, through-counts state slave half here l next ds ls rs through.4)

pub ExchangesFrame-counts : (old : Seen) (slave : ℕ) (sent : List Pdu) (result : Result (Unit {0}) DeviceFault) (answer : List Pdu) (new : Seen)
    → ExchangesFrame old slave sent result answer new → KeepsCounts old new
ExchangesFrame-counts old slave sent result answer new sends =
    Calls-counts old (map (with_half old.state slave) sends.laters) result new sends.call all
    (λ not. same_counts (last_of old.state (map (with_half old.state slave) sends.laters)) new.state (sends.kept not)
    ∙ last_of_all (λ state. word_counts state.halves ≡ word_counts old.state.halves) old.state (map (with_half old.state slave) sends.laters) refl all)
  where
    all : AllByRecursion (λ state. word_counts state.halves ≡ word_counts old.state.halves) (map (with_half old.state slave) sends.laters)
    all = through-counts old.state slave sends.half sends.here sends.half refl sends.passed sends.laters sends.replies sends.through
