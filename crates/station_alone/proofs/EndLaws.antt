-- From the open of a recovery to its end.
use Rattle.std.proofs.Common.{◌≡◌, inr, ℕ, ◌+◌, ◌*◌, ◌≤◌, List, [], ◌++◌, length, take, sym, ◌∙◌, ap, subst, arith, Result, Ok, Err, IfOk, IfErr, MatchResult}
use Rattle.std.specs.Prelude.{is_some}
use Rattle.std.specs.Int.{w32}
use Rattle.std.specs.List.{sum_by}
use Rattle.std.proofs.Math.Seq.{take-nil}
use Rattle.sii_words.specs.declared.run.Run.{Run}
use Rattle.sii_edit.specs.declared.command.Command.{Command}
use Rattle.sii_edit.proofs.FoldLaws.{contents-append, none-taken}
use Rattle.jrn_format.specs.declared.journal.Journal.{Journal}
use Rattle.jrn_format.specs.Header.{field_at}
use Rattle.jrn_format.proofs.JournalGrammar.{one_journal}
use Rattle.jrn_format.proofs.OpenLaws.{journal-can-be-live, stated_capacity}
use Rattle.site_core.specs.Line.{Line}
use Rattle.site_core.specs.State.{Leaves, Pair, Seen, clock}
use Rattle.site_core.specs.Passes.{LeavesOnly}
use Rattle.esc_rom.specs.Reading.{most_calls}
use Rattle.book_model.specs.Entries.{entries_of, runs_of, sizes_of}
use Rattle.book_model.specs.Book.{Book, base_of}
use Rattle.book_model.specs.Open.{open_book}
use Rattle.book_model.specs.Machine as machines
use Rattle.book_model.specs.Machine.{Machine, MayKeep, reopened}
use Rattle.book_model.proofs.CommandLaws.{length-entries}
use Rattle.book_model.specs.Opening.{capacity_in, words_in}
use Rattle.site_journal.specs.Running.{KeepsAll, KeepsWith, KeptWith}
use Rattle.world_law.proofs.StandsLaws.{pair_read, leaves-read}
use Rattle.site_journal.proofs.GoLaws.{stays-weaker, stays-then}
use Rattle.site_journal.specs.Left.{calls_left, migration_calls, words_named, words_issued}
use Rattle.site_journal.specs.Recovering.{IsRecovering}
use Rattle.site_journal.proofs.OpenLaws.{recovering-opened, few-calls, none-issued, little-found}
use Rattle.site_journal.proofs.EndLaws.{end-plan, end-words}
use Rattle.station_alone.specs.declared.fault.OpenFault.{OpenFault}
use Rattle.station_alone.specs.declared.opening.Found.{Found}
use Rattle.station_alone.specs.Station.{Station, Stands}
use Rattle.station_alone.specs.Keeping.{KeptFor, KeepsThroughout}
use Rattle.station_alone.specs.Opening as opening
use Rattle.station_alone.specs.Opening.{Begins, BeginsSession, FailsToOpen, OpensOn, OpensCounted}
use Rattle.station_alone.proofs.KeepLaws.{of-later}
use Rattle.station_alone.specs.declared.recovery.Recovered.{Recovered}
use Rattle.station_alone.specs.Recovery.{BeginsRecovered, CountsRecovered, FailsToRecover, HasRecovered, MakesFewCalls, RecoversBySteps, recovery_calls}
use Rattle.station_alone.specs.Rounds.{IsDone, IsFinished, IsLeft, IsSmall, IsWorking, StaysKept}
use Rattle.station_alone.proofs.RowLaws.{up-of}

-- ---- it is open

module _ (line : Line) (old : Seen) (journal : Journal) (s : Station) (opens : OpensOn line old journal s) where
  -- the book that is opened is recovering
  book_is : s.book ≡ open_book (words_in s.seen.state.halves) (capacity_in s.seen.state.disk.bytes) journal
  book_is = opens.book

  pub opened-works : Stands s → IsWorking s
  opened-works stands = record {
    stands = stands;
    recovering = subst IsRecovering (sym book_is) (recovering-opened (words_in s.seen.state.halves) (capacity_in s.seen.state.disk.bytes) journal);
    sound = ap (λ (b : Book). is_some b.fault) book_is;
  }

  -- the journal is small, as its area is
  little : length journal.batches + length (entries_of journal.batches) + 2 * words_named journal.batches ≤ 4194304
  little =
      let is = opens.found.is_journal in
      let sizes = sizes_of (words_in s.seen.state.halves) in
      let bytes = s.seen.state.disk.bytes in
      let few = little-found (field_at w32 4 bytes) sizes journal (journal-can-be-live bytes sizes journal is) in
      let most = is.has_area.capacity in
      omega (arith, few, most, stated_capacity bytes (length sizes) journal.form is.area is.has_area)

  pub opened-small : IsSmall s.book
  opened-small =
      let named : sum_by (λ (run : Run). length run.words) (runs_of s.book.found) ≡ words_named journal.batches = ap (λ (b : Book). sum_by (λ (run : Run). length run.words) (runs_of b.found)) book_is in
      let few = little in
      omega (arith, named, few)

  -- the calls that may come
  opened-calls : clock s.seen + calls_left s.book ≤ clock old + (7 + most_calls line.sizes + migration_calls journal.form + 30006 * words_named journal.batches)
  opened-calls =
      let within = opens.quiet.within in
      let few : calls_left s.book ≤ 4 + migration_calls journal.form + 30006 * words_named journal.batches =
      subst (λ (b : Book). calls_left b ≤ 4 + migration_calls journal.form + 30006 * words_named journal.batches) (sym book_is) (few-calls (words_in s.seen.state.halves) (capacity_in s.seen.state.disk.bytes) journal) in
      omega (arith, within, few)

  none-yet : words_issued s.book.slaves ≡ 0
  none-yet = ap (λ (b : Book). words_issued b.slaves) book_is ∙ none-issued (words_in s.seen.state.halves) (capacity_in s.seen.state.disk.bytes) journal

  -- ---- it goes on from there

  pub calls-made : (new : Seen) → clock new ≤ clock s.seen + calls_left s.book → MakesFewCalls line.sizes old new
  calls-made new within =
      let all = opened-calls in record {
        found = λ other is.
            let same = one_journal old.state.disk.bytes line.sizes journal other opens.is_journal is in
            subst (λ (j : Journal). clock new ≤ clock old + recovery_calls line.sizes (words_named j.batches) + migration_calls j.form) same (omega (arith, within, all));
        none = λ none. absurd (none journal opens.is_journal);
      }

  pub end-counts : (found : Found) (recovered : Recovered) (new : Station) → opening.CountsFound journal found → IsDone found s recovered new → CountsRecovered line.sizes old recovered new
  end-counts found recovered new counts done = record {
    journal = journal;
    found = opens.is_journal;
    batches = done.batches ∙ counts.batches;
    commands = done.commands ∙ counts.commands;
    words = let issued = done.works.issued in let none = none-yet in omega (arith, issued, none);
  }

-- ---- the end

pub end-recovered : (s : Station) → IsWorking s → IsFinished s.book → HasRecovered s
end-recovered s working finished =
    let u = up-of s working in
    let only : (pair : Pair) → Leaves s.seen.state pair → pair.words ≡ base_of s.book = λ pair leaves. end-words u.0 s.book s.seen.state u.1 u.2 pair u.3 working.recovering.none finished.0 leaves in
    record {
      nothing = finished.0;
      form = finished.1;
      none = working.recovering.none;
      sound = working.sound;
      going = working.recovering.going;
      words = only (pair_read s.seen.state) (leaves-read s.seen.state);
      only = only;
      plan = end-plan s.book working.recovering.none;
    }

-- ---- what is kept

-- what is kept for a session that began with some of the commands is kept for the machine before it
kept-before : (m : Machine) (k j : ℕ) (pair : Pair) → MayKeep m k → KeptFor (record (reopened m k) { accepted = [] ++ take j [] }) pair → KeptFor m pair
kept-before m k j pair may kept = record {
  journal = kept.journal;
  live = kept.live;
  k = k;
  may_keep = may;
  same = kept.same ∙ none-taken (machines.base_of (reopened m k)) ([] ++ take j []) kept.k (take-nil {A = Command} j) ∙ contents-append m.origin m.kept (take k m.accepted);
}

keeps-before : (m : Machine) (k : ℕ) (old new : Seen) → MayKeep m k → KeepsWith (reopened m k) [] old new → KeepsAll m old new
keeps-before m k old new may keeps =
    stays-weaker (KeptWith (reopened m k) []) (KeptFor m) old new (λ pair kept. kept-before m k kept.0 pair may kept.2) keeps

pub keeps-all : (old : Seen) (s new : Station) → KeepsThroughout old s.seen → BeginsSession old s → StaysKept s new → KeepsThroughout old new.seen
keeps-all old s new keeps begins kept m leaves =
    let b = begins m leaves in
    let later = kept.keeps (reopened m b.k) b.of b.kept in
    stays-then (KeptFor m) old s.seen new.seen (keeps m leaves) (keeps-before m b.k s.seen new.seen b.may_keep later.on_the_way)

-- nothing is durable of a session in which nothing was accepted
none-durable : (s : Station) → IsWorking s → s.book.durable ≡ 0
none-durable s working =
    let u = up-of s working in
    let few = u.3.fits.durable_few in
    omega (arith, few, length-entries 0 (base_of s.book) s.book.accepted, ap (λ (l : List Command). length l) working.recovering.none)

pub begins-all : (old : Seen) (s new : Station) → BeginsSession old s → IsWorking new → StaysKept s new → BeginsRecovered old new
begins-all old s new begins working kept m leaves =
    let b = begins m leaves in
    let session = reopened m b.k in
    let later = kept.keeps session b.of b.kept in
    let of = of-later session [] (calls_left s.book) s new b.of kept.session in
    let zero_is = none-durable new working in
    record {
      k = b.k;
      may_keep = b.may_keep;
      of = record { base = of.base; accepted = sym working.recovering.none; acknowledged = sym zero_is };
      kept = subst (λ (n : ℕ). LeavesOnly (KeptFor (record session { accepted = [] ++ []; acknowledged = n })) new.seen.state) zero_is later.at_last;
    }

-- ---- it failed

-- a site that couldn't be opened made few calls
pub few-to-open : (line : Line) (old : Seen) (fault : OpenFault) (later : Line) (new : Seen) → FailsToOpen line old fault later new → MakesFewCalls line.sizes old new
few-to-open line old fault later new fails =
    let within = fails.quiet.within in record {
      found = λ journal is. omega (arith, within);
      none = λ none. omega (arith, within);
    }

-- ---- the outcome

module _ {X : Type 0} (line_of : X → Line) (seen_of : X → Seen) (its : Line) (old : Seen) (s : Station) (found : Found) (opens : OpensCounted its old s found) where
  abbrev Came : Result (Station × Recovered) (X × OpenFault) → Type 0
  Came result = IfOk result (λ r. IsDone found s r.1 r.0) × IfErr result (λ e. IsLeft e.1 s (line_of e.0) (seen_of e.0))

  pub came-line : (result : Result (Station × Recovered) (X × OpenFault)) → Came result → MatchResult result (λ r. r.0.line ≡ its) (λ e. line_of e.0 ≡ its)
  came-line (Ok r) came = came.0.works.kept.session.line ∙ opens.1.line
  came-line (Err e) came = came.1.its ∙ came.1.cut.kept.session.line ∙ opens.1.line

  pub came-keeps : (result : Result (Station × Recovered) (X × OpenFault)) → KeepsThroughout old s.seen → BeginsSession old s → Came result
      → MatchResult result (λ r. KeepsThroughout old r.0.seen) (λ e. KeepsThroughout old (seen_of e.0))
  came-keeps (Ok r) keeps begins came = keeps-all old s r.0 keeps begins came.0.works.kept
  came-keeps (Err e) keeps begins came = subst (λ (seen : Seen). KeepsThroughout old seen) (sym came.1.is) (keeps-all old s came.1.last keeps begins came.1.cut.kept)

  pub came-calls : (result : Result (Station × Recovered) (X × OpenFault)) → Came result → MatchResult result (λ r. MakesFewCalls its.sizes old r.0.seen) (λ e. MakesFewCalls its.sizes old (seen_of e.0))
  came-calls (Ok r) came = calls-made its old opens.0 s opens.1 r.0.seen came.0.works.kept.session.within
  came-calls (Err e) came = subst (λ (seen : Seen). MakesFewCalls its.sizes old seen) (sym came.1.is) (calls-made its old opens.0 s opens.1 came.1.last.seen came.1.cut.kept.session.within)

  pub came-counts : (result : Result (Station × Recovered) (X × OpenFault)) → Came result → IfOk result (λ r. CountsRecovered its.sizes old r.1 r.0)
  came-counts (Ok r) came = end-counts its old opens.0 s opens.1 found r.1 r.0 opens.2 came.0
  came-counts (Err e) came = tt

  pub came-by_steps : (result : Result (Station × Recovered) (X × OpenFault)) → Came result → IfOk result (λ r. RecoversBySteps its old r.0)
  came-by_steps (Ok r) came = record { opened = s; opens = (opens.0, opens.1); leads = came.0.works.leads }
  came-by_steps (Err e) came = tt

  pub came-recovered : (result : Result (Station × Recovered) (X × OpenFault)) → Came result → IfOk result (λ r. HasRecovered r.0)
  came-recovered (Ok r) came = end-recovered r.0 came.0.works.working came.0.finished
  came-recovered (Err e) came = tt

  pub came-begins : (result : Result (Station × Recovered) (X × OpenFault)) → BeginsSession old s → Came result → IfOk result (λ r. BeginsRecovered old r.0)
  came-begins (Ok r) begins came = begins-all old s r.0 begins came.0.works.working came.0.works.kept
  came-begins (Err e) begins came = tt

  pub came-refused : (result : Result (Station × Recovered) (X × OpenFault)) → Came result → IfErr result (λ e. FailsToRecover its old e.1 (line_of e.0) (seen_of e.0))
  came-refused (Ok r) came = tt
  came-refused (Err e) came = inr (record { opened = s; opens = (opens.0, opens.1); last = came.1.last; is = sym came.1.is; breaks = came.1.cut.breaks })
