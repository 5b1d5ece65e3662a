-- What a desk to which no command is submitted leaves, and the session that begins after it.
use Rattle.std.proofs.Common.{◌≡◌, ℕ, ◌≤◌, Bool, true, false, IsTrue, List, [], ◌∷◌, ◌++◌, length, take, refl, sym, ◌∙◌, ap, subst, arith}
use Rattle.std.proofs.Common.{Option, None, Some, Result, Ok, Err}
use Rattle.std.specs.Prelude.{cond, count_by, IfSome, IsSomeAnd, OnOk}
use Rattle.std.specs.List.{AllByRecursion}
use Rattle.std.proofs.Math.Seq.{take-nil}
use Rattle.std.proofs.lemmas.List.{append-nil, length-append}
use Rattle.std.proofs.lemmas.List.Elements.{All-nil}
use Rattle.std.proofs.lemmas.List.Sums.{sum_by-cons}
use Rattle.sii_edit.specs.declared.command.Command.{Command}
use Rattle.sii_edit.specs.Fitting.{CommandFits, PlantFits}
use Rattle.sii_edit.specs.Fold.{contents}
use Rattle.sii_edit.proofs.FoldLaws.{contents-append, none-taken}
use Rattle.site_core.specs.Disk.{Disk}
use Rattle.site_core.specs.Line.{Line}
use Rattle.site_core.specs.State.{Pair, Seen}
use Rattle.site_core.specs.Passes.{LeavesOnly}
use Rattle.site_shadow.specs.Site.{SiteValue}
use Rattle.site_shadow.specs.Unsynced.{of_bytes}
use Rattle.book_model.specs.Book.{Book, base_of}
use Rattle.book_model.specs.Submit.{with_command}
use Rattle.book_model.specs.Machine.{Machine, MayKeep, reopened}
use Rattle.book_model.specs.Machine as machines
use Rattle.book_model.specs.Kept.{Kept}
use Rattle.book_model.specs.Keeping.{IsOfBook}
use Rattle.book_model.specs.Opening.{capacity_in, words_in}
use Rattle.site_journal.specs.Left.{words_issued}
use Rattle.site_journal.proofs.OpenLaws.{none-issued}
use Rattle.world_law.specs.Law.{blank}
use Rattle.station_alone.specs.Station.{Station, Stands}
use Rattle.station_alone.specs.Keeping.{KeptFor}
use Rattle.station_alone.specs.Opening.{BeginsSession, OpensCounted}
use Rattle.station_alone.specs.Recovery.{CountsRecovered}
use Rattle.station_alone.specs.declared.recovery.Recovered.{Recovered}
use Rattle.station_alone.specs.declared.opening.Found.{Found}
use Rattle.desk_book.specs.declared.call.Call.{Call}
use Rattle.desk_book.specs.declared.call.Call.TheVariants.{Submitted, DiskAsked, DiskReported, SlaveAsked, SlaveReported, PlanAsked, Finished}
use Rattle.desk_book.specs.Calls.{after, replayed, is_refusal}
use Rattle.desk_book.proofs.CountLaws.{each-slave}
use Rattle.desk_book.proofs.KeptLaws.{keeps-disk_next, keeps-disk_done, keeps-rom_next, keeps-rom_done}
use Rattle.desk_laws.specs.Joined.{CallFits, served_by}
use Rattle.desk_laws.specs.Together.{IsLeft}
use Rattle.kept_files.specs.Cuts.{IsKeptPair}
use Rattle.desk_book.specs.Serving.{ShareCounts}
use Rattle.station_threads.specs.declared.closing.Ends.{Ends}
use Rattle.station_text.specs.declared.line_file.LineFile.{LineFile}
use Rattle.station_files.specs.Files.{Known}
use Rattle.station_files.specs.declared.faults.Fault.{Fault}
use Rattle.station_line.specs.declared.answered.Answered.{Answered}
use Rattle.station_line.specs.declared.answered.Answered.TheVariants.{AllAccepted}
use Rattle.script_session.specs.declared.logs.LineLog.{LineLog}
use Rattle.script_session.specs.declared.running.LineRun.{LineRun}
use Rattle.script_session.specs.declared.threads.Left.{Left}
use Rattle.script_session.specs.After.{LedOn, SavesRecovered}
use Rattle.script_session.specs.AtDesk.{AcceptsOf, AllLeftSo, BeginsAs, ClosesWith, EndsSo, IsClosed, ServesFollowed}
use Rattle.script_session.specs.Parts.{Sites, IsSeparate, AreEndsOfParts, IsCount, IsTogether, issues_of}
use Rattle.script_session.specs.Recovering.{CountsAll, IsOpenedHere, IsRedone, KeepsLine, RecoversByThreads, RedoesOpened, StaysKept}
use Rattle.script_session.specs.Running.{DeskGoes, EndsReported, GoesAfter, LedAtDesk, OfRecovery, Says, separate, served, whole_of}
use Rattle.script_session.proofs.IssueLaws.{issued-by, opened-many}
use Rattle.script_session.proofs.DeskLaws.{closed-quietly, served-at-desk}
use Rattle.script_session.proofs.AfterLaws.{saves_weaker}
use Rattle.script_session.proofs.RunLaws.{led_desk, led_site, led_whole, some_weaker}
use Rattle.script_session.proofs.SoundLaws.{on_ok, on_oks, served_soundly}

-- ---- the station is opened

-- a station that was opened stands on what its site holds
pub opened-here : (line : Line) (old : Seen) (new : Station) (found : Found) → OpensCounted line old new found → IsOpenedHere new
opened-here line old new found opens = record { journal = opens.0; found = opens.1.found; book = opens.1.book }

-- and its disk is synced
pub opened-synced : (line : Line) (old : Seen) (new : Station) (found : Found) → OpensCounted line old new found
    → new.seen.state.disk ≡ of_bytes new.seen.state.disk.bytes
opened-synced line old new found opens = opens.1.disk ∙ ap of_bytes (sym (ap (λ (d : Disk). d.bytes) opens.1.disk))

-- ---- no command is submitted

no-fewer-after : (book : Book) (call : Call) → length book.accepted ≤ length (after book call).accepted
no-fewer-after book (Submitted command (Ok number)) = omega (arith, length-append book.accepted (command ∷ []))
no-fewer-after book (Submitted command (Err refusal)) = omega arith
no-fewer-after book (DiskAsked answer) = let same = ap (λ (l : List Command). length l) (keeps-disk_next book).accepted in omega (arith, same)
no-fewer-after book (DiskReported outcome) = let same = ap (λ (l : List Command). length l) (keeps-disk_done book outcome).accepted in omega (arith, same)
no-fewer-after book (SlaveAsked slave answer) = let same = ap (λ (l : List Command). length l) (keeps-rom_next book slave).accepted in omega (arith, same)
no-fewer-after book (SlaveReported slave outcome) = let same = ap (λ (l : List Command). length l) (keeps-rom_done book slave outcome).accepted in omega (arith, same)
no-fewer-after book (PlanAsked answer) = omega arith
no-fewer-after book Finished = omega arith

no-fewer : (book : Book) (calls : List Call) → length book.accepted ≤ length (replayed book calls).accepted
no-fewer book [] = omega arith
no-fewer book (call ∷ calls) = omega (arith, no-fewer-after book call, no-fewer (after book call) calls)

-- where none was accepted and none refused, none was submitted
none-submitted : (book : Book) (calls : List Call) → length (replayed book calls).accepted ≡ 0 → count_by is_refusal calls ≡ 0 → AllByRecursion CallFits calls
none-submitted book [] none sound = tt
none-submitted book (Submitted command (Ok number) ∷ calls) none sound =
    let more = no-fewer (with_command book command) calls in
    absurd (omega (arith, none, more, length-append book.accepted (command ∷ [])))
none-submitted book (Submitted command (Err refusal) ∷ calls) none sound =
    let one = sum_by-cons (λ (call : Call). cond (is_refusal call) 1 0) (Submitted command (Err refusal)) calls in
    absurd (omega (arith, sound, one))
none-submitted book (DiskAsked answer ∷ calls) none sound = (tt, none-submitted (after book (DiskAsked answer)) calls none sound)
none-submitted book (DiskReported outcome ∷ calls) none sound = (tt, none-submitted (after book (DiskReported outcome)) calls none sound)
none-submitted book (SlaveAsked slave answer ∷ calls) none sound = (tt, none-submitted (after book (SlaveAsked slave answer)) calls none sound)
none-submitted book (SlaveReported slave outcome ∷ calls) none sound = (tt, none-submitted (after book (SlaveReported slave outcome)) calls none sound)
none-submitted book (PlanAsked answer ∷ calls) none sound = (tt, none-submitted book calls none sound)
none-submitted book (Finished ∷ calls) none sound = (tt, none-submitted (after book Finished) calls none sound)

-- ---- what is kept

-- what is kept for a machine without commands is kept for each other one with the same contents
kept-too : (bytes : List ℕ) (words : List (List ℕ)) (one other : Machine) → one.accepted ≡ [] → other.accepted ≡ [] → other.acknowledged ≡ 0
    → machines.base_of one ≡ machines.base_of other → Kept bytes words one → Kept bytes words other
kept-too bytes words one other none nothing zero_is base kept =
    let few : other.acknowledged ≤ 0 = omega (arith, zero_is) in
    let begun =
    kept.same ∙ ap (λ (l : List Command). contents (machines.base_of one) (take kept.k l)) none
    ∙ ap (λ (l : List Command). contents (machines.base_of one) l) (take-nil {A = Command} kept.k) in
    let ends : contents (machines.base_of other) (take 0 other.accepted) ≡ machines.base_of other =
    ap (λ (l : List Command). contents (machines.base_of other) (take 0 l)) nothing in
    record { journal = kept.journal; live = kept.live; k = 0; may_keep = (few, omega arith); same = begun ∙ base ∙ sym ends }

-- what is kept for a session is kept for the machine before it
pub kept-opened : (m : Machine) (k : ℕ) (pair : Pair) → MayKeep m k → KeptFor (reopened m k) pair → KeptFor m pair
kept-opened m k pair may kept = record {
  journal = kept.journal;
  live = kept.live;
  k = k;
  may_keep = may;
  same = kept.same ∙ none-taken (machines.base_of (reopened m k)) [] kept.k refl ∙ contents-append m.origin m.kept (take k m.accepted);
}

-- the commands of a session that began without one
none-afterwards : (kept : List Command) (k : ℕ) → kept ++ take k [] ≡ kept
none-afterwards kept k = ap (λ (l : List Command). kept ++ l) (take-nil {A = Command} k) ∙ append-nil kept

module _ (opened : Station) (here : IsOpenedHere opened) (stands : Stands opened) where
  none-opened : opened.book.accepted ≡ []
  none-opened = ap (λ (book : Book). book.accepted) here.book

  -- the contents at the open have 16-bit words
  base-fits : PlantFits (base_of opened.book)
  base-fits = subst (λ (l : List Command). PlantFits (contents (base_of opened.book) l)) none-opened stands.words

  module _ (calls : List Call) (none : (replayed opened.book calls).accepted ≡ []) (sound : count_by is_refusal calls ≡ 0) where
    -- the station begins as the machine of these contents
    as-blank : (machine : Machine) → IsOfBook opened.book machine → LeavesOnly (KeptFor machine) opened.seen.state → BeginsAs (blank (base_of opened.book)) calls opened
    as-blank machine is kept = record {
      journal = here.journal;
      found = here.found;
      book = here.book;
      kept = λ pair leaves. kept-too pair.disk pair.words machine (blank (base_of opened.book)) (is.accepted ∙ none-opened) refl refl is.base (kept pair leaves);
      fits = record { origin = base-fits; kept = All-nil CommandFits; accepted = All-nil CommandFits };
      commands_fit = none-submitted opened.book calls (ap (λ (l : List Command). length l) none) sound;
    }

    -- so for each machine that was kept before the station was opened, what a power cut leaves at the desk is kept
    pub kept-each : (before : Seen) → BeginsSession before opened → (machine : Machine) → LeavesOnly (KeptFor machine) before.state
        → BeginsAs (blank (base_of opened.book)) calls opened
        × ((pair : Pair) → IsKeptPair (blank (base_of opened.book)) (replayed opened.book calls) pair → KeptFor machine pair)
    kept-each before begins machine kept =
        let base = base_of opened.book in
        let first = begins machine kept in
        let session = reopened machine first.k in (
          as-blank session first.of first.kept,
          λ pair is.
              let same : machines.base_of (reopened (blank base) is.k) ≡ base = ap (λ (l : List Command). contents base l) (none-afterwards [] is.k) in
              kept-opened machine first.k pair first.may_keep
              (kept-too pair.disk pair.words (served_by (reopened (blank base) is.k) (replayed opened.book calls)) session none refl refl (same ∙ sym first.of.base) is.kept),
        )

    -- a desk to which no command is submitted leaves what is kept
    pub keeps-line : (site : SiteValue) → AllLeftSo IsLeft opened calls site → KeepsLine opened site.seen.state
    keeps-line site left machine is kept =
        let base = base_of opened.book in
        let afterwards = left (blank base) (as-blank machine is kept) in
        let session = reopened (blank base) afterwards.kept.k in
        let same : machines.base_of session ≡ base = ap (λ (l : List Command). contents base l) (none-afterwards [] afterwards.kept.k) in
        let zero_is : machine.acknowledged ≡ 0 = is.acknowledged ∙ ap (λ (book : Book). book.durable) here.book in
        λ pair leaves.
        kept-too pair.disk pair.words (served_by session (replayed opened.book calls)) machine none (is.accepted ∙ none-opened) zero_is
        (same ∙ sym is.base) (afterwards.kept.kept pair leaves)

-- ---- the desk is closed

none-accepted : (is_driven : Bool) (answered : Answered) (accepted : List Command) → AcceptsOf is_driven [] answered accepted → accepted ≡ []
none-accepted true answered accepted accepts = accepts.0
none-accepted false answered accepted accepts = accepts.0

-- of no commands it is one whether they were submitted
closes-driven : (book : Book) (is_driven : Bool) (answered : Answered) (ends : Ends SiteValue) → ClosesWith book [] is_driven answered (Ok tt) ends
    → ClosesWith book [] true AllAccepted (Ok tt) ends
closes-driven book is_driven answered ends closes =
    let none = none-accepted is_driven answered (replayed book closes.calls).accepted closes.accepts in
    record {
      calls = closes.calls;
      counts = closes.counts;
      receipts = closes.receipts;
      closed = closes.closed;
      acknowledged = closes.acknowledged;
      accepts = (none, λ done. none);
      none = closes.none;
      tells = tt;
    }

-- a recovery went after the desk
after_recovers : (before : Seen) (says : Says) (sound : Result (Unit {0}) Fault) (unserved : List Command) (left : Seen) (Failed : Type 0) → StaysKept before left
    → GoesAfter says true sound unserved left Failed → GoesAfter (OfRecovery before says) true sound [] left Failed
after_recovers before says (Ok done) unserved left Failed stays goes = (goes.0, (stays, goes.1))
after_recovers before says (Err fault) unserved left Failed stays failed = failed

module _ (opened : Station) (here : IsOpenedHere opened) (stands : Stands opened) where
  redone-here : (sites : Sites) (ends : Ends SiteValue) (site : SiteValue) (words : ℕ) → IsSeparate opened.seen.state sites → AreEndsOfParts sites ends
      → ClosesWith opened.book [] true AllAccepted (Ok tt) ends → IsTogether ends site → IsCount (issues_of ends.workers.items) words → IsRedone opened words site
  redone-here sites ends site words apart of_sites closes together counts =
      let calls = closes.calls in
      let uncounted = subst (λ (c : ShareCounts). IsClosed opened.book calls (c ∷ []) closes.receipts ends) (closes.none refl) closes.closed in
      let refusals = uncounted.handed_in.counted.refusals in
      let sound : count_by is_refusal calls ≡ 0 = omega (arith, refusals) in
      let workers = closes.closed.handed_in.ended.workers in
      let many : length ends.workers.items ≡ length opened.book.slaves =
      workers.count ∙ each-slave opened.book (replayed opened.book calls).accepted ∙ ap (λ (book : Book). length book.words) here.book
      ∙ sym (ap (λ (book : Book). length book.slaves) here.book ∙ opened-many (words_in opened.seen.state.halves) (capacity_in opened.seen.state.disk.bytes) here.journal) in
      let issued = issued-by opened.book calls ends.workers.items closes.closed.answered workers many in
      let zero_is : words_issued opened.book.slaves ≡ 0 =
      ap (λ (book : Book). words_issued book.slaves) here.book ∙ none-issued (words_in opened.seen.state.halves) (capacity_in opened.seen.state.disk.bytes) here.journal in
      let all : issues_of ends.workers.items ≡ words_issued (replayed opened.book calls).slaves = omega (arith, issued, zero_is) in
      let at_desk = served-at-desk opened [] sites ends site true AllAccepted (Ok tt) apart of_sites together closes in
      record {
        served = at_desk;
        counts = subst (λ (n : ℕ). IsCount n words) all counts;
        keeps = keeps-line opened here stands calls closes.accepts.0 sound site at_desk.left;
      }

  -- a line that was served with no command
  module _ {D T : Type 0} (follows : D → Seen → Type 0) (well : D → Type 0) (tells : D → T → Type 0) (commands : List Command) (empty : commands ≡ []) (left : Left SiteValue T)
      (serves : ServesFollowed follows well tells false opened commands left) where
    -- a fault is told of the desk, and nothing goes after it
    pub unredone_goes : (before : Seen) → BeginsSession before opened → (says : Says) (Failed : Type 0) → says.parts opened serves.parts.desk.ends → Failed
        → DeskGoes (OfRecovery before says) opened [] Failed
    unredone_goes before begins says Failed tell failed =
        let desk = serves.parts.desk in
        separate left.ending
        (record {
          sites = desk.sites;
          separate = desk.separate;
          ends = desk.ends;
          of_sites = desk.of_sites;
          ended = subst (λ (l : List Command). EndsSo opened.book l desk.ends left.ending) empty desk.ended;
        })
        (record { here = here; stands = stands; begins = begins }, tell) failed

    -- none is told
    module _ (good : left.ending.reported ≡ Ok tt) where
      closes : ClosesWith opened.book [] true AllAccepted (Ok tt) serves.parts.desk.ends
      closes =
          let ending = left.ending in
          let ends = serves.parts.desk.ends in
          closes-driven opened.book ending.is_driven ending.answered ends
          (subst (λ (l : List Command). ClosesWith opened.book l ending.is_driven ending.answered (Ok tt) ends) empty
          (closed-quietly opened.book commands ending ends good serves.parts.desk.ended))

      redone : IsRedone opened left.words left.site
      redone =
          let desk = serves.parts.desk in
          redone-here desk.sites desk.ends left.site left.words desk.separate desk.of_sites closes serves.parts.together serves.words

      -- what was kept before the open is kept of the line that the desk has left
      stays_kept : (before : Seen) → BeginsSession before opened → StaysKept before left.site.seen
      stays_kept before begins machine kept =
          let first = begins machine kept in
          let session = redone.keeps (reopened machine first.k) first.of first.kept in
          λ pair leaves. kept-opened machine first.k pair first.may_keep (session pair leaves)

      -- a recovery goes after it
      pub redone_goes : (before : Seen) → BeginsSession before opened → (says : Says) (Failed : Type 0) → says.desk opened left.sound serves.parts.desk.ends left.site
          → (left.ending.closed ≡ Ok tt → GoesAfter says true left.sound left.unserved.items left.site.seen Failed) → DeskGoes (OfRecovery before says) opened [] Failed
      redone_goes before begins says Failed tell goes =
          let desk = serves.parts.desk in
          let closed : left.ending.closed ≡ Ok tt = subst (λ (r : Result (Unit {0}) Fault). OnOk r (left.ending.closed ≡ Ok tt)) good desk.ended.reported in
          served (record { is_driven = true; answered = AllAccepted; closed = Ok tt; reported = Ok tt }) left.site left.sound
          (record {
            desk = record { sites = desk.sites; separate = desk.separate; ends = desk.ends; of_sites = desk.of_sites; ended = record { reported = refl; ended = closes } };
            together = serves.parts.together;
          })
          (record { here = here; stands = stands; begins = begins }, tell)
          (λ done. after_recovers before says left.sound left.unserved.items left.site.seen Failed (stays_kept before begins) (goes closed))

      -- what a run did on the line that a desk has left
      module _ (slaves : ℕ) (files : Known) (line : LineFile) (run : LineRun T) (found : Found) (all : Option Recovered)
          (counts_all : IfSome run.recovered (λ one. IsSomeAnd all (CountsAll found left.words one))) where
        redoes : (counts : Option Recovered) (s : Station) → IfSome counts (λ one. IsSomeAnd all (CountsAll found left.words one))
            → IsSomeAnd counts (λ one. CountsRecovered left.site.line.sizes left.site.seen one s) → IsSomeAnd all (λ one. RedoesOpened opened found one s)
        redoes (Some after) s so counted =
            some_weaker all (λ one is. record { left = left.site; sent = left.words; redone = redone; after = after; counts = counted; counts_all = is }) so
        redoes None s so counted = absurd counted

        pub saves_redone : OnOk run.ended (left.sound ≡ Ok tt) → run.reported.desk ≡ Some left.reported
            → OnOk run.ended (IsTrue true
            → IsSomeAnd run.reported.after (λ after. SavesRecovered (LedOn follows well tells after slaves run.recovered left.site) files line left.site.seen))
            → (before : Seen) → BeginsSession before opened
            → OnOk run.ended (SavesRecovered (λ s. IsSomeAnd (whole_of run.reported.desk run.reported.after) (λ whole.
            IsSomeAnd all (λ one. RedoesOpened opened found one s) × LedAtDesk follows well tells false slaves opened whole s.seen)) files line before)
        saves_redone sound desk followed before begins =
            on_oks run.ended (λ ended held.
            saves_weaker (λ s recovered way. way) (λ s again machine kept. again machine (stays_kept before begins machine kept))
            (led_whole follows well tells false slaves files line
            (λ whole s. IsSomeAnd all (λ one. RedoesOpened opened found one s) × LedAtDesk follows well tells false slaves opened whole s.seen)
            run.reported.desk run.reported.after left.site run.recovered left.reported desk
            (λ one s led. (
              redoes run.recovered s counts_all led.counted,
              led_desk follows well tells false slaves files line opened left.site run.recovered left.reported
                  (served_soundly follows well tells false opened commands left serves ended) one s led,
            ))
            (held refl))) sound followed

-- the station was opened on this site
pub saves_recovered : {D T A E : Type 0} (follows : D → Seen → Type 0) (well : D → Type 0) (tells : D → T → Type 0) (slaves : ℕ) (files : Known) (line : LineFile) (site : SiteValue)
    (opened : Station) (found : Found) → OpensCounted site.line site.seen opened found → (ended : Result A E) (all : Option Recovered) (reported : Option (LineLog T))
    → OnOk ended (SavesRecovered (λ s. IsSomeAnd reported (λ whole.
    IsSomeAnd all (λ one. RedoesOpened opened found one s) × LedAtDesk follows well tells false slaves opened whole s.seen)) files line site.seen)
    → OnOk ended (SavesRecovered (λ s. IsSomeAnd reported (λ whole.
    IsSomeAnd all (λ one. RecoversByThreads site one s) × EndsReported follows well tells false site slaves whole s.seen)) files line site.seen)
saves_recovered follows well tells slaves files line site opened found opens ended all reported =
    on_ok ended (saves_weaker (λ s recovered way. some_weaker reported (λ whole both. (
      some_weaker all (λ one is. record { opened = opened; found = found; opens = opens; redoes = is }) both.0,
      led_site follows well tells false slaves files line site opened opens.1.line opens.1.quiet.follows whole s.seen both.1,
    )) way) (λ s begins. begins))
