-- A desk that was closed with what one submitter handed in.
use Rattle.std.proofs.Common.{◌≡◌, ℕ, Bool, ◌+◌, ◌≤◌, true, false, List, [], ◌∷◌, ◌++◌, length, refl, sym, ◌∙◌, ap}
use Rattle.std.proofs.Common.{subst, arith, inl, inr, Option}
use Rattle.std.proofs.Common.{Some, None, Result, Ok, Err}
use Rattle.std.specs.Prelude.{◌⊎◌, is_some, IfErr, IfOk, IfSome, IsSomeAnd, MatchResult, OnOk}
use Rattle.std.specs.Global.{Vec}
use Rattle.sii_edit.specs.declared.command.Command.{Command}
use Rattle.esc_model.specs.SlaveHalf.{SlaveHalf}
use Rattle.site_core.specs.Disk.{Disk}
use Rattle.site_core.specs.State.{State, Seen}
use Rattle.site_shadow.specs.Unsynced.{of_bytes}
use Rattle.book_model.specs.Book.{Book}
use Rattle.site_shadow.specs.Site.{SiteValue}
use Rattle.desk_laws.specs.Together.{AllEndSo, IsLeft}
use Rattle.desk_laws.specs.Slaves.{AllReadAsContents, IsJustOpened}
use Rattle.desk_book.specs.Calls.{AreAnswered, replayed}
use Rattle.desk_book.specs.declared.call.Call.{Call}
use Rattle.desk_book.specs.Serving.{ShareCounts}
use Rattle.desk_laws.specs.Joined.{IsKeptAs}
use Rattle.desk_book.specs.Numbered.{Numbered}
use Rattle.desk_book.specs.Closing.{is_served}
use Rattle.station_alone.specs.Station.{Station}
use Rattle.station_threads.specs.Closing.{IsHandedIn}
use Rattle.station_threads.specs.declared.closing.CloseFault.{CloseFault}
use Rattle.station_threads.specs.declared.closing.CloseFault.TheVariants.{Unserved}
use Rattle.station_threads.specs.declared.closing.Ends.{Ends}
use Rattle.station_files.specs.Faults.{IsOfStream}
use Rattle.station_files.specs.declared.faults.Fault.{Fault}
use Rattle.station_line.specs.declared.answered.Answered.{Answered}
use Rattle.station_line.specs.declared.answered.Answered.TheVariants.{AllAccepted}
use Rattle.station_line.specs.Rounds.{AreAmong}
use Rattle.station_threads.specs.Places.{AllPlaced}
use Rattle.station_threads.specs.Sites.{OwnParts}
use Rattle.script_session.specs.Asking.{no_counts, ComesTo, GivesUp, Receives, fault_of, receipts_of}
use Rattle.script_session.specs.declared.closing.AtDesk.{AtDesk}
use Rattle.script_session.specs.declared.closing.Ending.{Ending}
use Rattle.script_session.specs.declared.threads.Left.{Left}
use Rattle.script_session.specs.declared.threads.NotServed.{NotServed}
use Rattle.script_session.specs.declared.logs.PartLog.{PartLog}
use Rattle.script_session.specs.declared.logs.UnservedLog.{UnservedLog}
use Rattle.station_jobs.specs.declared.log.SlaveLog.{SlaveLog}
use Rattle.station_jobs.specs.Ends.{Stay}
use Rattle.station_threads.specs.Parts.{IsEndOfSlave}
use Rattle.station_threads.proofs.PlaceLaws.{placed-long}
use Rattle.script_session.specs.Parts.{Sites, AreSound, BeginsWith, EndsSynced, HasDiskOf, IsSeparate, IsDeskLeft, IsDeskReported, IsLineReported}
use Rattle.script_session.specs.Parts.{IsServable, AreEndsOfParts}
use Rattle.script_session.specs.AtDesk as at_desk
use Rattle.script_session.specs.AtDesk.{seen_of, Closes, ClosesWith, DeskServes, IsUnservedReported, EndsSo, IsServedAtDesk, IsStopped}
use Rattle.script_session.specs.Parts.{IsCount, IsTogether, Telling, issues_of}
use Rattle.script_session.specs.AtDesk.{ServesFollowed, ServesParts, TellsWhy}
use Rattle.script_session.proofs.AskLaws.{all-received}
use Rattle.script_session.proofs.SlaveLaws.{contents-together}
use Rattle.station_line.specs.Site.{IsFollowed}
use Rattle.script_session.proofs.SoundLaws.{ends_synced, on_ok}
use Rattle.script_session.proofs.LeftLaws.{left-together}

-- the result for a closed desk
pub closes-now : (opened : Book) (calls : List Call) (shares : List ShareCounts) (receipts : List Numbered) (ends left : Ends SiteValue) (closed : Result (Unit {0}) CloseFault) (reported : Result (Unit {0}) Fault) → AreAnswered opened calls → is_served (replayed opened calls) ≡ true
    → IsHandedIn opened calls shares receipts ends → (IsJustOpened opened → AllReadAsContents opened (replayed opened calls) seen_of left.workers.items) → AllEndSo IsLeft opened calls seen_of left.flusher left.workers.items → left ≡ ends → closed ≡ Ok tt
    → MatchResult closed (λ done. Closes opened shares receipts ends) (λ why. IsStopped opened why reported ends)
closes-now opened calls shares receipts ends left (Ok done) reported answered served handed_in contents leaves same is = record {
  calls = calls;
  closed = record {
    answered = answered;
    served = served;
    handed_in = handed_in;
    contents = λ just. subst (λ (e : Ends SiteValue). AllReadAsContents opened (replayed opened calls) seen_of e.workers.items) same (contents just);
    left = subst (λ (e : Ends SiteValue). AllEndSo IsLeft opened calls seen_of e.flusher e.workers.items) same leaves;
  };
}
closes-now opened calls shares receipts ends left (Err why) reported answered served handed_in contents leaves same is = absurd cc

-- the user is told why the desk isn't closed
abbrev pub IsReportedWhy : Book → Result (Unit {0}) Fault → Type 0
IsReportedWhy book reported = MatchResult reported (λ done. ⊥) (TellsWhy book)

tells-why : (book : Book) (reported : Result (Unit {0}) Fault) → IsReportedWhy book reported → IfErr reported (TellsWhy book)
tells-why book (Ok done) why = tt
tells-why book (Err fault) why = why

-- the result for a desk that isn't closed: not all is settled, or a fault has closed the book
pub stops-now : (opened : Book) (calls : List Call) (shares : List ShareCounts) (receipts : List Numbered) (ends left : Ends SiteValue) (why : CloseFault) (closed : Result (Unit {0}) CloseFault) (reported : Result (Unit {0}) Fault) → AreAnswered opened calls
    → (why ≡ Unserved → AllEndSo IsKeptAs opened calls seen_of left.flusher left.workers.items) → left ≡ ends → closed ≡ Err why → IsReportedWhy (replayed opened calls) reported
    → MatchResult closed (λ done. Closes opened shares receipts ends) (λ fault. IsStopped opened fault reported ends)
stops-now opened calls shares receipts ends left why (Ok done) reported answered kept same is tells = absurd cc
stops-now opened calls shares receipts ends left why (Err fault) reported answered kept same is tells =
    let here : fault ≡ why = cc in
    record {
      calls = calls;
      answered = answered;
      kept = λ unserved. subst (λ (e : Ends SiteValue). AllEndSo IsKeptAs opened calls seen_of e.flusher e.workers.items) same (kept (sym here ∙ unserved));
      tells = tells-why (replayed opened calls) reported tells;
    }

pub none-of : {A : Type 0} (items : List A) → length items ≡ 0 → items ≡ []
none-of [] none = refl
none-of (item ∷ items) none = absurd (omega (arith, none))

closed-driven : (opened : Book) (commands : List Command) (answered : Answered) (counts : ShareCounts) (receipts : List Numbered) (ends : Ends SiteValue) → Receives commands AllAccepted answered no_counts counts receipts → Closes opened (counts ∷ []) receipts ends
    → ClosesWith opened commands true answered (Ok tt) ends
closed-driven opened commands answered counts receipts ends got closes =
    let book = replayed opened closes.calls in
    let handed_in = closes.closed.handed_in in
    let counted = handed_in.counted.tickets in
    let asked = got.asked.counted in
    let same = all-received book.accepted receipts book.durable (omega (arith, counted, asked)) got.in_order handed_in.received.each in
    record {
      calls = closes.calls;
      counts = counts;
      receipts = receipts;
      closed = closes.closed;
      acknowledged = sym same;
      accepts = (subst (λ (l : List Command). AreAmong l commands) (sym same) got.asked.among, λ done. same ∙ (got.asked.all done).1);
      none = got.asked.none;
      tells = tt;
    }

closed-undriven : (opened : Book) (commands : List Command) (answered : Answered) (counts : ShareCounts) (ends : Ends SiteValue) → (answered ≡ AllAccepted) × (counts ≡ no_counts) → Closes opened (counts ∷ []) [] ends
    → ClosesWith opened commands false answered (Ok tt) ends
closed-undriven opened commands answered counts ends none closes =
    let counted = closes.closed.handed_in.counted.tickets in
    let without = ap (λ (c : ShareCounts). c.tickets) none.1 in
    let nothing = none-of (replayed opened closes.calls).accepted (omega (arith, counted, without)) in
    record { calls = closes.calls; counts = counts; receipts = []; closed = closes.closed; acknowledged = sym nothing; accepts = (nothing, none.0); none = λ is. none.1; tells = tt }

-- the fault of a submitter
gave-up : (commands : List Command) (answered : Answered) (counts : ShareCounts) (came : Option (Result (Vec Numbered) Fault)) (fault : Fault) → fault_of came ≡ Err fault → ComesTo commands answered counts came → GivesUp fault
gave-up commands answered counts (Some (Ok got)) fault is comes = absurd cc
gave-up commands answered counts (Some (Err why)) fault is comes = let same : why ≡ fault = cc in subst GivesUp same comes
gave-up commands answered counts None fault is comes = absurd cc

-- the fault of a stream is none of the desk's
of-stream : (ended : Result (Unit {0}) Fault) (fault : Fault) → IfErr ended IsOfStream → ended ≡ Err fault → IsOfStream fault
of-stream (Ok done) fault printed is = absurd cc
of-stream (Err why) fault printed is = let same : why ≡ fault = cc in subst IsOfStream same printed

of-desk : (book : Book) (ended : Result (Unit {0}) Fault) (fault : Fault) → IfErr ended (TellsWhy book) → ended ≡ Err fault → TellsWhy book fault
of-desk book (Ok done) fault tells is = absurd cc
of-desk book (Err why) fault tells is = let same : why ≡ fault = cc in subst (TellsWhy book) same tells

-- the submitter's share is the only one
pub one-share : (shares room : List ShareCounts) (counts : ShareCounts) → shares ≡ room ++ counts ∷ [] → room ≡ [] → shares ≡ counts ∷ []
one-share shares room counts is empty = subst (λ (l : List ShareCounts). shares ≡ l ++ counts ∷ []) empty is

-- what the user is told, from the results of the submitter and of the desk
abbrev pub IsReportedOf : (asked ended : Result (Unit {0}) Fault) → Fault → Type 0
IsReportedOf asked ended fault = IsOfStream fault ⊎ (ended ≡ Err fault) ⊎ ((asked ≡ Err fault) × (ended ≡ Ok tt))

-- for each result of the submitter, and of closing the desk
module _ (opened : Book) (commands : List Command) (answered : Answered) (counts : ShareCounts) (shares : List ShareCounts) (receipts : List Numbered) (ends : Ends SiteValue) (alone : shares ≡ counts ∷ []) where
  all-closed : (came : Option (Result (Vec Numbered) Fault)) → receipts ≡ receipts_of came → fault_of came ≡ Ok tt → ComesTo commands answered counts came → Closes opened shares receipts ends → ClosesWith opened commands (is_some came) answered (Ok tt) ends
  all-closed (Some (Ok got)) same none comes closes =
      closed-driven opened commands answered counts receipts ends (subst (λ (l : List Numbered). Receives commands AllAccepted answered no_counts counts l) (sym same) comes) (subst (λ (l : List ShareCounts). Closes opened l receipts ends) alone closes)
  all-closed (Some (Err fault)) same none comes closes = absurd cc
  all-closed None same none comes closes =
      closed-undriven opened commands answered counts ends comes (subst (λ (l : List Numbered). Closes opened (counts ∷ []) l ends) same (subst (λ (l : List ShareCounts). Closes opened l receipts ends) alone closes))

  -- the desk was closed, and a fault is told all the same
  closed-reported : (came : Option (Result (Vec Numbered) Fault)) (asked ended : Result (Unit {0}) Fault) (fault : Fault) (is_driven : Bool) → asked ≡ fault_of came → ComesTo commands answered counts came → Closes opened shares receipts ends → IfErr ended IsOfStream
      → IsReportedOf asked ended fault → ClosesWith opened commands is_driven answered (Err fault) ends
  closed-reported came asked ended fault is_driven is comes closes printed tells =
      let one = subst (λ (l : List ShareCounts). Closes opened l receipts ends) alone closes in
      record {
        calls = one.calls;
        counts = counts;
        receipts = receipts;
        closed = one.closed;
        acknowledged = tt;
        accepts = tt;
        none = tt;
        tells = elim tells [
          | inl stream ↦ inl stream
          | inr (inl same) ↦ inl (of-stream ended fault printed same)
          | inr (inr same) ↦ gave-up commands answered counts came fault (sym is ∙ same.0) comes
        ];
      }

  -- the desk wasn't closed
  stopped-reported : (why : CloseFault) (asked ended reported : Result (Unit {0}) Fault) → IsStopped opened why ended ends → (ended ≡ Ok tt → ⊥) → IfErr reported (IsReportedOf asked ended) → IsStopped opened why reported ends
  stopped-reported why asked ended (Ok done) stops bad tells = record { calls = stops.calls; answered = stops.answered; kept = stops.kept; tells = tt }
  stopped-reported why asked ended (Err fault) stops bad tells = record {
    calls = stops.calls;
    answered = stops.answered;
    kept = stops.kept;
    tells = elim tells [
      | inl stream ↦ inl stream
      | inr (inl same) ↦ of-desk (replayed opened stops.calls) ended fault stops.tells same
      | inr (inr same) ↦ absurd (bad same.1)
    ];
  }

  -- how the work ended
  pub ends-so : (came : Option (Result (Vec Numbered) Fault)) (asked ended reported : Result (Unit {0}) Fault) (closed : Result (Unit {0}) CloseFault) (is_driven : Bool) → receipts ≡ receipts_of came → asked ≡ fault_of came → is_driven ≡ is_some came → ComesTo commands answered counts came
      → MatchResult closed (λ done. Closes opened shares receipts ends) (λ why. IsStopped opened why ended ends) → OnOk ended (closed ≡ Ok tt) → OnOk closed (IfErr ended IsOfStream) → OnOk reported ((asked ≡ Ok tt) × (ended ≡ Ok tt)) → IfErr reported (IsReportedOf asked ended)
      → MatchResult closed (λ done. ClosesWith opened commands is_driven answered reported ends) (λ why. IsStopped opened why reported ends)
  ends-so came asked ended (Ok good) (Ok done) is_driven same is driven comes closes ends_well printed both tells =
      subst (λ (b : Bool). ClosesWith opened commands b answered (Ok tt) ends) (sym driven) (all-closed came same (sym is ∙ both.0) comes closes)
  ends-so came asked ended (Err fault) (Ok done) is_driven same is driven comes closes ends_well printed both tells =
      closed-reported came asked ended fault is_driven is comes closes printed tells
  ends-so came asked ended reported (Err why) is_driven same is driven comes closes ends_well printed both tells =
      stopped-reported why asked ended reported closes (λ well. let no : Err why ≡ Ok tt = subst (λ (r : Result (Unit {0}) Fault). OnOk r (Err why ≡ Ok tt)) well ends_well in absurd cc) tells

  -- nothing is told only if the desk was closed
  pub reported-closed : (asked ended reported : Result (Unit {0}) Fault) (closed : Result (Unit {0}) CloseFault) → OnOk ended (closed ≡ Ok tt) → OnOk reported ((asked ≡ Ok tt) × (ended ≡ Ok tt)) → OnOk reported (closed ≡ Ok tt)
  reported-closed asked ended (Ok good) closed ends_well both = subst (λ (r : Result (Unit {0}) Fault). OnOk r (closed ≡ Ok tt)) both.1 ends_well
  reported-closed asked ended (Err fault) closed ends_well both = tt

-- ---- the disk of a line that is taken apart

pub servable : (sites : Sites) (capacity : ℕ) (entire : State) (disk : Option (Vec ℕ)) (halves : List SlaveHalf) → IsSomeAnd disk (λ (b : Vec ℕ). 8 + capacity ≤ length b.items) → IfSome disk (λ (b : Vec ℕ). b.items ≡ entire.disk.bytes)
    → halves ≡ entire.halves → HasDiskOf disk sites.disk → sites.disk.seen.past ≡ [] → AllPlaced BeginsWith 0 halves sites.slaves.items
    → OwnParts (λ (s : SiteValue). s.line) sites.disk sites.slaves.items sites.cycle → IsServable capacity entire sites
servable sites capacity entire (Some b) halves long bytes held disk new slaves owned = record {
  separate = record { disk = disk ∙ ap of_bytes bytes; new = new; slaves = subst (λ (l : List SlaveHalf). AllPlaced BeginsWith 0 l sites.slaves.items) held slaves };
  own = record { owned = owned; long = subst (λ (d : Disk). 8 + capacity ≤ length d.bytes) (sym disk) long };
}
servable sites capacity entire None halves long bytes held disk new slaves owned = absurd long

-- ---- a line that was served at a desk

abbrev pub served-at-desk : (opened : Station) (commands : List Command) (sites : Sites) (ends : Ends SiteValue) (site : SiteValue) (is_driven : Bool) (answered : Answered) (reported : Result (Unit {0}) Fault)
    → IsSeparate opened.seen.state sites → AreEndsOfParts sites ends → IsTogether ends site → ClosesWith opened.book commands is_driven answered reported ends
    → IsServedAtDesk opened commands is_driven answered reported site
served-at-desk opened commands sites ends site is_driven answered reported separate of_sites together closes = record {
  sites = sites;
  separate = separate;
  ends = ends;
  of_sites = of_sites;
  closes = closes;
  together = together;
  contents = λ just. contents-together opened.book (replayed opened.book closes.calls) opened.seen.state sites ends site separate of_sites together (closes.closed.contents just);
  left = left-together opened closes.calls sites ends separate of_sites site together closes.closed.left;
}

-- a desk served these sites
module _ (opened : Station) (commands : List Command) (book : Book) (seen : Seen) (sites : Sites) (at : AtDesk SiteValue)
    (of_book : book ≡ opened.book) (of_seen : seen ≡ opened.seen) (separate : IsSeparate seen.state sites) (of_sites : AreEndsOfParts sites at.ends)
    (ends : EndsSo book commands at.ends at.ending) where
  abbrev desk-serves : (ending : Ending) → ending ≡ at.ending → DeskServes opened commands ending
  desk-serves ending same = record {
    sites = sites;
    separate = subst (λ (s : Seen). IsSeparate s.state sites) of_seen separate;
    ends = at.ends;
    of_sites = of_sites;
    ended = subst (λ (e : Ending). EndsSo opened.book commands at.ends e) (sym same)
        (subst (λ (b : Book). EndsSo b commands at.ends at.ending) of_book ends);
  }

  module _ {D : Type 0} (follows : D → Seen → Type 0) where
    -- and the line was put together again
    pub serves-parts : {T E : Type 0} (well : D → Type 0) (tells : D → T → Type 0) (turns : Bool) (line : PartLog T)
        (result : Result (Left SiteValue T) E) → is_some sites.cycle ≡ turns
        → IfOk result (λ (left : Left SiteValue T). IsTogether at.ends left.site × (left.ending ≡ at.ending))
        → IfOk result (λ (left : Left SiteValue T). (s : Seen) → IsFollowed (Telling follows well tells line) s
        → IsDeskReported follows well tells s left.reported at.ends)
        → IfOk result (λ (left : Left SiteValue T). OnOk left.sound (AreSound left.reported × EndsSynced at.ends.flusher.log))
        → IfOk result (λ (left : Left SiteValue T). IsCount (issues_of at.ends.workers.items) left.words)
        → IsFollowed (Telling follows well tells line) seen → length opened.line.sizes ≡ length seen.state.halves
        → IfOk result (λ (left : Left SiteValue T). ServesFollowed follows well tells turns opened commands left)
    serves-parts well tells turns line (Ok left) turning is reported sound words before count = record {
      parts = record { desk = desk-serves left.ending is.1; together = is.0 };
      turning = turning;
      count = count ∙ ap (λ (s : Seen). length s.state.halves) of_seen;
      reported = reported opened.seen (subst (IsFollowed (Telling follows well tells line)) of_seen before);
      sound = on_ok left.sound (λ (both : AreSound left.reported × EndsSynced at.ends.flusher.log).
          (both.0, ends_synced seen.state sites at.ends separate of_sites (reported seen before).flushed both.1)) sound;
      words = words;
    }
    serves-parts well tells turns line (Err fault) turning is reported sound words before count = tt

    -- or not
    pub ends-separate : {T : Type 0} (well : D → Type 0) (tells : D → T → Type 0) (line : PartLog T) (result : Result (Left SiteValue T) (NotServed T))
        → IsFollowed (Telling follows well tells line) seen
        → IfErr result (λ (why : NotServed T). IsDeskLeft follows well tells line at.ends why.reported)
        → IfErr result (λ (why : NotServed T). IsUnservedReported follows well tells opened commands why.reported)
    ends-separate well tells line (Ok left) before is = tt
    ends-separate well tells line (Err why) before is =
        subst (IsUnservedReported follows well tells opened commands) (sym is.desk)
        (at_desk.desk is.devices at.ending (desk-serves at.ending refl)
        (is.tells_them opened.seen (subst (IsFollowed (Telling follows well tells line)) of_seen before)))

-- no desk began
pub line-reported : {D T : Type 0} (follows : D → Seen → Type 0) (well : D → Type 0) (tells : D → T → Type 0) (opened : Station) (commands : List Command)
    (seen : Seen) (reported : UnservedLog T) → seen ≡ opened.seen → IsLineReported follows well tells seen reported
    → IsUnservedReported follows well tells opened commands reported
line-reported follows well tells opened commands seen reported of_seen is =
    subst (IsUnservedReported follows well tells opened commands) (sym is.line)
    (at_desk.line is.part (subst (IsFollowed (Telling follows well tells is.part)) of_seen is.tells_it))

-- as many workers end as there are sites of slaves
pub as-many-ends : (sites : Sites) (ends : Ends SiteValue) (room : ℕ) → AreEndsOfParts sites ends → length sites.slaves.items ≤ room
    → length ends.workers.items ≤ room
as-many-ends sites ends room of_sites enough =
    let long = placed-long (λ slave (site : SiteValue) (end : Stay SiteValue SlaveLog). IsEndOfSlave slave site end) 0 sites.slaves.items ends.workers.items of_sites.workers in
    omega (arith, long, enough)

-- where no fault is told, the desk was closed
pub closed-quietly : (book : Book) (commands : List Command) (ending : Ending) (ends : Ends SiteValue) → ending.reported ≡ Ok tt → EndsSo book commands ends ending
    → ClosesWith book commands ending.is_driven ending.answered (Ok tt) ends
closed-quietly book commands ending ends good ended =
    let closed : ending.closed ≡ Ok tt = subst (λ (r : Result (Unit {0}) Fault). OnOk r (ending.closed ≡ Ok tt)) good ended.reported in
    subst (λ (reported : Result (Unit {0}) Fault). ClosesWith book commands ending.is_driven ending.answered reported ends) good
    (subst (λ (r : Result (Unit {0}) CloseFault). MatchResult r (λ done. ClosesWith book commands ending.is_driven ending.answered ending.reported ends)
    (λ why. IsStopped book why ending.reported ends)) closed ended.ended)

-- and the line was served
pub served-quietly : (opened : Station) (commands : List Command) (ending : Ending) (site : SiteValue) → ending.reported ≡ Ok tt → ServesParts opened commands ending site
    → IsServedAtDesk opened commands ending.is_driven ending.answered (Ok tt) site
served-quietly opened commands ending site good parts =
    let desk = parts.desk in
    served-at-desk opened commands desk.sites desk.ends site ending.is_driven ending.answered (Ok tt) desk.separate desk.of_sites parts.together
    (closed-quietly opened.book commands ending desk.ends good desk.ended)
