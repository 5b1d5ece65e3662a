-- What holds of a line once its desk was closed, or a fault ended the work there.
use Rattle.std.specs.Prelude.{◌≡◌, ◌⊎◌, ◌<◌, ℕ, Bool, true, false, List, [], ◌∷◌, length, Result, Ok, IfErr, MatchResult}
use Rattle.std.specs.Prelude.{OnOk, is_some}
use Rattle.std.specs.List.{AllByRecursion}
use Rattle.sii_edit.specs.declared.command.Command.{Command}
use Rattle.jrn_format.specs.declared.journal.Journal.{Journal}
use Rattle.site_core.specs.State.{State, Seen}
use Rattle.site_core.specs.Passes.{LeavesOnly}
use Rattle.book_model.specs.Book.{Book}
use Rattle.book_model.specs.Machine.{Machine}
use Rattle.site_shadow.specs.Site.{SiteValue}
use Rattle.station_alone.specs.Station.{Station}
use Rattle.station_alone.specs.Keeping.{KeptFor}
use Rattle.desk_book.specs.declared.call.Call.{Call}
use Rattle.desk_book.specs.Calls.{replayed, AreAnswered}
use Rattle.desk_book.specs.Closing.{is_served}
use Rattle.desk_book.specs.Numbered.{Numbered}
use Rattle.desk_book.specs.Serving.{ShareCounts}
use Rattle.desk_laws.specs.Slaves.{IsJustOpened, IsAsOpened, ReadsAsContents, AllReadAsContents}
use Rattle.book_model.specs.Opening.{IsFound, book_on}
use Rattle.world_law.specs.Law.{MachineFits}
use Rattle.desk_laws.specs.Joined.{CallFits, IsKeptAs}
use Rattle.desk_laws.specs.Together.{AllEndSo, IsLeft}
use Rattle.station_threads.specs.declared.closing.CloseFault.{CloseFault}
use Rattle.station_threads.specs.declared.closing.CloseFault.TheVariants.{Unserved}
use Rattle.station_threads.specs.declared.closing.Ends.{Ends}
use Rattle.station_threads.specs.Closing.{IsHandedIn}
use Rattle.station_files.specs.Faults.{IsOfStream}
use Rattle.station_files.specs.declared.faults.Fault.{Fault}
use Rattle.station_line.specs.Faults.{fault_of_book}
use Rattle.station_line.specs.declared.answered.Answered.{Answered}
use Rattle.station_line.specs.declared.answered.Answered.TheVariants.{AllAccepted}
use Rattle.station_line.specs.Rounds.{AreAmong}
use Rattle.script_session.specs.declared.closing.AtDesk.{AtDesk}
use Rattle.script_session.specs.declared.closing.Ending.{Ending}
use Rattle.script_session.specs.declared.threads.Opening.{Opening}
use Rattle.script_session.specs.declared.threads.Left.{Left}
use Rattle.script_session.specs.declared.logs.DeskLog.{DeskLog}
use Rattle.script_session.specs.declared.logs.PartLog.{PartLog}
use Rattle.script_session.specs.declared.logs.UnservedLog.{UnservedLog}
use Rattle.script_session.specs.declared.logs.UnservedLog.TheVariants as unserved
use Rattle.script_session.specs.Asking.{commands_of, no_counts, GivesUp}
use Rattle.script_session.specs.Parts.{Sites, IsSeparate, AreEndsOfParts, AreSound, AreUnserved, IsCount, IsDeskReported, IsSynced, IsTogether, Telling}
use Rattle.script_session.specs.Parts.{issues_of}
use Rattle.station_line.specs.Site.{IsFollowed}

-- the state of a site and its past
abbrev pub seen_of : SiteValue → Seen
seen_of site = site.seen

-- Some of these commands were accepted, in order: all of them if none was refused, and none if they were not submitted.
abbrev pub AcceptsOf : (is_driven : Bool) → (commands : List Command) → Answered → (accepted : List Command) → Type 0
AcceptsOf true commands answered accepted = AreAmong accepted commands × (answered ≡ AllAccepted → accepted ≡ commands)
AcceptsOf false commands answered accepted = (accepted ≡ []) × (answered ≡ AllAccepted)

-- A desk of this book was closed with everything that it had handed out. These are the calls of the book, each answered as the definition
-- says. The book has no fault, and all that was accepted or found is settled. If the book was just opened, each slave that was idle with
-- the opening words when its worker began reads as the contents after all accepted commands. If the book was opened on the line as it was
-- when the work began, a power cut leaves of disk and slaves only what is kept, and redo of it gives these contents.
pub record IsClosed (opened : Book) (calls : List Call) (shares : List ShareCounts) (receipts : List Numbered) (ends : Ends SiteValue) : Type 0 where
  pub answered : AreAnswered opened calls
  pub served : is_served (replayed opened calls) ≡ true
  pub handed_in : IsHandedIn opened calls shares receipts ends
  pub contents : IsJustOpened opened → AllReadAsContents opened (replayed opened calls) seen_of ends.workers.items
  pub left : AllEndSo IsLeft opened calls seen_of ends.flusher ends.workers.items

-- A desk of this book was closed so, with some history of calls.
pub record Closes (opened : Book) (shares : List ShareCounts) (receipts : List Numbered) (ends : Ends SiteValue) : Type 0 where
  pub calls : List Call
  pub closed : IsClosed opened calls shares receipts ends

-- A desk of this book was closed with one share. If no fault is told to the user, it accepted of these commands those that it should, and
-- each of them was acknowledged; where there was none, none was refused either.
pub record ClosesWith (opened : Book) (commands : List Command) (is_driven : Bool) (answered : Answered) (reported : Result (Unit {0}) Fault)
    (ends : Ends SiteValue) : Type 0 where
  pub calls : List Call
  pub counts : ShareCounts
  pub receipts : List Numbered
  pub closed : IsClosed opened calls (counts ∷ []) receipts ends
  pub acknowledged : OnOk reported (commands_of receipts ≡ (replayed opened calls).accepted)
  pub accepts : OnOk reported (AcceptsOf is_driven commands answered (replayed opened calls).accepted)
  pub none : OnOk reported (commands ≡ [] → counts ≡ no_counts)
  pub tells : IfErr reported GivesUp

-- the fault that the user is told of where a desk isn't closed: a stream failed, memory was refused, or it is the fault of the book
abbrev pub TellsWhy : Book → Fault → Type 0
TellsWhy book fault = IsOfStream fault ⊎ (fault ≡ fault_of_book book.fault)

-- A desk of this book wasn't closed. These are the calls of the book, each answered as the definition says. Unless what was handed in
-- doesn't match what the desk handed out, a power cut leaves of disk and slaves only what is kept.
pub record IsStopped (opened : Book) (why : CloseFault) (reported : Result (Unit {0}) Fault) (ends : Ends SiteValue) : Type 0 where
  pub calls : List Call
  pub answered : AreAnswered opened calls
  pub kept : why ≡ Unserved → AllEndSo IsKeptAs opened calls seen_of ends.flusher ends.workers.items
  pub tells : IfErr reported (TellsWhy (replayed opened calls))

-- How the desk was closed, or that it wasn't. If it wasn't, the user is told of a fault.
pub record EndsSo (opened : Book) (commands : List Command) (ends : Ends SiteValue) (ending : Ending) : Type 0 where
  pub reported : OnOk ending.reported (ending.closed ≡ Ok tt)
  pub ended : MatchResult ending.closed
      (λ done. ClosesWith opened commands ending.is_driven ending.answered ending.reported ends)
      (λ why. IsStopped opened why ending.reported ends)

-- A desk of this book is made of this: the book, which has accepted no command, and ledgers with these names and parts, more than one each.
pub record OpensDesk (opened : Book) (ticket_name ticket_parts refusal_name refusal_parts : ℕ) (opening : Opening) : Type 0 where
  pub core : opening.core ≡ opened
  pub none : opening.core.accepted ≡ []
  pub tickets : (opening.tickets.name ≡ ticket_name) × (opening.tickets.count ≡ ticket_parts)
  pub refusals : (opening.refusals.name ≡ refusal_name) × (opening.refusals.count ≡ refusal_parts)
  pub parts : (1 < opening.tickets.count) × (1 < opening.refusals.count)

-- A desk of this book served these sites, and leaves the ends of their threads, how the work ended, and the commands if they were not submitted.
pub record ServesSites (opened : Book) (commands : List Command) (sites : Sites) (at : AtDesk SiteValue) : Type 0 where
  pub of_sites : AreEndsOfParts sites at.ends
  pub ending : EndsSo opened commands at.ends at.ending
  pub unserved : at.ending.is_driven ≡ false → at.unserved.items ≡ commands

-- ---- a line that is put together again

-- The station was just opened on what its site holds. Everything that a power cut may leave of it is kept for this machine, as which the
-- station begins. The words of the machine and of the commands in these calls have 16 bits.
pub record BeginsAs (machine : Machine) (calls : List Call) (opened : Station) : Type 0 where
  pub journal : Journal
  pub found : IsFound journal opened.seen.state
  pub book : opened.book ≡ book_on opened.seen.state journal
  pub kept : LeavesOnly (KeptFor machine) opened.seen.state
  pub fits : MachineFits machine
  pub commands_fit : AllByRecursion CallFits calls

-- For each machine that the station can have begun as, the line now has the property `so`, with the book after these calls.
abbrev pub AllLeftSo : (Machine → Book → State → Type 0) → (opened : Station) → List Call → SiteValue → Type 0
AllLeftSo so opened calls site = (machine : Machine) → BeginsAs machine calls opened → so machine (replayed opened.book calls) site.seen.state

-- The line of this station was taken apart, a desk of its book served the parts and was closed, and the line was put together again. If
-- the book was just opened, each slave that was idle with the opening words before reads as the contents after all accepted commands. A
-- power cut leaves only what is kept for the session with all of them, and redo of it gives these contents.
pub record IsServedAtDesk (opened : Station) (commands : List Command) (is_driven : Bool) (answered : Answered)
    (reported : Result (Unit {0}) Fault) (site : SiteValue) : Type 0 where
  pub sites : Sites
  pub separate : IsSeparate opened.seen.state sites
  pub ends : Ends SiteValue
  pub of_sites : AreEndsOfParts sites ends
  pub closes : ClosesWith opened.book commands is_driven answered reported ends
  pub together : IsTogether ends site
  pub contents : IsJustOpened opened.book → (slave : ℕ) → IsAsOpened opened.book opened.seen.state slave
      → ReadsAsContents (replayed opened.book closes.calls) site.seen.state slave
  pub left : AllLeftSo IsLeft opened closes.calls site

-- The line of this station was taken apart, and its parts ended so.
pub record PartsEnd (opened : Station) : Type 0 where
  pub sites : Sites
  pub separate : IsSeparate opened.seen.state sites
  pub ends : Ends SiteValue
  pub of_sites : AreEndsOfParts sites ends

-- The line of this station was taken apart, and a desk of its book served the parts.
pub record DeskServes (opened : Station) (commands : List Command) (ending : Ending) : Type 0 where
  pub sites : Sites
  pub separate : IsSeparate opened.seen.state sites
  pub ends : Ends SiteValue
  pub of_sites : AreEndsOfParts sites ends
  pub ended : EndsSo opened.book commands ends ending

-- After that the line was put together again.
pub record ServesParts (opened : Station) (commands : List Command) (ending : Ending) (site : SiteValue) : Type 0 where
  pub desk : DeskServes opened commands ending
  pub together : IsTogether desk.ends site

-- The line of this station was taken apart, a desk served the parts, and the line was put together again.
pub record PartsAreServed (opened : Station) (site : SiteValue) : Type 0 where
  pub sites : Sites
  pub separate : IsSeparate opened.seen.state sites
  pub ends : Ends SiteValue
  pub of_sites : AreEndsOfParts sites ends
  pub together : IsTogether ends site

-- The parts were served so, one for process data among them exactly where `turns` says so, and this is told of devices that have followed them: each
-- part ended soundly. The site has a half for each slave, and the disk's part ends with all bytes synced.
pub record IsServedReported {D T : Type 0} (follows : D → Seen → Type 0) (well : D → Type 0) (tells : D → T → Type 0) (turns : Bool)
    (opened : Station) (reported : DeskLog T) (site : SiteValue) : Type 0 where
  pub served : PartsAreServed opened site
  pub turning : is_some served.sites.cycle ≡ turns
  pub count : length opened.line.sizes ≡ length opened.seen.state.halves
  pub synced : IsSynced served.ends
  pub devices : IsDeskReported follows well tells opened.seen reported served.ends
  pub sound : AreSound reported

-- The parts were served with this ending, one for process data among them exactly where `turns` says so, and this is told of devices that have followed
-- them. Where no fault is told, each part ended soundly, with the disk synced. The words are the issues in their logs.
pub record ServesFollowed {D T : Type 0} (follows : D → Seen → Type 0) (well : D → Type 0) (tells : D → T → Type 0) (turns : Bool)
    (opened : Station) (commands : List Command) (left : Left SiteValue T) : Type 0 where
  pub parts : ServesParts opened commands left.ending left.site
  pub turning : is_some parts.desk.sites.cycle ≡ turns
  pub count : length opened.line.sizes ≡ length opened.seen.state.halves
  pub reported : IsDeskReported follows well tells opened.seen left.reported parts.desk.ends
  pub sound : OnOk left.sound (AreSound left.reported × IsSynced parts.desk.ends)
  pub words : IsCount (issues_of parts.desk.ends.workers.items) left.words

-- A line was not served, or not put together again after that, and this is told: of the line's device, where no part had one yet; of the devices
-- of the parts, where no desk has served them; or of the devices at a desk of this book, which served the parts with this ending.
pub data IsUnservedReported {D T : Type 0} (follows : D → Seen → Type 0) (well : D → Type 0) (tells : D → T → Type 0) (opened : Station)
    (commands : List Command) : UnservedLog T → Type 0 where
  line : (part : PartLog T) → IsFollowed (Telling follows well tells part) opened.seen
      → IsUnservedReported follows well tells opened commands (unserved.Line part)
  separate : (reported : DeskLog T) (parts : PartsEnd opened) → AreUnserved parts.ends → IsDeskReported follows well tells opened.seen reported parts.ends
      → IsUnservedReported follows well tells opened commands (unserved.Separate reported)
  desk : (reported : DeskLog T) (ending : Ending) (desk : DeskServes opened commands ending)
      → IsDeskReported follows well tells opened.seen reported desk.ends → IsUnservedReported follows well tells opened commands (unserved.Desk reported)
