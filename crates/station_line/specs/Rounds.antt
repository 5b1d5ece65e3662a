-- A station on which the commands of a script are submitted one by one and served in rounds.
use Rattle.std.specs.Prelude.{◌≡◌, ◌⊎◌, ℕ, List, [], ◌∷◌, length, is_some, true, Result, OnOk, ⊤}
use Rattle.sii_edit.specs.declared.command.Command.{Command}
use Rattle.site_core.specs.Times.{Follows}
use Rattle.book_model.specs.Book.{Book}
use Rattle.book_model.specs.Reading.{live_bytes}
use Rattle.station_alone.specs.declared.choice.Answer.{Answer}
use Rattle.station_alone.specs.declared.choice.Answer.TheVariants.{Accepted, Refused, NoMemory}
use Rattle.station_alone.specs.Station.{Station}
use Rattle.station_alone.specs.Keeping.{GoesOn, Keeps}
use Rattle.station_line.specs.declared.answered.Answered.{Answered}
use Rattle.station_line.specs.declared.answered.Answered.TheVariants.{AllAccepted}

-- The session went on with these commands accepted, and calls alone led its site on. If a power cut before could leave only what is kept, so it could
-- at each moment since.
pub record Goes (commands : List Command) (old new : Station) : Type 0 where
  pub most : ℕ
  pub on : GoesOn commands most old new
  pub led : Follows old.seen new.seen
  pub keeps : Keeps commands old new

-- all accepted commands are durable, and nothing is live
pub record IsServed (book : Book) : Type 0 where
  pub durable : book.durable ≡ length book.accepted
  pub nothing : live_bytes book ≡ 0

-- the book is served, or a fault has closed it
abbrev pub IsServedOrClosed : Book → Type 0
IsServedOrClosed book = IsServed book ⊎ (is_some book.fault ≡ true)

-- the answer accepts the command
abbrev pub IsAccepted : Answer → Type 0
IsAccepted (Accepted number) = ⊤
IsAccepted answer = ⊥

-- this is an answer to a command: it is accepted or refused, or memory was refused
abbrev pub AnswersCommand : Answer → Type 0
AnswersCommand (Accepted number) = ⊤
AnswersCommand (Refused refusal) = ⊤
AnswersCommand NoMemory = ⊤
AnswersCommand answer = ⊥

-- these are some of the commands, in the same order
abbrev pub AreAmong : List Command → List Command → Type 0
AreAmong some [] = some ≡ []
AreAmong some (command ∷ commands) = ((rest : List Command) × (some ≡ command ∷ rest) × AreAmong rest commands) ⊎ AreAmong some commands

-- Some of these commands were accepted: all of them if the result is no fault and none was refused.
pub record SubmitsSo {E : Type 0} (commands : List Command) (result : Result (Unit {0}) E) (before after : Answered)
    (old new : Station) : Type 0 where
  pub accepted : List Command
  pub goes : Goes accepted old new
  pub among : AreAmong accepted commands
  pub all : OnOk result (after ≡ AllAccepted → (before ≡ AllAccepted) × (accepted ≡ commands))

-- The commands were submitted so, and then served, or a fault closed the book, if the result is no fault.
pub record ServesOrCloses {E : Type 0} (commands : List Command) (result : Result (Unit {0}) E) (before after : Answered)
    (old new : Station) : Type 0 where
  pub submits : SubmitsSo commands result before after old new
  pub ended : OnOk result (IsServedOrClosed new.book)

-- The commands were submitted so, and then served if the result is no fault.
pub record ServesSo {E : Type 0} (commands : List Command) (result : Result (Unit {0}) E) (before after : Answered)
    (old new : Station) : Type 0 where
  pub submits : SubmitsSo commands result before after old new
  pub served : OnOk result (IsServed new.book)
