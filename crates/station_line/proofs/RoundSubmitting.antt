-- Commands that are submitted one by one, of which some are accepted.
use Rattle.std.proofs.Common.{◌≡◌, ℕ, List, [], ◌∷◌, ◌++◌, refl, sym, ◌∙◌, ap, subst, inl, inr, Result, Ok, Err}
use Rattle.std.specs.Prelude.{IsErrAnd, OnOk}
use Rattle.std.proofs.lemmas.List.{append-nil}
use Rattle.sii_edit.specs.declared.command.Command.{Command}
use Rattle.sii_edit.specs.declared.refusal.Cause.{Cause}
use Rattle.sii_edit.specs.declared.refusal.Cause.TheVariants as causes
use Rattle.book_model.specs.declared.refusal.SubmitRefusal.{SubmitRefusal}
use Rattle.book_model.specs.declared.refusal.SubmitRefusal.TheVariants as refusals
use Rattle.station_alone.specs.declared.choice.Choice.TheVariants.{Submit}
use Rattle.station_alone.specs.declared.choice.Answer.{Answer}
use Rattle.station_alone.specs.declared.choice.Answer.TheVariants.{Accepted, Refused, Did, Idle, Ended, Failed, NoMemory}
use Rattle.station_alone.specs.Station.{Station}
use Rattle.station_alone.specs.Steps.{reported_number, reported_refusal}
use Rattle.station_alone.specs.Keeping.{Went, accepted_by}
use Rattle.station_files.specs.declared.faults.Fault.{Fault}
use Rattle.station_line.specs.declared.answered.Answered.{Answered}
use Rattle.station_line.specs.declared.answered.Answered.TheVariants.{AllAccepted}
use Rattle.station_line.specs.Rounds.{AnswersCommand, AreAmong, Goes, IsAccepted, SubmitsSo}
use Rattle.station_line.proofs.Extending.{one_step}
use Rattle.station_line.proofs.RoundLaws.{goes-by, goes-none, goes-then}

-- ---- some of the commands

pub among-none : (commands : List Command) → AreAmong [] commands
among-none [] = refl
among-none (command ∷ commands) = inr (among-none commands)

pub among-then : (some more first second : List Command) → AreAmong some first → AreAmong more second → AreAmong (some ++ more) (first ++ second)
among-then some more [] second one two = subst (λ (s : List Command). AreAmong (s ++ more) second) (sym one) two
among-then some more (command ∷ first) second (inl (rest, is, one)) two =
    inl (rest ++ more, ap (λ (s : List Command). s ++ more) is, among-then rest more first second one two)
among-then some more (command ∷ first) second (inr one) two = inr (among-then some more first second one two)

among-more : (some first second : List Command) → AreAmong some first → AreAmong some (first ++ second)
among-more some first second one = subst (λ (s : List Command). AreAmong s (first ++ second)) (append-nil some) (among-then some [] first second one (among-none second))

-- ---- one command

pub all-by : (command : Command) (answer : Answer) → IsAccepted answer → accepted_by (Submit command) answer ≡ command ∷ []
all-by command (Accepted number) is = refl
all-by command (Refused refusal) is = absurd is
all-by command Did is = absurd is
all-by command Idle is = absurd is
all-by command Ended is = absurd is
all-by command (Failed fault) is = absurd is
all-by command NoMemory is = absurd is

none-by : (command : Command) (answer : Answer) → (IsAccepted answer → ⊥) → accepted_by (Submit command) answer ≡ []
none-by command (Accepted number) not = absurd (not tt)
none-by command (Refused refusal) not = refl
none-by command Did not = refl
none-by command Idle not = refl
none-by command Ended not = refl
none-by command (Failed fault) not = refl
none-by command NoMemory not = refl

among-by : (command : Command) (answer : Answer) → AreAmong (accepted_by (Submit command) answer) (command ∷ [])
among-by command (Accepted number) = inl ([], refl, refl)
among-by command (Refused refusal) = inr refl
among-by command Did = inr refl
among-by command Idle = inr refl
among-by command Ended = inr refl
among-by command (Failed fault) = inr refl
among-by command NoMemory = inr refl

-- the answer to a command that was submitted
reported-cause : (refusal : SubmitRefusal) (cause : Cause) → AnswersCommand (reported_refusal refusal cause)
reported-cause refusal (causes.BadCategory kind) = tt
reported-cause refusal causes.NoRoom = tt
reported-cause refusal causes.NoSlave = tt
reported-cause refusal causes.SameSlave = tt
reported-cause refusal causes.EmptyGroup = tt
reported-cause refusal causes.GroupTooLong = tt
reported-cause refusal causes.ImageTooLong = tt
reported-cause refusal causes.BadCheck = tt
reported-cause refusal causes.NoSuchCategory = tt
reported-cause refusal causes.SeveralCategories = tt
reported-cause refusal causes.BadChain = tt
reported-cause refusal causes.ImageOverLimit = tt
reported-cause refusal causes.Memory = tt
reported-cause refusal causes.WrongIdentity = tt

reported-number : (result : Result ℕ SubmitRefusal) → AnswersCommand (reported_number result)
reported-number (Ok number) = tt
reported-number (Err (refusals.Command refusal)) = reported-cause (refusals.Command refusal) refusal.cause
reported-number (Err refusals.TooLarge) = tt
reported-number (Err refusals.Full) = tt
reported-number (Err refusals.Closed) = tt
reported-number (Err refusals.OldJournal) = tt

pub answers-command : (command : Command) (answer : Answer) (old new : Station) → Went (Submit command) old answer new → AnswersCommand answer
answers-command command answer old new went = subst AnswersCommand (sym went.steps.answered) (reported-number went.steps.result)

pub goes-went : (command : Command) (answer : Answer) (old new : Station) → Went (Submit command) old answer new → Goes (accepted_by (Submit command) answer) old new
goes-went command answer old new went = goes-by (accepted_by (Submit command) answer) 0 old new went.goes_on
    (one_step (Submit command) old answer new went.steps) went.keeps

-- a command that has to wait isn't accepted
pub goes-refused : (command : Command) (answer : Answer) (old new : Station) → (IsAccepted answer → ⊥) → Went (Submit command) old answer new → Goes [] old new
goes-refused command answer old new not went = subst (λ (l : List Command). Goes l old new) (none-by command answer not) (goes-went command answer old new went)

-- ---- several commands

module _ {E : Type 0} where
  all-on : (commands accepted : List Command) (before after : Answered) (result : Result (Unit {0}) E) → (after ≡ AllAccepted → (before ≡ AllAccepted) × (accepted ≡ commands)) → OnOk result (after ≡ AllAccepted → (before ≡ AllAccepted) × (accepted ≡ commands))
  all-on commands accepted before after (Ok done) all = all
  all-on commands accepted before after (Err fault) all = tt

  pub submits-none : (answered : Answered) (s : Station) → SubmitsSo {E = E} [] (Ok tt) answered answered s s
  submits-none answered s = record { accepted = []; goes = goes-none s; among = refl; all = λ done. (done, refl) }

  -- a fault came first
  pub submits-failed : (commands : List Command) (fault : E) (before after : Answered) (old new : Station) → Goes [] old new → SubmitsSo {E = E} commands (Err fault) before after old new
  submits-failed commands fault before after old new goes = record { accepted = []; goes = goes; among = among-none commands; all = tt }

  -- the command was answered, after some rounds
  pub submits-one : (command : Command) (answer : Answer) (result : Result (Unit {0}) E) (before answered after : Answered) (a b c : Station) → answered ≡ before → Goes [] a b → Went (Submit command) b answer c
      → (after ≡ AllAccepted → (answered ≡ AllAccepted) × IsAccepted answer) → SubmitsSo {E = E} (command ∷ []) result before after a c
  submits-one command answer result before answered after a b c same first went all = record {
    accepted = accepted_by (Submit command) answer;
    goes = goes-then [] (accepted_by (Submit command) answer) a b c first (goes-went command answer b c went);
    among = among-by command answer;
    all = all-on (command ∷ []) (accepted_by (Submit command) answer) before after result (λ done. let x = all done in (sym same ∙ x.0, all-by command answer x.1));
  }

  all-then : (first second one two : List Command) (before answered after : Answered) (result : Result (Unit {0}) E) → (answered ≡ AllAccepted → (before ≡ AllAccepted) × (one ≡ first)) → OnOk result (after ≡ AllAccepted → (answered ≡ AllAccepted) × (two ≡ second))
      → OnOk result (after ≡ AllAccepted → (before ≡ AllAccepted) × (one ++ two ≡ first ++ second))
  all-then first second one two before answered after (Ok done) x y = λ is.
      let q = y is in
      let p = x q.0 in
      (p.0, ap (λ (l : List Command). l ++ two) p.1 ∙ ap (λ (l : List Command). first ++ l) q.1)
  all-then first second one two before answered after (Err fault) x y = tt

  pub submits-then : (first second : List Command) (result : Result (Unit {0}) E) (before answered after : Answered) (a b c : Station) → SubmitsSo {E = E} first (Ok tt) before answered a b → SubmitsSo {E = E} second result answered after b c
      → SubmitsSo {E = E} (first ++ second) result before after a c
  submits-then first second result before answered after a b c one two = record {
    accepted = one.accepted ++ two.accepted;
    goes = goes-then one.accepted two.accepted a b c one.goes two.goes;
    among = among-then one.accepted two.accepted first second one.among two.among;
    all = all-then first second one.accepted two.accepted before answered after result one.all two.all;
  }

  -- a fault came between two of the commands
  pub submits-cut : (first second : List Command) (fault other : E) (before after : Answered) (a b : Station) → SubmitsSo {E = E} first (Err fault) before after a b → SubmitsSo {E = E} (first ++ second) (Err other) before after a b
  submits-cut first second fault other before after a b one =
      record { accepted = one.accepted; goes = one.goes; among = among-more one.accepted first second one.among; all = tt }

  -- the next of the commands was submitted, and a fault came
  pub submits-stopped : (first : List Command) (command : Command) (rest all : List Command) (fault other : E) (before answered after : Answered) (a b c : Station) → (first ++ command ∷ []) ++ rest ≡ all
      → SubmitsSo {E = E} first (Ok tt) before answered a b → SubmitsSo {E = E} (command ∷ []) (Err fault) answered after b c → SubmitsSo {E = E} all (Err other) before after a c
  submits-stopped first command rest all fault other before answered after a b c is one two =
      subst (λ (l : List Command). SubmitsSo {E = E} l (Err other) before after a c) is
      (submits-cut (first ++ command ∷ []) rest fault other before after a c (submits-then first (command ∷ []) (Err fault) before answered after a b c one two))

-- ---- a fault that is handed on

pub handed_on : {T : Type 0} (result : Result T Fault) (fault : Fault) → IsErrAnd result (λ (other : Fault). other ≡ fault) → result ≡ Err fault
handed_on (Ok value) fault is = absurd is
handed_on (Err other) fault is = ap Err is
