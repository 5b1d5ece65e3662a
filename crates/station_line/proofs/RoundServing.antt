-- A station whose commands were submitted, and then served.
use Rattle.std.proofs.Common.{◌≡◌, true, false, List, [], ap, subst, inl, inr, Option, None, Result, Ok, Err}
use Rattle.std.specs.Prelude.{OnOk, is_some}
use Rattle.std.proofs.lemmas.List.{append-nil}
use Rattle.sii_edit.specs.declared.command.Command.{Command}
use Rattle.book_model.specs.declared.fault.Fault.{Fault}
use Rattle.book_model.specs.Book.{Book}
use Rattle.station_alone.specs.Station.{Station}
use Rattle.station_line.specs.declared.answered.Answered.{Answered}
use Rattle.station_line.specs.Rounds.{Goes, IsServed, IsServedOrClosed, ServesOrCloses, ServesSo, SubmitsSo}
use Rattle.station_line.proofs.RoundLaws.{goes-then}

never-closed : (fault : Option Fault) → fault ≡ None → is_some fault ≡ true → ⊥
never-closed fault none some = let never : is_some fault ≡ false = ap is_some none in absurd cc

-- where no fault has closed the book it is served
served-still : (book : Book) → IsServedOrClosed book → book.fault ≡ None → IsServed book
served-still book (inl served) none = served
served-still book (inr closed) none = absurd (never-closed book.fault none closed)

module _ {E : Type 0} where
  served-on : (result : Result (Unit {0}) E) (book : Book) → IsServedOrClosed book → OnOk result (book.fault ≡ None) → OnOk result (IsServed book)
  served-on (Ok done) book served none = served-still book served none
  served-on (Err fault) book served none = tt

  all-still : {P : Type 0} (result : Result (Unit {0}) E) → P → OnOk result P
  all-still (Ok done) p = p
  all-still (Err fault) p = tt

  -- rounds were made after the commands were submitted
  pub submits-on : (commands : List Command) (result : Result (Unit {0}) E) (before after : Answered) (a b c : Station) → SubmitsSo {E = E} commands (Ok tt) before after a b → Goes [] b c → SubmitsSo {E = E} commands result before after a c
  submits-on commands result before after a b c one two = record {
    accepted = one.accepted;
    goes = subst (λ (l : List Command). Goes l a c) (append-nil one.accepted) (goes-then one.accepted [] a b c one.goes two);
    among = one.among;
    all = all-still result one.all;
  }

  -- they were served in rounds, or a fault has closed the book, or the rounds ended with a fault
  pub closes-on : (commands : List Command) (result : Result (Unit {0}) E) (before after : Answered) (a b c : Station) → SubmitsSo {E = E} commands (Ok tt) before after a b → Goes [] b c → OnOk result (IsServedOrClosed c.book)
      → ServesOrCloses {E = E} commands result before after a c
  closes-on commands result before after a b c one two ended = record { submits = submits-on commands result before after a b c one two; ended = ended }

  -- a fault came as they were served
  pub serves-unserved : (commands : List Command) (fault : E) (before after : Answered) (a b : Station) → ServesOrCloses {E = E} commands (Err fault) before after a b → ServesSo {E = E} commands (Err fault) before after a b
  serves-unserved commands fault before after a b one = record { submits = one.submits; served = tt }

  -- they were served, or a fault has closed the book, and is returned
  pub serves-on : (commands : List Command) (result : Result (Unit {0}) E) (before after : Answered) (a b : Station) → ServesOrCloses {E = E} commands (Ok tt) before after a b → OnOk result (b.book.fault ≡ None)
      → ServesSo {E = E} commands result before after a b
  serves-on commands result before after a b one none = record {
    submits = record { accepted = one.submits.accepted; goes = one.submits.goes; among = one.submits.among; all = all-still result one.submits.all };
    served = served-on result b.book one.ended none;
  }
