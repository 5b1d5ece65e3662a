-- The process data cycles of a desk.
use Rattle.std.proofs.Common.{List, [], Option, Some, None, refl, sym, subst}
use Rattle.std.specs.Prelude.{IfSome}
use Rattle.book_model.specs.Book.{Book, base_of}
use Rattle.station_jobs.specs.declared.cycle.CycleNote.{CycleNote}
use Rattle.station_jobs.specs.Ends.{Stay}
use Rattle.desk_book.specs.declared.call.Call.{Call}
use Rattle.desk_book.specs.Calls.{replayed, AreAnswered}
use Rattle.desk_book.specs.Logs.{cycle_log}
use Rattle.book_core.specs.Appending.{AppendsNext}
use Rattle.desk_laws.proofs.TurnLaws.{turns-are}
use Rattle.desk_laws.proofs.FallLaws.{turns-rise}
use Rattle.station_threads.specs.Closing.{IsCycleOf, AreTurnsOf}

module _ (opened : Book) (calls : List Call) (next : AppendsNext opened) (answered : AreAnswered opened calls) where
  handed : AreTurnsOf opened calls (cycle_log calls)
  handed = record {
    images = turns-are (base_of opened) (replayed opened calls).accepted opened calls [] answered refl refl tt;
    rising = turns-rise opened calls next answered;
  }

  -- the cycle's end has the cycles that the calls handed out
  pub turns-of : {S : Type 0} (cycle : Option (Stay S (List CycleNote))) → IsCycleOf calls cycle → IfSome cycle (λ end. AreTurnsOf opened calls end.log)
  turns-of None is = tt
  turns-of (Some end) is = subst (λ (l : List CycleNote). AreTurnsOf opened calls l) (sym is) handed
