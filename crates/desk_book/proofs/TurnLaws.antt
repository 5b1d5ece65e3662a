-- What the log keeps of a plan that the book answered, and that the book stays the same.
use Rattle.std.proofs.Common.{◌≡◌, ◌∙◌, List, [], ◌∷◌, ◌++◌, Option, refl, ap, Some, None, Ok, Err}
use Rattle.sii_image.specs.declared.plan.Plan.{Plan}
use Rattle.sii_image.specs.declared.fault.ImageFault.TheVariants.{ImageOverLimit}
use Rattle.book_model.specs.Book.{Book}
use Rattle.book_core.specs.Plan.{IsPlan}
use Rattle.station_jobs.specs.declared.cycle.CycleNote.{CycleNote}
use Rattle.desk_book.specs.declared.call.Call.{Call}
use Rattle.desk_book.specs.declared.call.Call.TheVariants.{PlanAsked}
use Rattle.desk_book.specs.Calls.{turn_of, replayed}
use Rattle.desk_book.specs.Asking.{note_of}
use Rattle.desk_book.proofs.CallLaws.{replayed-more}

pub turn-planned : (book : Book) (plan : Plan) → IsPlan book (Ok plan) → Some (note_of plan) ≡ turn_of book
turn-planned book plan is = rw (is.1, is.0) refl

pub turn-over : (book : Book) → IsPlan book (Err ImageOverLimit) → None ≡ turn_of book
turn-over book is = rw is refl

-- a plan that was asked for leaves the book
pub plan-asked : (opened : Book) (calls later now : List Call) (answer : Option CycleNote) → later ≡ calls ++ PlanAsked answer ∷ [] → calls ≡ now → replayed opened later ≡ replayed opened now
plan-asked opened calls later now answer more same = ap (replayed opened) more ∙ replayed-more opened calls (PlanAsked answer) ∙ ap (replayed opened) same
