-- Each call of a book does to it what its event in the main law does.
use Rattle.std.proofs.Common.{◌≡◌, ◌∙◌, sym, ap, Option, Some, Result, Ok, Err, refl, ℕ}
use Rattle.sii_edit.specs.declared.command.Command.{Command}
use Rattle.book_model.specs.declared.refusal.SubmitRefusal.{SubmitRefusal}
use Rattle.book_model.specs.Book.{Book}
use Rattle.book_model.specs.Submit.{submit}
use Rattle.world_law.specs.World.{Reported, World}
use Rattle.world_law.specs.Happenings.{HappensUp, submitted}
use Rattle.desk_book.specs.declared.call.Call.{Call}
use Rattle.desk_book.specs.declared.call.Call.TheVariants.{Submitted, DiskAsked, DiskReported, SlaveAsked, SlaveReported, PlanAsked, Finished}
use Rattle.desk_book.specs.Calls.{after, IsAnswered}
use Rattle.desk_laws.specs.Events.{event_of}

-- the book of a world
abbrev up_in : World → Option Book
up_in world = world.book

submit-after : (book : Book) (command : Command) (answer : Result ℕ SubmitRefusal) → answer ≡ submit book command → (submitted book command (submit book command)).0 ≡ after book (Submitted command answer)
submit-after book command (Ok number) is = rw (sym is) refl
submit-after book command (Err refusal) is = rw (sym is) refl

pub happens-after : (book : Book) (call : Call) (world later : World) (reported : Reported) → world.book ≡ Some book → IsAnswered book call → HappensUp (event_of call) book world reported later → later.book ≡ Some (after book call)
happens-after book (Submitted command answer) world later reported up one h = ap up_in h.1 ∙ ap (λ (b : Book). Some b) (submit-after book command answer one)
happens-after book (DiskAsked answer) world later reported up one h = ap up_in h.1
happens-after book (DiskReported (Ok done)) world later reported up one h = ap up_in h.1.1
happens-after book (DiskReported (Err fault)) world later reported up one h = ap up_in h.1.4
happens-after book (SlaveAsked slave answer) world later reported up one h = ap up_in h.1.is
happens-after book (SlaveReported slave outcome) world later reported up one h = ap up_in h.1.is
happens-after book (PlanAsked answer) world later reported up one h = ap up_in h.1 ∙ up
happens-after book Finished world later reported up one h = ap up_in h.1
