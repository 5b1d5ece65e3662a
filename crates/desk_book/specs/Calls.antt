-- The calls of a book under its lock, one after another.
use Rattle.std.specs.Prelude.{◌≡◌, ◌+◌, Bool, true, false, List, [], ◌∷◌, Option, Ok, Err}
use Rattle.std.specs.Option.{option_map}
use Rattle.sii_image.specs.ProcessImage.{ProcessImageParts, process_image}
use Rattle.station_jobs.specs.declared.cycle.CycleNote.{CycleNote}
use Rattle.book_model.specs.Book.{Book, Operation, NoOperation, Issuing, Unsettled, Settling, slave_at}
use Rattle.book_model.specs.Submit.{submit, with_command}
use Rattle.book_model.specs.DiskSteps.{disk_next, disk_done}
use Rattle.book_model.specs.RomSteps.{rom_next, rom_done}
use Rattle.book_model.specs.Open.{finish}
use Rattle.book_model.specs.Reading.{applied, planned}
use Rattle.desk_book.specs.declared.call.Call.{Call}
use Rattle.desk_book.specs.declared.call.Call.TheVariants.{Submitted, DiskAsked, DiskReported, SlaveAsked, SlaveReported, PlanAsked, Finished}

-- What a log keeps of the book's next plan: its prefix of commands, and the bytes of its image. `None` without such an image.
abbrev pub turn_of : Book → Option CycleNote
turn_of book =
    option_map (λ (image : ProcessImageParts). record { prefix = applied book; size = image.outputs + image.inputs }) (process_image (planned book))

-- the book after a call
abbrev pub after : Book → Call → Book
after book (Submitted command (Ok number)) = with_command book command
after book (Submitted command (Err refusal)) = book
after book (DiskAsked answer) = (disk_next book).1
after book (DiskReported outcome) = disk_done book outcome
after book (SlaveAsked slave answer) = (rom_next book slave).1
after book (SlaveReported slave outcome) = rom_done book slave outcome
after book (PlanAsked answer) = book
after book Finished = finish book

-- a job of the slave is out
abbrev pub IsOut : Operation → Type 0
IsOut NoOperation = ⊥
IsOut (Issuing word value) = Unit {0}
IsOut (Unsettled word value taken) = ⊥
IsOut (Settling word value taken) = Unit {0}

-- The call was answered as the book answers it. If it reported an outcome, a job was out.
abbrev pub IsAnswered : Book → Call → Type 0
IsAnswered book (Submitted command answer) = answer ≡ submit book command
IsAnswered book (DiskAsked answer) = answer ≡ (disk_next book).0
IsAnswered book (DiskReported outcome) = book.is_handed_out ≡ true
IsAnswered book (SlaveAsked slave answer) = answer ≡ (rom_next book slave).0
IsAnswered book (SlaveReported slave outcome) = IsOut (slave_at book slave).operation
IsAnswered book (PlanAsked answer) = answer ≡ turn_of book
IsAnswered book Finished = Unit {0}

-- ---- one after another

-- the book after these calls
abbrev pub replayed : Book → List Call → Book
replayed book [] = book
replayed book (call ∷ calls) = replayed (after book call) calls

-- Each of these calls was answered so by the book of that moment.
abbrev pub AreAnswered : Book → List Call → Type 0
AreAnswered book [] = Unit {0}
AreAnswered book (call ∷ calls) = IsAnswered book call × AreAnswered (after book call) calls

-- ---- refusals

-- the call submitted a command that was refused
abbrev pub is_refusal : Call → Bool
is_refusal (Submitted command (Err refusal)) = true
is_refusal call = false
