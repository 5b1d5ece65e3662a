-- Calls of a book don't change what it found at the open.
use Rattle.std.proofs.Common.{◌≡◌, ◌∙◌, ℕ, List, [], ◌∷◌, refl, ap, Ok, Err}
use Rattle.sii_words.specs.Redo.{redone}
use Rattle.jrn_format.specs.declared.journal.Entry.{Entry}
use Rattle.book_model.specs.Entries.{runs_of}
use Rattle.book_model.specs.Book.{Book, base_of}
use Rattle.desk_book.specs.declared.call.Call.{Call}
use Rattle.desk_book.specs.declared.call.Call.TheVariants.{Submitted, DiskAsked, DiskReported, SlaveAsked, SlaveReported, PlanAsked, Finished}
use Rattle.desk_book.specs.Calls.{after, replayed}
use Rattle.desk_book.proofs.KeptLaws.{Keeps, keeps-disk_next, keeps-disk_done, keeps-rom_next, keeps-rom_done}

base-kept : (book later : Book) → Keeps book later → base_of later ≡ base_of book
base-kept book later same =
    ap (λ (w : List (List ℕ)). redone w (runs_of later.found)) same.words ∙ ap (λ (f : List Entry). redone book.words (runs_of f)) same.found

base-after : (book : Book) (call : Call) → base_of (after book call) ≡ base_of book
base-after book (Submitted command (Ok number)) = refl
base-after book (Submitted command (Err refusal)) = refl
base-after book (DiskAsked answer) = base-kept book (after book (DiskAsked answer)) (keeps-disk_next book)
base-after book (DiskReported outcome) = base-kept book (after book (DiskReported outcome)) (keeps-disk_done book outcome)
base-after book (SlaveAsked slave answer) = base-kept book (after book (SlaveAsked slave answer)) (keeps-rom_next book slave)
base-after book (SlaveReported slave outcome) = base-kept book (after book (SlaveReported slave outcome)) (keeps-rom_done book slave outcome)
base-after book (PlanAsked answer) = refl
base-after book Finished = refl

pub base-replayed : (book : Book) (calls : List Call) → base_of (replayed book calls) ≡ base_of book
base-replayed book [] = refl
base-replayed book (call ∷ calls) = base-replayed (after book call) calls ∙ base-after book call
