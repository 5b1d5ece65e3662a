-- Whether a valid command fits into the journal and the queue.
use Rattle.std.specs.Prelude.{List, Result, Ok, Err, if◌then◌else◌}
use Rattle.sii_words.specs.declared.run.Run.{Run}
use Rattle.book_model.specs.declared.refusal.SubmitRefusal.{SubmitRefusal}
use Rattle.book_model.specs.declared.refusal.SubmitRefusal.TheVariants.{TooLarge, Full}
use Rattle.book_model.specs.Book.{Book}
use Rattle.book_model.specs.Submit.{is_too_large, is_full}

-- The answer for a valid command with these runs: TooLarge, else Full, else it fits.
abbrev pub room_for : Book → List Run → Result (Unit {0}) SubmitRefusal
room_for book runs = if is_too_large book runs then Err TooLarge else if is_full book runs then Err Full else Ok tt
