-- What a slave reads as when its worker begins, and once everything is settled.
use Rattle.std.specs.Prelude.{◌≡◌, ℕ, List, Some, slice_get}
use Rattle.sii_words.specs.Plant.{words_of}
use Rattle.jrn_format.specs.declared.journal.Journal.{Journal}
use Rattle.esc_model.specs.SlaveHalf.{SlaveHalf, MayLeave}
use Rattle.esc_model.specs.WordAccess.{IsIdle}
use Rattle.site_core.specs.State.{State, Seen}
use Rattle.book_model.specs.Book.{Book, contents_of}
use Rattle.book_model.specs.Open.{open_book}
use Rattle.station_jobs.specs.declared.log.SlaveLog.{SlaveLog}
use Rattle.station_jobs.specs.Ends.{Stay}

-- The book was opened on a journal, and hasn't been called since.
abbrev pub IsJustOpened : Book → Type 0
IsJustOpened book = (journal : Journal) × (book ≡ open_book book.words book.capacity journal)

-- There is a half of this slave, and `P` holds of it.
pub record HasHalf (P : SlaveHalf → Type 0) (state : State) (slave : ℕ) : Type 0 where
  pub half : SlaveHalf
  pub here : slice_get state.halves slave ≡ Some half
  pub is : P half

-- The half is idle, and holds these words.
pub record IsIdleWith (words : List ℕ) (half : SlaveHalf) : Type 0 where
  pub idle : IsIdle half
  pub holds : half.words ≡ words

-- The half holds these words, and a power cut leaves no others in it.
pub record ReadsAs (words : List ℕ) (half : SlaveHalf) : Type 0 where
  pub holds : half.words ≡ words
  pub leaves : (left : List ℕ) → MayLeave half left → left ≡ words

-- ---- against the book

-- The slave is idle, and holds the words that the book was opened with.
abbrev pub IsAsOpened : Book → State → ℕ → Type 0
IsAsOpened opened state slave = HasHalf (IsIdleWith (words_of opened.words slave)) state slave

-- The slave reads as the contents after all accepted commands.
abbrev pub ReadsAsContents : Book → State → ℕ → Type 0
ReadsAsContents book state slave = HasHalf (ReadsAs (words_of (contents_of book) slave)) state slave

-- Each slave that was as opened when its worker began reads as the contents at the worker's end.
abbrev pub AllReadAsContents : {S : Type 0} → (opened book : Book) → (S → Seen) → List (Stay S SlaveLog) → Type 0
AllReadAsContents {S} opened book seen workers =
    (slave : ℕ) (end : Stay S SlaveLog) → slice_get workers slave ≡ Some end → IsAsOpened opened (seen end.start).state slave
    → ReadsAsContents book (seen end.site).state slave
