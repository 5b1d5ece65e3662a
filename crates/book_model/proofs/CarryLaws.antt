-- What the disk holds doesn't depend on parts of the book that the disk has nothing to do with.
use Rattle.std.proofs.Common.{◌≡◌, inl, inr, ℕ, Bool, true, false, List, [], ◌∷◌, ◌++◌, length, sym, subst}
use Rattle.jrn_format.specs.declared.journal.Entry.{Entry}
use Rattle.jrn_format.specs.declared.journal.Spelling.TheVariants.{WithGeneration}
use Rattle.jrn_format.specs.Batch.{spelt_after}
use Rattle.jrn_format.specs.Halves.{Halves, Place, batch_in}
use Rattle.site_core.specs.Disk.{Disk}
use Rattle.book_model.specs.Book.{Book, Doing, Resting, Payload, PayloadSync, OpenGate, OpenSync, CloseGate, CloseSync, FarGate, Mark, MarkSync, Version, VersionSync}
use Rattle.book_model.specs.Frame.{JournalFrame}
use Rattle.book_model.specs.Phases.{AtRest, HasPayload, HasBatch, HasGate, HasClosing}
use Rattle.book_model.specs.Doing.{Appending, Retiring, OpensGate, DoingFits}

-- the payload of a batch in these halves
abbrev bytes_in : Halves → Place → List Entry → List ℕ
bytes_in halves place entries = spelt_after WithGeneration (batch_in halves place entries).generation entries ++ 0 ∷ []

-- a later book has the same halves, and what was to be appended or retired still is
pub record Carries (book later : Book) : Type 0 where
  pub halves : later.halves ≡ book.halves
  pub appends : (place : Place) (entries : List Entry) → Appending book place entries → Appending later place entries
  pub retires : Retiring book → Retiring later

opens : (frame : JournalFrame) (book later : Book) (disk : Disk) (same : later.halves ≡ book.halves) (place : Place) (entries : List Entry) (out failed : Bool) → OpensGate frame book place entries out failed disk → OpensGate frame later place entries out failed disk
opens frame book later disk same place entries true failed g = (g.0, subst (λ (h : Halves). HasGate frame h place entries g.0 disk) (sym same) g.1)
opens frame book later disk same place entries false false n = subst (λ (h : Halves). HasBatch frame h place entries disk) (sym same) n
opens frame book later disk same place entries false true (inl n) = inl (subst (λ (h : Halves). HasBatch frame h place entries disk) (sym same) n)
opens frame book later disk same place entries false true (inr g) = inr (g.0, subst (λ (h : Halves). HasGate frame h place entries g.0 disk) (sym same) g.1)

pub carry : (frame : JournalFrame) (book later : Book) (disk : Disk) → Carries book later → (out failed : Bool) (doing : Doing) → DoingFits frame book doing out failed disk → DoingFits frame later doing out failed disk
carry frame book later disk c out failed Resting f = subst (λ (h : Halves). AtRest frame h disk) (sym c.halves) f
carry frame book later disk c out failed (Payload place entries) f =
    (f.0, c.appends place entries f.1, (f.2.0, subst (λ (h : Halves). (length f.2.0 ≡ length (bytes_in h place entries)) × HasPayload frame h place f.2.0 disk) (sym c.halves) f.2.1))
carry frame book later disk c out failed (PayloadSync place entries) f = (c.appends place entries f.0, subst (λ (h : Halves). HasPayload frame h place (bytes_in h place entries) disk) (sym c.halves) f.1)
carry frame book later disk c out failed (OpenGate place entries) f = (c.appends place entries f.0, opens frame book later disk c.halves place entries out failed f.1)
carry frame book later disk c out failed (OpenSync place entries) f = (c.appends place entries f.0, subst (λ (h : Halves). HasGate frame h place entries 0xA5 disk) (sym c.halves) f.1)
carry frame book later disk c out failed CloseGate f = (f.0, c.retires f.1, (f.2.0, subst (λ (h : Halves). HasClosing frame h f.2.0 disk) (sym c.halves) f.2.1))
carry frame book later disk c out failed CloseSync f = (c.retires f.0, subst (λ (h : Halves). HasClosing frame h 0 disk) (sym c.halves) f.1)
carry frame book later disk c out failed FarGate f = absurd f
carry frame book later disk c out failed Mark f = absurd f
carry frame book later disk c out failed MarkSync f = absurd f
carry frame book later disk c out failed Version f = absurd f
carry frame book later disk c out failed VersionSync f = absurd f
