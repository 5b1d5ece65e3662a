-- What the disk holds doesn't depend on parts of the book that the disk has nothing to do with.
use Rattle.std.proofs.Common.{◌≡◌, false, [], ◌∙◌, sym, subst}
use Rattle.jrn_format.specs.declared.journal.Form.{Form}
use Rattle.jrn_format.specs.Halves.{Halves}
use Rattle.site_core.specs.Disk.{Disk}
use Rattle.book_model.specs.Book.{Book, Doing, Resting, Payload, PayloadSync, OpenGate, OpenSync, CloseGate, CloseSync, FarGate, Mark, MarkSync, Version, VersionSync, is_version_2}
use Rattle.book_model.specs.Frame.{JournalFrame}
use Rattle.book_model.specs.Doing.{Retiring}
use Rattle.book_model.specs.OldFile.{mark_bytes, OldAtRest, OldClosing, BeforeVersion}
use Rattle.book_model.specs.OldDoing.{undivided, OldDoingFits, OldFits}

-- a later book has the same journal, and what was to be retired still is
pub record OldCarries (book later : Book) : Type 0 where
  pub form : later.form ≡ book.form
  pub halves : later.halves ≡ book.halves
  pub retires : Retiring book → Retiring later

pub old-carry : (frame : JournalFrame) (book later : Book) (disk : Disk) → OldCarries book later → (doing : Doing) → OldDoingFits frame book doing disk → OldDoingFits frame later doing disk
old-carry frame book later disk c Resting f =
    subst (λ (h : Halves). OldAtRest frame later.form h.older disk) (sym c.halves) (subst (λ (form : Form). OldAtRest frame form book.halves.older disk) (sym c.form) f)
old-carry frame book later disk c (Payload place entries) f = absurd f
old-carry frame book later disk c (PayloadSync place entries) f = absurd f
old-carry frame book later disk c (OpenGate place entries) f = absurd f
old-carry frame book later disk c (OpenSync place entries) f = absurd f
old-carry frame book later disk c CloseGate f = (c.form ∙ f.0, c.retires f.1, (f.2.0, subst (λ (h : Halves). OldClosing frame h.older f.2.0 disk) (sym c.halves) f.2.1))
old-carry frame book later disk c CloseSync f = (c.form ∙ f.0, c.retires f.1, subst (λ (h : Halves). OldClosing frame h.older 0 disk) (sym c.halves) f.2)
old-carry frame book later disk c FarGate f =
    (subst (λ (h : Halves). h.older ≡ []) (sym c.halves) f.0, (f.1.0, f.1.1, subst (λ (form : Form). BeforeVersion frame form f.1.0 f.1.1 disk) (sym c.form) f.1.2))
old-carry frame book later disk c Mark f =
    (subst (λ (h : Halves). h.older ≡ []) (sym c.halves) f.0, c.form ∙ f.1, (f.2.0, subst (λ (form : Form). BeforeVersion frame form f.2.0 0 disk) (sym c.form) f.2.1))
old-carry frame book later disk c MarkSync f = (subst (λ (h : Halves). h.older ≡ []) (sym c.halves) f.0, subst (λ (form : Form). BeforeVersion frame form mark_bytes 0 disk) (sym c.form) f.1)
old-carry frame book later disk c Version f = (subst (λ (h : Halves). h.older ≡ []) (sym c.halves) f.0, f.1)
old-carry frame book later disk c VersionSync f = (subst (λ (h : Halves). h.older ≡ []) (sym c.halves) f.0, f.1)

-- the later book does this
pub old-goes : (frame : JournalFrame) (book later : Book) (old_disk disk : Disk) → OldCarries book later → OldFits frame book old_disk → (doing : Doing) → later.doing ≡ doing → OldDoingFits frame book doing disk → OldFits frame later disk
old-goes frame book later old_disk disk c fits doing is holds = record {
  old = subst (λ (form : Form). is_version_2 form ≡ false) (sym c.form) fits.old;
  halves = subst (λ (h : Halves). h ≡ undivided h.older) (sym c.halves) fits.halves;
  holds = subst (λ (d : Doing). OldDoingFits frame later d disk) (sym is) (old-carry frame book later disk c doing holds);
}
