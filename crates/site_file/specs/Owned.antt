-- The files that a device owns.
use Rattle.std.specs.Prelude.{◌≡◌, ◌⊎◌, ℕ, ◌==◌, Bool, false, List, [], Option, Some, None, slice_get, slice_set, is_some, IsTrue}
use Rattle.std.specs.Prelude.{if◌then◌else◌}
use Rattle.site_shadow.specs.declared.lending.LinePart.{LinePart}
use Rattle.site_shadow.specs.declared.lending.LinePart.TheVariants as part
use Rattle.site_file.specs.declared.asking.LineFile.{LineFile}
use Rattle.site_file.specs.declared.asking.LineFile.TheVariants.{Journal}
use Rattle.site_file.specs.declared.owned.LentImage.{LentImage}
use Rattle.site_file.specs.declared.owned.OwnedFiles.{OwnedFiles}
use Rattle.site_file.specs.Parts.{is_of}

-- the file, if there is a place for it and it lies there
abbrev pub file_at : {F : Type 0} → Option (Option F) → Option F
file_at (Some file) = file
file_at None = None

abbrev pub or_lent : {F : Type 0} → Option (LentImage F) → (slave : ℕ) → Option F → Option F
or_lent (Some image) slave other = if image.slave == slave then Some image.file else other
or_lent None slave other = other

-- the image of a slave, if it is owned
abbrev pub image_in : {F : Type 0} → OwnedFiles F → ℕ → Option F
image_in files slave = or_lent files.lent slave (file_at (slice_get files.images.items slave))

-- A file can't be asked: it isn't one of the part's, or it isn't owned.
abbrev pub Lacks : {F : Type 0} → Option LinePart → LineFile → Option F → Type 0
Lacks part name file = (is_of part name ≡ false) ⊎ (is_some file ≡ false)

-- The journal can't be asked: a call has failed, or it isn't one of the part's, or it isn't owned.
abbrev pub LacksJournal : {F : Type 0} → Option LinePart → (has_failed : Bool) → OwnedFiles F → Type 0
LacksJournal part has_failed files = IsTrue has_failed ⊎ Lacks part Journal files.journal

-- No image is owned.
pub record OwnsNoImage {F : Type 0} (files : OwnedFiles F) : Type 0 where
  pub places : files.images.items ≡ []
  pub lent : files.lent ≡ None

-- the image of a slave, if it is there, as the one image of the slave's part
abbrev pub lent_image : {F : Type 0} → (slave : ℕ) → Option F → Option (LentImage F)
lent_image slave (Some file) = Some (record { slave = slave; file = file })
lent_image slave None = None

-- The journal is taken away, and no other file.
pub record TakesJournal {F : Type 0} (old taken new : OwnedFiles F) : Type 0 where
  pub no_image : OwnsNoImage taken
  pub journal : taken.journal ≡ old.journal
  pub left : new ≡ record old { journal = None }

-- The image of a slave is taken away, and no other file.
pub record TakesImage {F : Type 0} (slave : ℕ) (old taken new : OwnedFiles F) : Type 0 where
  pub no_journal : taken.journal ≡ None
  pub places : taken.images.items ≡ []
  pub image : taken.lent ≡ lent_image slave (file_at (slice_get old.images.items slave))
  pub left : new.images.items ≡ slice_set old.images.items slave None
  pub same : (new.journal ≡ old.journal) × (new.lent ≡ old.lent)

-- No file is taken away.
pub record TakesNothing {F : Type 0} (old taken new : OwnedFiles F) : Type 0 where
  pub no_image : OwnsNoImage taken
  pub no_journal : taken.journal ≡ None
  pub same : new ≡ old

-- The files of a part are taken away: the disk's is the journal, and a slave's is its image.
abbrev pub Takes : {F : Type 0} → LinePart → (old taken new : OwnedFiles F) → Type 0
Takes part.Disk old taken new = TakesJournal old taken new
Takes (part.Slave slave) old taken new = TakesImage slave old taken new
Takes part.Process old taken new = TakesNothing old taken new

-- the journal that comes back, or else the one that was there
abbrev pub journal_back : {F : Type 0} → (old back : Option F) → Option F
journal_back old (Some file) = Some file
journal_back old None = old

-- the images, with the one of a slave's part in its place
abbrev pub with_lent : {F : Type 0} → List (Option F) → Option (LentImage F) → List (Option F)
with_lent images (Some image) = slice_set images image.slave (Some image.file)
with_lent images None = images

-- The files of a part are put back: its journal, and its image in the slave's place.
pub record PutsBack {F : Type 0} (old back new : OwnedFiles F) : Type 0 where
  pub journal : new.journal ≡ journal_back old.journal back.journal
  pub images : new.images.items ≡ with_lent old.images.items back.lent
  pub lent : new.lent ≡ old.lent
