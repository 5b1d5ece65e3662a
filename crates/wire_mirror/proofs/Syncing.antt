-- What is done with the image files, one call after the other.
use Rattle.std.proofs.Common.{◌≡◌, ℕ, suc, ◌+◌, ◌*◌, ◌<◌, Bool, true, false, List, [], ◌∷◌, ◌++◌, length, get_or, Option, Some, None, slice_get, refl, sym, ap, subst, ◌∙◌, append_assoc, arith}
use Rattle.std.proofs.lemmas.Option.{slice_get-get_or}
use Rattle.std.specs.Int.{w16, to_le_bytes}
use Rattle.esc_model.specs.declared.rest.WordWrite.{WordWrite}
use Rattle.site_file.specs.Owned.{file_at}
use Rattle.wire_mirror.specs.declared.images.ImageCall.{ImageCall}
use Rattle.wire_mirror.specs.declared.images.ImageCall.TheVariants as call
use Rattle.wire_mirror.specs.Mirroring.{PutsWord, SyncsBelow, SyncsFile, put, synced}

-- the file of one slave more
pub below_more : {F : Type 0} (slave unsynced : ℕ) (files : List (Option F)) (old mid new : List ImageCall) → SyncsBelow slave unsynced files old mid
    → SyncsFile unsynced slave (file_at (slice_get files slave)) mid new → SyncsBelow (slave + 1) unsynced files old new
below_more slave unsynced files old mid new below here =
    let is : suc slave ≡ slave + 1 = omega arith in
    subst (λ (n : ℕ). SyncsBelow n unsynced files old new) is (mid, below, here)

-- a word was written to a file that is there
pub puts : {F : Type 0} (place : Option F) (file : F) (slave : ℕ) (write : WordWrite) (succeeded : Bool) (old new : List ImageCall) → place ≡ Some file
    → new ≡ old ++ put slave write succeeded → PutsWord place slave write old new
puts (Some here) file slave write succeeded old new is calls = (succeeded, calls)
puts None file slave write succeeded old new is calls = absurd cc

-- and its file was marked
pub marked : (slave : ℕ) (write : WordWrite) (word : ℕ) (bytes : List ℕ) (succeeded : Bool) (old mid new : List ImageCall)
    → word ≡ write.word → bytes ≡ to_le_bytes w16 write.value → succeeded ≡ true → mid ≡ old ++ call.Writes slave (word * 2) bytes succeeded ∷ []
    → new ≡ mid ++ call.Marks slave ∷ [] → new ≡ old ++ put slave write true
marked slave write word bytes succeeded old mid new word_is bytes_are is written marks = rw (marks, written, word_is, bytes_are, is, append_assoc) refl

-- or that failed
pub unmarked : (slave : ℕ) (write : WordWrite) (word : ℕ) (bytes : List ℕ) (succeeded : Bool) (old mid new : List ImageCall)
    → word ≡ write.word → bytes ≡ to_le_bytes w16 write.value → succeeded ≡ false → mid ≡ old ++ call.Writes slave (word * 2) bytes succeeded ∷ []
    → new ≡ mid ++ call.Fails ∷ [] → new ≡ old ++ put slave write false
unmarked slave write word bytes succeeded old mid new word_is bytes_are is written fails = rw (fails, written, word_is, bytes_are, is, append_assoc) refl

-- a file was synced, or that failed
pub synced_well : (slave : ℕ) (succeeded : Bool) (old new : List ImageCall) → succeeded ≡ true → new ≡ old ++ call.Syncs slave succeeded ∷ [] → new ≡ old ++ synced slave true
synced_well slave succeeded old new is syncs = rw (syncs, is) refl

pub synced_badly : (slave : ℕ) (succeeded : Bool) (old mid new : List ImageCall) → succeeded ≡ false → mid ≡ old ++ call.Syncs slave succeeded ∷ []
    → new ≡ mid ++ call.Fails ∷ [] → new ≡ old ++ synced slave false
synced_badly slave succeeded old mid new is syncs fails = rw (fails, syncs, is, append_assoc) refl

-- the file was looked up
pub there : {F : Type 0} (files items : List (Option F)) (slave : ℕ) (place : Option F) (file : F) → items ≡ files → slave < length items
    → place ≡ get_or items slave place → place ≡ Some file → file_at (slice_get files slave) ≡ Some file
there {F} files items slave place file same inside is here =
    let at : slice_get items slave ≡ Some place = slice_get-get_or items slave place inside ∙ ap (λ (p : Option F). Some p) (sym is) in
    subst (λ (xs : List (Option F)). file_at (slice_get xs slave) ≡ Some file) same (ap file_at at ∙ here)
