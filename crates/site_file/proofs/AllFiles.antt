-- What a power cut leaves of all files at one moment, and of each of them.
use Rattle.std.proofs.Common.{◌≡◌, ◌⊎◌, ℕ, Bool, true, false, List, [], ◌∷◌, ◌++◌, length, if◌then◌else◌, refl, sym}
use Rattle.std.proofs.Common.{subst, inl, inr}
use Rattle.site_core.specs.Disk.{StopImage}
use Rattle.site_core.proofs.StopImages.{StopImage-write_begun}
use Rattle.site_file.specs.declared.asking.LineFile.{LineFile}
use Rattle.site_file.specs.Calls.{Call, Asked, tells_length, reads, writes, syncs}
use Rattle.site_file.specs.Files.{File, Becomes, BecomesBy, MayBeLeft, under_way}
use Rattle.site_file.specs.Held.{is_same, of_file, with_file}
use Rattle.site_file.specs.AllFiles.{AreLeft, LeadTo}
use Rattle.site_file.proofs.OneFile.{is_same-true}

-- what is left of a file before a call may be left of it in the call
begins : (call : Call) (file : File) (image : List ℕ) → StopImage file.disk image → StopImage (under_way call file) image
begins tells_length file image stop = stop
begins (reads at count) file image stop = stop
begins (writes at bytes) file image stop = StopImage-write_begun file.disk at (length bytes) image stop
begins syncs file image stop = stop

pub now_left : (calls : List Asked) (file : File) (image : List ℕ) → StopImage file.disk image → MayBeLeft calls file image
now_left [] file image stop = stop
now_left (call ∷ calls) file image stop = inl (begins call.call file image stop)

-- one file after a call on one of them
becomes_one : (call : Asked) (calls : List Asked) (files : LineFile → File) (mid later : File) (name : LineFile) (b : Bool) → is_same name call.file ≡ b
    → Becomes call.call call.succeeded (files call.file) mid → BecomesBy (of_file name calls) (if b then mid else files name) later
    → BecomesBy (if b then call ∷ of_file name calls else of_file name calls) (files name) later
becomes_one call calls files mid later name true same becomes rest =
    (mid, subst (λ (n : LineFile). Becomes call.call call.succeeded (files n) mid) (sym (is_same-true name call.file same)) becomes, rest)
becomes_one call calls files mid later name false other becomes rest = rest

-- what is left at a moment of calls and of others after them is left at one of the former, or of the latter
pub earlier_or_later : (calls others : List Asked) (files : LineFile → File) (images : LineFile → List ℕ) → AreLeft (calls ++ others) files images
    → AreLeft calls files images ⊎ ((laters : LineFile → File) × LeadTo calls files laters × AreLeft others laters images)
earlier_or_later [] others files images left = inr (files, (λ name. refl), left)
earlier_or_later (call ∷ calls) others files images (inl now) = inl (inl now)
earlier_or_later (call ∷ calls) others files images (inr (mid, becomes, left)) =
    elim (earlier_or_later calls others (with_file files call.file mid) images left) [
      | inl early ↦ inl (inr (mid, becomes, early))
      | inr late ↦ inr (late.0, (λ name. becomes_one call calls files mid (late.0 name) name (is_same name call.file) refl becomes (late.1 name)), late.2)
    ]

after_one : (call : Asked) (calls : List Asked) (files : LineFile → File) (mid : File) (image : List ℕ) (name : LineFile) (b : Bool) → is_same name call.file ≡ b
    → Becomes call.call call.succeeded (files call.file) mid → MayBeLeft (of_file name calls) (if b then mid else files name) image
    → MayBeLeft (if b then call ∷ of_file name calls else of_file name calls) (files name) image
after_one call calls files mid image name true same becomes left =
    inr (mid, subst (λ (n : LineFile). Becomes call.call call.succeeded (files n) mid) (sym (is_same-true name call.file same)) becomes, left)
after_one call calls files mid image name false other becomes left = left

before_one : (call : Asked) (calls : List Asked) (file : File) (image : List ℕ) (name : LineFile) (b : Bool)
    → StopImage (if b then under_way call.call file else file.disk) image
    → MayBeLeft (if b then call ∷ of_file name calls else of_file name calls) file image
before_one call calls file image name true stop = inl stop
before_one call calls file image name false stop = now_left (of_file name calls) file image stop

-- what is left of all files is left of each of them
pub left_of_each : (calls : List Asked) (files : LineFile → File) (images : LineFile → List ℕ) → AreLeft calls files images
    → (name : LineFile) → MayBeLeft (of_file name calls) (files name) (images name)
left_of_each [] files images left name = left name
left_of_each (call ∷ calls) files images (inl now) name =
    before_one call calls (files name) (images name) name (is_same name call.file) (now name)
left_of_each (call ∷ calls) files images (inr (mid, becomes, left)) name =
    after_one call calls files mid (images name) name (is_same name call.file) refl becomes
    (left_of_each calls (with_file files call.file mid) images left name)
