-- Image files that are written one after the other, where they aren't there.
use Rattle.std.proofs.Common.{◌≡◌, ◌≢◌, ◌⊎◌, ℕ, zero, suc, ◌+◌, ◌<◌, List, [], ◌∷◌, ◌++◌, Option, None, IfSome, IsSomeAnd, Contains, length}
use Rattle.std.proofs.Common.{get_or, String, Global, string_bytes, sym, ap, ◌∙◌, subst, arith}
use Rattle.std.specs.Prelude.{⊤}
use Rattle.std.specs.List.{AllByRecursion, AllZip}
use Rattle.sii_words.specs.Words.{bytes_of}
use Rattle.station_files.specs.Files.{Known, HasBytes, IsAbsent, ChangesOnly}
use Rattle.station_files.specs.FileNames.{IsLineSeparate, spelt}
use Rattle.station_files.specs.LineFiles.{SpellsWords}
use Rattle.station_files.specs.Locations.{AreSeparate, Leads, StandSeparate}
use Rattle.station_text.specs.declared.line_file.LineFile.{LineFile}
use Rattle.wire_scan.specs.Backup.{AreDistinct, MayStay}

-- ---- names that stand apart

-- no image file has this name
abbrev pub IsOther : List ℕ → List (String Global) → Type 0
IsOther name images = AllByRecursion (λ (image : String Global). name ≢ string_bytes image) images

-- a name stands apart from those of the images and of the line file
separate_of : (leads : Leads) (one : List ℕ) (images : List (String Global)) (name : List ℕ) → AllByRecursion (StandSeparate leads one) (spelt images ++ name ∷ []) → IsOther one images × (one ≢ name)
separate_of leads one [] name separate = (tt, separate.0.names)
separate_of leads one (x ∷ xs) name separate = let rest = separate_of leads one xs name separate.1 in ((separate.0.names, rest.0), rest.1)

-- the images stand apart from one another and from the line file
images_separate : (leads : Leads) (images : List (String Global)) (name : List ℕ) → AreSeparate leads (length (spelt images)) (spelt images ++ name ∷ []) → AreDistinct images × IsOther name images
images_separate leads [] name separate = (tt, tt)
images_separate leads (x ∷ xs) name separate =
    let one = separate_of leads (string_bytes x) xs name separate.0 in
    let rest = images_separate leads xs name separate.1 in
    ((one.0, rest.0), ((λ e. one.1 (sym e)), rest.1))

pub distinct_images : (leads : Leads) (line : LineFile) (name : List ℕ) → IsLineSeparate leads line name → AreDistinct line.images.items
distinct_images leads line name separate = (images_separate leads line.images.items name separate.1).0

pub line_file_is_other : (leads : Leads) (line : LineFile) (name : List ℕ) → IsLineSeparate leads line name → IsOther name line.images.items
line_file_is_other leads line name separate = (images_separate leads line.images.items name separate.1).1

pub journal_is_other : (leads : Leads) (line : LineFile) (name : List ℕ) → IsLineSeparate leads line name → IsOther (string_bytes line.journal) line.images.items × (string_bytes line.journal ≢ name)
journal_is_other leads line name separate = separate_of leads (string_bytes line.journal) line.images.items name separate.0

-- such a name isn't among those of the images
pub not_named : (images : List (String Global)) (name : List ℕ) → IsOther name images → ¬ Contains (spelt images) name
not_named [] name other (k, inside, is) = absurd (omega (arith, inside))
not_named (x ∷ xs) name other (zero, inside, is) = other.0 (sym is)
not_named (x ∷ xs) name other (suc k, inside, is) = not_named xs name other.1 (k, omega (arith, inside), is)

-- ---- the loop

-- the first `i` image files have the words of their slaves, and each other one may stay
abbrev pub AreWritten : Known → List (String Global) → List (List ℕ) → ℕ → Type 0
AreWritten files [] [] i = ⊤
AreWritten files [] (w ∷ ws) i = ⊥
AreWritten files (x ∷ xs) [] i = ⊥
AreWritten files (x ∷ xs) (w ∷ ws) zero = MayStay files (string_bytes x) w × AreWritten files xs ws zero
AreWritten files (x ∷ xs) (w ∷ ws) (suc i) = SpellsWords files (string_bytes x) w × AreWritten files xs ws i

pub none_written : (files : Known) (images : List (String Global)) (plant : List (List ℕ)) → AllZip (MayStay files) (spelt images) plant → AreWritten files images plant 0
none_written files [] [] validated = tt
none_written files [] (w ∷ ws) validated = absurd validated
none_written files (x ∷ xs) [] validated = absurd validated
none_written files (x ∷ xs) (w ∷ ws) validated = (validated.0, none_written files xs ws validated.1)

pub all_written : (files : Known) (images : List (String Global)) (plant : List (List ℕ)) (i : ℕ) → i ≡ length images → AreWritten files images plant i → AllZip (SpellsWords files) (spelt images) plant
all_written files [] [] i all written = tt
all_written files [] (w ∷ ws) i all written = absurd written
all_written files (x ∷ xs) [] i all written = absurd written
all_written files (x ∷ xs) (w ∷ ws) zero all written = absurd (omega (arith, all))
all_written files (x ∷ xs) (w ∷ ws) (suc i) all written = (written.0, all_written files xs ws i (omega (arith, all)) written.1)

-- what is known of a file stays where another one is written
pub stays : (P : Option (Option (List ℕ)) → Type 0) (old new : Known) (name other : List ℕ) → ChangesOnly old new name → other ≢ name → P (old other) → P (new other)
stays P old new name other changes separate holds = subst P (sym (changes other separate)) holds

others_stay : (old new : Known) (images : List (String Global)) (plant : List (List ℕ)) (name : List ℕ) → ChangesOnly old new name → IsOther name images → AreWritten old images plant 0 → AreWritten new images plant 0
others_stay old new [] [] name changes other written = tt
others_stay old new [] (w ∷ ws) name changes other written = absurd written
others_stay old new (x ∷ xs) [] name changes other written = absurd written
others_stay old new (x ∷ xs) (w ∷ ws) name changes other written =
    let P : Option (Option (List ℕ)) → Type 0 = λ found. IfSome found (λ held. held ≡ None) ⊎ IfSome found (λ held. IsSomeAnd held (λ there. bytes_of w ≡ there)) in
    (stays P old new name (string_bytes x) changes (λ e. other.0 (sym e)) written.0, others_stay old new xs ws name changes other.1 written.1)

-- the words stay where the file of another name is written
pub words_stay : (old new : Known) (images : List (String Global)) (plant : List (List ℕ)) (name : List ℕ) → ChangesOnly old new name → IsOther name images → AllZip (SpellsWords old) (spelt images) plant → AllZip (SpellsWords new) (spelt images) plant
words_stay old new [] [] name changes other written = tt
words_stay old new [] (w ∷ ws) name changes other written = absurd written
words_stay old new (x ∷ xs) [] name changes other written = absurd written
words_stay old new (x ∷ xs) (w ∷ ws) name changes other written =
    let P : Option (Option (List ℕ)) → Type 0 = λ found. IfSome found (λ held. IsSomeAnd held (λ there. bytes_of w ≡ there)) in
    (stays P old new name (string_bytes x) changes (λ e. other.0 (sym e)) written.0, words_stay old new xs ws name changes other.1 written.1)

at_item : (P : String Global → Type 0) (xs : List (String Global)) (i : ℕ) (d : String Global) → i < length xs → AllByRecursion P xs → P (get_or xs i d)
at_item P [] i d inside all = absurd (omega (arith, inside))
at_item P (x ∷ xs) zero d inside all = all.0
at_item P (x ∷ xs) (suc i) d inside all = at_item P xs i d (omega (arith, inside)) all.1

-- one more is written, or was there
written_more : (old new : Known) (images : List (String Global)) (plant : List (List ℕ)) (i : ℕ) (image : String Global) (name bytes d : List ℕ) → i < length images → name ≡ string_bytes (get_or images i image)
    → bytes ≡ bytes_of (get_or plant i d) → AreDistinct images → ChangesOnly old new name → (IsAbsent old name ⊎ HasBytes old name bytes → HasBytes new name bytes)
    → AreWritten old images plant i → AreWritten new images plant (suc i)
written_more old new [] [] i image name bytes d inside named words distinct changes holds written = absurd (omega (arith, inside))
written_more old new [] (w ∷ ws) i image name bytes d inside named words distinct changes holds written = absurd written
written_more old new (x ∷ xs) [] i image name bytes d inside named words distinct changes holds written = absurd written
written_more old new (x ∷ xs) (w ∷ ws) zero image name bytes d inside named words distinct changes holds written =
    let P : List ℕ → Type 0 = λ n. IsOther n xs in
    let Q : List ℕ → Type 0 = λ n. MayStay old n w in
    let R : List ℕ → Type 0 = λ b. IsAbsent old name ⊎ HasBytes old name b in
    let S : List ℕ → Type 0 = λ n. HasBytes new n (bytes_of w) in
    let T : List ℕ → Type 0 = λ b. HasBytes new name b in
    (subst S named (subst T words (holds (subst R (sym words) (subst Q (sym named) written.0)))), others_stay old new xs ws name changes (subst P (sym named) distinct.0) written.1)
written_more old new (x ∷ xs) (w ∷ ws) (suc i) image name bytes d inside named words distinct changes holds written =
    let within : i < length xs = omega (arith, inside) in
    let separate : string_bytes x ≢ name = λ e. at_item (λ (y : String Global). string_bytes x ≢ string_bytes y) xs i image within distinct.0 (e ∙ named) in
    let P : Option (Option (List ℕ)) → Type 0 = λ found. IfSome found (λ held. IsSomeAnd held (λ there. bytes_of w ≡ there)) in
    (stays P old new name (string_bytes x) changes separate written.0, written_more old new xs ws i image name bytes d within named words distinct.1 changes holds written.1)

pub one_more_written : (old new : Known) (images : List (String Global)) (plant : List (List ℕ)) (i : ℕ) (image : String Global) (name bytes words : List ℕ) → i < length images → image ≡ get_or images i image → name ≡ string_bytes image
    → bytes ≡ bytes_of words → words ≡ get_or plant i words → AreDistinct images → ChangesOnly old new name → (IsAbsent old name ⊎ HasBytes old name bytes → HasBytes new name bytes)
    → AreWritten old images plant i → AreWritten new images plant (i + 1)
one_more_written old new images plant i image name bytes words inside is_image named spelt is_words distinct changes holds written =
    let Q : ℕ → Type 0 = λ n. AreWritten new images plant n in
    let next : suc i ≡ i + 1 = omega arith in
    subst Q next (written_more old new images plant i image name bytes words inside (named ∙ ap (λ (s : String Global). string_bytes s) is_image) (spelt ∙ ap bytes_of is_words) distinct changes holds written)
