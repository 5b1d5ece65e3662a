-- A recovery makes the same of a slave and of its image file.
use Rattle.std.proofs.Common.{◌≡◌, ℕ, zero, suc, ◌+◌, ◌<◌, ◌==◌, Bool, true, false, if◌then◌else◌, List, [], ◌∷◌, ◌++◌, length, map, take, get_or, unwrap_or, Option, Some, None, slice_get, refl, inl, inr, ap, sym, subst, ◌∙◌, arith}
use Rattle.std.proofs.lemmas.Bool.{cases_lt}
use Rattle.std.proofs.lemmas.Bool.Decides.{nat_tests}
use Rattle.std.proofs.lemmas.Option.{get_or_from_slice_get, slice_get_within, slice_get-get_or}
use Rattle.std.proofs.lemmas.List.{get_or_append_left, length-map, map-append, take_more}
use Rattle.std.proofs.Math.Seq.{get_or-append_seam}
use Rattle.sii_words.specs.declared.run.Run.{Run}
use Rattle.sii_words.specs.Plant.{words_of}
use Rattle.sii_words.specs.Redo.{redone_words}
use Rattle.sii_words.proofs.RedoLaws.{words_of-redone}
use Rattle.jrn_format.specs.declared.journal.Batch.{Batch}
use Rattle.slave_match.specs.declared.comparing.Difference.{Difference}
use Rattle.slave_match.specs.Difference.{difference_of}
use Rattle.slave_match.proofs.Same.{same_without}
use Rattle.wire_scan.specs.declared.asked.Mend.{Mend}
use Rattle.wire_scan.specs.declared.asked.Mend.TheVariants as mend
use Rattle.wire_scan.specs.declared.keeping.Beside.{Beside}
use Rattle.wire_scan.specs.declared.keeping.Beside.TheVariants.{Absent}
use Rattle.wire_scan.specs.Keeping.{AreKept, ArePassed, AreRedone, AreSeen, IsOwn, IsSeen, KeepsEach, difference_beside, image_of, may_differ, refusal_at, refusal_of, said_of}

-- an item that was read from a list
pub read_at : {X : Type 0} (xs : List X) (n : ℕ) (x : X) → n < length xs → x ≡ get_or xs n x → slice_get xs n ≡ Some x
read_at xs n x inside is = slice_get-get_or xs n x inside ∙ ap (λ y. Some y) (sym is)

-- ---- the words of each image file, or of its slave

-- one more of them
keeps_snoc : (plant : List (List ℕ)) (images : List (Option (List ℕ))) (kept : List (List ℕ)) (words : List ℕ) (image : Option (List ℕ)) (own : List ℕ)
    → KeepsEach plant images kept → IsOwn words image own → KeepsEach (plant ++ words ∷ []) (images ++ image ∷ []) (kept ++ own ∷ [])
keeps_snoc [] [] [] words image own before here = (here, tt)
keeps_snoc (w ∷ plant) (i ∷ images) (o ∷ kept) words image own before here = (before.0, keeps_snoc plant images kept words image own before.1 here)
keeps_snoc [] [] (o ∷ kept) words image own before here = absurd before
keeps_snoc [] (i ∷ images) kept words image own before here = absurd before
keeps_snoc (w ∷ plant) [] kept words image own before here = absurd before
keeps_snoc (w ∷ plant) (i ∷ images) [] words image own before here = absurd before

pub keeps_more : (plant : List (List ℕ)) (images : List (Option (List ℕ))) (kept : List (List ℕ)) (n : ℕ) (words : List ℕ) (image : Option (List ℕ)) (own : List ℕ)
    → n < length plant → n < length images → words ≡ get_or plant n words → image ≡ get_or images n image → KeepsEach (take n plant) (take n images) kept
    → IsOwn words image own → KeepsEach (take (n + 1) plant) (take (n + 1) images) (kept ++ own ∷ [])
keeps_more plant images kept n words image own in_plant in_images words_are image_is before here =
    let P : List (List ℕ) → Type 0 = λ p. KeepsEach p (take (n + 1) images) (kept ++ own ∷ []) in
    let Q : List (Option (List ℕ)) → Type 0 = λ i. KeepsEach (take n plant ++ words ∷ []) i (kept ++ own ∷ []) in
    subst P (ap (λ (w : List ℕ). take n plant ++ w ∷ []) words_are ∙ sym (take_more plant n words in_plant))
    (subst Q (ap (λ (i : Option (List ℕ)). take n images ++ i ∷ []) image_is ∙ sym (take_more images n image in_images))
    (keeps_snoc (take n plant) (take n images) kept words image own before here))

each_at : (plant : List (List ℕ)) (images : List (Option (List ℕ))) (kept : List (List ℕ)) (slave : ℕ) (words image : List ℕ) → KeepsEach plant images kept
    → slice_get plant slave ≡ Some words → slice_get images slave ≡ Some (Some image) → length image ≡ length words → slice_get kept slave ≡ Some image
each_at [] images kept slave words image each here there same = absurd cc
each_at (w ∷ plant) [] kept slave words image each here there same = absurd each
each_at (w ∷ plant) (i ∷ images) [] slave words image each here there same = absurd each
each_at (w ∷ plant) (None ∷ images) (o ∷ kept) zero words image each here there same = absurd cc
each_at (w ∷ plant) (Some i ∷ images) (o ∷ kept) zero words image each here there same =
    let first : w ≡ words = cc in
    let second : i ≡ image = cc in
    let long : length i ≡ length w = ap length second ∙ same ∙ ap length (sym first) in
    ap (λ (x : List ℕ). Some x) (each.0.0 long ∙ second)
each_at (w ∷ plant) (i ∷ images) (o ∷ kept) (suc slave) words image each here there same = each_at plant images kept slave words image each.1 here there same

-- ---- what a recovery makes of them

pub words_at : (plant : List (List ℕ)) (slave : ℕ) (words : List ℕ) → slice_get plant slave ≡ Some words → words_of plant slave ≡ words
words_at [] slave words here = absurd cc
words_at (first ∷ plant) zero words here = cc
words_at (first ∷ plant) (suc slave) words here = words_at plant slave words here

-- what it makes of a slave and of its image file, where that is as long
pub of_slave : (runs : List Run) (plant : List (List ℕ)) (images : List (Option (List ℕ))) (found kept : List (List ℕ)) (slave : ℕ) → AreRedone runs plant images found kept
    → slave < length plant → words_of found slave ≡ redone_words runs slave 0 (words_of plant slave)
of_slave runs plant images found kept slave both inside = ap (λ (p : List (List ℕ)). words_of p slave) both.of_slaves ∙ words_of-redone plant runs slave inside

of_file : (runs : List Run) (plant : List (List ℕ)) (images : List (Option (List ℕ))) (found kept : List (List ℕ)) (slave : ℕ) (image : List ℕ) → AreRedone runs plant images found kept
    → slave < length plant → length images ≡ length plant → image_of images slave ≡ Some image → length image ≡ length (words_of plant slave)
    → words_of kept slave ≡ redone_words runs slave 0 image
of_file runs plant images found kept slave image both inside count is long =
    let there : slice_get images slave ≡ Some (Some image) = slice_get-get_or images slave None (omega (arith, count, inside)) ∙ ap (λ (i : Option (List ℕ)). Some i) is in
    let own = each_at plant images both.own slave (words_of plant slave) image both.keeps (slice_get-get_or plant slave [] inside) there long in
    ap (λ (p : List (List ℕ)). words_of p slave) both.of_files ∙ words_of-redone both.own runs slave (slice_get_within both.own slave image own)
    ∙ ap (redone_words runs slave 0) (words_at both.own slave image own)

-- ---- which slave is refused

same_number : (a b : ℕ) → (a == b) ≡ true → a ≡ b
same_number a b is = grind (arith, nat_tests)

if_same : {X : Type 0} (test : Bool) (a b other : X) → (test ≡ true → a ≡ b) → (if test then a else other) ≡ (if test then b else other)
if_same true a b other same = same refl
if_same false a b other same = refl

-- the words that a recovery makes of a file count only where it is as long as the slave
refusal_same : (said : Mend) (words : List ℕ) (image : Option (List ℕ)) (found kept : List ℕ) (redo : List ℕ → List ℕ)
    → ((there : List ℕ) → image ≡ Some there → length there ≡ length words → kept ≡ redo there)
    → refusal_of said words image found kept ≡ refusal_of said words image found (redo (unwrap_or image []))
refusal_same said words None found kept redo same = refl
refusal_same said words (Some image) found kept redo same =
    ap (λ (d : Option Difference). if may_differ said words image then None else d)
    (if_same (length image == length words) (difference_of found kept) (difference_of found (redo image)) (difference_of words image)
    (λ is. ap (difference_of found) (same image refl (same_number (length image) (length words) is))))

pub refusal_is : (runs : List Run) (said : Mend) (plant : List (List ℕ)) (images : List (Option (List ℕ))) (found kept : List (List ℕ)) (slave : ℕ) → AreRedone runs plant images found kept
    → slave < length plant → length images ≡ length plant
    → refusal_of said (words_of plant slave) (image_of images slave) (words_of found slave) (words_of kept slave) ≡ refusal_at runs said plant images slave
refusal_is runs said plant images found kept slave both inside count =
    ap (λ (f : List ℕ). refusal_of said (words_of plant slave) (image_of images slave) f (words_of kept slave)) (of_slave runs plant images found kept slave both inside)
    ∙ refusal_same said (words_of plant slave) (image_of images slave) (redone_words runs slave 0 (words_of plant slave)) (words_of kept slave) (redone_words runs slave 0)
    (λ image is long. of_file runs plant images found kept slave image both inside count is long)

-- the same of what was read of them
pub refusal_read : (runs : List Run) (said : Mend) (plant : List (List ℕ)) (images : List (Option (List ℕ))) (found kept : List (List ℕ)) (slave : ℕ) (words image has own : List ℕ) → AreRedone runs plant images found kept
    → slave < length plant → length images ≡ length plant → words_of plant slave ≡ words → image_of images slave ≡ Some image → has ≡ words_of found slave → own ≡ words_of kept slave
    → refusal_of said words (Some image) has own ≡ refusal_at runs said plant images slave
refusal_read runs said plant images found kept slave words image has own both inside count words_are image_is has_is own_is =
    subst (λ (w : List ℕ). refusal_of said w (Some image) has own ≡ refusal_at runs said plant images slave) words_are
    (subst (λ (i : Option (List ℕ)). refusal_of said (words_of plant slave) i has own ≡ refusal_at runs said plant images slave) image_is
    (ap (λ (h : List ℕ). refusal_of said (words_of plant slave) (image_of images slave) h own) has_is
    ∙ ap (refusal_of said (words_of plant slave) (image_of images slave) (words_of found slave)) own_is
    ∙ refusal_is runs said plant images found kept slave both inside count))

pub image_read : (images : List (Option (List ℕ))) (slave : ℕ) (read : Option (List ℕ)) (image : List ℕ) → slave < length images → read ≡ get_or images slave read → read ≡ Some image
    → image_of images slave ≡ Some image
image_read images slave read image inside is some = get_or_from_slice_get images slave read None (read_at images slave read inside is) ∙ some

-- a slave without an image file is not refused
pub unseen : (runs : List Run) (said : Mend) (plant : List (List ℕ)) (images : List (Option (List ℕ))) (slave : ℕ) → image_of images slave ≡ None → refusal_at runs said plant images slave ≡ None
unseen runs said plant images slave none = rw none refl

-- one more slave is passed
pub passed_more : (mends : List Mend) (runs : List Run) (plant : List (List ℕ)) (images : List (Option (List ℕ))) (n : ℕ) (said : Mend) → said ≡ said_of mends n
    → refusal_at runs said plant images n ≡ None → ArePassed mends runs plant images n → ArePassed mends runs plant images (n + 1)
passed_more mends runs plant images n said is here before = λ slave inside. elim (cases_lt slave n) [
  | inl below ↦ before slave below
  | inr not ↦
      let same : n ≡ slave = omega (arith, inside, not) in
      subst (λ (k : ℕ). refusal_at runs (said_of mends k) plant images k ≡ None) same (subst (λ (s : Mend). refusal_at runs s plant images n ≡ None) is here)
]

-- one more slave is seen
pub seen_more : (batches : List Batch) (plant : List (List ℕ)) (images : List (Option (List ℕ))) (n : ℕ) (seen after : List Beside) (one : Beside) → length seen ≡ n
    → IsSeen batches mend.Unsaid plant images n one → after ≡ seen ++ one ∷ [] → AreSeen batches plant images n seen → AreSeen batches plant images (n + 1) after
seen_more batches plant images n seen after one count here is before = λ slave inside. elim (cases_lt slave n) [
  | inl below ↦
      let same : get_or after slave Absent ≡ get_or seen slave Absent = ap (λ (s : List Beside). get_or s slave Absent) is ∙ get_or_append_left seen (one ∷ []) Absent slave (omega (arith, below, count)) in
      subst (IsSeen batches mend.Unsaid plant images slave) (sym same) (before slave below)
  | inr not ↦
      let place : length seen ≡ slave = omega (arith, inside, not, count) in
      let same : get_or after slave Absent ≡ one = ap (λ (s : List Beside). get_or s slave Absent) is ∙ subst (λ (k : ℕ). get_or (seen ++ one ∷ []) k Absent ≡ one) place (get_or-append_seam seen one [] Absent) in
      subst (IsSeen batches mend.Unsaid plant images slave) (sym same) (subst (λ (k : ℕ). IsSeen batches mend.Unsaid plant images k one) (sym count ∙ place) here)
]

-- where the difference is none, a recovery makes the same of both
left_same : (words image found kept : List ℕ) → difference_beside words image found kept ≡ None → found ≡ kept
left_same words image found kept none = by (length image == length words) refl none where
  by : (test : Bool) → (length image == length words) ≡ test → (if test then difference_of found kept else difference_of words image) ≡ None → found ≡ kept
  by true is none = same_without found kept none
  by false is none =
      let long : length image ≡ length words = ap length (sym (same_without words image none)) in
      grind (arith, nat_tests)

pub all_kept : (mends : List Mend) (runs : List Run) (plant : List (List ℕ)) (images : List (Option (List ℕ))) → ArePassed mends runs plant images (length plant)
    → AreKept mends runs plant images
all_kept mends runs plant images passed = λ slave words image unsaid here there.
    let said : said_of mends slave ≡ mend.Unsaid = ap (λ (s : Option Mend). unwrap_or s mend.Unsaid) unsaid in
    let words_are : words_of plant slave ≡ words = words_at plant slave words here in
    let image_is : image_of images slave ≡ Some image = get_or_from_slice_get images slave (Some image) None there in
    let redo = redone_words runs slave 0 in
    left_same words image (redo words) (redo image)
    (subst (λ (i : Option (List ℕ)). refusal_of mend.Unsaid words i (redo words) (redo (unwrap_or i [])) ≡ None) image_is
    (subst (λ (w : List ℕ). refusal_of mend.Unsaid w (image_of images slave) (redo w) (redo (unwrap_or (image_of images slave) [])) ≡ None) words_are
    (subst (λ (s : Mend). refusal_at runs s plant images slave ≡ None) said (passed slave (slice_get_within plant slave words here)))))

-- the lengths of lists with as long words
pub same_counts : (xs ys : List (List ℕ)) → map length xs ≡ map length ys → length xs ≡ length ys
same_counts xs ys same = sym (length-map xs length) ∙ ap length same ∙ length-map ys length

-- one more length
pub sizes_more : (plant kept : List (List ℕ)) (n : ℕ) (words own : List ℕ) → n < length plant → words ≡ get_or plant n words → length own ≡ length words
    → map length kept ≡ map length (take n plant) → map length (kept ++ own ∷ []) ≡ map length (take (n + 1) plant)
sizes_more plant kept n words own inside words_are long before =
    let here : map length kept ++ length own ∷ [] ≡ map length (take n plant) ++ length words ∷ [] = cc in
    map-append length kept (own ∷ []) ∙ here ∙ sym (map-append length (take n plant) (words ∷ []))
    ∙ ap (map length) (ap (λ (w : List ℕ). take n plant ++ w ∷ []) words_are ∙ sym (take_more plant n words inside))
