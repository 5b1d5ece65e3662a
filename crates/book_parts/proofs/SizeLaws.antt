-- How many bytes batches take.
use Rattle.std.proofs.Common.{◌≡◌, ◌∙◌, ℕ, ◌+◌, ◌≤◌, ◌<◌, true, ltb, List, [], ◌∷◌, ◌++◌, length, take, get_or, refl, sym, ap, arith, length-append}
use Rattle.std.specs.List.{sum_by}
use Rattle.std.proofs.lemmas.List.Sums.{sum_by_more_le, sum_by_push}
use Rattle.std.proofs.lemmas.List.{append-nil, take_more}
use Rattle.std.proofs.lemmas.Bool.{lt-ltb, leb-true}
use Rattle.std.proofs.lemmas.List.Concat.{flat_map-append}
use Rattle.book_model.specs.Cells.{is_any}
use Rattle.jrn_format.specs.declared.journal.Entry.{Entry}
use Rattle.jrn_format.specs.declared.journal.Batch.{Batch}
use Rattle.jrn_format.specs.declared.journal.Form.{Form}
use Rattle.jrn_format.specs.declared.journal.Form.TheVariants.{One, Two, Moving}
use Rattle.jrn_format.specs.declared.journal.Spelling.TheVariants.{WithGeneration}
use Rattle.jrn_format.specs.Batch.{spelt_batch, entry_size}
use Rattle.jrn_format.specs.Area.{spelt_batches}
use Rattle.jrn_format.specs.Halves.{Halves, Place, InOlder, InNewer, batches_in, with_batch, fits, size, entries_size}
use Rattle.jrn_format.proofs.SizeLaws.{payload_size, batch_size, plain_size}
use Rattle.book_model.specs.Reading.{spelling_of}
use Rattle.book_parts.specs.Room.{Room, half_room, bytes_in}

-- ---- a batch

abbrev pub entries_bytes : List Entry → ℕ
entries_bytes entries = sum_by (λ (entry : Entry). entry_size entry.runs) entries

-- what stands in front of the entries
abbrev pub head_size : Form → ℕ
head_size One = 7
head_size Two = 8
head_size Moving = 8

pub size_is : (form : Form) (batch : Batch) → length (spelt_batch (spelling_of form) batch) ≡ head_size form + entries_bytes batch.entries
size_is One batch = omega (arith, plain_size batch, payload_size batch.entries)
size_is Two batch = omega (arith, batch_size batch, payload_size batch.entries)
size_is Moving batch = omega (arith, batch_size batch, payload_size batch.entries)

-- one entry more is within the batch
pub entry_within : (form : Form) (batch : Batch) (i : ℕ) (entry : Entry) → i < length batch.entries → entry ≡ get_or batch.entries i entry
    → head_size form + entries_bytes (take i batch.entries) + entry_size entry.runs ≤ length (spelt_batch (spelling_of form) batch)
entry_within form batch i entry lt is =
    let more = sum_by_more_le (λ (e : Entry). entry_size e.runs) batch.entries i entry lt in
    let here : entry_size entry.runs ≡ entry_size (get_or batch.entries i entry).runs = ap (λ (e : Entry). entry_size e.runs) is in
    omega (arith, size_is form batch, more, here)

-- the bytes of one entry more
pub entries-more : (entries : List Entry) (i : ℕ) (entry : Entry) → i < length entries → entry ≡ get_or entries i entry
    → entries_bytes (take (i + 1) entries) ≡ entries_bytes (take i entries) + entry_size entry.runs
entries-more entries i entry lt is =
    ap entries_bytes (take_more entries i entry lt ∙ ap (λ (e : Entry). take i entries ++ e ∷ []) (sym is)) ∙ sum_by_push (λ (e : Entry). entry_size e.runs) (take i entries) entry

-- ---- batches

pub bytes-append : (form : Form) (xs ys : List Batch) → bytes_in form (xs ++ ys) ≡ bytes_in form xs + bytes_in form ys
bytes-append form xs ys =
    ap (λ (l : List ℕ). length l) (flat_map-append (spelt_batch (spelling_of form)) xs ys) ∙ length-append (spelt_batches (spelling_of form) xs) (spelt_batches (spelling_of form) ys)

pub any-bytes : (form : Form) (batches : List Batch) → ltb 0 (bytes_in form batches) ≡ is_any batches
any-bytes form [] = refl
any-bytes form (batch ∷ batches) = lt-ltb 0 (bytes_in form (batch ∷ batches)) (omega arith)

-- something is live, where the older half or the newer one has bytes
pub any-older : (form : Form) (older newer : List Batch) (n : ℕ) → n ≡ bytes_in form older → 0 < n → ltb 0 n ≡ is_any (older ++ newer)
any-older form older newer n is some = lt-ltb 0 n some ∙ sym (lt-ltb 0 (bytes_in form (older ++ newer)) (omega (arith, is, bytes-append form older newer))) ∙ any-bytes form (older ++ newer)

pub any-newer : (form : Form) (older newer : List Batch) (n m : ℕ) → n ≡ bytes_in form older → m ≡ bytes_in form newer → n ≤ 0 → ltb 0 m ≡ is_any (older ++ newer)
any-newer form older newer n m first second none =
    let all : m ≡ bytes_in form (older ++ newer) = omega (arith, first, second, bytes-append form older newer) in
    ap (ltb 0) all ∙ any-bytes form (older ++ newer)

-- nothing is live, and no bytes are taken
pub no-older : (older newer : List Batch) → older ++ newer ≡ [] → older ≡ []
no-older [] newer none = refl
no-older (batch ∷ older) newer none = absurd (cc)

pub no-newer : (older newer : List Batch) → older ++ newer ≡ [] → newer ≡ []
no-newer [] newer none = none
no-newer (batch ∷ older) newer none = absurd (cc)

-- ---- a batch more

batches-more : (halves : Halves) (place : Place) (batch : Batch) → batches_in (with_batch halves place batch) place ≡ batches_in halves place ++ batch ∷ []
batches-more halves InOlder batch = refl
batches-more halves InNewer batch = refl

-- a batch that fits into a half fits into the area
pub joined-fits : (room : Room) (place : Place) (batch : Batch) → room.form ≡ Two → fits (half_room room) (batches_in room.halves place) batch.entries ≡ true
    → bytes_in room.form (batches_in (with_batch room.halves place batch) place) ≤ room.capacity
joined-fits room place batch two enough =
    let before = batches_in room.halves place in
    let fit : size before + entries_size batch.entries + 1 ≤ half_room room = leb-true (size before + entries_size batch.entries + 1) (half_room room) enough in
    let all : bytes_in Two (before ++ batch ∷ []) ≡ size before + bytes_in Two (batch ∷ []) = bytes-append Two before (batch ∷ []) in
    let one : bytes_in Two (batch ∷ []) ≡ entries_size batch.entries = ap (λ (l : List ℕ). length l) (append-nil (spelt_batch WithGeneration batch)) ∙ batch_size batch in
    rw (two, batches-more room.halves place batch) (omega (arith, fit, all, one))
