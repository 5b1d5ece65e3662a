-- Reading from left to right. A reader gives a value and the bytes after it, or None where the bytes are malformed.
use Rattle.std.specs.Prelude.{◌≡◌, ℕ, zero, suc, ◌+◌, ◌-◌, ◌/◌, ◌%◌, Bool, true, false, ◌&&◌, nat_lt, nat_le, ◌==◌, if◌then◌else◌, List, [], ◌∷◌, ◌++◌, length, take, drop, slice_index, Option, Some, None, Result, Ok, Err}
use Rattle.std.specs.List.{list_all}
use Rattle.std.specs.Int.{Width, w16, w32, w64, byte_len, from_le_bytes}
use Rattle.sii_words.specs.declared.run.Run.{Run}
use Rattle.jrn_format.specs.declared.journal.Entry.{Entry}
use Rattle.jrn_format.specs.declared.journal.Batch.{Batch}
use Rattle.jrn_format.specs.declared.journal.Journal.{Journal}
use Rattle.jrn_format.specs.declared.journal.Form.{Form}
use Rattle.jrn_format.specs.declared.journal.Form.TheVariants.{One, Two, Moving}
use Rattle.jrn_format.specs.declared.journal.Spelling.{Spelling}
use Rattle.jrn_format.specs.declared.journal.Spelling.TheVariants.{Plain, WithGeneration}
use Rattle.jrn_format.specs.declared.fault.ReadFault.{ReadFault}
use Rattle.jrn_format.specs.declared.fault.ReadFault.TheVariants as reading
use Rattle.jrn_format.specs.declared.fault.JournalFault.{JournalFault}
use Rattle.jrn_format.specs.declared.fault.JournalFault.TheVariants.{Memory, NotAJournal, BadVersion, WrongLine, BadJournal}
use Rattle.jrn_format.specs.Memory.{UnlessMemory}
use Rattle.jrn_format.specs.Header.{field_at}

-- Reads on with f, or gives None.
infixl 10 ◌>>=◌
abbrev pub ◌>>=◌ : {A B : Type 0} → Option A → (A → Option B) → Option B
None >>= f = None
(Some x) >>= f = f x

-- A fault of a reader: the bytes are malformed, or memory was refused.
abbrev pub Fails : {Y : Type 0} → ReadFault → Option Y → Type 0
Fails reading.Memory read = Unit {0}
Fails reading.Malformed read = read ≡ None

-- The result of a reader of a batch, seen through `view`, is the one defined here, unless memory was refused.
abbrev pub Gives : {X Y : Type 0} → (X → Y) → Result X ReadFault → Option Y → Type 0
Gives view (Ok x) read = read ≡ Some (view x)
Gives view (Err fault) read = Fails fault read

-- A little-endian number.
abbrev pub number_at : Width → List ℕ → Option (ℕ × List ℕ)
number_at w bytes =
    if nat_lt (length bytes) (byte_len w) then None else Some (from_le_bytes w (take (byte_len w) bytes), drop (byte_len w) bytes)

-- As many values as the number says, one after another.
unfoldable pub counted : {X : Type 0} → (List ℕ → Option (X × List ℕ)) → ℕ → List ℕ → Option (List X × List ℕ)
counted one zero bytes = Some ([], bytes)
counted one (suc n) bytes = do
  first ← one bytes
  others ← counted one n first.1
  Some (first.0 ∷ others.0, others.1)

-- A run: slave, first word, number of words (at least one), the words.
unfoldable pub run_at : List ℕ → Option (Run × List ℕ)
run_at bytes = do
  slave ← number_at w16 bytes
  first ← number_at w16 slave.1
  count ← number_at w16 first.1
  words ← counted (number_at w16) count.0 count.1
  if count.0 == 0 then None else Some (record { slave = slave.0; first = first.0; words = words.0 }, words.1)

-- An entry: its number, number of runs, the runs.
unfoldable pub entry_at : List ℕ → Option (Entry × List ℕ)
entry_at bytes = do
  number ← number_at w64 bytes
  count ← number_at w16 number.1
  runs ← counted run_at count.0 count.1
  Some (record { number = number.0; runs = runs.0 }, runs.1)

-- The entries of a payload, at least one, which take all of its bytes.
unfoldable pub entries_of : List ℕ → Option (List Entry)
entries_of payload = do
  count ← number_at w16 payload
  entries ← counted entry_at count.0 count.1
  if count.0 == 0 then None else if length entries.1 == 0 then Some entries.0 else None

-- The generation byte, which version 1 doesn't have.
unfoldable pub generation_at : Spelling → List ℕ → Option (ℕ × List ℕ)
generation_at Plain bytes = Some (0, bytes)
generation_at WithGeneration [] = None
generation_at WithGeneration (generation ∷ rest) = Some (generation, rest)

-- A batch after its gate, followed by another gate.
unfoldable pub batch_at : Spelling → ℕ → List ℕ → Option (Batch × List ℕ)
batch_at spelling half bytes = do
  generation ← generation_at spelling bytes
  count ← number_at w32 generation.1
  entries ← (if nat_lt count.0 (length count.1) then entries_of (take count.0 count.1) else None)
  Some (record { half = half; generation = generation.0; entries = entries }, drop count.0 count.1)

-- ---- areas

-- The result of a reader of a journal, seen through `view`, is the one defined here, unless memory was refused.
abbrev pub Answers : {X Y : Type 0} → (X → Y) → Result X JournalFault → Result Y JournalFault → Type 0
Answers view (Ok x) read = read ≡ Ok (view x)
Answers view (Err fault) read = UnlessMemory fault (read ≡ Err fault)

-- The fault of a journal whose batch at file offset `at` can't be read.
abbrev pub fault_at : ReadFault → ℕ → JournalFault
fault_at reading.Memory at = Memory
fault_at reading.Malformed at = BadJournal at

-- Reads on with f, or passes the fault on.
infixl 10 ◌>>>◌
abbrev pub ◌>>>◌ : {A B : Type 0} → Result A JournalFault → (A → Result B JournalFault) → Result B JournalFault
(Ok x) >>> f = f x
(Err fault) >>> f = Err fault

-- The test of LiesWithin.
abbrev pub run_is_within : List ℕ → Run → Bool
run_is_within sizes run = nat_lt run.slave (length sizes) && nat_le (run.first + length run.words) (slice_index sizes run.slave)

-- The test of LieWithin.
abbrev pub entry_is_within : List ℕ → Entry → Bool
entry_is_within sizes entry = list_all (run_is_within sizes) entry.runs

-- The test of IsWithin.
abbrev pub batch_is_within : List ℕ → Batch → Bool
batch_is_within sizes batch = list_all (entry_is_within sizes) batch.entries

-- What the rest of an area begins with: a closed gate, a batch and the bytes after it, or a fault.
pub data Front : Type 0 where
  Closed : Front
  Live : Batch → List ℕ → Front
  Bad : JournalFault → Front

-- A batch that was read, or a fault at this offset.
abbrev pub validated : List ℕ → (at : ℕ) → Option (Batch × List ℕ) → Front
validated sizes at None = Bad (BadJournal at)
validated sizes at (Some x) = if batch_is_within sizes x.0 then Live x.0 x.1 else Bad WrongLine

-- What the bytes begin with, where `end` is the file offset just past them.
unfoldable pub front_of : Spelling → ℕ → List ℕ → (end : ℕ) → List ℕ → Front
front_of spelling half sizes end [] = Closed
front_of spelling half sizes end (gate ∷ after) =
    if gate == 0xA5 then validated sizes (end - (length after + 1)) (batch_at spelling half after) else Closed

-- The result of a reader of that: the batch and the bytes after it, or None at a closed gate.
abbrev pub Finds : {X : Type 0} → (X → Batch × List ℕ) → Result (Option X) JournalFault → Front → Type 0
Finds view (Ok (Some x)) front = front ≡ Live (view x).0 (view x).1
Finds view (Ok None) front = front ≡ Closed
Finds view (Err fault) front = UnlessMemory fault (front ≡ Bad fault)

-- All batches of an area that begins so.
abbrev pub batches_after : Front → (List ℕ → Result (List Batch) JournalFault) → Result (List Batch) JournalFault
batches_after Closed others = Ok []
batches_after (Live batch rest) others = others rest >>> λ batches. Ok (batch ∷ batches)
batches_after (Bad fault) others = Err fault

-- The batches of an area that has fewer than n.
unfoldable pub batches_below : Spelling → ℕ → List ℕ → (end n : ℕ) → List ℕ → Result (List Batch) JournalFault
batches_below spelling half sizes end zero area = Ok []
batches_below spelling half sizes end (suc n) area =
    batches_after (front_of spelling half sizes end area) (batches_below spelling half sizes end n)

-- All batches of an area: there are no more of them than bytes.
unfoldable pub batches_of : Spelling → ℕ → List ℕ → (end : ℕ) → List ℕ → Result (List Batch) JournalFault
batches_of spelling half sizes end area = batches_below spelling half sizes end (suc (length area)) area

-- ---- halves

-- The generation that the older half has or would have; 0 if nothing is live in either half.
abbrev pub older_generation : List Batch → List Batch → ℕ
older_generation (batch ∷ older) newer = batch.generation
older_generation [] (batch ∷ newer) = (batch.generation + 255) % 256
older_generation [] [] = 0

-- The test of AreOf.
abbrev pub are_of : ℕ → List Batch → Bool
are_of generation batches = list_all (λ batch. batch.generation == generation) batches

-- The test of IsFollowedBy.
abbrev pub is_followed_by : List Batch → List Batch → Bool
is_followed_by older newer = are_of (older_generation older newer) older && are_of ((older_generation older newer + 1) % 256) newer

-- The batches of both halves, those of the older half first.
unfoldable pub in_order : List Batch → List Batch → Result (List Batch) JournalFault
in_order firsts seconds =
    if is_followed_by firsts seconds then Ok (firsts ++ seconds)
    else if is_followed_by seconds firsts then Ok (seconds ++ firsts) else Err (BadJournal 8)

-- The batches of an area of version 2.
unfoldable pub halves_of : List ℕ → List ℕ → Result (List Batch) JournalFault
halves_of sizes area =
    let half = length area / 2 in
    batches_of WithGeneration 0 sizes (8 + half) (take half area) >>> λ firsts.
    batches_of WithGeneration 1 sizes (8 + half + half) (take half (drop half area)) >>> λ seconds.
    in_order firsts seconds

-- ---- the file

-- The test of IsMarked.
abbrev pub is_marked : List ℕ → Bool
is_marked (gate ∷ a ∷ b ∷ c ∷ d ∷ rest) = (if gate == 0xA5 then false else true) && a == 0x4d && b == 0x49 && c == 0x47 && d == 0x32
is_marked short = false

-- The form by the version byte and the bytes after the header.
unfoldable pub form_of : ℕ → List ℕ → Result Form JournalFault
form_of version after =
    if version == 1 then Ok One else if version == 2 then Ok Two else if is_marked after then Ok Moving else Err (BadVersion version)

-- The test of IsCapacity.
abbrev pub is_capacity : ℕ → Bool
is_capacity capacity = nat_le 4096 capacity && nat_le capacity 4194304

-- The area after a header that states this number of slaves and this capacity, in a file of `size` bytes.
unfoldable pub area_after : (size slaves stated capacity : ℕ) → List ℕ → Form → Result (Form × List ℕ) JournalFault
area_after size slaves stated capacity after form =
    if stated == slaves
    then (if is_capacity capacity
    then (if nat_le capacity (length after) then Ok (form, take capacity after) else Err (BadJournal size))
    else Err (BadJournal 4))
    else Err WrongLine

-- The form and the area of a file, for a line of `slaves` slaves.
unfoldable pub area_of : List ℕ → (slaves : ℕ) → Result (Form × List ℕ) JournalFault
area_of file slaves =
    if nat_lt (length file) 8 then Err NotAJournal
    else if slice_index file 0 == 0xA5
    then (form_of (slice_index file 1) (drop 8 file) >>> area_after (length file) slaves (field_at w16 2 file) (field_at w32 4 file) (drop 8 file))
    else Err NotAJournal

-- The live batches of an area of this form.
unfoldable pub live_in : Form → List ℕ → List ℕ → Result (List Batch) JournalFault
live_in One sizes area = batches_of Plain 0 sizes (8 + length area) area
live_in Two sizes area = halves_of sizes area
live_in Moving sizes area = Ok []

-- A whole file as a journal.
unfoldable pub journal_of : List ℕ → List ℕ → Result Journal JournalFault
journal_of file sizes =
    area_of file (length sizes) >>> λ found.
    live_in found.0 sizes found.1 >>> λ batches.
    Ok (record { form = found.0; batches = batches })
