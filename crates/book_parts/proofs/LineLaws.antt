-- The running data of the slaves, as the line that it stands for.
use Rattle.std.proofs.Common.{◌≡◌, ◌≢◌, ◌⊎◌, inl, inr, ℕ, zero, suc, ◌+◌, ◌-◌, ◌<◌, ◌≤◌, List, [], ◌∷◌, ◌++◌, length, drop, set, get_or, map, refl, sym, ◌∙◌, ap, subst, arith, Option, Some, None, add-zero, add-suc, suc-add, append_assoc}
use Rattle.std.proofs.lemmas.List.{length-map, get_or-map, ext_get_or, append-nil, drop_at, length-append, length-set, get_or-set_same, get_or-set_other, length_push}
use Rattle.std.proofs.lemmas.List.Sorted.{IsNonDecreasingBy-drop}
use Rattle.std.proofs.lemmas.Bool.{cases_eq}
use Rattle.sii_words.specs.declared.run.Run.{Run}
use Rattle.jrn_format.specs.declared.journal.Entry.{Entry}
use Rattle.book_model.specs.Cells.{Cell, cell_of, nothing, owing, asked, written}
use Rattle.book_model.specs.Pending.{Pending, first}
use Rattle.book_model.specs.Pending as pending
use Rattle.book_model.specs.Entries.{runs_of, namings, values}
use Rattle.book_model.specs.Book.{Slave, nobody, NoOperation, Issuing}
use Rattle.book_model.specs.Open.{owing_words, owing_slaves}
use Rattle.book_parts.specs.declared.work.SlaveWork.{SlaveWork}
use Rattle.book_parts.specs.declared.work.Operation.{Operation}
use Rattle.book_parts.specs.Line.{LineState, AreOfLine, NeverFall, HasRoom, rooms_left, rooms_freed, with_older, with_newer, retired, slave_at, with_slave, to_do, with_issue, with_written}
use Rattle.book_parts.specs.Works.{entries_named, numbers_named, work_at, no_work, RunsLie, HasRooms, slave_of, room_of, line_of, WorkStands, WorksStand, work_retired, all_older, operation_of, work_issued, work_written, work_to_do}
use Rattle.book_parts.proofs.EntryLaws.{namings-append, numbers-append, entries-cells, entries-room, entries-live, entries-numbers, entries-cell}
use Rattle.book_parts.proofs.OwingLaws.{length-owing_words, cell-owing, length-owing_slaves, owed-slave, slave-owing}
use Rattle.book_parts.proofs.StepLaws.{EntriesLive}
use Rattle.book_parts.proofs.SettledLaws.{live-is, newer-live}

pub slave-at : (works : List SlaveWork) (i : ℕ) → i < length works → get_or (map slave_of works) i nobody ≡ slave_of (work_at works i)
slave-at works i within = get_or-map slave_of works i no_work nobody within

pub room-at : (works : List SlaveWork) (i : ℕ) → i < length works → get_or (map room_of works) i 0 ≡ room_of (work_at works i)
room-at works i within = get_or-map room_of works i no_work 0 within

pub lies : (works : List SlaveWork) (older newer : List Entry) (runs : List Run) → WorksStand works older newer → AreOfLine (map slave_of works) runs → RunsLie works runs
lies works older newer [] stand are = tt
lies works older newer (run ∷ runs) stand are =
    let slave : run.slave < length works = omega (arith, are.0.slave, length-map works slave_of) in
    let words = subst (λ (s : Slave). run.first + length run.words ≤ length s.cells) (slave-at works run.slave slave) are.0.words in
    (record { slave = slave; words = words; few = (stand run.slave slave).few }, lies works older newer runs stand are.1)

pub has-rooms : (works : List SlaveWork) (older newer : List Entry) (runs : List Run) → HasRoom (line_of works older newer) runs → HasRooms works runs
has-rooms works older newer runs has = λ i inside. subst (λ (n : ℕ). length (namings runs i) ≤ n) (room-at works i inside) (has i (omega (arith, length-map works slave_of)))

-- A BATCH GOES LIVE

cells-owing : (p : Pending) (es : List Entry) (i : ℕ) → (entries_named p es i).cells ≡ owing_words (runs_of es) i 0 p.cells
cells-owing p es i =
    ext_get_or nothing (entries_named p es i).cells (owing_words (runs_of es) i 0 p.cells) (entries-cells p es i ∙ sym (length-owing_words (runs_of es) i 0 p.cells))
    (λ k inside.
    let within : k < length p.cells = omega (arith, entries-cells p es i) in
    let z : k ≡ 0 + k = omega arith in
    entries-cell p es i k within ∙ ap (λ (n : ℕ). owing (cell_of p.cells k) (values (runs_of es) i n)) z ∙ sym (cell-owing (runs_of es) i 0 p.cells k within))

pub joined-slaves : (old now : List SlaveWork) (entries : List Entry) → EntriesLive old now entries → map slave_of now ≡ owing_slaves (runs_of entries) 0 (map slave_of old)
joined-slaves old now entries live =
    ext_get_or nobody (map slave_of now) (owing_slaves (runs_of entries) 0 (map slave_of old))
    (length-map now slave_of ∙ live.same ∙ sym (length-map old slave_of) ∙ sym (length-owing_slaves (runs_of entries) 0 (map slave_of old)))
    (λ k inside.
    let in_now : k < length now = omega (arith, length-map now slave_of) in
    let in_old : k < length old = omega (arith, live.same) in
    let z : k ≡ 0 + k = omega arith in
    slave-at now k in_now ∙ ap slave_of (live.each k in_old)
    ∙ ap (λ (l : List Cell). let s : Slave = record { cells = l; operation = (slave_of (work_at old k)).operation; issues = (slave_of (work_at old k)).issues } in s) (cells-owing (work_at old k).queue entries k)
    ∙ ap (owed-slave (runs_of entries) k) (sym (slave-at old k in_old))
    ∙ ap (λ (n : ℕ). owed-slave (runs_of entries) n (get_or (map slave_of old) k nobody)) z
    ∙ sym (slave-owing (runs_of entries) 0 (map slave_of old) k (omega (arith, length-map old slave_of))))

length-rooms : (runs : List Run) (i : ℕ) (rooms : List ℕ) → length (rooms_left runs i rooms) ≡ length rooms
length-rooms runs i [] = refl
length-rooms runs i (r ∷ rs) = ap suc (length-rooms runs (suc i) rs)

room-left : (runs : List Run) (i : ℕ) (rooms : List ℕ) (k : ℕ) → k < length rooms → get_or (rooms_left runs i rooms) k 0 ≡ get_or rooms k 0 - length (namings runs (i + k))
room-left runs i [] k within = absurd (omega arith)
room-left runs i (r ∷ rs) zero within = rw add-zero refl
room-left runs i (r ∷ rs) (suc k) within = rw (add-suc i k, ← suc-add i k) (room-left runs (suc i) rs k (omega arith))

pub joined-rooms : (old now : List SlaveWork) (entries : List Entry) → EntriesLive old now entries → map room_of now ≡ rooms_left (runs_of entries) 0 (map room_of old)
joined-rooms old now entries live =
    ext_get_or 0 (map room_of now) (rooms_left (runs_of entries) 0 (map room_of old))
    (length-map now room_of ∙ live.same ∙ sym (length-map old room_of) ∙ sym (length-rooms (runs_of entries) 0 (map room_of old)))
    (λ k inside.
    let in_now : k < length now = omega (arith, length-map now room_of) in
    let in_old : k < length old = omega (arith, live.same) in
    let z : k ≡ 0 + k = omega arith in
    room-at now k in_now ∙ ap room_of (live.each k in_old) ∙ entries-room (work_at old k).queue entries k
    ∙ ap (λ (n : ℕ). n - length (namings (runs_of entries) k)) (sym (room-at old k in_old))
    ∙ ap (λ (n : ℕ). get_or (map room_of old) k 0 - length (namings (runs_of entries) n)) z
    ∙ sym (room-left (runs_of entries) 0 (map room_of old) k (omega (arith, length-map old room_of))))

joined-live : (old now : List SlaveWork) (older newer entries : List Entry) (k : ℕ) → WorksStand old older newer → EntriesLive old now entries → k < length old
    → (work_at now k).queue.live ≡ namings (runs_of ((older ++ newer) ++ entries)) k
joined-live old now older newer entries k stand live inside =
    ap (λ (w : SlaveWork). w.queue.live) (live.each k inside) ∙ entries-live (work_at old k).queue entries k
    ∙ ap (λ (l : List (ℕ × ℕ)). l ++ namings (runs_of entries) k) (stand k inside).live ∙ sym (live-is (older ++ newer) entries k)

joined-numbers : (old now : List SlaveWork) (older newer entries : List Entry) (k : ℕ) → WorksStand old older newer → EntriesLive old now entries → k < length old
    → (work_at now k).queue.numbers ≡ numbers_named ((older ++ newer) ++ entries) k
joined-numbers old now older newer entries k stand live inside =
    ap (λ (w : SlaveWork). w.queue.numbers) (live.each k inside) ∙ entries-numbers (work_at old k).queue entries k
    ∙ ap (λ (l : List ℕ). l ++ numbers_named entries k) (stand k inside).numbers ∙ sym (numbers-append (older ++ newer) entries k)

pub stands-newer : (old now : List SlaveWork) (older newer entries : List Entry) → WorksStand old older newer → EntriesLive old now entries → WorksStand now older (newer ++ entries)
stands-newer old now older newer entries stand live = λ k in_now.
    let inside : k < length old = omega (arith, live.same) in
    let all = append_assoc older newer entries in
    record {
      live = joined-live old now older newer entries k stand live inside ∙ ap (λ (l : List Entry). namings (runs_of l) k) all;
      numbers = joined-numbers old now older newer entries k stand live inside ∙ ap (λ (l : List Entry). numbers_named l k) all;
      first = ap (λ (w : SlaveWork). w.older) (live.each k inside) ∙ (stand k inside).first;
      few = let c = ap (λ (w : SlaveWork). length w.queue.cells) (live.each k inside) ∙ entries-cells (work_at old k).queue entries k in omega (arith, (stand k inside).few);
    }

pub stands-older : (old now : List SlaveWork) (older newer entries : List Entry) → newer ≡ [] → WorksStand old older newer → EntriesLive old now entries → WorksStand (map all_older now) (older ++ entries) newer
stands-older old now older newer entries none stand live = λ k in_map.
    let in_now : k < length now = omega (arith, length-map now all_older) in
    let inside : k < length old = omega (arith, live.same) in
    let all : (older ++ newer) ++ entries ≡ (older ++ entries) ++ newer =
    ap (λ (l : List Entry). (older ++ l) ++ entries) none ∙ ap (λ (l : List Entry). l ++ entries) (append-nil older) ∙ sym (append-nil (older ++ entries)) ∙ ap (λ (l : List Entry). (older ++ entries) ++ l) (sym none) in
    let alone : (older ++ newer) ++ entries ≡ older ++ entries = ap (λ (l : List Entry). (older ++ l) ++ entries) none ∙ ap (λ (l : List Entry). l ++ entries) (append-nil older) in
    let lives = joined-live old now older newer entries k stand live inside in
    let c = ap (λ (w : SlaveWork). length w.queue.cells) (live.each k inside) ∙ entries-cells (work_at old k).queue entries k in
    let s : WorkStands (all_older (work_at now k)) k (older ++ entries) newer = record {
      live = lives ∙ ap (λ (l : List Entry). namings (runs_of l) k) all;
      numbers = joined-numbers old now older newer entries k stand live inside ∙ ap (λ (l : List Entry). numbers_named l k) all;
      first = ap length (lives ∙ ap (λ (l : List Entry). namings (runs_of l) k) alone);
      few = omega (arith, (stand k inside).few);
    } in
    subst (λ (w : SlaveWork). WorkStands w k (older ++ entries) newer) (sym (get_or-map all_older now k no_work no_work in_now)) s

-- THE ORDER OF THE ENTRIES

pub order-older : (older newer entries : List Entry) → newer ≡ [] → NeverFall ((older ++ newer) ++ entries) → NeverFall ((older ++ entries) ++ newer)
order-older older newer entries none order =
    subst NeverFall (ap (λ (l : List Entry). (older ++ l) ++ entries) none ∙ ap (λ (l : List Entry). l ++ entries) (append-nil older) ∙ sym (append-nil (older ++ entries)) ∙ ap (λ (l : List Entry). (older ++ entries) ++ l) (sym none)) order

pub order-newer : (older newer : List Entry) → NeverFall (older ++ newer) → NeverFall (newer ++ [])
order-newer older newer order =
    subst NeverFall (drop_at older newer (length older) refl ∙ sym (append-nil newer)) (IsNonDecreasingBy-drop (λ (e : Entry). e.number) (length older) (older ++ newer) order)

-- ALL OLDER ONES CHANGES NO SLAVE

pub older-slaves : (works : List SlaveWork) → map slave_of (map all_older works) ≡ map slave_of works
older-slaves [] = refl
older-slaves (w ∷ ws) = ap (λ (l : List Slave). slave_of w ∷ l) (older-slaves ws)

pub older-rooms : (works : List SlaveWork) → map room_of (map all_older works) ≡ map room_of works
older-rooms [] = refl
older-rooms (w ∷ ws) = ap (λ (l : List ℕ). room_of w ∷ l) (older-rooms ws)

-- A RETIRE

pub retired-slaves : (works : List SlaveWork) → map slave_of (map work_retired works) ≡ map slave_of works
retired-slaves [] = refl
retired-slaves (w ∷ ws) = ap (λ (l : List Slave). slave_of w ∷ l) (retired-slaves ws)

retired-rooms-from : (works : List SlaveWork) (i : ℕ) (older newer : List Entry) → ((k : ℕ) → k < length works → WorkStands (work_at works k) (i + k) older newer)
    → map room_of (map work_retired works) ≡ rooms_freed (runs_of older) i (map room_of works)
retired-rooms-from [] i older newer stand = refl
retired-rooms-from (w ∷ ws) i older newer stand =
    let z : i + 0 ≡ i = add-zero i in
    let here : WorkStands w i older newer = subst (λ (n : ℕ). WorkStands w n older newer) z (stand 0 (omega arith)) in
    ap (λ (n : ℕ). (w.queue.room + n) ∷ map room_of (map work_retired ws)) here.first
    ∙ ap (λ (l : List ℕ). (w.queue.room + length (namings (runs_of older) i)) ∷ l)
    (retired-rooms-from ws (suc i) older newer (λ k lt. let s : i + suc k ≡ suc i + k = omega arith in subst (λ (n : ℕ). WorkStands (work_at ws k) n older newer) s (stand (suc k) (omega arith))))

pub retired-rooms : (works : List SlaveWork) (older newer : List Entry) → WorksStand works older newer → map room_of (map work_retired works) ≡ rooms_freed (runs_of older) 0 (map room_of works)
retired-rooms works older newer stand = retired-rooms-from works 0 older newer (λ k lt. let z : k ≡ 0 + k = omega arith in subst (λ (n : ℕ). WorkStands (work_at works k) n older newer) z (stand k lt))

length-numbers : (entries : List Entry) (i : ℕ) → length (numbers_named entries i) ≡ length (namings (runs_of entries) i)
length-numbers [] i = refl
length-numbers (e ∷ es) i =
    length-append (map (λ (n : ℕ × ℕ). e.number) (namings e.runs i)) (numbers_named es i)
    ∙ ap (λ (n : ℕ). n + length (numbers_named es i)) (length-map (namings e.runs i) (λ (n : ℕ × ℕ). e.number))
    ∙ ap (λ (n : ℕ). length (namings e.runs i) + n) (length-numbers es i)
    ∙ sym (length-append (namings e.runs i) (namings (runs_of es) i)) ∙ ap length (sym (namings-append e.runs (runs_of es) i))

pub stands-retired : (works : List SlaveWork) (older newer : List Entry) → WorksStand works older newer → WorksStand (map work_retired works) newer []
stands-retired works older newer stand = λ k in_map.
    let inside : k < length works = omega (arith, length-map works work_retired) in
    let w = work_at works k in
    let here = stand k inside in
    let lives : drop w.older w.queue.live ≡ namings (runs_of newer) k = newer-live w k older newer here in
    let none : newer ++ [] ≡ newer = append-nil newer in
    let numbers : drop w.older w.queue.numbers ≡ numbers_named newer k =
    ap (drop w.older) (here.numbers ∙ numbers-append older newer k) ∙ drop_at (numbers_named older k) (numbers_named newer k) w.older (length-numbers older k ∙ sym here.first) in
    let s : WorkStands (work_retired w) k newer [] = record {
      live = lives ∙ ap (λ (l : List Entry). namings (runs_of l) k) (sym none);
      numbers = numbers ∙ ap (λ (l : List Entry). numbers_named l k) (sym none);
      first = ap length lives;
      few = here.few;
    } in
    subst (λ (v : SlaveWork). WorkStands v k newer []) (sym (get_or-map work_retired works k no_work no_work inside)) s

-- every older naming is a live one
pub older-few : (works : List SlaveWork) (older newer : List Entry) → WorksStand works older newer → (i : ℕ) → i < length works → (work_at works i).older ≤ length (work_at works i).queue.live
older-few works older newer stand i inside =
    let s = stand i inside in
    omega (arith, s.first, ap length (s.live ∙ live-is older newer i), length-append (namings (runs_of older) i) (namings (runs_of newer) i))

-- WHAT THE CALLS LEAVE

pub with-newer : (old now : List SlaveWork) (older newer entries : List Entry) → EntriesLive old now entries → line_of now older (newer ++ entries) ≡ with_newer (line_of old older newer) entries
with-newer old now older newer entries live =
    ap (λ (s : List Slave). let l : LineState = record { slaves = s; older = older; newer = newer ++ entries; rooms = map room_of now } in l) (joined-slaves old now entries live)
    ∙ ap (λ (r : List ℕ). let l : LineState = record { slaves = owing_slaves (runs_of entries) 0 (map slave_of old); older = older; newer = newer ++ entries; rooms = r } in l) (joined-rooms old now entries live)

pub with-older : (old now : List SlaveWork) (older newer entries : List Entry) → EntriesLive old now entries → line_of (map all_older now) (older ++ entries) newer ≡ with_older (line_of old older newer) entries
with-older old now older newer entries live =
    ap (λ (s : List Slave). let l : LineState = record { slaves = s; older = older ++ entries; newer = newer; rooms = map room_of (map all_older now) } in l) (older-slaves now ∙ joined-slaves old now entries live)
    ∙ ap (λ (r : List ℕ). let l : LineState = record { slaves = owing_slaves (runs_of entries) 0 (map slave_of old); older = older ++ entries; newer = newer; rooms = r } in l) (older-rooms now ∙ joined-rooms old now entries live)

pub with-retired : (works : List SlaveWork) (older newer : List Entry) → WorksStand works older newer → line_of (map work_retired works) newer [] ≡ retired (line_of works older newer)
with-retired works older newer stand =
    ap (λ (s : List Slave). let l : LineState = record { slaves = s; older = newer; newer = []; rooms = map room_of (map work_retired works) } in l) (retired-slaves works)
    ∙ ap (λ (r : List ℕ). let l : LineState = record { slaves = map slave_of works; older = newer; newer = []; rooms = r } in l) (retired-rooms works older newer stand)

-- ONE SLAVE CHANGES

pub slaves-set : (works : List SlaveWork) (k : ℕ) (w : SlaveWork) → map slave_of (set works k w) ≡ set (map slave_of works) k (slave_of w)
slaves-set [] k w = refl
slaves-set (x ∷ xs) zero w = refl
slaves-set (x ∷ xs) (suc k) w = ap (λ (l : List Slave). slave_of x ∷ l) (slaves-set xs k w)

pub rooms-set : (works : List SlaveWork) (k : ℕ) (w : SlaveWork) → room_of w ≡ room_of (work_at works k) → map room_of (set works k w) ≡ map room_of works
rooms-set [] k w same = refl
rooms-set (x ∷ xs) zero w same = ap (λ (n : ℕ). n ∷ map room_of xs) same
rooms-set (x ∷ xs) (suc k) w same = ap (λ (l : List ℕ). room_of x ∷ l) (rooms-set xs k w same)

pub stands-set : (works : List SlaveWork) (older newer : List Entry) (k : ℕ) (w : SlaveWork) → WorksStand works older newer → k < length works → WorkStands w k older newer → WorksStand (set works k w) older newer
stands-set works older newer k w stand within here = λ i inside. one i (omega (arith, length-set works k w)) (cases_eq i k)
  where
    one : (i : ℕ) → i < length works → (i ≡ k) ⊎ (i ≢ k) → WorkStands (work_at (set works k w) i) i older newer
    one i inside (inl is) = subst (λ (n : ℕ). WorkStands (work_at (set works k w) n) n older newer) (sym is) (rw (get_or-set_same works k w no_work within) here)
    one i inside (inr other) = rw (get_or-set_other works k i w no_work other) (stand i inside)

-- a slave does something else: its namings stay
pub slave-changed : (works : List SlaveWork) (older newer : List Entry) (k : ℕ) (w : SlaveWork) → room_of w ≡ room_of (work_at works k)
    → line_of (set works k w) older newer ≡ record (line_of works older newer) { slaves = set (map slave_of works) k (slave_of w) }
slave-changed works older newer k w same =
    ap (λ (s : List Slave). let l : LineState = record { slaves = s; older = older; newer = newer; rooms = map room_of (set works k w) } in l) (slaves-set works k w)
    ∙ ap (λ (r : List ℕ). let l : LineState = record { slaves = set (map slave_of works) k (slave_of w); older = older; newer = newer; rooms = r } in l) (rooms-set works k w same)

pub slave-step : (works : List SlaveWork) (older newer : List Entry) (k : ℕ) (w : SlaveWork) (s : Slave) → room_of w ≡ room_of (work_at works k) → slave_of w ≡ s
    → line_of (set works k w) older newer ≡ with_slave (line_of works older newer) k s
slave-step works older newer k w s same is = slave-changed works older newer k w same ∙ ap (with_slave (line_of works older newer) k) is

set-here : (works : List SlaveWork) (k : ℕ) → k < length works → set works k (work_at works k) ≡ works
set-here [] k lt = absurd (omega arith)
set-here (w ∷ ws) zero lt = refl
set-here (w ∷ ws) (suc k) lt = ap (λ (l : List SlaveWork). w ∷ l) (set-here ws k (omega arith))

issue-line : (works : List SlaveWork) (older newer : List Entry) (k : ℕ) (o : Option (ℕ × ℕ)) → k < length works
    → line_of (set works k (work_issued (work_at works k) o)) older newer ≡ with_issue (line_of works older newer) k o
issue-line works older newer k None within = ap (λ (l : List SlaveWork). line_of l older newer) (set-here works k within)
issue-line works older newer k (Some n) within =
    let w = work_at works k in
    slave-step works older newer k (work_issued w (Some n)) _ refl
    (ap (λ (i : ℕ). let s : Slave = record { cells = set w.queue.cells n.0 (asked (cell_of w.queue.cells n.0)); operation = Issuing n.0 n.1; issues = i } in s) (length_push w.issued n.0)
    ∙ ap (λ (s : Slave). let t : Slave = record { cells = set s.cells n.0 (asked (cell_of s.cells n.0)); operation = Issuing n.0 n.1; issues = s.issues + 1 } in t) (sym (slave-at works k within)))

-- as the code hands a word out
pub issues-word : (works : List SlaveWork) (older newer : List Entry) (k : ℕ) (read new : SlaveWork) → WorksStand works older newer → k < length works → read ≡ work_at works k
    → new ≡ work_issued read (work_to_do read) → line_of (set works k new) older newer ≡ with_issue (line_of works older newer) k (first (to_do (line_of works older newer) k))
issues-word works older newer k read new stand within is made =
    let w = work_at works k in
    ap (λ (v : SlaveWork). line_of (set works k v) older newer) (made ∙ ap (λ (v : SlaveWork). work_issued v (work_to_do v)) is)
    ∙ issue-line works older newer k (work_to_do w) within
    ∙ ap (with_issue (line_of works older newer) k)
    (ap (λ (l : List (ℕ × ℕ)). first (pending.to_do w.queue.cells l)) (stand k within).live
    ∙ ap (λ (s : Slave). first (pending.to_do s.cells (namings (runs_of (older ++ newer)) k))) (sym (slave-at works k within)))

pub writes-word : (works : List SlaveWork) (older newer : List Entry) (k word value : ℕ) (read new : SlaveWork) → k < length works → read ≡ work_at works k
    → new ≡ work_written read word value → line_of (set works k new) older newer ≡ with_written (line_of works older newer) k word value
writes-word works older newer k word value read new within is made =
    let w = work_at works k in
    let all : new ≡ work_written w word value = made ∙ ap (λ (v : SlaveWork). work_written v word value) is in
    slave-step works older newer k new _ (ap room_of all)
    (ap slave_of all ∙ ap (λ (s : Slave). let t : Slave = record s { cells = set s.cells word (written (cell_of s.cells word) value); operation = NoOperation } in t) (sym (slave-at works k within)))

pub sets-operation : (works : List SlaveWork) (older newer : List Entry) (k : ℕ) (operation : Operation) (read : SlaveWork) → k < length works → read ≡ work_at works k
    → line_of (set works k (record read { operation = operation })) older newer ≡ with_slave (line_of works older newer) k (record (slave_at (line_of works older newer) k) { operation = operation_of operation })
sets-operation works older newer k operation read within is =
    slave-step works older newer k (record read { operation = operation }) _ (ap room_of is)
    (ap (λ (v : SlaveWork). let s : Slave = record { cells = v.queue.cells; operation = operation_of operation; issues = length v.issued } in s) is
    ∙ ap (λ (s : Slave). let t : Slave = record s { operation = operation_of operation } in t) (sym (slave-at works k within)))

-- a slave of the line has its work
pub has-work : (works : List SlaveWork) (older newer : List Entry) (line : LineState) (k : ℕ) → line_of works older newer ≡ line → k < length line.slaves → k < length works
has-work works older newer line k is within = let e = ap (λ (l : LineState). length l.slaves) is in omega (arith, e, length-map works slave_of)
