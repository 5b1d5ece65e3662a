-- The words that entries name are counted, and memory is reserved for them.
use Rattle.std.proofs.Common.{◌≡◌, ◌≢◌, ◌⊎◌, inl, inr, ℕ, zero, suc, ◌+◌, ◌<◌, ◌≤◌, List, [], ◌∷◌, ◌++◌, length, take, drop, set, get_or, map, refl, sym, ◌∙◌, ap, subst, arith}
use Rattle.std.proofs.lemmas.List.{append-nil, take_more, length-append, length-map, length-set, get_or-set_same, get_or-set_other, ext_get_or}
use Rattle.std.proofs.lemmas.Bool.{cases_eq}
use Rattle.sii_words.specs.declared.run.Run.{Run}
use Rattle.jrn_format.specs.declared.journal.Entry.{Entry}
use Rattle.book_model.specs.Cells.{Cell}
use Rattle.book_model.specs.Pending.{Pending}
use Rattle.book_model.specs.Entries.{runs_of, namings}
use Rattle.book_model.specs.Book.{Slave, nobody}
use Rattle.book_parts.specs.declared.work.SlaveWork.{SlaveWork}
use Rattle.book_parts.specs.Line.{AreOfLine, HasRoom}
use Rattle.book_parts.specs.Works.{work_at, no_work, no_run, with_queue, with_room, slave_of, room_of, line_of, AreOfSlaves, Counted, OnlyRooms, HasCounted, WorkStands, WorksStand}
use Rattle.book_parts.proofs.MapLaws.{get-any}
use Rattle.book_parts.proofs.EntryLaws.{namings-append, named-none, namings-more, words-more}
use Rattle.book_model.proofs.FitLaws.{runs_of-append}
use Rattle.book_parts.proofs.StepLaws.{split-at}
use Rattle.book_parts.proofs.LineLaws.{slave-at, room-at}

-- EACH RUN'S SLAVE

of-slaves-left : (n : ℕ) (xs ys : List Run) → AreOfSlaves n (xs ++ ys) → AreOfSlaves n xs
of-slaves-left n [] ys are = tt
of-slaves-left n (x ∷ xs) ys are = (are.0, of-slaves-left n xs ys are.1)

of-slaves-right : (n : ℕ) (xs ys : List Run) → AreOfSlaves n (xs ++ ys) → AreOfSlaves n ys
of-slaves-right n [] ys are = are
of-slaves-right n (x ∷ xs) ys are = of-slaves-right n xs ys are.1

pub of-slaves-at : (n : ℕ) (runs : List Run) (j : ℕ) → AreOfSlaves n runs → j < length runs → (get_or runs j no_run).slave < n
of-slaves-at n [] j are lt = absurd (omega arith)
of-slaves-at n (run ∷ runs) zero are lt = are.0
of-slaves-at n (run ∷ runs) (suc j) are lt = of-slaves-at n runs j are.1 (omega arith)

pub of-slaves-entry : (n : ℕ) (entries : List Entry) (j : ℕ) (d : Entry) → AreOfSlaves n (runs_of entries) → j < length entries → AreOfSlaves n (get_or entries j d).runs
of-slaves-entry n entries j d are within =
    let rest = runs_of (drop (j + 1) entries) in
    of-slaves-left n (get_or entries j d).runs rest
    (of-slaves-right n (runs_of (take j entries)) ((get_or entries j d).runs ++ rest) (subst (AreOfSlaves n) (split-at entries j d within) are))

pub of-slaves : (slaves : List Slave) (runs : List Run) → AreOfLine slaves runs → AreOfSlaves (length slaves) runs
of-slaves slaves [] are = tt
of-slaves slaves (run ∷ runs) are = (are.0.slave, of-slaves slaves runs are.1)

-- THE COUNTS

pub counted-none : (counts : List ℕ) → Counted counts counts []
counted-none counts = record { same = refl; each = λ i lt. omega arith }

pub counted-run : (old now : List ℕ) (runs : List Run) (j sum : ℕ) → j < length runs → (get_or runs j no_run).slave < length old → Counted old now (take j runs)
    → sum ≡ get_or now (get_or runs j no_run).slave 0 + length (get_or runs j no_run).words → Counted old (set now (get_or runs j no_run).slave sum) (take (j + 1) runs)
counted-run old now runs j sum within inside counted is = record {
  same = length-set now run.slave sum ∙ counted.same;
  each = λ i lt. one i lt (cases_eq i run.slave);
}
  where
    run : Run
    run = get_or runs j no_run

    one : (i : ℕ) → i < length old → (i ≡ run.slave) ⊎ (i ≢ run.slave) → get_or (set now run.slave sum) i 0 ≡ get_or old i 0 + length (namings (take (j + 1) runs) i)
    one i lt (inr not) =
        let more : namings (take (j + 1) runs) i ≡ namings (take j runs) i =
        namings-more runs j i within ∙ ap (λ (l : List (ℕ × ℕ)). namings (take j runs) i ++ l) (named-none run i (λ same. not (sym same))) ∙ append-nil (namings (take j runs) i) in
        get_or-set_other now run.slave i sum 0 not ∙ counted.each i lt ∙ ap (λ (l : List (ℕ × ℕ)). get_or old i 0 + length l) (sym more)
    one i lt (inl here) =
        let all : get_or (set now run.slave sum) run.slave 0 ≡ get_or old run.slave 0 + length (namings (take (j + 1) runs) run.slave) =
        let same = get_or-set_same now run.slave sum 0 (omega (arith, counted.same)) in
        let so_far = counted.each run.slave inside in
        let more = words-more runs j within in
        omega (arith, same, so_far, more, is) in
        subst (λ (k : ℕ). get_or (set now run.slave sum) k 0 ≡ get_or old k 0 + length (namings (take (j + 1) runs) k)) (sym here) all

pub counted-entry : (old now next : List ℕ) (entries : List Entry) (j : ℕ) (d : Entry) → j < length entries → Counted old now (runs_of (take j entries)) → Counted now next (get_or entries j d).runs
    → Counted old next (runs_of (take (j + 1) entries))
counted-entry old now next entries j d within counted more = record {
  same = more.same ∙ counted.same;
  each = λ i lt.
      let e : Entry = get_or entries j d in
      let all : namings (runs_of (take (j + 1) entries)) i ≡ namings (runs_of (take j entries)) i ++ namings e.runs i =
      ap (λ (l : List Entry). namings (runs_of l) i) (take_more entries j d within)
      ∙ ap (λ (l : List Run). namings l i) (runs_of-append (take j entries) (e ∷ []) ∙ ap (λ (l : List Run). runs_of (take j entries) ++ l) (append-nil e.runs))
      ∙ namings-append (runs_of (take j entries)) e.runs i in
      let here = more.each i (omega (arith, counted.same)) in
      let before = counted.each i lt in
      omega (arith, here, before, ap length all, length-append (namings (runs_of (take j entries)) i) (namings e.runs i));
}

-- THE ROOMS

same-queue : (p q : Pending) → q.cells ≡ p.cells → q.live ≡ p.live → q.numbers ≡ p.numbers → q ≡ record p { room = q.room }
same-queue p q cells live numbers =
    ap (λ (c : List Cell). let n : Pending = record { cells = c; live = q.live; numbers = q.numbers; room = q.room } in n) cells
    ∙ ap (λ (l : List (ℕ × ℕ)). let n : Pending = record { cells = p.cells; live = l; numbers = q.numbers; room = q.room } in n) live
    ∙ ap (λ (m : List ℕ). let n : Pending = record { cells = p.cells; live = p.live; numbers = m; room = q.room } in n) numbers

pub rooms-none : (works : List SlaveWork) → OnlyRooms works works
rooms-none works = record { same = refl; each = λ i lt. refl }

pub rooms-more : (old now : List SlaveWork) (at : ℕ) (d : SlaveWork) (queue : Pending) → at < length old → OnlyRooms old now
    → queue.cells ≡ (get_or now at d).queue.cells → queue.live ≡ (get_or now at d).queue.live → queue.numbers ≡ (get_or now at d).queue.numbers
    → OnlyRooms old (set now at (with_queue (get_or now at d) queue))
rooms-more old now at d queue within kept cells live numbers = record {
  same = length-set now at new ∙ kept.same;
  each = λ i lt. one i lt (cases_eq i at);
}
  where
    new : SlaveWork
    new = with_queue (get_or now at d) queue

    in_now : at < length now
    in_now = omega (arith, kept.same)

    here : get_or now at d ≡ with_room (work_at old at) (get_or now at d).queue.room
    here = subst (λ (w : SlaveWork). w ≡ with_room (work_at old at) w.queue.room) (get-any now at no_work d in_now) (kept.each at within)

    is : new ≡ with_room (work_at old at) queue.room
    is =
        ap (with_queue (get_or now at d)) (same-queue (get_or now at d).queue queue cells live numbers)
        ∙ ap (λ (w : SlaveWork). with_room w queue.room) here

    one : (i : ℕ) → i < length old → (i ≡ at) ⊎ (i ≢ at) → work_at (set now at new) i ≡ with_room (work_at old i) (work_at (set now at new) i).queue.room
    one i lt (inr not) = rw (get_or-set_other now at i new no_work not) (kept.each i lt)
    one i lt (inl same) =
        subst (λ (k : ℕ). work_at (set now at new) k ≡ with_room (work_at old k) (work_at (set now at new) k).queue.room) (sym same)
        (rw (get_or-set_same now at new no_work in_now) is)

pub counted-more : (works : List SlaveWork) (counts : List ℕ) (at : ℕ) (new : SlaveWork) → at < length works → HasCounted works counts at → get_or counts at 0 ≤ new.queue.room → HasCounted (set works at new) counts (at + 1)
counted-more works counts at new within has here = λ i lt. one i lt (cases_eq i at)
  where
    one : (i : ℕ) → i < at + 1 → (i ≡ at) ⊎ (i ≢ at) → get_or counts i 0 ≤ (work_at (set works at new) i).queue.room
    one i lt (inr not) = rw (get_or-set_other works at i new no_work not) (has i (less i at lt not))
      where
        less : (m n : ℕ) → m < n + 1 → m ≢ n → m < n
        less m n lt not = grind arith
    one i lt (inl is) = subst (λ (k : ℕ). get_or counts k 0 ≤ (work_at (set works at new) k).queue.room) (sym is) (rw (get_or-set_same works at new no_work within) here)

-- THE LINE

pub only-slaves : (old now : List SlaveWork) → OnlyRooms old now → map slave_of now ≡ map slave_of old
only-slaves old now kept =
    ext_get_or nobody (map slave_of now) (map slave_of old) (length-map now slave_of ∙ kept.same ∙ sym (length-map old slave_of))
    (λ k inside.
    let in_now : k < length now = omega (arith, length-map now slave_of) in
    let in_old : k < length old = omega (arith, kept.same) in
    slave-at now k in_now ∙ ap slave_of (kept.each k in_old) ∙ sym (slave-at old k in_old))

pub only-stands : (old now : List SlaveWork) (older newer : List Entry) → OnlyRooms old now → WorksStand old older newer → WorksStand now older newer
only-stands old now older newer kept stand = λ k inside.
    let in_old : k < length old = omega (arith, kept.same) in
    let s = stand k in_old in
    let w : WorkStands (with_room (work_at old k) (work_at now k).queue.room) k older newer = record { live = s.live; numbers = s.numbers; first = s.first; few = s.few } in
    subst (λ (v : SlaveWork). WorkStands v k older newer) (sym (kept.each k in_old)) w

pub has-counted : (works : List SlaveWork) (older newer : List Entry) (counts : List ℕ) (runs : List Run) (slaves : ℕ) → slaves ≡ length works
    → ((i : ℕ) → i < slaves → get_or counts i 0 ≡ length (namings runs i)) → HasCounted works counts slaves → HasRoom (line_of works older newer) runs
has-counted works older newer counts runs slaves same are has = λ i inside.
    let within : i < length works = omega (arith, length-map works slave_of) in
    let few : i < slaves = omega arith in
    let room : get_or (map room_of works) i 0 ≡ room_of (work_at works i) = room-at works i within in
    let e = are i few in
    let h = has i few in
    omega (arith, room, e, h)
