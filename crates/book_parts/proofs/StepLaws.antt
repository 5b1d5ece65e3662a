-- The running data of the slaves as runs and entries go live one by one.
use Rattle.std.proofs.Common.{◌≡◌, ◌≢◌, ◌⊎◌, inl, inr, ℕ, zero, suc, ◌+◌, ◌-◌, ◌<◌, ◌≤◌, List, [], ◌∷◌, ◌++◌, length, take, drop, set, get_or, refl, sym, ◌∙◌, ap, subst, arith}
use Rattle.std.proofs.lemmas.List.{append-nil, take_more, take-append-drop, drop_more, length-append, get_or-set_same, get_or-set_other, length-set}
use Rattle.std.proofs.lemmas.Bool.{cases_eq}
use Rattle.sii_words.specs.declared.run.Run.{Run}
use Rattle.jrn_format.specs.declared.journal.Entry.{Entry}
use Rattle.book_model.specs.Pending.{Pending}
use Rattle.book_model.specs.Entries.{runs_of, namings, named_from}
use Rattle.book_parts.specs.declared.work.SlaveWork.{SlaveWork}
use Rattle.book_parts.specs.Works.{words_named, entries_named, work_at, no_work, with_queue, no_run, RunLies, RunsLie, HasRooms}
use Rattle.book_parts.proofs.MapLaws.{get-any}
use Rattle.book_parts.proofs.NamedLaws.{named-append, named-cells, named-room}
use Rattle.book_parts.proofs.EntryLaws.{namings-append, named-mine, named-none, namings-more, words-more, namings-few, entries-append, entries-cells, entries-room}
use Rattle.book_model.proofs.FitLaws.{runs_of-append}

-- the works once these runs of an entry are live
pub record RunsLive (old now : List SlaveWork) (runs : List Run) (number : ℕ) : Type 0 where
  pub same : length now ≡ length old
  pub each : (i : ℕ) → i < length old → work_at now i ≡ with_queue (work_at old i) (words_named (work_at old i).queue (namings runs i) number)

pub lie-at : (works : List SlaveWork) (runs : List Run) (j : ℕ) → RunsLie works runs → j < length runs → RunLies works (get_or runs j no_run)
lie-at works [] j lie lt = absurd (omega arith)
lie-at works (run ∷ runs) zero lie lt = lie.0
lie-at works (run ∷ runs) (suc j) lie lt = lie-at works runs j lie.1 (omega arith)

-- a run as the code reads it
pub run-read : (runs read : List Run) (j : ℕ) (run : Run) → read ≡ runs → j < length read → run ≡ get_or read j run → run ≡ get_or runs j no_run
run-read runs read j run same within is = is ∙ get-any read j run no_run within ∙ ap (λ (l : List Run). get_or l j no_run) same

pub lie-left : (works : List SlaveWork) (xs ys : List Run) → RunsLie works (xs ++ ys) → RunsLie works xs
lie-left works [] ys lie = tt
lie-left works (x ∷ xs) ys lie = (lie.0, lie-left works xs ys lie.1)

pub lie-right : (works : List SlaveWork) (xs ys : List Run) → RunsLie works (xs ++ ys) → RunsLie works ys
lie-right works [] ys lie = lie
lie-right works (x ∷ xs) ys lie = lie-right works xs ys lie.1

pub lie-kept : (old now : List SlaveWork) (runs : List Run) → length now ≡ length old
    → ((i : ℕ) → i < length old → length (work_at now i).queue.cells ≡ length (work_at old i).queue.cells) → RunsLie old runs → RunsLie now runs
lie-kept old now [] same cells lie = tt
lie-kept old now (run ∷ runs) same cells lie =
    let c = cells run.slave lie.0.slave in
    (record { slave = omega (arith, lie.0.slave); words = omega (arith, lie.0.words); few = omega (arith, lie.0.few) }, lie-kept old now runs same cells lie.1)

-- a run's slave has what it takes
pub record RunNeeds (work : SlaveWork) (run : Run) : Type 0 where
  pub inside : run.first + length run.words ≤ length work.queue.cells
  pub few : length work.queue.cells ≤ 4096
  pub room : length run.words ≤ work.queue.room

pub run-needs : (old now : List SlaveWork) (runs : List Run) (j number : ℕ) → RunsLie old runs → HasRooms old runs → j < length runs
    → RunsLive old now (take j runs) number → RunNeeds (work_at now (get_or runs j no_run).slave) (get_or runs j no_run)
run-needs old now runs j number lie room within live =
    let run : Run = get_or runs j no_run in
    let i : ℕ = run.slave in
    let here : RunLies old run = lie-at old runs j lie within in
    let is : work_at now i ≡ with_queue (work_at old i) (words_named (work_at old i).queue (namings (take j runs) i) number) = live.each i here.slave in
    let cells : length (work_at now i).queue.cells ≡ length (work_at old i).queue.cells = ap (λ (w : SlaveWork). length w.queue.cells) is ∙ named-cells (work_at old i).queue (namings (take j runs) i) number in
    let left : (work_at now i).queue.room ≡ (work_at old i).queue.room - length (namings (take j runs) i) = ap (λ (w : SlaveWork). w.queue.room) is ∙ named-room (work_at old i).queue (namings (take j runs) i) number in
    let more : length (namings (take (j + 1) runs) i) ≡ length (namings (take j runs) i) + length run.words = words-more runs j within in
    let most : length (namings (take (j + 1) runs) i) ≤ length (namings runs i) = namings-few runs (j + 1) i in
    let has : length (namings runs i) ≤ (work_at old i).queue.room = room i here.slave in
    record { inside = omega (arith, here.words); few = omega (arith, here.few); room = omega arith }

pub run-live : (old now : List SlaveWork) (runs : List Run) (j number : ℕ) (queue : Pending) → RunsLie old runs → j < length runs → RunsLive old now (take j runs) number
    → queue ≡ words_named (work_at now (get_or runs j no_run).slave).queue (named_from (get_or runs j no_run).first (get_or runs j no_run).words) number
    → RunsLive old (set now (get_or runs j no_run).slave (with_queue (work_at now (get_or runs j no_run).slave) queue)) (take (j + 1) runs) number
run-live old now runs j number queue lie within live is =
    record {
      same = length-set now run.slave (with_queue (work_at now run.slave) queue) ∙ live.same;
      each = λ i inside. one i inside (cases_eq i run.slave);
    }
  where
    run : Run
    run = get_or runs j no_run

    other : (i : ℕ) → i < length old → i ≢ run.slave → with_queue (work_at old i) (words_named (work_at old i).queue (namings (take j runs) i) number) ≡ with_queue (work_at old i) (words_named (work_at old i).queue (namings (take (j + 1) runs) i) number)
    other i inside not =
        ap (λ (l : List (ℕ × ℕ)). with_queue (work_at old i) (words_named (work_at old i).queue l number))
        (sym (namings-more runs j i within ∙ ap (λ (l : List (ℕ × ℕ)). namings (take j runs) i ++ l) (named-none run i (λ same. not (sym same))) ∙ append-nil (namings (take j runs) i)))

    mine : run.slave < length old → with_queue (work_at now run.slave) queue ≡ with_queue (work_at old run.slave) (words_named (work_at old run.slave).queue (namings (take (j + 1) runs) run.slave) number)
    mine inside =
        let s : ℕ = run.slave in
        let at : work_at now s ≡ with_queue (work_at old s) (words_named (work_at old s).queue (namings (take j runs) s) number) = live.each s inside in
        ap (λ (w : SlaveWork). with_queue w queue) at
        ∙ ap (λ (q : Pending). with_queue (work_at old s) q)
        (is ∙ ap (λ (w : SlaveWork). words_named w.queue (named_from run.first run.words) number) at
        ∙ sym (named-append (work_at old s).queue (namings (take j runs) s) (named_from run.first run.words) number)
        ∙ ap (λ (l : List (ℕ × ℕ)). words_named (work_at old s).queue l number)
        (sym (namings-more runs j s within ∙ ap (λ (l : List (ℕ × ℕ)). namings (take j runs) s ++ l) (named-mine run s refl))))

    one : (i : ℕ) → i < length old → (i ≡ run.slave) ⊎ (i ≢ run.slave)
        → work_at (set now run.slave (with_queue (work_at now run.slave) queue)) i ≡ with_queue (work_at old i) (words_named (work_at old i).queue (namings (take (j + 1) runs) i) number)
    one i inside (inr not) = get_or-set_other now run.slave i (with_queue (work_at now run.slave) queue) no_work not ∙ live.each i inside ∙ other i inside not
    one i inside (inl here) =
        let s_in : run.slave < length old = subst (λ (k : ℕ). k < length old) here inside in
        subst (λ (k : ℕ). work_at (set now run.slave (with_queue (work_at now run.slave) queue)) k ≡ with_queue (work_at old k) (words_named (work_at old k).queue (namings (take (j + 1) runs) k) number)) (sym here)
        (get_or-set_same now run.slave (with_queue (work_at now run.slave) queue) no_work (omega (arith, live.same)) ∙ mine s_in)

-- ENTRIES

pub record EntriesLive (old now : List SlaveWork) (entries : List Entry) : Type 0 where
  pub same : length now ≡ length old
  pub each : (i : ℕ) → i < length old → work_at now i ≡ with_queue (work_at old i) (entries_named (work_at old i).queue entries i)

-- the entries up to the next one, that one, and those after it
pub split-at : (entries : List Entry) (j : ℕ) (d : Entry) → j < length entries → runs_of entries ≡ runs_of (take j entries) ++ ((get_or entries j d).runs ++ runs_of (drop (j + 1) entries))
split-at entries j d within =
    ap runs_of (sym (take-append-drop j entries)) ∙ runs_of-append (take j entries) (drop j entries) ∙ ap (λ (l : List Entry). runs_of (take j entries) ++ runs_of l) (drop_more entries j d within)

pub entry-lies : (old now : List SlaveWork) (entries : List Entry) (j : ℕ) (d : Entry) → RunsLie old (runs_of entries) → j < length entries → EntriesLive old now (take j entries) → RunsLie now (get_or entries j d).runs
entry-lies old now entries j d lie within live =
    let split = split-at entries j d within in
    let here : RunsLie old (get_or entries j d).runs =
    lie-left old (get_or entries j d).runs (runs_of (drop (j + 1) entries)) (lie-right old (runs_of (take j entries)) ((get_or entries j d).runs ++ runs_of (drop (j + 1) entries)) (subst (RunsLie old) split lie)) in
    lie-kept old now (get_or entries j d).runs live.same
    (λ i inside. ap (λ (w : SlaveWork). length w.queue.cells) (live.each i inside) ∙ entries-cells (work_at old i).queue (take j entries) i) here

pub entry-room : (old now : List SlaveWork) (entries : List Entry) (j : ℕ) (d : Entry) → HasRooms old (runs_of entries) → j < length entries → EntriesLive old now (take j entries) → HasRooms now (get_or entries j d).runs
entry-room old now entries j d room within live = λ i inside.
    let in_old : i < length old = omega (arith, live.same) in
    let e : Entry = get_or entries j d in
    let left : (work_at now i).queue.room ≡ (work_at old i).queue.room - length (namings (runs_of (take j entries)) i) =
    ap (λ (w : SlaveWork). w.queue.room) (live.each i in_old) ∙ entries-room (work_at old i).queue (take j entries) i in
    let all : namings (runs_of entries) i ≡ namings (runs_of (take j entries)) i ++ (namings e.runs i ++ namings (runs_of (drop (j + 1) entries)) i) =
    ap (λ (l : List Run). namings l i) (split-at entries j d within) ∙ namings-append (runs_of (take j entries)) (e.runs ++ runs_of (drop (j + 1) entries)) i
    ∙ ap (λ (l : List (ℕ × ℕ)). namings (runs_of (take j entries)) i ++ l) (namings-append e.runs (runs_of (drop (j + 1) entries)) i) in
    let has = room i in_old in
    omega (arith, ap length all, length-append (namings (runs_of (take j entries)) i) (namings e.runs i ++ namings (runs_of (drop (j + 1) entries)) i), length-append (namings e.runs i) (namings (runs_of (drop (j + 1) entries)) i))

pub entry-live : (old now next : List SlaveWork) (entries : List Entry) (j : ℕ) (d : Entry) → j < length entries → EntriesLive old now (take j entries) → length next ≡ length now
    → ((i : ℕ) → i < length now → work_at next i ≡ with_queue (work_at now i) (words_named (work_at now i).queue (namings (get_or entries j d).runs i) (get_or entries j d).number))
    → EntriesLive old next (take (j + 1) entries)
entry-live old now next entries j d within live same each = record {
  same = same ∙ live.same;
  each = λ i inside.
      let e : Entry = get_or entries j d in
      let at = live.each i inside in
      each i (omega (arith, live.same))
      ∙ ap (λ (w : SlaveWork). with_queue w (words_named w.queue (namings e.runs i) e.number)) at
      ∙ ap (λ (q : Pending). with_queue (work_at old i) q) (sym (entries-append (work_at old i).queue (take j entries) (e ∷ []) i))
      ∙ ap (λ (l : List Entry). with_queue (work_at old i) (entries_named (work_at old i).queue l i)) (sym (take_more entries j d within));
}
