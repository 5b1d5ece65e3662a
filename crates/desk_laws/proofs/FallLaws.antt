-- From one process data cycle to the next, the prefix never becomes shorter.
use Rattle.std.proofs.Common.{◌≡◌, ◌∙◌, ℕ, ◌+◌, ◌≤◌, List, [], ◌∷◌, ◌++◌, refl, sym, ap, arith, Option, Some, None, Ok, Err}
use Rattle.std.specs.Prelude.{fold}
use Rattle.sii_image.specs.ProcessImage.{ProcessImageParts, process_image}
use Rattle.book_model.specs.Book.{Book, Resting, appended}
use Rattle.book_model.specs.Reading.{applied, planned}
use Rattle.station_jobs.specs.declared.cycle.CycleNote.{CycleNote}
use Rattle.desk_book.specs.declared.call.Call.{Call}
use Rattle.desk_book.specs.declared.call.Call.TheVariants.{Submitted, DiskAsked, DiskReported, SlaveAsked, SlaveReported, PlanAsked, Finished}
use Rattle.desk_book.specs.Calls.{after, AreAnswered, turn_of}
use Rattle.desk_book.specs.Logs.{turn_noted}
use Rattle.desk_laws.specs.Turns.{NeverFallFrom, AppendsNext}
use Rattle.desk_laws.proofs.GoesLaws.{GoesAndAppends, applied-stays, same-on, command-on, disk-asked-on, disk-reported-on, slave-asked-on, slave-reported-on}

-- ---- lists of turns

-- the prefix of the last cycle
abbrev top : ℕ → List CycleNote → ℕ
top least [] = least
top least (turn ∷ turns) = top turn.prefix turns

rise-more : (least : ℕ) (turns : List CycleNote) (turn : CycleNote) → NeverFallFrom least turns → top least turns ≤ turn.prefix → NeverFallFrom least (turns ++ turn ∷ [])
rise-more least [] turn rise le = (le, tt)
rise-more least (first ∷ turns) turn rise le = (rise.0, rise-more first.prefix turns turn rise.1 le)

top-more : (least : ℕ) (turns : List CycleNote) (turn : CycleNote) → top least (turns ++ turn ∷ []) ≡ turn.prefix
top-more least [] turn = refl
top-more least (first ∷ turns) turn = top-more first.prefix turns turn

-- ---- the prefix of a cycle is the settled one

prefix-is : (book : Book) (turn : CycleNote) (image : Option ProcessImageParts) → process_image (planned book) ≡ image → Some turn ≡ turn_of book → turn.prefix ≡ applied book
prefix-is book turn None has is = let none : Some turn ≡ None = rw has at is in absurd cc
prefix-is book turn (Some image) has is =
    let one : Some turn ≡ Some (record { prefix = applied book; size = image.outputs + image.inputs }) = rw has at is in
    let turn_is : turn ≡ record { prefix = applied book; size = image.outputs + image.inputs } = cc in
    ap (λ (t : CycleNote). t.prefix) turn_is

-- ---- call by call

-- the book after a finish
finished-on : (book : Book) → GoesAndAppends book (after book Finished)
finished-on book = let on = same-on book in record { goes = record { found = refl; next = on.goes.next; entries = on.goes.entries; count = refl; owes = on.goes.owes }; appends = λ appends. appends }

-- after a call that hands out no cycle
on : (book : Book) (call : Call) (least : ℕ) → GoesAndAppends book (after book call) → AppendsNext book → least ≤ applied book → AppendsNext (after book call) × (least ≤ applied (after book call))
on book call least goes appends le =
    let more = applied-stays book (after book call) goes.goes in
    (goes.appends appends, omega (arith, le, more))

rise : (book : Book) (calls : List Call) (log : List CycleNote) → AppendsNext book → AreAnswered book calls → NeverFallFrom 0 log → top 0 log ≤ applied book → NeverFallFrom 0 (fold turn_noted log calls)
rise book [] log appends all sofar le = sofar
rise book (PlanAsked (Some turn) ∷ calls) log appends all sofar le =
    let is = prefix-is book turn (process_image (planned book)) refl all.0 in
    rise book calls (log ++ turn ∷ []) appends all.1 (rise-more 0 log turn sofar (omega (arith, le, is))) (omega (arith, top-more 0 log turn, is))
rise book (PlanAsked None ∷ calls) log appends all sofar le = rise book calls log appends all.1 sofar le
rise book (Submitted command (Err refusal) ∷ calls) log appends all sofar le = rise book calls log appends all.1 sofar le
rise book (Submitted command (Ok number) ∷ calls) log appends all sofar le =
    let o = on book (Submitted command (Ok number)) (top 0 log) (command-on book command) appends le in
    rise (after book (Submitted command (Ok number))) calls log o.0 all.1 sofar o.1
rise book (DiskAsked answer ∷ calls) log appends all sofar le =
    let o = on book (DiskAsked answer) (top 0 log) (disk-asked-on book) appends le in
    rise (after book (DiskAsked answer)) calls log o.0 all.1 sofar o.1
rise book (DiskReported outcome ∷ calls) log appends all sofar le =
    let o = on book (DiskReported outcome) (top 0 log) (disk-reported-on book outcome appends) appends le in
    rise (after book (DiskReported outcome)) calls log o.0 all.1 sofar o.1
rise book (SlaveAsked slave answer ∷ calls) log appends all sofar le =
    let o = on book (SlaveAsked slave answer) (top 0 log) (slave-asked-on book slave) appends le in
    rise (after book (SlaveAsked slave answer)) calls log o.0 all.1 sofar o.1
rise book (SlaveReported slave outcome ∷ calls) log appends all sofar le =
    let o = on book (SlaveReported slave outcome) (top 0 log) (slave-reported-on book slave outcome) appends le in
    rise (after book (SlaveReported slave outcome)) calls log o.0 all.1 sofar o.1
rise book (Finished ∷ calls) log appends all sofar le =
    let o = on book Finished (top 0 log) (finished-on book) appends le in
    rise (after book Finished) calls log o.0 all.1 sofar o.1

pub turns-rise : (opened : Book) (calls : List Call) → AppendsNext opened → AreAnswered opened calls → NeverFallFrom 0 (fold turn_noted [] calls)
turns-rise opened calls appends all = rise opened calls [] appends all tt (omega arith)

pub resting-next : (book : Book) → book.doing ≡ Resting → AppendsNext book
resting-next book rests place entries is = absurd (let no : None ≡ Some (place, entries) = sym (ap appended rests) ∙ is in cc no)
