-- Up stays true when a command is accepted.
use Rattle.std.proofs.Common.{◌≡◌, ℕ, ◌+◌, ◌^◌, ◌<◌, ◌≤◌, Bool, true, false, List, [], ◌∷◌, ◌++◌, length, take, drop, refl, sym, ◌∙◌, ap, subst, arith, length-append, length-drop, Result, Ok, Err}
use Rattle.std.specs.Prelude.{◌||◌, nat_lt, nat_le, ◌-◌, if◌then◌else◌}
use Rattle.std.specs.List.{AllByRecursion}
use Rattle.std.proofs.lemmas.Bool.{or_parts, ltb-false, leb-false}
use Rattle.std.proofs.lemmas.List.{take-append-le, drop-append-le}
use Rattle.sii_words.specs.declared.run.Run.{Run}
use Rattle.sii_words.specs.Redo.{SameShape, redone}
use Rattle.sii_words.specs.Run.{runs_between}
use Rattle.sii_words.proofs.RedoLaws.{SameShape-redone}
use Rattle.sii_edit.specs.declared.command.Command.{Command}
use Rattle.sii_edit.specs.declared.refusal.Refusal.{Refusal}
use Rattle.sii_edit.specs.Command.{outcome}
use Rattle.sii_edit.specs.Fold.{after}
use Rattle.sii_edit.proofs.CommandLaws.{SameShape-trans, SameShape-outcome}
use Rattle.sii_edit.proofs.FoldLaws.{contents-push, SameShape-contents}
use Rattle.sii_edit.specs.Fitting.{PlantFits}
use Rattle.jrn_format.specs.declared.journal.Entry.{Entry}
use Rattle.jrn_format.specs.Batch.{EntryFits, LieWithin}
use Rattle.jrn_format.specs.Halves.{Halves, Place, entries_size}
use Rattle.book_model.specs.Cells.{Cell}
use Rattle.site_core.specs.State.{State}
use Rattle.book_model.specs.declared.refusal.SubmitRefusal.{SubmitRefusal}
use Rattle.book_model.specs.declared.refusal.SubmitRefusal.TheVariants as refusals
use Rattle.book_model.specs.declared.refusal.TheConstants.{QUEUE}
use Rattle.book_model.specs.Entries.{runs_of, sizes_of}
use Rattle.book_model.specs.Book.{Book, base_of, contents_of, own, queued, room, all_cells, is_closed, is_version_2, appended, being_appended}
use Rattle.book_model.specs.Submit.{entry_for, is_too_large, is_full, sized, submit, with_command}
use Rattle.book_model.specs.Machine.{Machine, accepts}
use Rattle.book_model.specs.Fits.{Fits}
use Rattle.book_model.specs.Frame.{JournalFrame}
use Rattle.book_model.specs.Doing.{Appends}
use Rattle.book_model.proofs.CommandLaws.{entries-push}
use Rattle.book_model.proofs.CarryLaws.{Carries}
use Rattle.book_model.proofs.KeptLaws.{same_sizes}
use Rattle.book_model.proofs.FormLaws.{journal-same}
use Rattle.book_model.specs.Up.{Up}
use Rattle.book_model.proofs.EntryLaws.{entry-fits, entry-within}
use Rattle.sii_words.proofs.Quantifiers.{all_snoc}

-- ---- what an accepted command has passed

not-refused : (test : Bool) (refusal : SubmitRefusal) (rest : Result ℕ SubmitRefusal) (n : ℕ) → (if test then Err refusal else rest) ≡ Ok n → (test ≡ false) × (rest ≡ Ok n)
not-refused true refusal rest n is = absurd cc
not-refused false refusal rest n is = (refl, is)

-- the tests of its room
pub record Passes (book : Book) (new : List (List ℕ)) : Type 0 where
  pub runs : length (runs_between (contents_of book) new) < 2 ^ 16
  pub queue : length (queued book) < QUEUE
  pub count : length book.accepted < 2 ^ 64

-- what it leads to, and its number
pub record IsAccepted (book : Book) (command : Command) (number : ℕ) : Type 0 where
  pub new : List (List ℕ)
  pub validated : outcome (contents_of book) command ≡ Ok new
  pub room : Passes book new
  pub answer : number ≡ length book.accepted

not-large : (book : Book) (runs : List Run) → is_too_large book runs ≡ false → length runs < 2 ^ 16
not-large book runs is = let parts = or_parts (nat_lt 65535 (length runs)) (nat_lt (room book) (entries_size (entry_for book runs ∷ []) + 1)) is in omega (arith, ltb-false 65535 (length runs) parts.0)

-- neither the queue nor the numbers are used up
not-full : (full many none : Bool) (queue count : ℕ) → full ≡ nat_le QUEUE queue → many ≡ nat_le (2 ^ 64 - 1) count → (full || many || none) ≡ false → (queue < QUEUE) × (count < 2 ^ 64)
not-full full many none queue count full_is many_is is =
    let first = or_parts full many (or_parts (full || many) none is).0 in
    let room : nat_le QUEUE queue ≡ false = sym full_is ∙ first.0 in
    let numbers : nat_le (2 ^ 64 - 1) count ≡ false = sym many_is ∙ first.1 in
    (omega (arith, leb-false QUEUE queue room), omega (arith, leb-false (2 ^ 64 - 1) count numbers))

passes : (book : Book) (new : List (List ℕ)) → is_too_large book (runs_between (contents_of book) new) ≡ false → is_full book (runs_between (contents_of book) new) ≡ false → Passes book new
passes book new large full =
    let runs = runs_between (contents_of book) new in
    let room = not-full (nat_le QUEUE (length (queued book))) (nat_le (2 ^ 64 - 1) (length book.accepted)) _ (length (queued book)) (length book.accepted) refl refl full in
    record { runs = not-large book runs large; queue = room.0; count = room.1 }

sized-ok : (book : Book) (command : Command) (validated : Result (List (List ℕ)) Refusal) (n : ℕ) → outcome (contents_of book) command ≡ validated → sized book validated ≡ Ok n → IsAccepted book command n
sized-ok book command (Err refusal) n validated is = absurd cc
sized-ok book command (Ok new) n validated is =
    let runs = runs_between (contents_of book) new in
    let large = not-refused (is_too_large book runs) refusals.TooLarge (if is_full book runs then Err refusals.Full else Ok (length book.accepted)) n is in
    let full = not-refused (is_full book runs) refusals.Full (Ok (length book.accepted)) n large.1 in
    record { new = new; validated = validated; room = passes book new large.0 full.0; answer = cc }

if-first : (test : Bool) (refusal : SubmitRefusal) (first : Result ℕ SubmitRefusal) (n : ℕ) → (if test then first else Err refusal) ≡ Ok n → first ≡ Ok n
if-first true refusal first n is = is
if-first false refusal first n is = absurd cc

-- on a journal of version 2 alone
if-taken : (test : Bool) (refusal : SubmitRefusal) (first : Result ℕ SubmitRefusal) (n : ℕ) → (if test then first else Err refusal) ≡ Ok n → test ≡ true
if-taken true refusal first n is = refl
if-taken false refusal first n is = absurd cc

accepted-two : (book : Book) (command : Command) (n : ℕ) → submit book command ≡ Ok n → is_version_2 book.form ≡ true
accepted-two book command n is =
    let open_still = not-refused (is_closed book) refusals.Closed (if is_version_2 book.form then sized book (outcome (contents_of book) command) else Err refusals.OldJournal) n is in
    if-taken (is_version_2 book.form) refusals.OldJournal (sized book (outcome (contents_of book) command)) n open_still.1

pub accepted-as : (book : Book) (command : Command) (n : ℕ) → submit book command ≡ Ok n → IsAccepted book command n
accepted-as book command n is =
    let open_still = not-refused (is_closed book) refusals.Closed (if is_version_2 book.form then sized book (outcome (contents_of book) command) else Err refusals.OldJournal) n is in
    sized-ok book command (outcome (contents_of book) command) n refl
    (if-first (is_version_2 book.form) refusals.OldJournal (sized book (outcome (contents_of book) command)) n open_still.1)

-- ---- one entry more

after-is : (plant new : List (List ℕ)) (command : Command) → outcome plant command ≡ Ok new → after plant command ≡ new
after-is plant new command is = rw is refl

-- after the others
pub own-push : (book : Book) (command : Command) (new : List (List ℕ)) → outcome (contents_of book) command ≡ Ok new
    → own (with_command book command) ≡ own book ++ record { number = length book.accepted; runs = runs_between (contents_of book) new } ∷ []
own-push book command new is =
    entries-push 0 (base_of book) book.accepted command
    ∙ ap (λ (n : ℕ). own book ++ record { number = n; runs = runs_between (contents_of book) (after (contents_of book) command) } ∷ []) (omega arith)
    ∙ ap (λ (p : List (List ℕ)). own book ++ record { number = length book.accepted; runs = runs_between (contents_of book) p } ∷ []) (after-is (contents_of book) new command is)

module _ (own : List Entry) (entry : Entry) where
  -- the next entries stay the next
  more-next : (sizes : List ℕ) (durable : ℕ) (halves : Halves) (place : Place) (entries : List Entry) → Appends sizes own durable halves place entries → Appends sizes (own ++ entry ∷ []) durable halves place entries
  more-next sizes durable halves place entries a = record {
    next =
        let few = a.few in
        let dropped : drop durable (own ++ entry ∷ []) ≡ drop durable own ++ entry ∷ [] = drop-append-le durable own (entry ∷ []) (omega arith) in
        ap (take (length entries)) dropped ∙ take-append-le (length entries) (drop durable own) (entry ∷ []) (omega (arith, length-drop durable own)) ∙ a.next;
    few = omega (arith, a.few, length-append own (entry ∷ []));
    in_older = a.in_older;
    can = a.can;
    within = a.within;
  }

  more-all : (P : Entry → Type 0) (durable : ℕ) → durable ≤ length own → AllByRecursion P (drop durable own) → P entry → AllByRecursion P (drop durable (own ++ entry ∷ []))
  more-all P durable few all last = subst (AllByRecursion P) (sym (drop-append-le durable own (entry ∷ []) few)) (all_snoc P (drop durable own) entry all last)

  -- the queue is longer by one at most
  more-few : (n : ℕ) → length (drop n own) < QUEUE → length (drop n (own ++ entry ∷ [])) ≤ QUEUE
  more-few n few = omega (arith, length-drop n own, length-drop n (own ++ entry ∷ []), length-append own (entry ∷ []), few)

  more-fits : (plant base : List (List ℕ)) (durable : ℕ) (halves : Halves) (cells : List (List Cell)) (gone : List Run) → Fits plant base own durable halves cells gone → Fits plant base (own ++ entry ∷ []) durable halves cells gone
  more-fits plant base durable halves cells gone fits = record {
    contents = ap (λ (l : List Entry). redone base (runs_of l)) (take-append-le durable own (entry ∷ []) fits.durable_few) ∙ fits.contents;
    durable_few = let few = fits.durable_few in omega (arith, few, length-append own (entry ∷ []));
    fit = fits.fit;
  }

-- ---- the station

-- the contents are those of the book's line
same-line : (book : Book) → SameShape book.words (contents_of book)
same-line book =
    SameShape-trans book.words (base_of book) (contents_of book) (SameShape-redone book.words (runs_of book.found)) (SameShape-contents (base_of book) book.accepted)

up-accepts : (frame : JournalFrame) (book : Book) (state : State) (took : List Bool) (m : Machine) (command : Command) (entry : Entry) → Up frame book state took m → is_version_2 book.form ≡ true → own (with_command book command) ≡ own book ++ entry ∷ []
    → EntryFits entry → LieWithin (sizes_of book.words) entry → length (queued book) < QUEUE → Up frame (with_command book command) state took (accepts m command)
up-accepts frame book state took m command entry up two own_is fits within queue =
    let later = with_command book command in
    let n = book.durable + length (being_appended (appended book.doing)) in
    let carries : Carries book later = record {
      halves = refl;
      appends = λ place entries a. subst (λ (o : List Entry). Appends (sizes_of book.words) o book.durable book.halves place entries) (sym own_is) (more-next (own book) entry (sizes_of book.words) book.durable book.halves place entries a);
      retires = λ r. r;
    } in
    record {
      line = record { is_frame = up.line.is_frame; slaves = up.line.slaves; capacity = up.line.capacity; within = up.line.within };
      of = record { base = up.of.base; accepted = ap (λ (l : List Command). l ++ command ∷ []) up.of.accepted; acknowledged = up.of.acknowledged };
      gone = up.gone;
      fits = subst (λ (o : List Entry). Fits book.words (base_of book) o book.durable book.halves (all_cells book.slaves) up.gone) (sym own_is)
          (more-fits (own book) entry book.words (base_of book) book.durable book.halves (all_cells book.slaves) up.gone up.fits);
      same = up.same;
      disk = journal-same frame book later state.disk (record { carries = carries; form = refl; doing = refl; out = refl; failed = refl }) up.disk;
      slaves = up.slaves;
      pending = record {
        each = subst (λ (o : List Entry). AllByRecursion EntryFits (drop book.durable o)) (sym own_is) (more-all (own book) entry EntryFits book.durable up.fits.durable_few up.pending.each fits);
        within = subst (λ (o : List Entry). AllByRecursion (LieWithin (sizes_of book.words)) (drop book.durable o)) (sym own_is)
            (more-all (own book) entry (LieWithin (sizes_of book.words)) book.durable up.fits.durable_few up.pending.within within);
        few = subst (λ (o : List Entry). length (drop n o) ≤ QUEUE) (sym own_is) (more-few (own book) entry n queue);
      };
      ordered = up.ordered;
      after = up.after;
      no_command = λ old. absurd cc;
      no_migration = up.no_migration;
    }

pub up-submits : (frame : JournalFrame) (book : Book) (state : State) (took : List Bool) (m : Machine) (command : Command) (number : ℕ) → Up frame book state took m → submit book command ≡ Ok number
    → PlantFits (contents_of (with_command book command)) → Up frame (with_command book command) state took (accepts m command)
up-submits frame book state took m command number up is fits =
    let a = accepted-as book command number is in
    let old = contents_of book in
    let count = length book.accepted in
    let new_is : contents_of (with_command book command) ≡ a.new = contents-push (base_of book) book.accepted command ∙ after-is old a.new command a.validated in
    let line = same-line book in
    let slaves = line.slaves in
    let few = up.line.is_frame.slaves_fit in
    let entry : Entry = record { number = count; runs = runs_between old a.new } in
    let small : EntryFits entry = entry-fits old a.new count (SameShape-outcome old a.new command a.validated) (omega (arith, slaves, few, up.line.slaves)) (subst PlantFits new_is fits) a.room.count a.room.runs in
    let within : LieWithin (sizes_of book.words) entry = subst (λ (sizes : List ℕ). LieWithin sizes entry) (same_sizes book.words old line.slaves line.words) (entry-within old a.new count) in
    up-accepts frame book state took m command entry up (accepted-two book command number is) (own-push book command a.new a.validated) small within a.room.queue
