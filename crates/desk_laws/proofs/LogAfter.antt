-- A job whose outcome was reported stays in its log as it is.
use Rattle.std.proofs.Common.{◌≡◌, ◌∙◌, inl, inr, ℕ, ◌<◌, List, [], ◌∷◌, length, get_or, refl, sym, ap, subst, arith, length-append, None, Ok, Err}
use Rattle.std.specs.Prelude.{fold}
use Rattle.book_model.specs.declared.next.RomNext.{RomNext}
use Rattle.book_model.specs.declared.next.RomNext.TheVariants as next
use Rattle.book_model.specs.Book.{Book, Slave, nobody, slave_at}
use Rattle.book_model.specs.RomSteps.{rom_next}
use Rattle.station_jobs.specs.declared.log.Assignment.{Assignment}
use Rattle.station_jobs.specs.Dispatch.{with_outcome}
use Rattle.desk_book.specs.declared.call.Call.{Call}
use Rattle.desk_book.specs.declared.call.Call.TheVariants.{Submitted, DiskAsked, DiskReported, SlaveAsked, SlaveReported, PlanAsked, Finished}
use Rattle.desk_book.specs.Calls.{after, AreAnswered, IsAnswered, IsOut}
use Rattle.desk_book.specs.Logs.{RomEntry, with_job, rom_noted, with_rom_answer}
use Rattle.desk_book.proofs.LogLaws.{asked-here, asked-other, reported-here, reported-other, with-rom-rest, same-or-not}
use Rattle.desk_book.proofs.OutLaws.{Next, rests, issues, settles, next-of, asked-separate, reported-separate, slaves-asked, reported-operation}

-- What a call notes: nothing, a job that is handed out, or the outcome of the one that is out. `Was` and `Now`: a job is out before the call, and after it.
pub data Notes {J O : Type 0} (note : List (Assignment J O) → List (Assignment J O)) (Was Now : Type 0) : Type 0 where
  none : ((log : List (Assignment J O)) → note log ≡ log) → (Now → Was) → Notes note Was Now
  job : (job : J) → ((log : List (Assignment J O)) → note log ≡ with_job log job) → Notes note Was Now
  reported : (outcome : O) → Was → ((log : List (Assignment J O)) → note log ≡ with_outcome log outcome) → Notes note Was Now

outcome-afterwards : {J O : Type 0} (entry : Assignment J O) (log : List (Assignment J O)) (outcome : O) → 0 < length log → with_outcome (entry ∷ log) outcome ≡ entry ∷ with_outcome log outcome
outcome-afterwards entry [] outcome some = absurd (omega arith)
outcome-afterwards entry (x ∷ log) outcome some = refl

outcome-length : {J O : Type 0} (log : List (Assignment J O)) (outcome : O) → length (with_outcome log outcome) ≡ length log
outcome-length [] outcome = refl
outcome-length (x ∷ []) outcome = refl
outcome-length (x ∷ y ∷ log) outcome = omega (arith, outcome-length (y ∷ log) outcome)

module _ {J O : Type 0} (entry : Assignment J O) where
  -- after the entry goes what the call notes, and a job that is out is in the log
  record GoesAfter (log noted : List (Assignment J O)) (afterwards : List (Assignment J O)) (Now : Type 0) : Type 0 where
    is : afterwards ≡ entry ∷ noted
    has : Now → 0 < length noted

  one-afterwards : (note : List (Assignment J O) → List (Assignment J O)) (Was Now : Type 0) (log : List (Assignment J O)) → Notes note Was Now → (Was → 0 < length log) → GoesAfter log (note log) (note (entry ∷ log)) Now
  one-afterwards note Was Now log (none same out) has = record {
    is = same (entry ∷ log) ∙ ap (λ (l : List (Assignment J O)). entry ∷ l) (sym (same log));
    has = λ now. subst (λ (l : List (Assignment J O)). 0 < length l) (sym (same log)) (has (out now));
  }
  one-afterwards note Was Now log (job one is) has = record {
    is = is (entry ∷ log) ∙ ap (λ (l : List (Assignment J O)). entry ∷ l) (sym (is log));
    has = λ now. omega (arith, ap length (is log), length-append log (record { job = one; outcome = None } ∷ []));
  }
  one-afterwards note Was Now log (reported outcome was is) has =
      let some = has was in
      record {
        is = is (entry ∷ log) ∙ outcome-afterwards entry log outcome some ∙ ap (λ (l : List (Assignment J O)). entry ∷ l) (sym (is log));
        has = λ now. omega (arith, some, ap length (is log), outcome-length log outcome);
      }

  pub afterwards : (noted : List (Assignment J O) → Call → List (Assignment J O)) (Out : Book → Type 0) → ((book : Book) (call : Call) → IsAnswered book call → Notes (λ (log : List (Assignment J O)). noted log call) (Out book) (Out (after book call)))
      → (book : Book) (calls : List Call) (log : List (Assignment J O)) → AreAnswered book calls → (Out book → 0 < length log) → fold noted (entry ∷ log) calls ≡ entry ∷ fold noted log calls
  afterwards noted Out notes book [] log all has = refl
  afterwards noted Out notes book (call ∷ calls) log all has =
      let one = one-afterwards (λ (l : List (Assignment J O)). noted l call) (Out book) (Out (after book call)) log (notes book call all.0) has in
      ap (λ (l : List (Assignment J O)). fold noted l calls) one.is ∙ afterwards noted Out notes (after book call) calls (noted log call) all.1 one.has

-- ---- the log of a slave

abbrev OutFor : ℕ → Book → Type 0
OutFor i book = IsOut (slave_at book i).operation

abbrev RomNotes : ℕ → Book → Call → Type 0
RomNotes i book call = Notes (λ (log : List RomEntry). rom_noted i log call) (OutFor i book) (OutFor i (after book call))

unnoted : (i : ℕ) (book : Book) (call : Call) → ((log : List RomEntry) → rom_noted i log call ≡ log) → (slave_at (after book call) i).operation ≡ (slave_at book i).operation → RomNotes i book call
unnoted i book call same operation = none same (subst IsOut operation)

asked-notes : (i : ℕ) (book : Book) (answer : RomNext) → answer ≡ (rom_next book i).0 → Next book i → RomNotes i book (SlaveAsked i answer)
asked-notes i book answer is (rests nothing rest goes) =
    unnoted i book (SlaveAsked i answer) (λ log. asked-here i answer log ∙ ap (with_rom_answer log) (is ∙ ap (λ (p : RomNext × Book). p.0) goes) ∙ with-rom-rest log nothing rest) (ap (λ (p : RomNext × Book). (slave_at p.1 i).operation) goes)
asked-notes i book answer is (issues w others vacant todo within goes) =
    job (next.Issue w.0 w.1) (λ log. asked-here i answer log ∙ ap (with_rom_answer log) (is ∙ ap (λ (p : RomNext × Book). p.0) goes))
asked-notes i book answer is (settles word value taken unsettled within goes) =
    job (next.Settle taken) (λ log. asked-here i answer log ∙ ap (with_rom_answer log) (is ∙ ap (λ (p : RomNext × Book). p.0) goes))

rom-notes : (i : ℕ) (book : Book) (call : Call) → IsAnswered book call → RomNotes i book call
rom-notes i book (Submitted command (Ok number)) is = none (λ log. refl) (λ out. out)
rom-notes i book (Submitted command (Err refusal)) is = none (λ log. refl) (λ out. out)
rom-notes i book (DiskAsked answer) is = unnoted i book (DiskAsked answer) (λ log. refl) (ap (λ (l : List Slave). (get_or l i nobody).operation) (slaves-asked book))
rom-notes i book (DiskReported outcome) is = unnoted i book (DiskReported outcome) (λ log. refl) (reported-operation book outcome i)
rom-notes i book (SlaveAsked j answer) is = elim (same-or-not i j) [
  | inl it ↦ subst (λ (k : ℕ). answer ≡ (rom_next book k).0 → RomNotes i book (SlaveAsked k answer)) it (λ is. asked-notes i book answer is (next-of book i)) is
  | inr other ↦ unnoted i book (SlaveAsked j answer) (λ log. asked-other j answer i log other) (ap (λ (s : Slave). s.operation) (asked-separate book j i other))
]
rom-notes i book (SlaveReported j outcome) is = elim (same-or-not i j) [
  | inl it ↦ reported outcome (subst (λ (k : ℕ). OutFor k book) (sym it) is) (λ log. ap (λ (k : ℕ). rom_noted i log (SlaveReported k outcome)) (sym it) ∙ reported-here i outcome log)
  | inr other ↦ unnoted i book (SlaveReported j outcome) (λ log. reported-other j outcome i log other) (ap (λ (s : Slave). s.operation) (reported-separate book j i outcome other))
]
rom-notes i book (PlanAsked answer) is = none (λ log. refl) (λ out. out)
rom-notes i book Finished is = none (λ log. refl) (λ out. out)

pub log-afterwards : (i : ℕ) (book : Book) (calls : List Call) (entry : RomEntry) (log : List RomEntry) → AreAnswered book calls → (IsOut (slave_at book i).operation → 0 < length log) → fold (rom_noted i) (entry ∷ log) calls ≡ entry ∷ fold (rom_noted i) log calls
log-afterwards i book calls entry log all has = afterwards entry (rom_noted i) (OutFor i) (rom-notes i) book calls log all has
