-- What is told of an answer of the book, and what is noted of it.
use Rattle.std.proofs.Common.{◌≡◌, ◌≢◌, ◌∙◌, ℕ, Bool, false, List, [], ◌∷◌, ◌++◌, refl, ap, subst}
use Rattle.book_model.specs.declared.next.DiskNext.{DiskNext}
use Rattle.book_model.specs.declared.next.DiskNext.TheVariants as disk
use Rattle.book_model.specs.declared.next.RomNext.{RomNext}
use Rattle.book_model.specs.declared.next.RomNext.TheVariants as rom
use Rattle.book_model.specs.declared.status.Status.{Status}
use Rattle.desk_book.specs.declared.call.Call.{Call}
use Rattle.book_model.specs.Book.{Book}
use Rattle.book_core.specs.Wear.{IssuesFew}
use Rattle.desk_book.specs.declared.call.Call.TheVariants.{DiskAsked, SlaveAsked}
use Rattle.desk_book.specs.declared.heard.Heard.{Heard}
use Rattle.desk_book.specs.declared.heard.Heard.TheVariants.{Work, Nothing, NoMemory, Stop}
use Rattle.desk_book.specs.Serving.{Pooled, Serving, with_call}
use Rattle.desk_book.specs.Asking.{is_disk_job, is_rom_job, TellsDisk, TellsSlave, HearsDisk, HearsSlave, WearsFew}

-- neither a job nor `Stop`
pub disk-idle : (answer : DiskNext) → is_disk_job answer ≡ false → answer ≢ disk.Stop → answer ≡ disk.Idle
disk-idle disk.Idle none separate = refl
disk-idle disk.Stop none separate = absurd (separate refl)
disk-idle disk.Sync none separate = absurd cc
disk-idle (disk.Write at bytes) none separate = absurd cc
disk-idle (disk.Gate at closed) none separate = absurd cc

pub rom-idle : (answer : RomNext) → is_rom_job answer ≡ false → answer ≢ rom.Stop → answer ≡ rom.Idle
rom-idle rom.Idle none separate = refl
rom-idle rom.Stop none separate = absurd (separate refl)
rom-idle (rom.Issue word value) none separate = absurd cc
rom-idle (rom.Settle taken) none separate = absurd cc

-- the history has one more call, and nothing else changes
pub noted-call : (calls later : List Call) (tickets refusals : ℕ) (pool : Pooled) (stopped : Bool) (seen : Status) (old : Serving) (noted call : Call)
    → record { calls = calls; tickets = tickets; refusals = refusals; pool = pool; has_stopped = stopped; seen = seen } ≡ old → later ≡ calls ++ noted ∷ [] → noted ≡ call
    → record { calls = later; tickets = tickets; refusals = refusals; pool = pool; has_stopped = stopped; seen = seen } ≡ with_call old call
noted-call calls later tickets refusals pool stopped seen old noted call is more same =
    let with_calls : List Call → Serving = λ l. record { calls = l; tickets = tickets; refusals = refusals; pool = pool; has_stopped = stopped; seen = seen } in
    subst (λ (s : Serving). with_calls later ≡ with_call s call) is (ap with_calls (more ∙ ap (λ (c : Call). calls ++ c ∷ []) same))

-- what is heard of an answer that the history has

pub hears-disk : (heard : Heard (DiskNext × DiskNext)) (next : DiskNext) (old new : Serving) → TellsDisk next heard → new ≡ with_call old (DiskAsked next) → HearsDisk heard old new
hears-disk (Work jobs) next old new tells is = (tells.0, tells.1, subst (λ (a : DiskNext). new ≡ with_call old (DiskAsked a)) tells.2 is)
hears-disk Nothing next old new tells is = subst (λ (a : DiskNext). new ≡ with_call old (DiskAsked a)) tells is
hears-disk NoMemory next old new tells is = absurd tells
hears-disk Stop next old new tells is = subst (λ (a : DiskNext). new ≡ with_call old (DiskAsked a)) tells is

pub hears-slave : (slave : ℕ) (heard : Heard RomNext) (next : RomNext) (old new : Serving) → TellsSlave next heard → new ≡ with_call old (SlaveAsked slave next) → HearsSlave slave heard old new
hears-slave slave (Work job) next old new tells is = (tells.0, subst (λ (a : RomNext). new ≡ with_call old (SlaveAsked slave a)) tells.1 is)
hears-slave slave Nothing next old new tells is = subst (λ (a : RomNext). new ≡ with_call old (SlaveAsked slave a)) tells is
hears-slave slave NoMemory next old new tells is = absurd tells
hears-slave slave Stop next old new tells is = subst (λ (a : RomNext). new ≡ with_call old (SlaveAsked slave a)) tells is

pub wears-few : (heard : Heard RomNext) (book : Book) → IssuesFew book → WearsFew heard book
wears-few (Work job) book few = few
wears-few Nothing book few = tt
wears-few NoMemory book few = tt
wears-few Stop book few = tt
