-- Each job that a call hands out is in the notes.
use Rattle.std.proofs.Common.{◌≡◌, ◌≢◌, ◌∙◌, ◌⊎◌, inl, inr, ℕ, ◌<◌, Bool, true, false, List, length, refl, sym, ap, subst}
use Rattle.std.specs.Prelude.{◌==◌, if◌then◌else◌}
use Rattle.std.proofs.lemmas.Bool.{eq-eqb}
use Rattle.std.proofs.lemmas.Bool.Decides.{eqb_tells}
use Rattle.book_model.specs.declared.next.DiskNext.{DiskNext}
use Rattle.book_model.specs.declared.next.DiskNext.TheVariants as disk
use Rattle.book_model.specs.declared.next.RomNext.{RomNext}
use Rattle.book_model.specs.declared.next.RomNext.TheVariants as rom
use Rattle.book_model.specs.declared.next.RomOutcome.{RomOutcome}
use Rattle.station_jobs.specs.Dispatch.{with_outcome}
use Rattle.desk_book.specs.declared.call.Call.{Call}
use Rattle.desk_book.specs.declared.call.Call.TheVariants.{SlaveAsked, SlaveReported}
use Rattle.station_jobs.specs.Noted.{Noted}
use Rattle.desk_book.specs.Logs.{DiskEntry, RomEntry, with_job, with_disk_answer, with_rom_answer, rom_noted}
use Rattle.desk_book.specs.Serving.{IsNoted, entries_at}
use Rattle.desk_book.specs.Asking.{is_disk_job, is_rom_job}
use Rattle.desk_book.proofs.CallLaws.{RomNoted}

-- ---- the disk

pub with-disk-job : (log : List DiskEntry) (answer : DiskNext) → is_disk_job answer ≡ true → with_disk_answer log answer ≡ with_job log answer
with-disk-job log disk.Idle is = cc
with-disk-job log disk.Stop is = cc
with-disk-job log disk.Sync is = refl
with-disk-job log (disk.Write at bytes) is = refl
with-disk-job log (disk.Gate at closed) is = refl

pub with-disk-rest : (log : List DiskEntry) (answer : DiskNext) → is_disk_job answer ≡ false → with_disk_answer log answer ≡ log
with-disk-rest log disk.Idle is = refl
with-disk-rest log disk.Stop is = refl
with-disk-rest log disk.Sync is = cc
with-disk-rest log (disk.Write at bytes) is = cc
with-disk-rest log (disk.Gate at closed) is = cc

-- ---- a slave

pub with-rom-job : (log : List RomEntry) (answer : RomNext) → is_rom_job answer ≡ true → with_rom_answer log answer ≡ with_job log answer
with-rom-job log rom.Idle is = cc
with-rom-job log rom.Stop is = cc
with-rom-job log (rom.Issue word value) is = refl
with-rom-job log (rom.Settle taken) is = refl

pub with-rom-rest : (log : List RomEntry) (answer : RomNext) → is_rom_job answer ≡ false → with_rom_answer log answer ≡ log
with-rom-rest log rom.Idle is = refl
with-rom-rest log rom.Stop is = refl
with-rom-rest log (rom.Issue word value) is = cc
with-rom-rest log (rom.Settle taken) is = cc

-- one slave's notes follow the call, and the call is about no other slave
noted-each : (call : Call) (at : ℕ) (old new : List (Noted RomNext RomOutcome)) (log : List RomEntry) → at < length old → IsNoted old at log new → log ≡ rom_noted at (entries_at old at) call
    → ((i : ℕ) (l : List RomEntry) → i ≢ at → rom_noted i l call ≡ l) → (i : ℕ) → i < length new → ((i ≡ at) ⊎ (i ≢ at)) → entries_at new i ≡ rom_noted i (entries_at old i) call
noted-each call at old new log inside is follows others i within (inl same) = subst (λ (k : ℕ). entries_at new k ≡ rom_noted k (entries_at old k) call) (sym same) (is.here ∙ follows)
noted-each call at old new log inside is follows others i within (inr other) = is.others i other ∙ sym (others i (entries_at old i) other)

pub same-or-not : (i k : ℕ) → (i ≡ k) ⊎ (i ≢ k)
same-or-not i k = from (eqb_tells i k)
  where
    from : ((i == k) ≡ true) × (i ≡ k) ⊎ ((i == k) ≡ false) × (i ≢ k) → (i ≡ k) ⊎ (i ≢ k)
    from (inl is) = inl is.1
    from (inr separate) = inr separate.1

pub rom-noted : (call : Call) (at : ℕ) (old new : List (Noted RomNext RomOutcome)) (log : List RomEntry) → at < length old → IsNoted old at log new → log ≡ rom_noted at (entries_at old at) call
    → ((i : ℕ) (l : List RomEntry) → i ≢ at → rom_noted i l call ≡ l) → RomNoted call old new
rom-noted call at old new log inside is follows others i within = (subst (λ (n : ℕ). i < n) is.count within, noted-each call at old new log inside is follows others i within (same-or-not i at))

-- two changes of one slave's notes
pub noted-twice : (at : ℕ) (old mid new : List (Noted RomNext RomOutcome)) (first log : List RomEntry) → IsNoted old at first mid → IsNoted mid at log new → IsNoted old at log new
noted-twice at old mid new first log one two = record {
  count = two.count ∙ one.count;
  here = two.here;
  others = λ i other. two.others i other ∙ one.others i other;
}

-- ---- a call is about one slave

is-itself : (i : ℕ) → (i == i) ≡ true
is-itself i = eq-eqb i i refl

isnt-other : (slave i : ℕ) → i ≢ slave → (slave == i) ≡ false
isnt-other slave i other = from (eqb_tells slave i)
  where
    from : ((slave == i) ≡ true) × (slave ≡ i) ⊎ ((slave == i) ≡ false) × (slave ≢ i) → (slave == i) ≡ false
    from (inl is) = absurd (other (sym is.1))
    from (inr separate) = separate.0

pub asked-here : (slave : ℕ) (answer : RomNext) (log : List RomEntry) → rom_noted slave log (SlaveAsked slave answer) ≡ with_rom_answer log answer
asked-here slave answer log = ap (λ (b : Bool). if b then with_rom_answer log answer else log) (is-itself slave)

pub asked-other : (slave : ℕ) (answer : RomNext) (i : ℕ) (log : List RomEntry) → i ≢ slave → rom_noted i log (SlaveAsked slave answer) ≡ log
asked-other slave answer i log other = ap (λ (b : Bool). if b then with_rom_answer log answer else log) (isnt-other slave i other)

pub reported-here : (slave : ℕ) (outcome : RomOutcome) (log : List RomEntry) → rom_noted slave log (SlaveReported slave outcome) ≡ with_outcome log outcome
reported-here slave outcome log = ap (λ (b : Bool). if b then with_outcome log outcome else log) (is-itself slave)

pub reported-other : (slave : ℕ) (outcome : RomOutcome) (i : ℕ) (log : List RomEntry) → i ≢ slave → rom_noted i log (SlaveReported slave outcome) ≡ log
reported-other slave outcome i log other = ap (λ (b : Bool). if b then with_outcome log outcome else log) (isnt-other slave i other)

-- ---- the slave that the call is about

module _ (slave at : ℕ) (old : List (Noted RomNext RomOutcome)) (same : at ≡ slave) (inside : at < length old) where
  pub asked-noted : (answer : RomNext) (mid new : List (Noted RomNext RomOutcome)) → IsNoted old at (entries_at old at) mid → IsNoted mid at (with_rom_answer (entries_at mid at) answer) new
      → RomNoted (SlaveAsked slave answer) old new
  asked-noted answer mid new one two =
      subst (λ (s : ℕ). RomNoted (SlaveAsked s answer) old new) same
      (rom-noted (SlaveAsked at answer) at old new (with_rom_answer (entries_at mid at) answer) inside (noted-twice at old mid new (entries_at old at) (with_rom_answer (entries_at mid at) answer) one two)
      (ap (λ (l : List RomEntry). with_rom_answer l answer) one.here ∙ sym (asked-here at answer (entries_at old at)))
      (λ i l other. asked-other at answer i l other))

  pub reported-noted : (outcome : RomOutcome) (new : List (Noted RomNext RomOutcome)) → IsNoted old at (with_outcome (entries_at old at) outcome) new → RomNoted (SlaveReported slave outcome) old new
  reported-noted outcome new one =
      subst (λ (s : ℕ). RomNoted (SlaveReported s outcome) old new) same
      (rom-noted (SlaveReported at outcome) at old new (with_outcome (entries_at old at) outcome) inside one (sym (reported-here at outcome (entries_at old at))) (λ i l other. reported-other at outcome i l other))
