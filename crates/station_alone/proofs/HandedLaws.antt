-- What the book hands out, and the book then.
use Rattle.std.proofs.Common.{◌≡◌, ℕ, ◌<◌, Bool, true, false, length, refl, sym, ap, subst, arith, Option, Some, None}
use Rattle.std.specs.Prelude.{is_some, nat_lt, if◌then◌else◌}
use Rattle.std.proofs.lemmas.Bool.Decides.{nat_tests}
use Rattle.book_model.specs.declared.next.DiskNext.{DiskNext}
use Rattle.book_model.specs.declared.next.DiskNext.TheVariants as disk
use Rattle.book_model.specs.declared.next.RomNext.{RomNext}
use Rattle.book_model.specs.declared.next.RomNext.TheVariants as rom
use Rattle.book_model.specs.Book.{Book, Doing, Resting, Payload, PayloadSync, OpenGate, OpenSync, CloseGate, CloseSync, FarGate, Mark, MarkSync, Version, VersionSync, Settling}
use Rattle.book_model.specs.DiskSteps.{action_of, doing_next, disk_next}
use Rattle.book_model.specs.RomSteps.{with_operation, with_issue, rom_next}
use Rattle.book_model.proofs.SlaveEventLaws as asks
use Rattle.book_model.proofs.SlaveEventLaws.{IsNothing, Asks}
use Rattle.site_journal.proofs.DiskRuns.{IsAction, idle-or-stop}
use Rattle.site_journal.proofs.ReadyLaws.{asked-sound}
use Rattle.site_journal.proofs.WordRuns.{handed}

-- ---- for the disk

pub data Hands (book : Book) : Type 0 where
  nothing : (answer : DiskNext) → (IsAction answer → ⊥) → disk_next book ≡ (answer, book) → Hands book
  action : (is : DiskNext) → IsAction is → is_some book.fault ≡ false → disk_next book ≡ (is, record book { doing = doing_next book book.doing; is_handed_out = true }) → Hands book

abbrev IsActionIfAny : Option DiskNext → Type 0
IsActionIfAny None = Unit {0}
IsActionIfAny (Some given) = IsAction given

steps-act : (book : Book) (doing : Doing) → IsActionIfAny (action_of book doing)
steps-act book Resting = tt
steps-act book (Payload place entries) = tt
steps-act book (PayloadSync place entries) = tt
steps-act book (OpenGate place entries) = tt
steps-act book (OpenSync place entries) = tt
steps-act book CloseGate = tt
steps-act book CloseSync = tt
steps-act book FarGate = tt
steps-act book Mark = tt
steps-act book MarkSync = tt
steps-act book Version = tt
steps-act book VersionSync = tt

module _ (book : Book) where
  hands-open : (given : Option DiskNext) → book.is_handed_out ≡ false → is_some book.fault ≡ false → action_of book (doing_next book book.doing) ≡ given → Hands book
  hands-open None out ok is = nothing (if book.is_finished then disk.Stop else disk.Idle) (idle-or-stop book.is_finished) (rw (out, ok, is) refl)
  hands-open (Some given) out ok is = action given (subst IsActionIfAny is (steps-act book (doing_next book book.doing))) ok (rw (out, ok, is) refl)

  hands-if : (out failed : Bool) → book.is_handed_out ≡ out → is_some book.fault ≡ failed → Hands book
  hands-if true failed out ok = nothing disk.Idle (λ is. is) (rw out refl)
  hands-if false true out ok = nothing disk.Stop (λ is. is) (rw (out, ok) refl)
  hands-if false false out ok = hands-open (action_of book (doing_next book book.doing)) out ok refl

  pub hands : Hands book
  hands = hands-if book.is_handed_out (is_some book.fault) refl refl

  -- where no action is handed out the book stays
  stays-by : Hands book → (IsAction (disk_next book).0 → ⊥) → (disk_next book).1 ≡ book
  stays-by (nothing answer none is) rests = ap (λ (a : DiskNext × Book). a.1) is
  stays-by (action given some ok is) rests = absurd (rests (subst (λ (a : DiskNext × Book). IsAction a.0) (sym is) some))

  pub stays : (IsAction (disk_next book).0 → ⊥) → (disk_next book).1 ≡ book
  stays = stays-by hands

  -- no fault has closed the book that hands one out
  open-by : Hands book → IsAction (disk_next book).0 → is_some book.fault ≡ false
  open-by (nothing answer none is) some = absurd (none (subst (λ (a : DiskNext × Book). IsAction a.0) is some))
  open-by (action given some ok is) other = ok

  pub open-still : IsAction (disk_next book).0 → is_some book.fault ≡ false
  open-still = open-by hands

-- ---- for a slave

pub data HandsRom (book : Book) (i : ℕ) : Type 0 where
  nothing_asked : (answer : RomNext) → IsNothing answer → rom_next book i ≡ (answer, book) → HandsRom book i
  issue : (w : ℕ × ℕ) → i < length book.slaves → is_some book.fault ≡ false → rom_next book i ≡ (rom.Issue w.0 w.1, with_issue book i w) → HandsRom book i
  settle : (word value : ℕ) (taken : Bool) → i < length book.slaves → is_some book.fault ≡ false → rom_next book i ≡ (rom.Settle taken, with_operation book i (Settling word value taken)) → HandsRom book i

module _ (book : Book) (i : ℕ) where
  something : (given : RomNext) (later : Book) → rom_next book i ≡ (given, later) → (IsNothing given → ⊥) → IsNothing (rom_next book i).0 → ⊥
  something given later is some none = some (subst (λ (a : RomNext × Book). IsNothing a.0) is none)

  asked-there : i < length book.slaves → Asks book i → HandsRom book i
  asked-there within (asks.nothing answer none is) = nothing_asked answer none is
  asked-there within (asks.issue w others todo is) = issue w within (asked-sound book i within (something (rom.Issue w.0 w.1) _ is (λ none. none))) is
  asked-there within (asks.settle word value taken operation is) = settle word value taken within (asked-sound book i within (something (rom.Settle taken) _ is (λ none. none))) is

  hands-rom-if : (there : Bool) → nat_lt i (length book.slaves) ≡ there → HandsRom book i
  hands-rom-if true there = let within : i < length book.slaves = grind (arith, nat_tests) in asked-there within (handed book i within)
  hands-rom-if false there = nothing_asked rom.Stop tt (rw there refl)

  pub hands-rom : HandsRom book i
  hands-rom = hands-rom-if (nat_lt i (length book.slaves)) refl

  -- a slave of which something is asked is there, and no fault has closed the book
  rom-open-by : HandsRom book i → (IsNothing (rom_next book i).0 → ⊥) → (i < length book.slaves) × (is_some book.fault ≡ false)
  rom-open-by (nothing_asked answer none is) some = absurd (some (subst (λ (a : RomNext × Book). IsNothing a.0) (sym is) none))
  rom-open-by (issue w within ok is) some = (within, ok)
  rom-open-by (settle word value taken within ok is) some = (within, ok)

  pub rom-open : (IsNothing (rom_next book i).0 → ⊥) → (i < length book.slaves) × (is_some book.fault ≡ false)
  rom-open = rom-open-by hands-rom
