-- Steps of a recovery in a row.
use Rattle.std.proofs.Common.{◌≡◌, ℕ, ◌+◌, ◌≤◌, [], ◌∷◌, ◌++◌, length, refl, ap, arith, Result, Ok, Err, IsErrAnd}
use Rattle.esc_rom.specs.declared.fault.RomFault.TheVariants as rom
use Rattle.site_core.specs.declared.fault.DeviceFault.TheVariants as device
use Rattle.site_core.specs.State.{clock}
use Rattle.site_journal.specs.declared.fault.ReadFault.TheVariants as read
use Rattle.sii_words.proofs.RedoLaws.{SameShape-redone}
use Rattle.sii_edit.proofs.FoldLaws.{SameShape-contents}
use Rattle.book_model.specs.Entries.{runs_of}
use Rattle.book_model.specs.Book.{base_of, contents_of}
use Rattle.book_model.proofs.BookLaws.{length-all_cells}
use Rattle.site_journal.specs.Left.{calls_left}
use Rattle.site_journal.specs.Ready.{IsUp}
use Rattle.station_alone.specs.declared.fault.OpenFault.{OpenFault}
use Rattle.station_alone.specs.declared.fault.OpenFault.TheVariants as why
use Rattle.station_alone.specs.declared.choice.Choice.{Choice}
use Rattle.station_alone.specs.declared.choice.Answer.{Answer}
use Rattle.station_alone.specs.Station.{Station}
use Rattle.station_alone.specs.Steps.{Steps}
use Rattle.station_alone.proofs.KeepLaws.{goes-none, goes-within, goes-then, keeps-then, keeps-while-still}
use Rattle.station_alone.proofs.RunLaws.{steps-then}
use Rattle.station_alone.specs.Recovery.{Breaks, IsOfRecovery, LeadsTo}
use Rattle.station_alone.specs.Rounds.{IsWorking, StaysKept, Works, EndsEarly}
use Rattle.sii_words.proofs.Quantifiers.{all_append}

-- the fault that is handed on
pub handed_on : {T : Type 0} (result : Result T OpenFault) (fault : OpenFault) → IsErrAnd result (λ other. other ≡ fault) → result ≡ Err fault
handed_on (Ok value) fault is = absurd is
handed_on (Err other) fault is = ap Err is

-- what a station that works is up as
pub up-of : (s : Station) → IsWorking s → IsUp s.book s.seen
up-of s w = w.stands.ready.up w.sound

-- its book has as many slaves as it was opened with
pub slaves-of : (s : Station) → IsWorking s → length s.book.slaves ≡ length s.book.words
slaves-of s w = let u = up-of s w in omega (arith, length-all_cells s.book.slaves, u.3.same.slaves)

-- so have its contents
pub count-of : (s : Station) → IsWorking s → length (contents_of s.book) ≡ length s.book.slaves
count-of s w =
    let base = base_of s.book in
    omega (arith, slaves-of s w, (SameShape-contents base s.book.accepted).slaves, (SameShape-redone s.book.words (runs_of s.book.found)).slaves)

-- ---- steps that lead on

pub leads-none : (s : Station) → LeadsTo s s
leads-none s = record { choices = []; answers = []; of_recovery = tt; steps = refl }

pub leads-one : (choice : Choice) (answer : Answer) (old new : Station) → IsOfRecovery choice → Steps choice old answer new → LeadsTo old new
leads-one choice answer old new is step = record { choices = choice ∷ []; answers = answer ∷ []; of_recovery = (is, tt); steps = (new, step, refl) }

leads-then : (a b c : Station) → LeadsTo a b → LeadsTo b c → LeadsTo a c
leads-then a b c one two = record {
  choices = one.choices ++ two.choices;
  answers = one.answers ++ two.answers;
  of_recovery = all_append IsOfRecovery one.choices two.choices one.of_recovery two.of_recovery;
  steps = steps-then one.choices two.choices one.answers two.answers a b c one.steps two.steps;
}

-- ---- no step

pub kept-none : (s : Station) → StaysKept s s
kept-none s = record { session = goes-none (calls_left s.book) s; keeps = keeps-while-still s s refl refl }

pub works-none : (s : Station) → IsWorking s → Works 0 s s
works-none s w = record { working = w; kept = kept-none s; leads = leads-none s; left = omega arith; issued = omega arith }

-- ---- one after another

kept-then : (a b c : Station) → clock b.seen + calls_left b.book ≤ clock a.seen + calls_left a.book → StaysKept a b → StaysKept b c → StaysKept a c
kept-then a b c few one two =
    let within = two.session.within in
    let both = goes-then [] [] (calls_left a.book) (calls_left b.book) a b c one.session two.session in
    record {
      session = goes-within [] (calls_left a.book + calls_left b.book) (calls_left a.book) a c both (omega (arith, within, few));
      keeps = keeps-then [] [] (calls_left a.book) a b c one.session one.keeps two.keeps;
    }

pub works-then : (m n : ℕ) (a b c : Station) → Works m a b → Works n b c → Works (m + n) a c
works-then m n a b c one two = record {
  working = two.working;
  kept = kept-then a b c one.left one.kept two.kept;
  leads = leads-then a b c one.leads two.leads;
  left = omega (arith, one.left, two.left);
  issued = omega (arith, one.issued, two.issued);
}

breaks-later : (fault : OpenFault) (a b c : Station) → LeadsTo a b → Breaks fault b c → Breaks fault a c
breaks-later (why.Journal (read.Device device.Disk)) a b c more breaks = record { mid = breaks.mid; leads = leads-then a b breaks.mid more breaks.leads; fails = breaks.fails }
breaks-later (why.Journal (read.Device device.Lost)) a b c more breaks = absurd breaks
breaks-later (why.Journal (read.Device device.Stopped)) a b c more breaks =
    record { mid = breaks.mid; leads = leads-then a b breaks.mid more breaks.leads; choice = breaks.choice; of_recovery = breaks.of_recovery; steps = breaks.steps; stopped = breaks.stopped }
breaks-later (why.Journal (read.Journal fault)) a b c more breaks = absurd breaks
breaks-later (why.Slave (rom.SlaveDead slave)) a b c more breaks =
    record { mid = breaks.mid; leads = leads-then a b breaks.mid more breaks.leads; taken = breaks.taken; asked = breaks.asked; settles = breaks.settles }
breaks-later (why.Slave rom.Memory) a b c more breaks = absurd breaks
breaks-later (why.Slave rom.Stopped) a b c more breaks = absurd breaks
breaks-later why.Memory a b c more breaks = record { leads = leads-then a b c more breaks.leads; takes = breaks.takes }

pub cut-then : (m : ℕ) (fault : OpenFault) (a b c : Station) → Works m a b → EndsEarly fault b c → EndsEarly fault a c
cut-then m fault a b c one cut = record { kept = kept-then a b c one.left one.kept cut.kept; breaks = breaks-later fault a b c one.leads cut.breaks }
