-- Up stays true when callers finish the book or ask for a migration.
use Rattle.std.proofs.Common.{◌≡◌, Bool, true, false, List, refl}
use Rattle.std.specs.Prelude.{◌||◌}
use Rattle.site_core.specs.State.{State}
use Rattle.book_model.specs.Book.{Book, is_closed, is_version_2}
use Rattle.book_model.specs.Open.{finish, migrate}
use Rattle.book_model.specs.Machine.{Machine}
use Rattle.book_model.specs.Frame.{JournalFrame}
use Rattle.book_model.proofs.FormLaws.{journal-same}
use Rattle.book_model.specs.Up.{Up}

pub up-finished : (frame : JournalFrame) (book : Book) (state : State) (took : List Bool) (m : Machine) → Up frame book state took m → Up frame (finish book) state took m
up-finished frame book state took m up =
    let later = finish book in
    record {
      line = record { is_frame = up.line.is_frame; slaves = up.line.slaves; capacity = up.line.capacity; within = up.line.within };
      of = record { base = up.of.base; accepted = up.of.accepted; acknowledged = up.of.acknowledged };
      gone = up.gone;
      fits = up.fits;
      same = up.same;
      disk = journal-same frame book later state.disk (record { carries = record { halves = refl; appends = λ place entries a. a; retires = λ r. r }; form = refl; doing = refl; out = refl; failed = refl }) up.disk;
      slaves = up.slaves;
      pending = record { each = up.pending.each; within = up.pending.within; few = up.pending.few };
      ordered = up.ordered;
      after = up.after;
      no_command = up.no_command;
      no_migration = up.no_migration;
    }

-- ---- a migration

pub or-second : (a b : Bool) → b ≡ true → (a || b) ≡ true
or-second true b is = refl
or-second false b is = is

-- a journal of version 2 is never migrated
pub migration-refused : (book : Book) → is_version_2 book.form ≡ true → migrate book ≡ (false, book)
migration-refused book is =
    let refused = or-second (is_closed book) (is_version_2 book.form) is in
    rw refused refl

up-asked : (frame : JournalFrame) (book : Book) (state : State) (took : List Bool) (m : Machine) → Up frame book state took m → is_version_2 book.form ≡ false → Up frame (record book { is_migrating = true }) state took m
up-asked frame book state took m up old =
    let later : Book = record book { is_migrating = true } in
    record {
      line = record { is_frame = up.line.is_frame; slaves = up.line.slaves; capacity = up.line.capacity; within = up.line.within };
      of = record { base = up.of.base; accepted = up.of.accepted; acknowledged = up.of.acknowledged };
      gone = up.gone;
      fits = up.fits;
      same = up.same;
      disk = journal-same frame book later state.disk (record { carries = record { halves = refl; appends = λ place entries a. a; retires = λ r. r }; form = refl; doing = refl; out = refl; failed = refl }) up.disk;
      slaves = up.slaves;
      pending = record { each = up.pending.each; within = up.pending.within; few = up.pending.few };
      ordered = up.ordered;
      after = up.after;
      no_command = up.no_command;
      no_migration = λ two. absurd cc;
    }

up-migrates-if : (frame : JournalFrame) (book : Book) (state : State) (took : List Bool) (m : Machine) (closed two : Bool) → is_closed book ≡ closed → is_version_2 book.form ≡ two → Up frame book state took m → Up frame (migrate book).1 state took m
up-migrates-if frame book state took m true two closed form up = rw closed up
up-migrates-if frame book state took m false true closed form up = rw (closed, form) up
up-migrates-if frame book state took m false false closed form up = rw (closed, form) (up-asked frame book state took m up form)

pub up-migrates : (frame : JournalFrame) (book : Book) (state : State) (took : List Bool) (m : Machine) → Up frame book state took m → Up frame (migrate book).1 state took m
up-migrates frame book state took m up = up-migrates-if frame book state took m (is_closed book) (is_version_2 book.form) refl refl up
