-- The invariant of the world at each moment, and what follows from it for callers.
use Rattle.std.proofs.Common.{◌≡◌, ℕ, ◌*◌, ◌<◌, ◌≤◌, Bool, true, false, List, [], ◌∷◌, ◌++◌, length, take, refl, sym, ◌∙◌, ap, subst, arith, length-append, length-take, Some, None}
use Rattle.std.specs.List.{AllByRecursion}
use Rattle.sii_words.specs.Redo.{redone}
use Rattle.sii_words.proofs.RedoLaws.{redone-nil}
use Rattle.sii_edit.proofs.FoldLaws.{none-taken}
use Rattle.jrn_format.specs.declared.journal.Entry.{Entry}
use Rattle.jrn_format.specs.declared.journal.Batch.{Batch}
use Rattle.esc_model.specs.SlaveHalf.{SlaveHalf}
use Rattle.esc_model.specs.WordAccess.{IsIdle}
use Rattle.esc_model.proofs.Resting.{MayLeave-same}
use Rattle.site_core.specs.State.{State, Pair, EachMayLeave, Leaves}
use Rattle.site_core.specs.Passes.{LeavesOnly}
use Rattle.site_core.proofs.StopImages.{StopImage-same}
use Rattle.book_model.specs.Cells.{Cell}
use Rattle.book_model.specs.Entries.{runs_of, live_runs}
use Rattle.book_model.specs.Book.{Book, base_of, own, slave_at, all_cells, is_closed, is_version_2}
use Rattle.book_model.specs.Reading.{runs_settled, settled_prefix, all_entries, applied}
use Rattle.book_model.specs.Machine.{Machine}
use Rattle.book_model.specs.Kept.{Kept}
use Rattle.book_model.proofs.FitLaws.{kept-live}
use Rattle.book_model.proofs.CommandLaws.{entries-contents, length-entries}
use Rattle.book_model.specs.Frame.{JournalFrame}
use Rattle.book_model.specs.Keeping.{IsOfBook}
use Rattle.book_model.specs.Up.{Up}
use Rattle.book_model.specs.Opening.{words_in}
use Rattle.book_model.proofs.LineLaws.{holds-all, up-kept}
use Rattle.book_model.specs.Worn.{named_for, Worn}
use Rattle.book_model.proofs.WornBooks.{worn-few}
use Rattle.world_law.specs.World.{World, Reported}
use Rattle.world_law.specs.Happenings.{CanOpen, Opens}
use Rattle.world_law.specs.Law.{Session, IsRecovered, HoldsBase, KeptFor, IsKept}

-- the session is closed where the book is, and knows the form of its journal; and the book's wear is bounded
pub record IsOf (session : Session) (book : Book) : Type 0 where
  pub closed : session.is_closed ≡ is_closed book
  pub form : session.is_version_2 ≡ is_version_2 book.form
  pub worn : Worn book

-- the station is up, or it is down and whatever a power cut leaves is recoverable
pub data Stands (world : World) (session : Session) : Type 0 where
  stands-up : (book : Book) (frame : JournalFrame) → world.book ≡ Some book → Up frame book world.state world.took session.machine → IsOf session book → Stands world session
  stands-down : world.book ≡ None → LeavesOnly (KeptFor session.machine) world.state → length world.took ≡ length world.state.halves → Stands world session

pub stands-kept : (world : World) (session : Session) → Stands world session → LeavesOnly (KeptFor session.machine) world.state
stands-kept world session (stands-up book frame is up of) = λ pair leaves. up-kept frame book world.state world.took session.machine pair up leaves
stands-kept world session (stands-down is kept long) = kept

pub stands-long : (world : World) (session : Session) → Stands world session → length world.took ≡ length world.state.halves
stands-long world session (stands-up book frame is up of) = up.slaves.took_count ∙ sym up.slaves.count
stands-long world session (stands-down is kept long) = long

-- ---- what a read gives

pub as-read : (halves : List SlaveHalf) → EachMayLeave halves (words_in halves)
as-read [] = tt
as-read (half ∷ halves) = (MayLeave-same half, as-read halves)

abbrev pub pair_read : State → Pair
pair_read state = record { disk = state.disk.bytes; words = words_in state.halves }

pub leaves-read : (state : State) → Leaves state (pair_read state)
leaves-read state = record { disk = StopImage-same state.disk; words = as-read state.halves }

pub kept-read : (world : World) (session : Session) → Stands world session → Kept world.state.disk.bytes (words_in world.state.halves) session.machine
kept-read world session stands = stands-kept world session stands (pair_read world.state) (leaves-read world.state)

stands-opens : (world : World) (session : Session) → Stands world session → CanOpen world.book → AllByRecursion IsIdle world.state.halves → (reported : Reported) × (later : World) × Opens world reported later
stands-opens world session stands can idle =
    let kept = kept-read world session stands in
    (_, _, record { can = can; journal = kept.journal; found = record { is_journal = kept.live; synced = record { all = refl; entire = omega arith }; idle = idle }; says = refl; is = refl })

-- ---- a recovery is complete

up-recovered : (frame : JournalFrame) (world : World) (book : Book) (m : Machine) → Up frame book world.state world.took m → IsRecovered world book → HoldsBase world book m
up-recovered frame world book m up done =
    let words = words_in world.state.halves in
    let may = holds-all book.words world.state.halves book.slaves world.took words up.same up.slaves (as-read world.state.halves) in
    let leads = kept-live book.words (base_of book) (own book) book.durable book.halves (all_cells book.slaves) up.gone up.fits words may in
    record {
      words = sym (redone-nil words) ∙ ap (λ (l : List Batch). redone words (live_runs l)) (sym done.settled) ∙ leads ∙ entries-contents 0 (base_of book) book.accepted book.durable
          ∙ none-taken (base_of book) book.accepted book.durable done.none ∙ sym up.of.base;
      plan = none-taken (base_of book) book.accepted (applied book) done.none ∙ sym up.of.base;
    }

stands-recovered : (world : World) (session : Session) → Stands world session → (book : Book) → IsRecovered world book → HoldsBase world book session.machine
stands-recovered world session (stands-up other frame is up of) book done =
    let same : other ≡ book = let both : Some other ≡ Some book = sym is ∙ done.up in cc in
    up-recovered frame world book session.machine (subst (λ (b : Book). Up frame b world.state world.took session.machine) same up) done
stands-recovered world session (stands-down is kept long) book done = let both : None ≡ Some book = sym is ∙ done.up in absurd cc

stands-known : (world : World) (session : Session) → Stands world session → (book : Book) → world.book ≡ Some book → IsOfBook book session.machine
stands-known world session (stands-up other frame there up of) book is =
    let same : other ≡ book = let both : Some other ≡ Some book = sym there ∙ is in cc in
    subst (λ (b : Book). IsOfBook b session.machine) same up.of
stands-known world session (stands-down none kept long) book is = let both : None ≡ Some book = sym none ∙ is in absurd cc

stands-worn : (world : World) (session : Session) → Stands world session → (book : Book) → world.book ≡ Some book → (slave : ℕ) → slave < length book.slaves → (slave_at book slave).issues ≤ 3 * named_for (book.found ++ own book) slave
stands-worn world session (stands-up other frame there up of) book is slave within =
    let same : other ≡ book = let both : Some other ≡ Some book = sym there ∙ is in cc in
    worn-few book slave (subst Worn same of.worn) within
stands-worn world session (stands-down none kept long) book is slave within = let both : None ≡ Some book = sym none ∙ is in absurd cc

pub stands-is_kept : (world : World) (session : Session) → Stands world session → IsKept world session.machine
stands-is_kept world session stands =
    record {
      kept = stands-kept world session stands;
      recovered = stands-recovered world session stands;
      opens = stands-opens world session stands;
      known = stands-known world session stands;
      worn = stands-worn world session stands;
    }

-- ---- a plan

settled-few : (cells : List (List Cell)) (entries : List Entry) → settled_prefix cells entries ≤ length entries
settled-few cells [] = omega arith
settled-few cells (e ∷ es) = one (settled-few cells es) (runs_settled cells (runs_of es) e.runs) refl
  where
    one : settled_prefix cells es ≤ length es → (c : Bool) → runs_settled cells (runs_of es) e.runs ≡ c → settled_prefix cells (e ∷ es) ≤ length (e ∷ es)
    one few true is = rw is (omega (arith, few))
    one few false is = rw is (omega arith)

pub applied-few : (book : Book) → applied book ≤ length book.accepted
applied-few book =
    let few = settled-few (all_cells book.slaves) (all_entries book) in
    omega (arith, few, length-append book.found (take book.durable (own book)), length-take book.durable (own book), length-entries 0 (base_of book) book.accepted)
