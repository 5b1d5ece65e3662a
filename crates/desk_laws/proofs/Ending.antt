-- What a power cut leaves of the disk and the slaves, each at the end of its log.
use Rattle.std.proofs.Common.{◌≡◌, ◌∙◌, ℕ, zero, suc, true, false, List, [], ◌∷◌, length, map, take, refl, sym, ap, subst, arith}
use Rattle.std.specs.Prelude.{slice_get, Some}
use Rattle.std.proofs.lemmas.List.{length-map, take_all}
use Rattle.std.proofs.lemmas.Option.{slice_get_within}
use Rattle.sii_edit.specs.declared.command.Command.{Command}
use Rattle.sii_edit.specs.Fold.{contents, contents_after}
use Rattle.jrn_format.specs.declared.journal.Journal.{Journal}
use Rattle.esc_model.specs.SlaveHalf.{SlaveHalf}
use Rattle.site_core.specs.State.{State, Leaves, EachMayLeave}
use Rattle.site_core.specs.Passes.{LeavesOnly}
use Rattle.book_model.specs.Book.{Book, base_of, contents_of, is_version_2}
use Rattle.book_model.specs.Machine.{Machine, reopened}
use Rattle.book_model.specs.Machine as machines
use Rattle.book_model.specs.Keeping.{IsOfBook}
use Rattle.book_model.specs.Opening.{capacity_in, words_in, book_on}
use Rattle.book_model.proofs.OpeningLaws.{up-opens}
use Rattle.book_model.proofs.WornBooks.{worn-opened}
use Rattle.world_law.specs.Law.{KeptFor, IsKept}
use Rattle.world_law.proofs.FitLaws.{fits-reopened}
use Rattle.world_law.proofs.StandsLaws.{stands-up, stands-is_kept}
use Rattle.desk_book.specs.declared.call.Call.{Call}
use Rattle.desk_book.specs.Calls.{replayed, AreAnswered, IsOut}
use Rattle.desk_book.specs.Closing.{is_served}
use Rattle.desk_book.proofs.BaseLaws.{base-replayed}
use Rattle.desk_laws.proofs.SlaveLaws.{served-is}
use Rattle.desk_laws.proofs.StandLaws.{opened-vacant}
use Rattle.desk_laws.specs.Joined.{AllGo, IsOpenedOn, IsKeptAs, LeadsTo, served_by}
use Rattle.desk_laws.proofs.DiskWork.{led-disk}
use Rattle.desk_laws.proofs.HalfWork.{led-slave}
use Rattle.desk_laws.proofs.DiskUp.{rests, disk-ends}
use Rattle.desk_laws.proofs.Courses.{LeavesLess, course-of}
use Rattle.desk_laws.proofs.WorldLaws.{Stays, world_of}
use Rattle.desk_laws.proofs.SlaveOn.{EndsBefore, ends-before}
use Rattle.desk_laws.proofs.Joining.{Joined, joins-all}

each-less : (now ends : List SlaveHalf) (words : List (List ℕ)) → length ends ≡ length now → ((i : ℕ) (half end : SlaveHalf) → slice_get now i ≡ Some half → slice_get ends i ≡ Some end → LeavesLess half end)
    → EachMayLeave ends words → EachMayLeave now words
each-less [] [] words count less may = may
each-less [] (e ∷ es) words count less may = absurd (omega (arith, count))
each-less (h ∷ hs) [] words count less may = absurd (omega (arith, count))
each-less (h ∷ hs) (e ∷ es) [] count less may = absurd may
each-less (h ∷ hs) (e ∷ es) (w ∷ ws) count less may = (less zero h e refl refl w may.0, each-less hs es ws (omega (arith, count)) (λ i half end. less (suc i) half end) may.1)

-- the main law holds of a world of which a power cut leaves no less
module _ (end : State) (book : Book) (j : Joined end [] book) (last : EndsBefore book j.state end.halves (length j.state.halves)) where
  abbrev world_left : State
  world_left = record j.state { halves = last.halves }

  abbrev machine_left : Machine
  machine_left = last.stays.session.machine

  is-kept : IsKept (world_of book world_left last.took) machine_left
  is-kept = stands-is_kept (world_of book world_left last.took) last.stays.session last.stays.stands

  leaves-less : LeavesOnly (Leaves world_left) end
  leaves-less pair leaves = record {
    disk = disk-ends book j.disk.log j.disk.real j.state.disk end.disk j.disk.on j.disk.led pair.disk leaves.disk;
    words = each-less last.halves end.halves pair.words (j.count ∙ sym last.count)
        (λ i half e here there. let inside = slice_get_within last.halves i half here in last.less i half e (omega (arith, inside, last.count)) here there) leaves.words;
  }

  of-book : IsOfBook book machine_left
  of-book = is-kept.known book refl

  -- as for the session that began so, with the commands of the book
  pub ends-kept : (began : Machine) → machines.base_of began ≡ base_of book → LeavesOnly (KeptFor (served_by began book)) end
  ends-kept began base pair leaves =
      let kept = is-kept.kept pair (leaves-less pair leaves) in
      let same : contents_after (machines.base_of machine_left) machine_left.accepted kept.k ≡ contents_after (machines.base_of began) book.accepted kept.k =
      ap (λ (b : List (List ℕ)). contents_after b machine_left.accepted kept.k) (of-book.base ∙ sym base) ∙ ap (λ (l : List Command). contents_after (machines.base_of began) l kept.k) of-book.accepted in
      record {
        journal = kept.journal;
        live = kept.live;
        k = kept.k;
        may_keep = (omega (arith, kept.may_keep.0, of-book.acknowledged), omega (arith, kept.may_keep.1, ap length of-book.accepted));
        same = kept.same ∙ same;
      }

-- ---- from the opening on

module _ (machine : Machine) (journal : Journal) (old new : State) (calls : List Call) (desk : IsOpenedOn machine journal old calls)
    (answered : AreAnswered (book_on old journal) calls) (go : AllGo calls old new) where
  pub desk-kept : IsKeptAs machine (replayed (book_on old journal) calls) new
  desk-kept =
      let opened = book_on old journal in
      let none = map (λ (h : SlaveHalf). false) old.halves in
      let u = up-opens journal old none machine desk.found (length-map old.halves (λ (h : SlaveHalf). false)) desk.kept in
      let stays : Stays opened old none = record {
        session = record { machine = reopened machine u.k; is_closed = false; is_version_2 = is_version_2 journal.form };
        stands = stands-up opened u.frame refl u.up (record { closed = refl; form = refl; worn = worn-opened (words_in old.halves) (capacity_in old.disk.bytes) journal });
        fits = fits-reopened machine u.k desk.fits;
      } in
      let vacant = λ (i : ℕ) (half : SlaveHalf) (here : slice_get old.halves i ≡ Some half).
      let within = slice_get_within old.halves i half here in opened-vacant (words_in old.halves) (capacity_in old.disk.bytes) journal i (omega (arith, within, length-map old.halves (λ (h : SlaveHalf). h.words))) in
      let joined = joins-all new calls opened answered desk.commands_fit (record {
        state = old;
        took = none;
        stays = stays;
        disk = record { log = []; real = old.disk; on = rests refl refl refl; led = led-disk calls old.disk new.disk go.disk };
        count = go.count;
        courses = λ i half end here there. course-of i calls opened half end answered (λ out. subst IsOut (vacant i half here) out) (led-slave calls i half end (go.slaves i half end here there));
      }) in
      let last = ends-before (replayed opened calls) joined.state joined.took new.halves joined.stays joined.count joined.courses (length joined.state.halves) (omega arith) in
      let base = u.up.of.base ∙ sym (base-replayed opened calls) in
      record { k = u.k; may_keep = u.may_keep; base = base; kept = ends-kept new (replayed opened calls) joined last (reopened machine u.k) base }

  -- all commands are acknowledged: none is left out
  pub desk-leads : is_served (replayed (book_on old journal) calls) ≡ true → LeavesOnly (LeadsTo (contents_of (replayed (book_on old journal) calls))) new
  desk-leads served pair leaves =
      let book = replayed (book_on old journal) calls in
      let session = desk-kept in
      let kept = session.kept pair leaves in
      let all = served-is book served in
      let entire : take kept.k book.accepted ≡ book.accepted = take_all kept.k book.accepted (omega (arith, kept.may_keep.0, all.durable)) in
      record {
        journal = kept.journal;
        live = kept.live;
        same = kept.same ∙ ap (λ (p : List (List ℕ)). contents p (take kept.k book.accepted)) session.base ∙ ap (contents (base_of book)) entire;
      }
