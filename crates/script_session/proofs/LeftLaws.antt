-- What a power cut leaves of a line that was taken apart, served and put together.
use Rattle.std.proofs.Common.{◌≡◌, ℕ, zero, suc, ◌+◌, ◌≤◌, List, [], ◌∷◌, length, map, Some, refl, sym, ◌∙◌, ap, subst}
use Rattle.std.proofs.Common.{arith}
use Rattle.std.specs.Prelude.{slice_get}
use Rattle.std.proofs.Math.Nat.{le-min, le_trans, min-le_right}
use Rattle.std.proofs.lemmas.List.{length-map}
use Rattle.std.proofs.lemmas.Option.{slice_get_within}
use Rattle.site_core.specs.Disk.{Disk, StopImage}
use Rattle.site_core.specs.State.{State, Pair, Leaves}
use Rattle.site_shadow.specs.Unsynced.{of_bytes}
use Rattle.book_model.specs.Book.{Book}
use Rattle.book_model.specs.Machine.{Machine}
use Rattle.site_shadow.specs.Site.{SiteValue}
use Rattle.station_jobs.specs.declared.log.SlaveLog.{SlaveLog}
use Rattle.station_jobs.specs.Ends.{Stay}
use Rattle.station_threads.specs.Parts.{IsEndOfSlave}
use Rattle.station_alone.specs.Station.{Station}
use Rattle.desk_laws.specs.Together.{AllEndSo, AreTogether, IsLeft, starts}
use Rattle.desk_book.specs.declared.call.Call.{Call}
use Rattle.desk_laws.specs.Joined.{IsKeptAs, IsOpenedOn}
use Rattle.desk_book.specs.Calls.{replayed}
use Rattle.book_model.specs.Opening.{words_in}
use Rattle.desk_laws.specs.Together as at_desk
use Rattle.station_threads.specs.declared.closing.Ends.{Ends}
use Rattle.world_law.proofs.StandsLaws.{as-read}
use Rattle.station_threads.specs.Places.{AllPlaced}
use Rattle.station_threads.proofs.PlaceLaws.{placed-long}
use Rattle.script_session.specs.Parts.{Sites, BeginsWith, HasHalf, EndsWith, IsSeparate, AreEndsOfParts, IsTogether}
use Rattle.script_session.specs.AtDesk.{seen_of, AllLeftSo, BeginsAs}
use Rattle.script_session.proofs.SlaveLaws.{placed-at}

mapped-back : {A B : Type 0} (f : A → B) (xs : List A) (k : ℕ) (y : B) → slice_get (map f xs) k ≡ Some y → (x : A) × (slice_get xs k ≡ Some x) × (f x ≡ y)
mapped-back f [] k y at = absurd cc
mapped-back f (x ∷ xs) zero y at = (x, refl, cc)
mapped-back f (x ∷ xs) (suc k) y at = mapped-back f xs k y at

-- the item that the one at this place belongs to
pub placed-back : {A B : Type 0} (Is : ℕ → A → B → Type 0) (place : ℕ) (xs : List A) (ys : List B) (k : ℕ) (y : B) → AllPlaced Is place xs ys → slice_get ys k ≡ Some y → (x : A) × (slice_get xs k ≡ Some x) × Is (place + k) x y
placed-back Is place xs [] k y all at = absurd (omega (arith, slice_get_within [] k y at))
placed-back Is place [] (b ∷ ys) k y all at = absurd all
placed-back Is place (a ∷ xs) (b ∷ ys) zero y all at =
    let same : b ≡ y = cc in
    (a, refl, subst (λ (n : ℕ). Is n a y) (omega arith) (subst (λ c. Is place a c) same all.0))
placed-back Is place (a ∷ xs) (b ∷ ys) (suc n) y all at =
    let rest = placed-back Is (suc place) xs ys n y all.1 at in
    (rest.0, rest.1, subst (λ (m : ℕ). Is m rest.0 y) (omega arith) rest.2)

-- of a synced disk a power cut leaves no other images than of any disk with the same bytes
synced-less : (disk : Disk) (image : List ℕ) → StopImage (of_bytes disk.bytes) image → StopImage disk image
synced-less disk image stop =
    let same : length disk.bytes ≤ length disk.bytes = omega arith in
    let long : length disk.bytes ≤ length image = le_trans (le-min same same) stop.no_shorter in
    record { bytes = λ at is. stop.bytes at tt; no_shorter = le_trans (min-le_right disk.synced_length (length disk.bytes)) long }

module _ (opened : Station) (calls : List Call) (sites : Sites) (ends : Ends SiteValue) (separate : IsSeparate opened.seen.state sites)
    (of_sites : AreEndsOfParts sites ends) where
  -- the line when the work began: the disk is synced
  abbrev pub old : State
  old = record opened.seen.state { disk = of_bytes opened.seen.state.disk.bytes }

  began : (slave : ℕ) (s : SiteValue) → slice_get (starts ends.workers.items) slave ≡ Some s → slice_get old.halves slave ≡ slice_get s.seen.state.halves slave
  began slave s at =
      let end = mapped-back (λ (e : Stay SiteValue SlaveLog). e.start) ends.workers.items slave s at in
      let worker = placed-back (λ place (x : SiteValue) (e : Stay SiteValue SlaveLog). IsEndOfSlave place x e) 0 sites.slaves.items ends.workers.items slave end.0 of_sites.workers end.1 in
      let half = placed-back BeginsWith 0 opened.seen.state.halves sites.slaves.items slave worker.0 separate.slaves worker.1 in
      let same : worker.0 ≡ s = sym worker.2.start ∙ end.2 in
      half.1 ∙ sym (subst (λ (x : SiteValue). HasHalf slave half.0 x) same (subst (λ (n : ℕ). HasHalf n half.0 worker.0) (omega arith) half.2.has))

  pub first : AreTogether seen_of ends.flusher.start (starts ends.workers.items) old
  first = record {
    disk = sym (ap (λ (s : SiteValue). s.seen.state.disk) of_sites.flusher ∙ separate.disk);
    count =
        let many = placed-long BeginsWith 0 opened.seen.state.halves sites.slaves.items separate.slaves in
        let all = placed-long (λ place (x : SiteValue) (e : Stay SiteValue SlaveLog). IsEndOfSlave place x e) 0 sites.slaves.items ends.workers.items of_sites.workers in
        sym (length-map ends.workers.items (λ (e : Stay SiteValue SlaveLog). e.start) ∙ all ∙ many);
    halves = began;
  }

  pub opened-on : (machine : Machine) (begins : BeginsAs machine calls opened) → IsOpenedOn machine begins.journal old calls
  opened-on machine begins =
      let pair : Pair = record { disk = opened.seen.state.disk.bytes; words = words_in opened.seen.state.halves } in
      record {
        found = record { is_journal = begins.found.is_journal; synced = record { all = refl; entire = omega arith }; idle = begins.found.idle };
        kept = begins.kept pair (record { disk = record { bytes = λ at is. refl; no_shorter = min-le_right opened.seen.state.disk.synced_length (length opened.seen.state.disk.bytes) }; words = as-read opened.seen.state.halves });
        fits = begins.fits;
        commands_fit = begins.commands_fit;
      }

  module _ (site : SiteValue) (together : IsTogether ends site) where
    -- the line once it was done: the disk is that of the flusher
    abbrev new : State
    new = record site.seen.state { disk = ends.flusher.site.seen.state.disk }

    ended : (slave : ℕ) (s : SiteValue) → slice_get (at_desk.sites ends.workers.items) slave ≡ Some s
        → slice_get new.halves slave ≡ slice_get s.seen.state.halves slave
    ended slave s at =
        let end = mapped-back (λ (e : Stay SiteValue SlaveLog). e.site) ends.workers.items slave s at in
        let half = placed-at EndsWith 0 ends.workers.items site.seen.state.halves slave end.0 together.halves end.1 in
        half.1 ∙ sym (subst (λ (x : SiteValue). HasHalf slave half.0 x) end.2 (subst (λ (n : ℕ). HasHalf n half.0 end.0.site) (omega arith) half.2))

    last : AreTogether seen_of ends.flusher.site (at_desk.sites ends.workers.items) new
    last = record {
      disk = refl;
      count = placed-long EndsWith 0 ends.workers.items site.seen.state.halves together.halves ∙ sym
          (length-map ends.workers.items (λ (e : Stay SiteValue SlaveLog). e.site));
      halves = ended;
    }

    less : (pair : Pair) → Leaves site.seen.state pair → Leaves new pair
    less pair leaves = record {
      disk = synced-less ends.flusher.site.seen.state.disk pair.disk (subst (λ (d : Disk). StopImage d pair.disk) together.disk leaves.disk);
      words = leaves.words;
    }

    kept-less : (machine : Machine) (book : Book) → IsKeptAs machine book new → IsKeptAs machine book site.seen.state
    kept-less machine book is = record { k = is.k; may_keep = is.may_keep; base = is.base; kept = λ pair leaves. is.kept pair (less pair leaves) }

    pub left-together : AllEndSo IsLeft opened.book calls seen_of ends.flusher ends.workers.items → AllLeftSo IsLeft opened calls site
    left-together all machine begins =
        let is = all machine begins.journal old new begins.book (opened-on machine begins) first last in
        record { kept = kept-less machine (replayed opened.book calls) is.kept; leads = λ pair leaves. is.leads pair (less pair leaves) }
