-- What the slaves hold after their line was taken apart, served and put together.
use Rattle.std.proofs.Common.{◌≡◌, ℕ, zero, suc, ◌+◌, List, [], ◌∷◌, Some, refl, sym, ◌∙◌, subst, arith}
use Rattle.std.specs.Prelude.{slice_get}
use Rattle.std.proofs.lemmas.Option.{slice_get_within}
use Rattle.esc_model.specs.SlaveHalf.{SlaveHalf}
use Rattle.site_core.specs.State.{State}
use Rattle.site_shadow.specs.Site.{SiteValue}
use Rattle.book_model.specs.Book.{Book}
use Rattle.station_jobs.specs.declared.log.SlaveLog.{SlaveLog}
use Rattle.station_jobs.specs.Ends.{Stay}
use Rattle.station_threads.specs.Parts.{IsEndOfSlave}
use Rattle.station_threads.specs.declared.closing.Ends.{Ends}
use Rattle.desk_laws.specs.Slaves.{IsAsOpened, ReadsAsContents, AllReadAsContents}
use Rattle.station_threads.specs.Places.{AllPlaced}
use Rattle.script_session.specs.Parts.{Sites, BeginsWith, HasHalf, EndsWith, IsSeparate, AreEndsOfParts, IsTogether}
use Rattle.script_session.specs.AtDesk.{seen_of}

-- the item at this place has a partner at this place
pub placed-at : {A B : Type 0} (Is : ℕ → A → B → Type 0) (place : ℕ) (xs : List A) (ys : List B) (k : ℕ) (x : A) → AllPlaced Is place xs ys → slice_get xs k ≡ Some x → (y : B) × (slice_get ys k ≡ Some y) × Is (place + k) x y
placed-at Is place [] ys k x all at = absurd (omega (arith, slice_get_within [] k x at))
placed-at Is place (a ∷ xs) [] k x all at = absurd all
placed-at Is place (a ∷ xs) (b ∷ ys) zero x all at =
    let same : a ≡ x = cc in
    (b, refl, subst (λ (n : ℕ). Is n x b) (omega arith) (subst (λ c. Is place c b) same all.0))
placed-at Is place (a ∷ xs) (b ∷ ys) (suc n) x all at =
    let rest = placed-at Is (suc place) xs ys n x all.1 at in
    (rest.0, rest.1, subst (λ (m : ℕ). Is m x rest.0) (omega arith) rest.2)

-- there is one half at each place
at-place : (state : State) (place slave : ℕ) (one other : SlaveHalf) → place ≡ slave → slice_get state.halves place ≡ Some one → slice_get state.halves slave ≡ Some other → Some one ≡ Some other
at-place state place slave one other is here there = sym here ∙ subst (λ (n : ℕ). slice_get state.halves n ≡ Some other) (sym is) there

-- a slave that was idle with the opening words reads as the contents on the line that was put together
pub contents-together : (opened book : Book) (entire : State) (sites : Sites) (ends : Ends SiteValue) (site : SiteValue) → IsSeparate entire sites → AreEndsOfParts sites ends → IsTogether ends site → AllReadAsContents opened book seen_of ends.workers.items
    → (slave : ℕ) → IsAsOpened opened entire slave → ReadsAsContents book site.seen.state slave
contents-together opened book entire sites ends site separate of_sites together reads slave was =
    let none : 0 + slave ≡ slave = omega arith in
    let part = placed-at BeginsWith 0 entire.halves sites.slaves.items slave was.half separate.slaves was.here in
    let worker = placed-at (λ place (s : SiteValue) (end : Stay SiteValue SlaveLog). IsEndOfSlave place s end) 0 sites.slaves.items ends.workers.items slave part.0 of_sites.workers part.1 in
    let begun : HasHalf slave was.half worker.0.start = subst (λ (s : SiteValue). HasHalf slave was.half s) (sym worker.2.start) (subst (λ (n : ℕ). HasHalf n was.half part.0) none part.2.has) in
    let left : ReadsAsContents book worker.0.site.seen.state slave = reads slave worker.0 worker.1 (record { half = was.half; here = begun; is = was.is }) in
    let half = placed-at EndsWith 0 ends.workers.items site.seen.state.halves slave worker.0 together.halves worker.1 in
    record { half = left.half; here = half.1 ∙ at-place worker.0.site.seen.state (0 + slave) slave half.0 left.half none half.2 left.here; is = left.is }
