-- What is told of the devices of a line that was served at a desk.
use Rattle.std.proofs.Common.{◌≡◌, ℕ, zero, suc, ◌+◌, ◌<◌, List, [], ◌∷◌, ◌++◌, length, slice_get, Some, refl, sym, ap, subst}
use Rattle.std.proofs.Common.{◌∙◌, inl, inr, arith}
use Rattle.std.proofs.lemmas.Bool.Decides.{leb_tells}
use Rattle.std.specs.Prelude.{IfOk, Option, Result, Ok, Err}
use Rattle.std.specs.Global.{Vec}
use Rattle.std.specs.List.{AllByRecursion}
use Rattle.esc_model.specs.SlaveHalf.{SlaveHalf}
use Rattle.site_shadow.specs.Line.{halves_of}
use Rattle.station_threads.specs.Places.{AllPlaced}
use Rattle.station_files.specs.declared.faults.Fault.{Fault}
use Rattle.script_session.specs.declared.together.OfSlaves.{OfSlaves}
use Rattle.site_core.specs.State.{Seen}
use Rattle.site_shadow.specs.Site.{SiteValue}
use Rattle.station_jobs.specs.Ends.{Stay}
use Rattle.station_jobs.specs.declared.log.SlaveLog.{SlaveLog}
use Rattle.script_session.specs.declared.logs.PartLog.{PartLog}
use Rattle.script_session.specs.Parts.{AreLeftBy, EndsWith, IsRoom, AreReportedOf, IsWorkFollowed, Telling}

-- What holds at each place before one, and there, holds at each place before the next.
pub before-next : {T : Type 0} (P : ℕ → T → Type 0) (xs : List T) (place : ℕ) (x : T) → slice_get xs place ≡ Some x → P place x
    → ((k : ℕ) (y : T) → k < place → slice_get xs k ≡ Some y → P k y) → (k : ℕ) (y : T) → k < place + 1 → slice_get xs k ≡ Some y → P k y
before-next P xs place x at holds before k y inside here = elim (leb_tells place k) [
  | inl past ↦
      let same : place ≡ k = omega (arith, inside, past.1) in
      let is : x ≡ y = (let e : Some x ≡ Some y = sym at ∙ ap (slice_get xs) same ∙ here in cc) in
      subst (λ (n : ℕ). P n y) same (subst (P place) is holds)
  | inr under ↦ before k y under.1 here
]

-- what holds of all holds of each
pub at-place : {A : Type 0} (P : A → Type 0) (xs : List A) (k : ℕ) (a : A) → AllByRecursion P xs → slice_get xs k ≡ Some a → P a
at-place P [] k a all at = absurd cc
at-place P (b ∷ xs) zero a all at = let same : b ≡ a = cc in subst P same all.0
at-place P (b ∷ xs) (suc k) a all at = at-place P xs k a all.1 at

-- each end is of a worker whose device is told of
pub reported-work : {D T : Type 0} (follows : D → Seen → Type 0) (well : D → Type 0) (tells : D → T → Type 0) (reported : List (PartLog T)) (workers : List (Stay SiteValue SlaveLog))
    → AreReportedOf follows well tells reported workers → (slave : ℕ) (end : Stay SiteValue SlaveLog) → slice_get workers slave ≡ Some end
    → (part : PartLog T) × (slice_get reported slave ≡ Some part) × IsWorkFollowed (Telling follows well tells part) end
reported-work follows well tells [] [] all slave end here = absurd cc
reported-work follows well tells [] (e ∷ workers) all slave end here = absurd all
reported-work follows well tells (t ∷ reported) [] all slave end here = absurd all
reported-work follows well tells (t ∷ reported) (e ∷ workers) all zero end here =
    let same : e ≡ end = cc in (t, refl, subst (IsWorkFollowed (Telling follows well tells t)) same all.0)
reported-work follows well tells (t ∷ reported) (e ∷ workers) all (suc slave) end here = reported-work follows well tells reported workers all.1 slave end here

module _ {D T : Type 0} (follows : D → Seen → Type 0) (well : D → Type 0) (tells : D → T → Type 0) where
  -- one end more
  pub reported_more : (tellings : List (PartLog T)) (ends : List (Stay SiteValue SlaveLog)) (reported : PartLog T) (end : Stay SiteValue SlaveLog)
      → AreReportedOf follows well tells tellings ends → IsWorkFollowed (Telling follows well tells reported) end
      → AreReportedOf follows well tells (tellings ++ reported ∷ []) (ends ++ end ∷ [])
  reported_more [] [] reported end all one = (one, tt)
  reported_more [] (e ∷ ends) reported end all one = absurd all
  reported_more (t ∷ tellings) [] reported end all one = absurd all
  reported_more (t ∷ tellings) (e ∷ ends) reported end all one = (all.0, reported_more tellings ends reported end all.1 one)

  -- empty lists are what no workers leave
  pub room-left : (room : OfSlaves T) → IsRoom room → AreLeftBy follows well tells [] room
  room-left room is = record { halves = by room.halves is.0; reported = subst (λ (l : List (PartLog T)). AreReportedOf follows well tells l []) (sym is.1) tt }
    where
      by : (halves : Result (Vec (Option SlaveHalf)) Fault) → IfOk halves (λ had. had.items ≡ [])
          → IfOk halves (λ had. AllPlaced EndsWith 0 [] (halves_of had.items))
      by (Ok had) none = subst (λ (l : List (Option SlaveHalf)). AllPlaced EndsWith 0 [] (halves_of l)) (sym none) tt
      by (Err fault) none = tt

  -- as many are told of as there are ends
  pub reported-long : (tellings : List (PartLog T)) (ends : List (Stay SiteValue SlaveLog)) → AreReportedOf follows well tells tellings ends
      → length tellings ≡ length ends
  reported-long [] [] all = refl
  reported-long [] (e ∷ ends) all = absurd all
  reported-long (t ∷ tellings) [] all = absurd all
  reported-long (t ∷ tellings) (e ∷ ends) all = ap suc (reported-long tellings ends all.1)
