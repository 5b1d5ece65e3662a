-- A word that was issued, taken and settled.
use Rattle.std.proofs.Common.{◌≡◌, ℕ, zero, suc, ◌<◌, List, [], ◌∷◌, length, Some, slice_get, slice_set, refl, sym, ap, subst, ◌∙◌, arith}
use Rattle.esc_model.specs.SlaveHalf.{SlaveHalf}
use Rattle.esc_model.proofs.Resting.{MayLeave-idle}
use Rattle.site_core.proofs.Halves.{EachMayLeave-at}
use Rattle.site_core.specs.declared.answers.Issued.TheVariants as issued
use Rattle.site_core.specs.declared.answers.Settled.TheVariants as settled
use Rattle.esc_model.specs.WordAccess.{IsWritingOrInError}
use Rattle.esc_rom.specs.Laws.{WrittenStays}
use Rattle.esc_rom.proofs.States.{same_some, HalfGoes-there}

set_there : (words : List ℕ) (word value : ℕ) → word < length words → slice_get (slice_set words word value) word ≡ Some value
set_there [] word value inside = absurd (omega arith)
set_there (w ∷ ws) zero value inside = refl
set_there (w ∷ ws) (suc word) value inside = set_there ws word value (omega arith)

pub written_stays : WrittenStays
written_stays a b c slave word value pair issues settles leaves =
    let first = issues.half issued.Taken refl in
    let second = settles.half settled.Written refl in
    let same : second.half ≡ first.later = same_some second.half first.later (sym second.here ∙ HalfGoes-there first) in
    let writing : IsWritingOrInError word value second.half = subst (IsWritingOrInError word value) (sym same) first.goes.writes in
    let written = second.goes.3 word value writing in
    let at = EachMayLeave-at c.state.halves pair.words slave second.later (HalfGoes-there second) leaves.words in
    let is : at.0 ≡ slice_set second.half.words word value = MayLeave-idle second.later at.0 second.goes.2.idle at.2 ∙ ap (λ (h : SlaveHalf). h.words) written.settled in
    (at.0, at.1, ap (λ (w : List ℕ). slice_get w word) is ∙ set_there second.half.words word value written.inside)
