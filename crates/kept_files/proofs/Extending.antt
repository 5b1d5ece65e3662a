-- Calls add to the past of a site: the state in which the site began stays the first.
use Rattle.std.proofs.Common.{◌≡◌, List, [], ◌∷◌, length, refl, sym, ap, subst, ◌∙◌}
use Rattle.site_core.specs.State.{Seen, Moment}
use Rattle.site_core.specs.Times.{Instant, now_of, instant_at, Follows}
use Rattle.site_shadow.specs.Following.{begin_of, first_of}

abbrev at_first : Seen → List Moment → Instant
at_first now past = instant_at (record now { past = past }) 0

first_by : (past : List Moment) (now before : Seen) → now.past ≡ past → instant_at now 0 ≡ now_of before → begin_of past now.state ≡ before.state
first_by [] now before is at = ap (λ (i : Instant). i.state) (sym (ap (at_first now) is) ∙ at)
first_by (moment ∷ past) now before is at = ap (λ (i : Instant). i.state) (sym (ap (at_first now) is) ∙ at)

pub first_stays : (before now : Seen) → before.past ≡ [] → Follows before now → first_of now ≡ before.state
first_stays before now new follows =
    first_by now.past now before refl
    (subst (λ (past : List Moment). instant_at now (length past) ≡ now_of before) new follows.goes_on)
