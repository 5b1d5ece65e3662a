use Rattle.std.proofs.Common.{◌≡◌, ◌∙◌, Some, sym, subst, refl, inl, inr, arith}
use Rattle.std.proofs.lemmas.Bool.{cases_lt}
use Rattle.std.proofs.lemmas.Option.{get_or_from_slice_get, slice_get_within}
use Rattle.std.specs.Prelude.{slice_get}
use Rattle.site_core.specs.Line.{Owns}
use Rattle.station_threads.proofs.sites.own_slaves.Goals as goal

pub loop-slave-preserved : goal.loop-slave-preserved
loop-slave-preserved g c place site below at =
    let found = c.index-sites-slave in
    let here : place ≡ c.loop-slave.slave → Owns (g.S.Site.line site) place = λ is.
    let same = found.is ∙ get_or_from_slice_get c.args.sites.now c.loop-slave.slave site found.result (subst (λ n. slice_get c.args.sites.now n ≡ Some site) is at) in
    subst (λ n. Owns (g.S.Site.line site) n) (sym is) (subst (λ s. Owns (g.S.Site.line s) c.loop-slave.slave) same (c.if-not-owns.ensures.owned.0 refl)) in
    elim (cases_lt place c.loop-slave.slave) [ inl low ↦ c.loop-slave.invariant place site low at | inr high ↦ here (omega (arith, high, below)) ]

pub returns : goal.returns
returns g c entire place site at = let inside = slice_get_within c.args.sites.now place site at in c.loop-slave.invariant place site (omega (arith, inside, c.loop-slave-test.false)) at
