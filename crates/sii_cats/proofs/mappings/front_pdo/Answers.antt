use Rattle.std.proofs.Common.{◌≡◌, ℕ, ◌*◌, ◌%◌, get_or, refl, ap, ◌∙◌, arith}
use Rattle.sii_cats.proofs.InPlace.{pdo_cut, pdo_stands, pdos_end}
use Rattle.sii_cats.proofs.mappings.front_pdo.Goals as goal

pub returns-then-size-rest-clause-exact : goal.returns-then-size-rest-clause-exact
returns-then-size-rest-clause-exact c =
    let count : c.from-size.result ≡ get_or c.args.words.now 1 0 % 256 = c.from-size.ensures ∙ ap (λ (p : ℕ × ℕ). p.0) c.halves-count.ensures in
    (refl, pdo_cut c.args.words.now c.in-len4-up.len_at_least (omega (arith, c.if-size-rest.true, count)))

pub returns-in_default-clause-exact : goal.returns-in_default-clause-exact
returns-in_default-clause-exact c = pdos_end c.args.words.now c.in_default.len_below

pub returns-else-size-rest-clause-exact : goal.returns-else-size-rest-clause-exact
returns-else-size-rest-clause-exact c =
    let count : c.from-size.result ≡ get_or c.args.words.now 1 0 % 256 = c.from-size.ensures ∙ ap (λ (p : ℕ × ℕ). p.0) c.halves-count.ensures in
    rw (c.halves-count.ensures, c.halves-synchronization.ensures, c.split_at.ensures.front, c.split_at.ensures.back)
    (pdo_stands c.args.words.now (4 * c.from-size.result) c.in-len4-up.len_at_least (ap (λ (n : ℕ). 4 * n) count) c.if-size-rest.false)
