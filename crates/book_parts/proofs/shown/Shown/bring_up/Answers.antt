use Rattle.std.proofs.Common.{◌≡◌, ◌∙◌, ◌<◌, ◌+◌, ℕ, length, get_or, ap, arith}
use Rattle.book_parts.specs.Shown.{Shown}
use Rattle.book_parts.proofs.ShownLaws.{follows}
use Rattle.book_parts.proofs.shown.Shown.bring_up.Goals as goal

pub loop-self-preserved : goal.loop-self-preserved
loop-self-preserved c =
    let commands = c.args.accepted.now in
    let old = c.loop-self.self in
    let command = c.index-accepted-self.result in
    let new = c.in_ok-follow.ensures.followed in
    let same : c.self.inside.count ≡ old.count = ap (λ (s : Shown). s.count) c.self.view_is in
    let count : c.follow.new.self.count ≡ old.count + 1 = ap (λ (s : Shown). s.count) new in
    let here : old.count < length commands = omega (arith, c.loop-self-test.true, c.requires.most, same) in
    let at = c.index-accepted-self.is ∙ ap (λ (n : ℕ). get_or commands n command) same in (
      λ base first. follows base commands old c.follow.new.self command here at new (c.loop-self.invariant.0 base first),
      omega (arith, count, c.loop-self.invariant.1),
      omega (arith, count, same, c.loop-self-test.true),
    )
