use Rattle.std.proofs.Common.{arith, ap, refl, length}
use Rattle.ecat_frame.specs.Frame.{sent, spelling}
use Rattle.ecat_frame.proofs.Spelled.{length-spelled-push}
use Rattle.ecat_frame.proofs.frame.Frame.push.Goals as goal

pub returns-then-len-content-gt-MAX_LEN-clause-room : goal.returns-then-len-content-gt-MAX_LEN-clause-room
returns-then-len-content-gt-MAX_LEN-clause-room c =
    let longer = length-spelled-push c.args.self.now (sent c.args.command c.args.index c.args.address c.args.content.now) in
    let now = ap length c.self.invariant.is_spelling in
    let seen = ap (λ ds. length (spelling ds)) c.self.view_is in
    (λ no. absurd cc, λ fits. absurd (omega arith))

pub returns-then-len-content-gt-MAX_LEN-clause-grows : goal.returns-then-len-content-gt-MAX_LEN-clause-grows
returns-then-len-content-gt-MAX_LEN-clause-grows c =
    omega (arith, length-spelled-push c.args.self.now (sent c.args.command c.args.index c.args.address c.args.content.now))

pub returns-clause-room : goal.returns-clause-room
returns-clause-room c =
    let longer = length-spelled-push c.args.self.now (sent c.args.command c.args.index c.args.address c.args.content.now) in
    let now = ap length c.self.invariant.is_spelling in
    let seen = ap (λ ds. length (spelling ds)) c.self.view_is in
    (λ _. omega arith, λ _. refl)

pub returns-clause-grows : goal.returns-clause-grows
returns-clause-grows c =
    omega (arith, length-spelled-push c.args.self.now (sent c.args.command c.args.index c.args.address c.args.content.now))
