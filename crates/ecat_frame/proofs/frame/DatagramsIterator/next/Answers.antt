use Rattle.std.proofs.Common.{length, sym, ap, ◌∙◌, ◌∷◌, rules}
use Rattle.ecat_frame.specs.Frame.{pdu}
use Rattle.ecat_frame.proofs.Unique.{no_rest, takes_rest}
use Rattle.ecat_frame.proofs.Spelled.{pdus-rest, rest_seen}
use Rattle.ecat_frame.proofs.frame.DatagramsIterator.next.Goals as goal

pub returns-in_err-datagram-clause-steps : goal.returns-in_err-datagram-clause-steps
returns-in_err-datagram-clause-steps c =
    let none = sym c.self.view_is ∙ no_rest _ _ _ c.self.invariant c.in_err-datagram.ensures.none in
    rw c.from_residual.ensures (none, none)

pub invariant_of-self : goal.invariant_of-self
invariant_of-self c =
    let leaves = takes_rest _ _ _ _ _ _ c.self.invariant c.in_ok-datagram.ensures.entire in
    rest_seen _ _ _ leaves.left

pub returns-clause-steps : goal.returns-clause-steps
returns-clause-steps c =
    let leaves = takes_rest _ _ _ _ _ _ c.self.invariant c.in_ok-datagram.ensures.entire in
    sym c.self.view_is ∙ leaves.taken ∙ ap (λ ds. pdu c.in_ok-datagram.datagram ∷ ds) (sym (pdus-rest _ _ _ leaves.left))

pub returns-clause-goes : goal.returns-clause-goes
returns-clause-goes c =
    let leaves = takes_rest _ _ _ _ _ _ c.self.invariant c.in_ok-datagram.ensures.entire in
    let step = sym c.self.view_is ∙ leaves.taken ∙ ap (λ ds. pdu c.in_ok-datagram.datagram ∷ ds) (sym (pdus-rest _ _ _ leaves.left)) in
    let shorter = ap length step in
    search rules
