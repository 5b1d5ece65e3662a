use Rattle.std.proofs.Common.{arith, inl, inr, refl}
use Rattle.std.proofs.lemmas.Bool.{false≢true}
use Rattle.sii_edit.specs.Draft.{drafted}
use Rattle.sii_edit.proofs.DraftLaws.{length-drafted, swapped_names}
use Rattle.sii_edit.proofs.CommandLaws.{swapped-missing, swapped-same, swapped-unchecked}
use Rattle.sii_edit.proofs.draft.Draft.exchanged.Goals as goal
use Rattle.sii_edit.proofs.draft.Draft.exchanged.Goals.{then-from-len-via-then-from-len, then-from-len-via-else-from-len+then-from-len-2, then-not-check_ok-via-then-not-check_ok, then-not-check_ok-via-else-not-check_ok+then-not-check_ok-2}

pub returns-clause-names : goal.returns-clause-names
returns-clause-names c =
    let plant = drafted c.args.plant.now c.args.self.now in
    let size = length-drafted c.args.plant.now c.args.self.now in
    swapped_names plant c.args.a c.args.b c.words-of_a.result c.words-of_b.result c.with_alias-new_a.result c.with_alias-new_b.result
    (omega (arith, size, c.from.ensures)) (omega (arith, size, c.from-else-from-len.ensures)) (λ same. absurd (omega (arith, same)))
    c.words-of_a.ensures c.words-of_b.ensures (c.if-not-check_ok.ensures.0 refl) (c.if-not-check_ok-2.ensures.0 refl)
    (rw c.alias.ensures at c.with_alias-new_a.ensures) (rw c.alias-2.ensures at c.with_alias-new_b.ensures)

pub returns-then-from-len-clause-refused : goal.returns-then-from-len-clause-refused
returns-then-from-len-clause-refused c =
    let plant = drafted c.args.plant.now c.args.self.now in
    let size = length-drafted c.args.plant.now c.args.self.now in
    elim c.then-from-len.branch [
      | then-from-len-via-then-from-len w ↦ inl (swapped-missing plant c.args.a c.args.b (inl (omega (arith, size, c.from.ensures))))
      | then-from-len-via-else-from-len+then-from-len-2 w ↦ inl (swapped-missing plant c.args.a c.args.b (inr (omega (arith, size, w.from-else-from-len.ensures))))
    ]

pub returns-then-a-b-clause-refused : goal.returns-then-a-b-clause-refused
returns-then-a-b-clause-refused c =
    let plant = drafted c.args.plant.now c.args.self.now in
    let size = length-drafted c.args.plant.now c.args.self.now in
    inl (swapped-same plant c.args.a c.args.b (omega (arith, size, c.from.ensures)) (omega (arith, size, c.from-else-from-len.ensures)) c.if-a-b.true)

pub returns-then-not-check_ok-clause-refused : goal.returns-then-not-check_ok-clause-refused
returns-then-not-check_ok-clause-refused c =
    let plant = drafted c.args.plant.now c.args.self.now in
    let size = length-drafted c.args.plant.now c.args.self.now in
    let refused = swapped-unchecked plant c.args.a c.args.b (omega (arith, size, c.from.ensures)) (omega (arith, size, c.from-else-from-len.ensures)) (λ same. absurd (omega (arith, same))) in
    elim c.then-not-check_ok.branch [
      | then-not-check_ok-via-then-not-check_ok w ↦ inl (refused (inl (λ checked. false≢true (w.if-not-check_ok.ensures.1 (rw c.words-of_a.ensures checked)))))
      | then-not-check_ok-via-else-not-check_ok+then-not-check_ok-2 w ↦ inl (refused (inr (λ checked. false≢true (w.if-not-check_ok-2.ensures.1 (rw c.words-of_b.ensures checked)))))
    ]
