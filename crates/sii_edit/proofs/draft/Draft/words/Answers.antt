use Rattle.std.proofs.Common.{◌≡◌, List, ℕ, Some, None, ap, sym, ◌∙◌}
use Rattle.sii_words.specs.Plant.{words_of}
use Rattle.sii_edit.specs.declared.draft.Renewal.{Renewal}
use Rattle.sii_edit.specs.Draft.{new_for, renewed, renewed_as}
use Rattle.sii_edit.proofs.DraftLaws.{words_of-drafted}
use Rattle.sii_edit.proofs.draft.Draft.words.Goals as goal

pub returns-in-Some : goal.returns-in-Some
returns-in-Some c =
    let plant : List (List ℕ) = c.args.plant.now in
    let draft : List Renewal = c.args.self.now in
    let slave = c.args.slave in
    let found : Some c.in-Some.new.now ≡ new_for draft slave = rw c.in-Some.is at c.new_for.ensures ∙ ap (λ (d : List Renewal). new_for d slave) (c.deref.ensures.value ∙ c.self.view_is) in
    c.renewed.ensures
    ∙ ap (λ (words : List ℕ). renewed words c.in-Some.new.now) (c.slave-words.ensures ∙ ap (words_of plant) c.from.ensures)
    ∙ ap (renewed_as (words_of plant slave)) found
    ∙ sym (words_of-drafted plant draft slave c.requires)

pub returns-in-None : goal.returns-in-None
returns-in-None c =
    let plant : List (List ℕ) = c.args.plant.now in
    let draft : List Renewal = c.args.self.now in
    let slave = c.args.slave in
    let found : None ≡ new_for draft slave = rw c.in-None.is at c.new_for.ensures ∙ ap (λ (d : List Renewal). new_for d slave) (c.deref.ensures.value ∙ c.self.view_is) in
    c.of.ensures ∙ c.slave-words.ensures ∙ ap (words_of plant) c.from.ensures
    ∙ ap (renewed_as (words_of plant slave)) found
    ∙ sym (words_of-drafted plant draft slave c.requires)
