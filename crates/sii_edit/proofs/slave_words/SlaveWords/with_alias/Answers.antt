use Rattle.std.proofs.Common.{◌≡◌, ℕ, List, Option, slice_index, set, ap, sym, ◌∙◌, subst}
use Rattle.sii_words.specs.CheckByte.{check_byte_of}
use Rattle.sii_edit.specs.declared.slave_words.Name.{Name}
use Rattle.sii_edit.specs.Alias.{with_alias, with_low_byte}
use Rattle.sii_edit.specs.Draft.{named, named_as}
use Rattle.sii_edit.proofs.NameLaws.{seven_of-named, with_alias-named}
use Rattle.sii_edit.proofs.slave_words.SlaveWords.with_alias.Goals as goal
use Rattle.sii_edit.proofs.slave_words.SlaveWords.with_alias.Goals.{in-Some, in-None}

pub returns : goal.returns
returns c =
    let words : List ℕ = c.self.inside.words.now in
    let first : Option Name = c.self.inside.name in
    let name : Name = record { alias = c.args.alias; seven = c.with_low_byte.result } in
    let seven : c.match-self.seven ≡ slice_index (named_as words first) 7 =
    elim c.match-self.branch [
      | in-Some w ↦ w.seven-is ∙ seven_of-named words w.in-Some.name c.self.invariant ∙ ap (λ (n : Option Name). slice_index (named_as words n) 7) (sym w.in-Some.is)
      | in-None w ↦ w.seven-is ∙ w.get-seven.ensures ∙ ap (λ (n : Option Name). slice_index (named_as words n) 7) (sym w.in-None.is)
    ] in
    let made : name.seven ≡ with_low_byte c.match-self.seven (check_byte_of (set words 4 c.args.alias)) =
    c.with_low_byte.ensures ∙ ap (λ (byte : ℕ). with_low_byte c.match-self.seven byte) c.check_byte_with.ensures in
    subst (λ (ws : List ℕ). named ws name ≡ with_alias ws c.args.alias) c.self.view_is (with_alias-named words first name c.match-self.seven c.self.invariant seven made)
