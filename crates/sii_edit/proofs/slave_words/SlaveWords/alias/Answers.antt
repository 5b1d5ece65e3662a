use Rattle.std.proofs.Common.{ap, sym, ◌∙◌}
use Rattle.sii_words.specs.Words.{alias_of}
use Rattle.sii_edit.specs.Draft.{named_as}
use Rattle.sii_edit.proofs.NameLaws.{alias_named}
use Rattle.sii_edit.proofs.slave_words.SlaveWords.alias.Goals as goal

pub returns-in-Some : goal.returns-in-Some
returns-in-Some c =
    let words = c.self.inside.words.now in
    sym (alias_named words c.in-Some.name c.self.invariant) ∙ ap alias_of (sym (ap (named_as words) c.in-Some.is) ∙ c.self.view_is)

pub returns-in-None : goal.returns-in-None
returns-in-None c = c.alias.ensures ∙ ap alias_of (sym (ap (named_as c.self.inside.words.now) c.in-None.is) ∙ c.self.view_is)
