use Rattle.std.proofs.Common.{◌≡◌, ap, sym, ◌∙◌}
use Rattle.sii_edit.specs.Draft.{named, named_as}
use Rattle.sii_edit.proofs.NameLaws.{checked_test}
use Rattle.sii_edit.proofs.slave_words.SlaveWords.check_ok.Goals as goal

pub returns-in-Some : goal.returns-in-Some
returns-in-Some c =
    let words = c.self.inside.words.now in
    let same : c.args.self.now ≡ named words c.in-Some.name = sym c.self.view_is ∙ ap (named_as words) c.in-Some.is in
    rw same (checked_test words c.in-Some.name c.from.result c.self.invariant (c.from.ensures ∙ c.check_byte_with.ensures))
