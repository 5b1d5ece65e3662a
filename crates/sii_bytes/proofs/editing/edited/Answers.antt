use Rattle.sii_bytes.proofs.EditLaws.{edited_length, refused_so}
use Rattle.std.proofs.Common.{ap, ◌∙◌}
use Rattle.sii_words.specs.Words.{bytes_of}
use Rattle.sii_bytes.proofs.editing.edited.Goals as goal

pub returns-in-Ok-to_bytes-clause-length : goal.returns-in-Ok-to_bytes-clause-length
returns-in-Ok-to_bytes-clause-length c =
    edited_length c.in-Ok.plant c.in-Ok-apply.new c.args.words c.in-Ok-apply.field-0-1.items c.in-Ok-to_bytes.bytes.items c.in-Ok.ensures c.in-Ok-apply.ensures.redone
    (c.in-Ok-to_bytes.ensures ∙ ap bytes_of c.slave.ensures)

pub returns-clause-err : goal.returns-clause-err
returns-clause-err c =
    refused_so c.in-Ok.plant c.args.words c.args.edit c.in-Err-apply.refusal c.cause_code.result c.in-Ok.ensures c.in-Err-apply.ensures.refused c.cause_code.ensures
