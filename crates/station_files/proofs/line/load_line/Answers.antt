use Rattle.std.proofs.lemmas.Result.{IfErr-weaker, IfOk-weaker}
use Rattle.station_files.specs.LineFiles.{DescribesLine, RefusesLineText}
use Rattle.station_files.proofs.Loaded.{line_refused, of_held}
use Rattle.station_files.proofs.line.load_line.Goals as goal

pub returns-clause-line : goal.returns-clause-line
returns-clause-line g c =
    IfOk-weaker c.spelt_line.result (DescribesLine c.in_ok-bytes.bytes.items) _
    (λ line described. of_held (λ text. DescribesLine text line) (g.S.Store.files c.args.store.now) c.args.name.now c.in_ok-bytes.bytes.items c.in_ok-bytes.ensures.bytes described)
    (rw c.deref.ensures.value at c.spelt_line.ensures.line)

pub returns-clause-refused : goal.returns-clause-refused
returns-clause-refused g c =
    IfErr-weaker c.spelt_line.result (RefusesLineText c.in_ok-bytes.bytes.items) _
    (λ fault refused. line_refused (g.S.Store.files c.args.store.now) c.args.name.now c.in_ok-bytes.bytes.items fault c.in_ok-bytes.ensures.bytes refused)
    (rw c.deref.ensures.value at c.spelt_line.ensures.refused)
