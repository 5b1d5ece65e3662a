use Rattle.std.proofs.Common.{option_map}
use Rattle.std.proofs.lemmas.Result.{IfErr-weaker, IfOk-weaker}
use Rattle.line_changes.specs.Diff.{IfKnown, IsStatusOfPair, RefusesPair, TellsDifference, second_text}
use Rattle.station_files.specs.Faults.{IsOfStream}
use Rattle.station_files.specs.ImageText.{text_of}
use Rattle.line_changes.proofs.Pairs.{both, second_known, stream_refuses, tells}
use Rattle.line_changes.proofs.diff.diff_images.Goals as goal

pub returns-clause-status : goal.returns-clause-status
returns-clause-status g c =
    let first = text_of (option_map (λ name. name.now) c.args.compared.old) (g.R.Read.remaining c.args.input.now) (g.S.Store.files c.args.store.now) in
    let second = second_text (option_map (λ name. name.now) c.args.compared.old) (option_map (λ name. name.now) c.args.compared.new) (g.R.Read.remaining c.args.input.now) (g.S.Store.files c.args.store.now) in
    IfOk-weaker c.print_difference.result (IsStatusOfPair c.in_ok-first.first c.in_ok-second.second) _
    (λ status is.
    both _ _ _ first second (tells c.args.compared.hex c.in_ok-first.first c.in_ok-second.second status is) c.in_ok-first.ensures.read
    (second_known (λ name. name.now) c.args.compared.old c.args.compared.new (g.R.Read.remaining c.args.input.now) (g.R.Read.remaining c.read_image.new.input)
    (g.S.Store.files c.args.store.now) (g.S.Store.files c.read_image.new.store) _ c.read_image.ensures.unread c.read_image.ensures.same c.in_ok-second.ensures.read))
    c.print_difference.ensures.status

pub returns-clause-refused : goal.returns-clause-refused
returns-clause-refused g c =
    let first = text_of (option_map (λ name. name.now) c.args.compared.old) (g.R.Read.remaining c.args.input.now) (g.S.Store.files c.args.store.now) in
    let second = second_text (option_map (λ name. name.now) c.args.compared.old) (option_map (λ name. name.now) c.args.compared.new) (g.R.Read.remaining c.args.input.now) (g.S.Store.files c.args.store.now) in
    IfErr-weaker c.print_difference.result IsOfStream _ (λ fault failed. stream_refuses c.args.compared.hex first second fault failed) c.print_difference.ensures.failed
