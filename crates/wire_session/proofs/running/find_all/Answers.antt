use Rattle.std.proofs.Common.{length, map}
use Rattle.std.specs.Prelude.{◌≡◌, ◌≤◌}
use Rattle.station_line.specs.Validating.{HasJournal, IsRunSeparate}
use Rattle.wire_scan.specs.Keeping.{AreOfImages}
use Rattle.wire_scan.specs.Opening.{IsFound}
use Rattle.wire_session.proofs.RunEnds.{for_given, found_after, kept_after, with_script}
use Rattle.wire_session.proofs.running.find_all.Goals as goal

pub returns-in-Ok-validate_script-clause-found : goal.returns-in-Ok-validate_script-clause-found
returns-in-Ok-validate_script-clause-found g c =
    for_given c.with_mends.result c.in-Ok.found (λ f. IsFound (g.S.Store.files c.args.store.now) c.args.order.named.line.now f.line f.slaves.items f.journal.items) c.with_mends.ensures.found
    (λ mends. found_after (g.S.Store.files c.args.store.now) (g.S.Store.files c.load_script.new.store) c.args.order.named.line.now c.in-Ok.found.line
    c.in-Ok.found.slaves.items c.in-Ok.found.journal.items c.load_script.ensures.same c.in-Ok.ensures.found)

pub returns-in-Ok-validate_script-clause-validated : goal.returns-in-Ok-validate_script-clause-validated
returns-in-Ok-validate_script-clause-validated g c =
    for_given c.with_mends.result c.in-Ok.found (λ f. HasJournal (map length f.slaves.items) f.journal.items) c.with_mends.ensures.found (λ mends. c.in-Ok.ensures.validated)

pub returns-in-Ok-validate_script-clause-some : goal.returns-in-Ok-validate_script-clause-some
returns-in-Ok-validate_script-clause-some g c =
    for_given c.with_mends.result c.in-Ok.found (λ f. 1 ≤ length f.slaves.items) c.with_mends.ensures.found (λ mends. c.in-Ok.ensures.some)

pub returns-in-Ok-validate_script-clause-most : goal.returns-in-Ok-validate_script-clause-most
returns-in-Ok-validate_script-clause-most g c =
    for_given c.with_mends.result c.in-Ok.found (λ f. length f.slaves.items ≤ 64) c.with_mends.ensures.found (λ mends. c.in-Ok.ensures.most)

pub returns-in-Ok-validate_script-clause-images : goal.returns-in-Ok-validate_script-clause-images
returns-in-Ok-validate_script-clause-images g c =
    for_given c.with_mends.result c.in-Ok.found (λ f. length f.images.items ≡ length f.slaves.items) c.with_mends.ensures.found (λ mends. c.in-Ok.ensures.images)

pub returns-in-Ok-validate_script-clause-separate : goal.returns-in-Ok-validate_script-clause-separate
returns-in-Ok-validate_script-clause-separate g c =
    for_given c.with_mends.result c.in-Ok.found (λ f. IsRunSeparate g.S.Store.leads f.line c.args.order.named.line.now c.args.order.named.script.now) c.with_mends.ensures.found
    (λ mends. c.in-Ok-validate_script.ensures.separate)

pub returns-in-Ok-validate_script-clause-kept : goal.returns-in-Ok-validate_script-clause-kept
returns-in-Ok-validate_script-clause-kept g c =
    for_given c.with_mends.result c.in-Ok.found (λ f. AreOfImages (g.S.Store.files c.args.store.now) f.line c.args.order.asked.mends f.journal.items f.slaves.items) c.with_mends.ensures.found
    (λ mends. kept_after (g.S.Store.files c.args.store.now) (g.S.Store.files c.load_script.new.store) c.in-Ok.found.line c.args.order.asked.mends c.in-Ok.found.journal.items
    c.in-Ok.found.slaves.items c.load_script.ensures.same c.in-Ok.ensures.kept)

pub returns-in-Ok-validate_script-clause-spelt : goal.returns-in-Ok-validate_script-clause-spelt
returns-in-Ok-validate_script-clause-spelt g c =
    with_script c.with_mends.result c.in-Ok.found (g.S.Store.files c.args.store.now) (g.S.Store.files c.load_script.new.store) c.args.order.asked.mends
    c.args.order.named.script.now c.in_ok-script.script.commands.items c.load_script.ensures.same c.with_mends.ensures.found c.with_mends.ensures.commands
    c.in-Ok.ensures.mends c.in-Ok.ensures.mended c.in_ok-script.ensures.commands
