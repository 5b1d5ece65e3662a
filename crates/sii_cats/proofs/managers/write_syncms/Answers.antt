use Rattle.std.proofs.Common.{◌≡◌, [], take, ap, sym, subst, ◌∙◌, arith}
use Rattle.std.specs.List.{flat_map}
use Rattle.std.proofs.lemmas.List.{take_all}
use Rattle.sii_cats.specs.Contents.{AreManagers, manager_bytes}
use Rattle.sii_cats.proofs.RoundTrip.{managers_back}
use Rattle.sii_cats.proofs.WordBytes.{written_more}
use Rattle.sii_cats.proofs.managers.write_syncms.Goals as goal

pub loop-manager-preserved : goal.loop-manager-preserved
loop-manager-preserved c = rw c.in_ok-push_four.ensures
    (written_more manager_bytes [] c.loop-manager.words.items c.manager_words.result c.args.managers.now c.loop-manager.manager-index _ (omega arith) c.loop-manager.invariant c.manager_words.ensures)

pub returns-clause-read_back : goal.returns-clause-read_back
returns-clause-read_back c =
    let managers = c.args.managers.now in
    let all : take c.loop-manager.manager-index managers ≡ managers = take_all c.loop-manager.manager-index managers (omega arith) in
    subst (λ bytes. AreManagers bytes managers) (sym (c.loop-manager.invariant ∙ ap (flat_map manager_bytes) all)) (managers_back managers)
