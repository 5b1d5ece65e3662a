use Rattle.std.proofs.Common.{◌≡◌, ◌<◌, ◌∙◌, ◌++◌, ◌∷◌, [], ap, arith, length}
use Rattle.book_model.specs.Open.{opened_slave}
use Rattle.book_parts.proofs.OpenLaws.{opened-more, stands-more}
use Rattle.book_parts.proofs.opening.open_slaves.Goals as goal

pub loop-slave-preserved : goal.loop-slave-preserved
loop-slave-preserved c =
    let works = c.loop-slave.works.items in
    let plant = c.args.plant.now in
    let w = c.in_ok-open_slave.field-0 in
    let within : c.loop-slave.slave < length plant = omega (arith, c.len-slave-end.ensures.len) in
    let read = c.in_ok-open_slave.ensures.slave ∙ ap opened_slave (c.as_slice.ensures.words ∙ c.slave.ensures) in
    let pushed : c.push.new.self.items ≡ works ++ w ∷ [] = c.in_ok-push.ensures.items in
    rw pushed (record {
      slaves = opened-more works plant c.loop-slave.slave w within c.loop-slave.invariant.slaves read;
      stand = stands-more works w c.loop-slave.invariant.stand c.in_ok-open_slave.ensures.stands;
    })
