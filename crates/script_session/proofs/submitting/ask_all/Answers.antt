use Rattle.std.proofs.Common.{◌≡◌, ◌∷◌, refl}
use Rattle.std.specs.Vec.Iter.{into_iter_items}
use Rattle.script_session.proofs.AskLaws.{asks-none, asks-next}
use Rattle.station_threads.proofs.Zips.{gone-over}
use Rattle.script_session.proofs.submitting.ask_all.Goals as goal

pub loop-command-init : goal.loop-command-init
loop-command-init g c = (refl, rw c.in_ok-tickets.ensures.items (asks-none c.args.answered.now c.args.share.now))

pub loop-command-preserved : goal.loop-command-preserved
loop-command-preserved g c =
    let at = c.loop-command in
    let command = c.in-Some.command in
    let steps : into_iter_items at.command-iterator ≡ command ∷ into_iter_items c.next.new.self = c.in-Some.ensures.steps.0 in (
      gone-over at.yielded command (into_iter_items at.command-iterator) (into_iter_items c.next.new.self) (into_iter_items c.into_iter-command-iterator.result) steps at.invariant.0,
      asks-next at.yielded command c.args.answered.now at.answered c.ask_one.new.answered c.args.share.now at.share c.ask_one.new.share at.tickets.items c.keep.new.tickets.items c.in_ok-asked.asked
          at.invariant.1 c.in_ok-asked.ensures.asked c.in_ok-keep.ensures.kept,
    )
