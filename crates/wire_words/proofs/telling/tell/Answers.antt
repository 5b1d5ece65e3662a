use Rattle.std.proofs.Common.{◌≡◌, ◌⊎◌, ℕ, ◌+◌, ◌*◌, Result, subst, sym, rules, arith, IfOk, slice_index}
use Rattle.ecat_frame.specs.Command.{code_of}
use Rattle.wire_frames.specs.Came.{Reported}
use Rattle.wire_frames.specs.declared.asking.Reply.{Reply}
use Rattle.wire_words.specs.declared.telling.Hitch.{Hitch}
use Rattle.wire_words.specs.declared.telling.Hitch.TheVariants as hitch
use Rattle.wire_words.proofs.Replies.{heard_are_reported}
use Rattle.wire_words.proofs.telling.tell.Goals as goal

pub returns-clause-reported : goal.returns-clause-reported
returns-clause-reported g c =
    rw c.ok_or.ensures.value
    (heard_are_reported g.W.Wire.gives c.args.wire.now.stations.by_slave c.args.slave (code_of c.args.command) c.args.register c.fp-address.result
    c.args.content.now c.ask.result hitch.Silent c.requires.slave (search rules) (search rules) (omega (arith, c.fp-address.ensures.value, c.station_address.ensures))
    c.ask.ensures.heard)
