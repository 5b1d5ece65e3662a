use Rattle.wire_frames.specs.Room.{Fits}
use Rattle.wire_frames.specs.Sending.{OnlyEeprom}
use Rattle.wire_words.proofs.in_step.asked_by.Given as goal

abbrev pub invariant-loop-turn : goal.invariant-loop-turn
invariant-loop-turn l = record {
  only : OnlyEeprom l.frame;
  fits : Fits l.fn.room l.frame;
}
