-- The order of the steps.
use Rattle.std.specs.Prelude.{Option, Some, None}
use Rattle.jrn_format.specs.declared.journal.Form.{Form}
use Rattle.jrn_format.specs.declared.journal.Form.TheVariants.{Moving}
use Rattle.jrn_format.specs.Halves.{Place}
use Rattle.book_parts.specs.Spot.{as_place}
use Rattle.book_core.specs.declared.step.Step.{Step}
use Rattle.book_core.specs.declared.step.Step.TheVariants.{Resting, Payload, PayloadSync, OpenGate, OpenSync, CloseGate, CloseSync, FarGate, Mark, MarkSync, Version, VersionSync}

-- The place of the batch that is being appended; None if none is.
abbrev pub place_appended : Step → Option Place
place_appended (Payload spot) = Some (as_place spot)
place_appended (PayloadSync spot) = Some (as_place spot)
place_appended (OpenGate spot) = Some (as_place spot)
place_appended (OpenSync spot) = Some (as_place spot)
place_appended step = None

-- The step after closing the first gate of half 1: a migration that was cut has left its mark.
abbrev pub after_far_gate : Form → Step
after_far_gate Moving = MarkSync
after_far_gate form = Mark

-- The step after each step.
abbrev pub step_after : Form → Step → Step
step_after form (Payload spot) = PayloadSync spot
step_after form (PayloadSync spot) = OpenGate spot
step_after form (OpenGate spot) = OpenSync spot
step_after form CloseGate = CloseSync
step_after form FarGate = after_far_gate form
step_after form Mark = MarkSync
step_after form MarkSync = Version
step_after form Version = VersionSync
step_after form step = Resting
