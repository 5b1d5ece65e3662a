use Rattle.std.proofs.Common.{◌≡◌, ◌-◌}
use Rattle.sii_cats.specs.steps.Items.{counted}
use Rattle.sii_cats.specs.Strings.{texts}
use Rattle.sii_cats.specs.steps.Strings.{string_at}
use Rattle.sii_cats.proofs.Items.{with_read}
use Rattle.sii_cats.proofs.text.read_strings.Given as goal

abbrev pub invariant-loop : goal.invariant-loop
invariant-loop l = with_read (texts l.strings.items) (counted string_at (l.count - l.counter) l.rest) ≡ counted string_at l.count l.bytes
